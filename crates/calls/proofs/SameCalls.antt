-- Calls of the code with equal fields are the same.
use Rattle.std.proofs.Common.{◌≡◌, ℕ, List, subst, ap}
use Rattle.std.specs.Borrow.{Bor}
use Rattle.layout.specs.declared.lot_id.LotId.{LotId}
use Rattle.calls.specs.declared.call.Call.TheVariants.{Post, Admit, Run, Look, Count, Meter}
use Rattle.calls.specs.Told.{SameCall}
use Rattle.calls.specs.Told.SameCall.{posts, admits, runs, looks, counts, meters}

same_lot : (a b : LotId ℕ) → a.table ≡ b.table → a.vendor ≡ b.vendor → a ≡ b
same_lot a b t v = λ i. record { table = t i; vendor = v i }

pub posts_same : (a b : LotId ℕ) (xs ys : Bor (List ℕ)) → a.table ≡ b.table → a.vendor ≡ b.vendor → xs.now ≡ ys.now → SameCall (Post a xs) (Post b ys)
posts_same a b xs ys t v e = subst (λ l. SameCall (Post a xs) (Post l ys)) (same_lot a b t v) (posts a xs ys e)

pub admits_same : (a b : ℕ) (xs ys : Bor (List ℕ)) → a ≡ b → xs.now ≡ ys.now → SameCall (Admit a xs) (Admit b ys)
admits_same a b xs ys s e = subst (λ n. SameCall (Admit a xs) (Admit n ys)) s (admits a xs ys e)

pub runs_same : (a b v w : ℕ) → a ≡ b → v ≡ w → SameCall (Run a v) (Run b w)
runs_same a b v w s e = subst (λ n. SameCall (Run a v) (Run n w)) s (subst (λ n. SameCall (Run a v) (Run a n)) e (runs a v))

pub looks_same : (c d : ℕ) (a b : LotId ℕ) (i j m n : ℕ) → c ≡ d → a.table ≡ b.table → a.vendor ≡ b.vendor → i ≡ j → m ≡ n → SameCall (Look c a i m) (Look d b j n)
looks_same c d a b i j m n e t v p q = subst (SameCall (Look c a i m)) (λ k. Look (e k) (same_lot a b t v k) (p k) (q k)) (looks c a i m)

pub counts_same : (c d : ℕ) (a b : LotId ℕ) → c ≡ d → a.table ≡ b.table → a.vendor ≡ b.vendor → SameCall (Count c a) (Count d b)
counts_same c d a b e t v = subst (SameCall (Count c a)) (λ k. Count (e k) (same_lot a b t v k)) (counts c a)

pub meters_same : (c d : ℕ) → c ≡ d → SameCall (Meter c) (Meter d)
meters_same c d e = subst (SameCall (Meter c)) (ap Meter e) (meters c)
