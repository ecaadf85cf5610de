-- What holds of all that a reader gives, put together step by step.
use Rattle.std.proofs.Common.{◌≡◌, ℕ, Bool, true, false, Ok, Err, Result, refl, subst, arith}
use Rattle.rules.specs.declared.refusal.Refusal.{Refusal}
use Rattle.rules.specs.Guards.{guard, and_then}

-- Where the reader gives something, this holds of it.
pub record Gives {A : Type 0} (r : Result A Refusal) (P : A → Type 0) : Type 0 where
  pub holds : (a : A) → r ≡ Ok a → P a

same : {A : Type 0} (x y : A) → ◌≡◌ {A = Result A Refusal} (Ok x) (Ok y) → x ≡ y
same x y e = cc

never : {A : Type 0} (why : Refusal) (y : A) → ◌≡◌ {A = Result A Refusal} (Err why) (Ok y) → ⊥
never why y e = let z : ◌≡◌ {A = ℕ} 0 1 = cc in omega arith

pub done : {A : Type 0} (P : A → Type 0) (x : A) → P x → Gives (Ok x) P
done P x p = record { holds = λ a e. subst P (same x a e) p }

pub sent : {A : Type 0} (P : A → Type 0) (why : Refusal) → Gives (Err why) P
sent P why = record { holds = λ a e. absurd (never why a e) }

pub chain : {A B : Type 0} (r : Result A Refusal) (f : A → Result B Refusal) (P : A → Type 0) (Q : B → Type 0)
    → Gives r P → ((a : A) → P a → Gives (f a) Q) → Gives (and_then r f) Q
chain (Ok x) f P Q g next = next x (g.holds x refl)
chain (Err why) f P Q g next = sent Q why

pub past : {A : Type 0} (b : Bool) (why : Refusal) (rest : Result A Refusal) (P : A → Type 0)
    → (b ≡ false → Gives rest P) → Gives (guard b why rest) P
past true why rest P next = sent P why
past false why rest P next = next refl
