-- The promise over whole lists: first without the unseen posts, then call by call.
use Rattle.std.proofs.Common.{◌≡◌, ℕ, Bool, true, false, cond, not, List, [], ◌∷◌, sym, refl, ap, ◌∙◌}
use Rattle.std.specs.List.{AllZip, AllByRecursion}
use Rattle.std.proofs.ByRecursion.{kept_by_passes, All-weaker}
use Rattle.std.proofs.lemmas.Bool.{both_ways, and_parts, not-true, not_from_true, true≢false, false≢true}
use Rattle.rules.specs.declared.answer.Answer.{Answer}
use Rattle.lattice.specs.Order.{Order, Laws}
use Rattle.rules.specs.Plans.{Plan}
use Rattle.rules.specs.Admission.{Reading}
use Rattle.rules.specs.Calls.{Bench, new_bench, Call, checks, outcome, step, bench_of}
use Rattle.rules.specs.Calls.Call.{post, admit, run, look, count, meter}
use Rattle.rules.specs.Agreement.{unseen, strike, Alike, hears, heard}
use Rattle.rules.specs.Agreement.Alike.{equal}
use Rattle.rules.specs.Promises.{TwoBenches}
use Rattle.rules.proofs.Seen.{lot_sym, lot_trans, lots_refl}
use Rattle.rules.proofs.Confined.{put_unseen}
use Rattle.rules.proofs.Benches.{sifted, Orderly, new_orderly, orderly_step}
use Rattle.rules.proofs.Benchmates.{admits, Mates, paced}

heard_both : (x y : Bool) (p q : Answer) (ps qs : List Answer) → x ≡ y → (x ≡ true → p ≡ q) → ps ≡ qs → cond x (p ∷ ps) ps ≡ cond y (q ∷ qs) qs
heard_both true true p q ps qs e h k = ap (λ r. r ∷ ps) (h refl) ∙ ap (λ rs. q ∷ rs) k
heard_both true false p q ps qs e h k = absurd (true≢false e)
heard_both false true p q ps qs e h k = absurd (false≢true e)
heard_both false false p q ps qs e h k = k

module _ (o : Order) (laws : Laws o) (read : Reading) (plan : Plan) (s : ℕ) where
  unheard : (c : Call) → unseen o plan s c ≡ true → hears o plan s c ≡ false
  unheard (post t v values) e = not_from_true _ e
  unheard (admit slot text) e = absurd (false≢true e)
  unheard (run slot v) e = absurd (false≢true e)
  unheard (look clearance t v place column) e = absurd (false≢true e)
  unheard (count clearance t v) e = absurd (false≢true e)
  unheard (meter clearance) e = absurd (false≢true e)

  -- an unseen post on one bench leaves the two as they looked
  struck : (a b : Bench) (c : Call) → unseen o plan s c ≡ true → Mates o laws read plan s a b → Mates o laws read plan s (step o (admits o laws read plan s) plan a c) b
  unfolding outcome
  struck a b (post t v values) e h =
      sifted (λ r. Mates o laws read plan s (bench_of a r) b) (checks o plan a (post t v values)) _ (λ why. h)
      (λ p. record {
        lots = λ u w seen. lot_trans o laws plan s
            (lot_sym o laws plan s (put_unseen o laws plan s a.lots t v _ (λ sees. absurd (both_ways _ (not-true _ (and_parts _ _ e).1) sees)) u w seen))
            (h.lots u w seen);
        slots = h.slots;
        meter = h.meter;
      })
  struck a b (admit slot text) e h = absurd (false≢true e)
  struck a b (run slot v) e h = absurd (false≢true e)
  struck a b (look clearance t v place column) e h = absurd (false≢true e)
  struck a b (count clearance t v) e h = absurd (false≢true e)
  struck a b (meter clearance) e h = absurd (false≢true e)

  -- striking out the unseen posts changes nothing that is heard
  one_sided : (calls : List Call) (a b : Bench) → Orderly o plan a → Orderly o plan b → Mates o laws read plan s a b
      → heard o (admits o laws read plan s) plan s a calls ≡ heard o (admits o laws read plan s) plan s b (strike o plan s calls)
  one_sided [] a b fine well h = refl
  one_sided (c ∷ cs) a b fine well h = go (unseen o plan s c) refl
      (λ e. one_sided cs (step o (admits o laws read plan s) plan a c) b (orderly_step o read plan a c fine) well (struck a b c e h))
      (λ e. one_sided cs (step o (admits o laws read plan s) plan a c) (step o (admits o laws read plan s) plan b c)
      (orderly_step o read plan a c fine) (orderly_step o read plan b c well) (paced o laws read plan s a b c c fine h e (equal c)).benches)
    where
      go : (t : Bool) → unseen o plan s c ≡ t
          → (unseen o plan s c ≡ true → heard o (admits o laws read plan s) plan s (step o (admits o laws read plan s) plan a c) cs
          ≡ heard o (admits o laws read plan s) plan s b (strike o plan s cs))
          → (unseen o plan s c ≡ false → heard o (admits o laws read plan s) plan s (step o (admits o laws read plan s) plan a c) cs
          ≡ heard o (admits o laws read plan s) plan s (step o (admits o laws read plan s) plan b c) (strike o plan s cs))
          → heard o (admits o laws read plan s) plan s a (c ∷ cs)
          ≡ heard o (admits o laws read plan s) plan s b (cond (not t) (c ∷ strike o plan s cs) (strike o plan s cs))
      go true e out kept = rw (unheard c e) (out e)
      go false e out kept =
          let p = paced o laws read plan s a b c c fine h e (equal c) in
          heard_both (hears o plan s c) (hears o plan s c) _ _ _ _ refl p.answers (kept e)

  -- lists that are alike call by call
  side_by_side : (left right : List Call) (a b : Bench) → Orderly o plan a → Orderly o plan b → Mates o laws read plan s a b
      → AllByRecursion (λ c. unseen o plan s c ≡ false) left → AllZip (Alike o plan s) left right
      → heard o (admits o laws read plan s) plan s a left ≡ heard o (admits o laws read plan s) plan s b right
  side_by_side [] [] a b fine well h kept alike = refl
  side_by_side [] (d ∷ ds) a b fine well h kept alike = absurd alike
  side_by_side (c ∷ cs) [] a b fine well h kept alike = absurd alike
  side_by_side (c ∷ cs) (d ∷ ds) a b fine well h kept alike =
      let p = paced o laws read plan s a b c d fine h kept.0 alike.0 in
      heard_both (hears o plan s c) (hears o plan s d) _ _ _ _ p.same_ears p.answers
      (side_by_side cs ds (step o (admits o laws read plan s) plan a c) (step o (admits o laws read plan s) plan b d)
      (orderly_step o read plan a c fine) (orderly_step o read plan b d well) p.benches kept.1 alike.1)

pub two_benches : TwoBenches
two_benches o laws read plan s left right agree =
    one_sided o laws read plan s left new_bench new_bench new new same
    ∙ side_by_side o laws read plan s (strike o plan s left) (strike o plan s right) new_bench new_bench new new same
    (All-weaker (λ c. not (unseen o plan s c) ≡ true) (λ c. unseen o plan s c ≡ false) (λ c e. not-true _ e) (strike o plan s left)
    (kept_by_passes (λ c. not (unseen o plan s c)) left))
    agree
    ∙ sym (one_sided o laws read plan s right new_bench new_bench new new same)
  where
    new : Orderly o plan new_bench
    new = new_orderly o plan

    same : Mates o laws read plan s new_bench new_bench
    same = record { lots = lots_refl o laws plan s new_bench.lots; slots = λ k. refl; meter = λ seen. refl }
