-- The first call of a list that is seen.
use Rattle.std.proofs.Common.{◌≡◌, ℕ, Bool, true, false, cond, not, List, [], ◌∷◌, length, Some, None, Option, refl, sym, ap, ◌∙◌, subst, arith}
use Rattle.std.specs.Borrow.{Bor}
use Rattle.std.specs.Option.{MatchOption, IfSome}
use Rattle.std.specs.Iterator.{YieldsThen}
use Rattle.std.specs.List.{FoldsTo}
use Rattle.std.specs.Fn.{CalledAt}
use Rattle.std.specs.Slice.Iter.{iter_rest}
use Rattle.std.specs.declared.slice.Iter.{Iter}
use Rattle.std.proofs.iter.Yields.{fronts}
use denote.Param.Members.{Mut}
use Rattle.lattice.specs.Order.{Order}
use Rattle.rules.specs.Plans.{Plan}
use Rattle.rules.specs.Agreement.{unseen}
use Rattle.calls.specs.declared.call.Call.{Call}
use Rattle.calls.specs.Meaning.{call_of, seen}

module _ (o : Order) (plan : Plan) (s : ℕ) where
  -- a first call, by whether it is unseen
  first : (b : Bool) (call : Call) (l r : List Call) → l ≡ call ∷ r → not (unseen o plan s (call_of call)) ≡ b → seen o plan s l ≡ cond b (call_of call ∷ seen o plan s r) (seen o plan s r)
  first b call l r e h = ap (seen o plan s) e ∙ ap (λ z. cond z (call_of call ∷ seen o plan s r) (seen o plan s r)) h

  none_left : (l : List Call) → length l ≡ 0 → seen o plan s l ≡ []
  none_left [] e = refl
  none_left (c ∷ cs) e = absurd (omega (arith, e))

  -- calls of a test that passed over the unseen posts gave the first call that is seen
  module _ {F : Type 0} (g : Mut F (Bor (Bor Call) × Unit {0}) Bool) (f : F)
      (tells : (x : Bor Call) (b : Bool) (q : F) → CalledAt g f x b q → (q ≡ f) × (b ≡ not (unseen o plan s (call_of x.now)))) where
    pub first_seen : (xs : List (Bor Call)) (i u : Iter Call) (r : Option (Bor Call)) (h : F) → YieldsThen fronts i xs r u
        → FoldsTo (λ p x q. CalledAt g p x false q) f xs h → IfSome r (λ x. (k : F) × CalledAt g h x true k)
        → MatchOption r (seen o plan s (iter_rest i) ≡ []) (λ x. seen o plan s (iter_rest i) ≡ call_of x.now ∷ seen o plan s (iter_rest u))
    first_seen [] i u None h y e m = ap (λ t. seen o plan s (iter_rest t)) y.1 ∙ none_left (iter_rest y.0) y.2.0
    first_seen [] i u (Some x) h y e m =
        ap (λ t. seen o plan s (iter_rest t)) y.1
        ∙ first true x.now (iter_rest y.0) (iter_rest u) y.2 (sym (tells x true m.0 (subst (λ q. CalledAt g q x true m.0) (sym e) m.1)).1)
    first_seen (x ∷ xs) i u r h y e m =
        let told = tells x false e.0 e.1 in
        subst (λ l. MatchOption r (l ≡ []) (λ z. l ≡ call_of z.now ∷ seen o plan s (iter_rest u))) (sym (first false x.now (iter_rest i) (iter_rest y.1.0) y.1.1 (sym told.1)))
        (first_seen xs y.1.0 u r h (y.0, y.1.2, y.2) (subst (λ q. FoldsTo (λ p z t. CalledAt g p z false t) q xs h) told.0 e.2) m)
