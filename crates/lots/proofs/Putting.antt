-- One lot of a list of lists is set: what that is of the lots as a function.
use Rattle.std.proofs.Common.{◌≡◌, ℕ, ◌<◌, ◌≤◌, ◌&&◌, eqb, ◌⊎◌, List, [], length, get_or, set, sym, ap, ◌∙◌, inl, inr, arith}
use mathlib.Core.Path.{fun_ext}
use Rattle.std.proofs.lemmas.Bool.{cases_eq, cases_lt, eq-eqb, ne_eqb, and_from, and_left, and_right, cond-true, cond-false}
use Rattle.std.proofs.lemmas.List.{get_or-set_same, get_or-set_other, get_or_past, set_past, set-get_or}
use Rattle.rules.specs.Lots.{Lot, Lots, no_rows, put_lot}
use Rattle.lots.specs.Lots.{lot_at}
use Rattle.lots.specs.Stores.{lots_at}

put_here : (lots : Lots) (t v u w : ℕ) (x : Lot) → u ≡ t → w ≡ v → put_lot lots t v x u w ≡ x
put_here lots t v u w x p q = cond-true (eqb u t && eqb w v) x (lots u w) (and_from (eqb u t) (eqb w v) (eq-eqb u t p) (eq-eqb w v q))

put_other_table : (lots : Lots) (t v u w : ℕ) (x : Lot) → (u ≡ t → ⊥) → put_lot lots t v x u w ≡ lots u w
put_other_table lots t v u w x p = cond-false (eqb u t && eqb w v) x (lots u w) (and_left (eqb u t) (eqb w v) (ne_eqb u t p))

put_other_vendor : (lots : Lots) (t v u w : ℕ) (x : Lot) → (w ≡ v → ⊥) → put_lot lots t v x u w ≡ lots u w
put_other_vendor lots t v u w x q = cond-false (eqb u t && eqb w v) x (lots u w) (and_right (eqb u t) (eqb w v) (ne_eqb w v q))

-- A lot that is put where it is changes nothing.
pub put_same : (lots : Lots) (t v : ℕ) (x : Lot) → x ≡ lots t v → lots ≡ put_lot lots t v x
put_same lots t v x e = fun_ext (λ u. fun_ext (λ w. sym (at u w)))
  where
    at : (u w : ℕ) → put_lot lots t v x u w ≡ lots u w
    at u w = go (cases_eq u t) (cases_eq w v)
      where
        go : (u ≡ t) ⊎ (u ≡ t → ⊥) → (w ≡ v) ⊎ (w ≡ v → ⊥) → put_lot lots t v x u w ≡ lots u w
        go (inr p) q = put_other_table lots t v u w x p
        go (inl p) (inr q) = put_other_vendor lots t v u w x q
        go (inl p) (inl q) = put_here lots t v u w x p q ∙ e ∙ ap (λ z. lots z v) (sym p) ∙ ap (lots u) (sym q)

in_lists : (ls : List (List Lot)) (t v : ℕ) → v < length (get_or ls t []) → t < length ls
in_lists ls t v h = go (cases_lt t (length ls))
  where
    go : (t < length ls) ⊎ (length ls ≤ t) → t < length ls
    go (inl l) = l
    go (inr l) = let none : length (get_or ls t []) ≡ 0 = ap length (get_or_past ls t [] l) in absurd (omega (arith, none, h))

-- Where the list has the lot, setting it is putting it.
pub put_in : (ls : List (List Lot)) (t v : ℕ) (x : Lot) → v < length (get_or ls t []) → lots_at (set ls t (set (get_or ls t []) v x)) ≡ put_lot (lots_at ls) t v x
put_in ls t v x h = fun_ext (λ u. fun_ext (λ w. at u w))
  where
    at : (u w : ℕ) → lots_at (set ls t (set (get_or ls t []) v x)) u w ≡ put_lot (lots_at ls) t v x u w
    at u w = go (cases_eq u t) (cases_eq w v)
      where
        here : (z : ℕ) → lots_at (set ls t (set (get_or ls t []) v x)) t z ≡ lot_at (set (get_or ls t []) v x) z
        here z = ap (λ l. lot_at l z) (get_or-set_same ls t (set (get_or ls t []) v x) [] (in_lists ls t v h))

        go : (u ≡ t) ⊎ (u ≡ t → ⊥) → (w ≡ v) ⊎ (w ≡ v → ⊥) → lots_at (set ls t (set (get_or ls t []) v x)) u w ≡ put_lot (lots_at ls) t v x u w
        go (inr p) q =
            ap (λ l. lot_at l w) (get_or-set_other ls t u (set (get_or ls t []) v x) [] p) ∙ sym (put_other_table (lots_at ls) t v u w x p)
        go (inl p) (inr q) =
            ap (λ z. lots_at (set ls t (set (get_or ls t []) v x)) z w) p ∙ here w ∙ get_or-set_other (get_or ls t []) v w x no_rows q
            ∙ ap (λ z. lots_at ls z w) (sym p) ∙ sym (put_other_vendor (lots_at ls) t v u w x q)
        go (inl p) (inl q) =
            ap (λ z. lots_at (set ls t (set (get_or ls t []) v x)) z w) p ∙ here w ∙ ap (lot_at (set (get_or ls t []) v x)) q
            ∙ get_or-set_same (get_or ls t []) v x no_rows h ∙ sym (put_here (lots_at ls) t v u w x p q)

-- Where it has none, setting it does nothing.
pub put_out : (ls : List (List Lot)) (t v : ℕ) (x : Lot) → length (get_or ls t []) ≤ v → set ls t (set (get_or ls t []) v x) ≡ ls
put_out ls t v x h = ap (set ls t) (set_past (get_or ls t []) v x h) ∙ set-get_or ls t []

pub none_at : (ls : List (List Lot)) (t v : ℕ) → length (get_or ls t []) ≤ v → lots_at ls t v ≡ no_rows
none_at ls t v h = get_or_past (get_or ls t []) v no_rows h
