-- Equal fields decide whether two plans stand for the same.
use Rattle.std.proofs.Common.{◌≡◌, Bool, ◌&&◌, eqb, List, [], ◌∷◌, map, length, get_or, drop, Decides, refl, ap, ap₂, arith}
use Rattle.std.specs.Cmp.Lexicographic.{pointwise}
use Rattle.std.proofs.lemmas.Bool.{false≢true}
use Rattle.std.proofs.lemmas.Bool.Decides.{Decides-like, Decides-eqb, Decides-and, Decides-at}
use Rattle.std.proofs.lemmas.Slice.Eq.{slice_eq-Decides}
use Rattle.inplace.specs.Held.{held}
use Rattle.layout.specs.Pairs.{pair_of}
use Rattle.layout.specs.Tables.{table_of}
use Rattle.layout.specs.Plans.{plan_of}
use Rattle.layout.specs.declared.pair.Pair.{Pair}
use Rattle.layout.specs.declared.table.Table.{Table}
use Rattle.layout.specs.declared.plan.Plan.{Plan}

-- lists of items, where each item's test decides whether two of them stand for the same
module _ {X Y : Type 0} (f : X → Y) {E : X → X → Bool} (each : (x y : X) → Decides (E x y) (f x ≡ f y)) where
  maps_decide : (xs ys : List X) → Decides (pointwise E xs ys) (map f xs ≡ map f ys)
  maps_decide [] [] = (λ _. refl, λ _. refl)
  maps_decide [] (y ∷ ys) = (λ t. absurd (false≢true t), λ e. absurd (omega (arith, ap length e)))
  maps_decide (x ∷ xs) [] = (λ t. absurd (false≢true t), λ e. absurd (omega (arith, ap length e)))
  maps_decide (x ∷ xs) (y ∷ ys) =
      Decides-like (E x y && pointwise E xs ys) (λ e. ap₂ (λ z zs. z ∷ zs) e.0 e.1) (λ e. (ap (λ zs. get_or zs 0 (f x)) e, ap (drop 1) e))
      (Decides-and (E x y) (pointwise E xs ys) (each x y) (maps_decide xs ys))

pairs_decide : (a b : Pair) → Decides (eqb a.offset b.offset && eqb a.length b.length) (pair_of a ≡ pair_of b)
pairs_decide a b =
    Decides-like (eqb a.offset b.offset && eqb a.length b.length) (λ e i. record { offset = e.0 i; length = e.1 i }) (λ e. (ap (λ p. p.offset) e, ap (λ p. p.length) e))
    (Decides-and (eqb a.offset b.offset) (eqb a.length b.length) (Decides-eqb a.offset b.offset) (Decides-eqb a.length b.length))

abbrev same_fields : Table → Table → Bool
same_fields a b = eqb a.row b.row && (pointwise eqb (held a.columns) (held b.columns)
    && pointwise (λ p q. eqb p.offset q.offset && eqb p.length q.length) (held a.lots) (held b.lots))

tables_decide : (a b : Table) → Decides (same_fields a b) (table_of a ≡ table_of b)
tables_decide a b =
    Decides-like (same_fields a b) (λ e i. record { row = e.0 i; columns = e.1.0 i; lots = e.1.1 i }) (λ e. (ap (λ t. t.row) e, (ap (λ t. t.columns) e, ap (λ t. t.lots) e)))
    (Decides-and (eqb a.row b.row) _ (Decides-eqb a.row b.row)
    (Decides-and (pointwise eqb (held a.columns) (held b.columns)) _ (slice_eq-Decides Decides-eqb (held a.columns) (held b.columns) _ refl)
    (maps_decide pair_of pairs_decide (held a.lots) (held b.lots))))

plans_decide : (a b : Plan) → Decides (eqb a.vendors b.vendors && pointwise same_fields (held a.tables) (held b.tables)) (plan_of a ≡ plan_of b)
plans_decide a b =
    Decides-like (eqb a.vendors b.vendors && pointwise same_fields (held a.tables) (held b.tables)) (λ e i. record { vendors = e.0 i; tables = e.1 i }) (λ e. (ap (λ p. p.vendors) e, ap (λ p. p.tables) e))
    (Decides-and (eqb a.vendors b.vendors) _ (Decides-eqb a.vendors b.vendors) (maps_decide table_of tables_decide (held a.tables) (held b.tables)))

pub plan_verdict : (a b : Plan) (r : Bool) → r ≡ (eqb a.vendors b.vendors && pointwise same_fields (held a.tables) (held b.tables)) → Decides r (plan_of a ≡ plan_of b)
plan_verdict a b r is = Decides-at r (eqb a.vendors b.vendors && pointwise same_fields (held a.tables) (held b.tables)) is (plans_decide a b)
