-- What the lots of a store keep, and what its plan says of them.
use Rattle.std.proofs.Common.{◌≡◌, ℕ, zero, suc, ◌≤◌, cond, eqb, ltb, List, [], ◌∷◌, map, length, get_or, take, drop, set, ap, ◌∙◌, arith, length-set, length-take}
use lib.ListN.{length-map, get_or-map}
use Rattle.std.proofs.lemmas.List.{length-reverse}
use Rattle.std.proofs.lemmas.Bool.{cond_both, cond-true, lt-ltb}
use Rattle.std.proofs.ByRecursion.{all_kept_by, All-map, All-weaker}
use Rattle.inplace.specs.Held.{held}
use Rattle.rules.specs.Pairs.{Pair, pair_at}
use Rattle.rules.specs.Plans.{Plan, Table}
use Rattle.rules.specs.Lots.{Lot, room, put_lot, enter_row}
use Rattle.lots.specs.declared.lot.Lot as coded
use Rattle.lots.specs.declared.table.Table as stored
use Rattle.lots.specs.declared.store.Store.{Store}
use Rattle.lots.specs.Rows.{Row}
use Rattle.lots.specs.Lots.{span_of, lot_in, lot_at}
use Rattle.lots.specs.Tables.{lots_in, pairs_in}
use Rattle.lots.specs.Stores.{lots_of, pairs_of, lots_at, plan_pairs, room_in, has_lot}
use Rattle.lots.specs.Promises.{RowsFit, Wide, WidthsStay, PlanLotsHold}
use Rattle.lots.proofs.Planned.{lots_of_vendors}

-- no lot has more rows than slots
fit_in : (rows : List Row) (ls : List coded.Lot) (v : ℕ) → length (lot_at (map (lot_in rows) ls) v).rows ≤ (pair_at (map span_of ls) v).length
fit_in rows [] v = omega arith
fit_in rows (l ∷ ls) zero =
    let size : length (map held (take l.count (drop l.offset rows))) ≤ l.count = simp (length-map, length-take) (omega arith) in
    omega (arith, size, length-reverse (map held (take l.count (drop l.offset rows))), l.fits)
fit_in rows (l ∷ ls) (suc v) = fit_in rows ls v

fit : (ss : List stored.Table) (t v : ℕ) → length (lots_at (map lots_in ss) t v).rows ≤ room_in (map pairs_in ss) t v
fit [] t v = omega arith
fit (s ∷ ss) zero v = fit_in s.slots (held s.lots) v
fit (s ∷ ss) (suc t) v = fit ss t v

pub rows_fit_the_pairs : (s : Store) (t v : ℕ) → length (lots_of s t v).rows ≤ room_in (pairs_of s) t v
unfolding lots_of pairs_of
rows_fit_the_pairs s t v = fit (held s.tables) t v

pub rooms_of_the_plan : (plan : Plan) (t v : ℕ) → room_in (plan_pairs plan) t v ≡ room plan t v
rooms_of_the_plan plan t v =
    ap (λ (ps : List Pair). (pair_at ps v).length) (get_or-map (λ (table : Table). table.lots) plan.tables t (record { row = 0; columns = []; lots = [] }))

pub rows_fit : RowsFit
rows_fit store plan e t v =
    let in_pairs = rows_fit_the_pairs store t v in
    let same : room_in (pairs_of store) t v ≡ room plan t v = ap (λ (ps : List (List Pair)). room_in ps t v) e ∙ rooms_of_the_plan plan t v in
    omega (arith, in_pairs, same)

pub widths_stay : WidthsStay
widths_stay width lot wide = record {
  entered = λ room row size. cond_both {A = Lot} (ltb (length lot.rows) room) _ _ (Wide width) (λ _. (size, wide)) (λ _. wide);
  dropped = λ condition. all_kept_by (λ row. eqb (condition row) 0) (λ row. length row ≡ width) lot.rows wide;
  altered = λ column value condition.
      All-map (λ row. length row ≡ width) (λ row. cond (eqb (condition row) 0) row (set row column (value row))) lot.rows
      (All-weaker (λ row. length row ≡ width) (λ row. length (cond (eqb (condition row) 0) row (set row column (value row))) ≡ width)
      (λ row e. cond_both {A = List ℕ} (eqb (condition row) 0) row (set row column (value row)) (λ z. length z ≡ width) (λ _. e)
      (λ _. length-set row column (value row) ∙ e)) lot.rows wide);
}

pub plan_lots : PlanLotsHold
plan_lots plan t v = record {
  rooms = rooms_of_the_plan plan t v;
  enters = λ is_sound low small row lots.
      let lists = plan_pairs plan in
      let many : length (get_or lists t []) ≡ plan.vendors =
      ap length (get_or-map (λ (table : Table). table.lots) plan.tables t (record { row = 0; columns = []; lots = [] })) ∙ lots_of_vendors plan is_sound t _ low in
      cond-true (has_lot lists t v) _ _ (lt-ltb v (length (get_or lists t [])) (omega (arith, many)))
      ∙ ap (λ n. put_lot lots t v (enter_row n row (lots t v))) (rooms_of_the_plan plan t v);
}
