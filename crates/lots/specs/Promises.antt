-- What is promised of the lots, each statement as a type. Its proof stands on the contract of a function.
use Rattle.std.specs.Prelude.{◌≡◌, ℕ, ◌<◌, true, List, length}
use Rattle.std.specs.List.{AllByRecursion}
use Rattle.rules.specs.Plans.{Plan, sound}
use Rattle.rules.specs.Lots.{Lot, Lots, InRoom, room, put_lot, enter_row}
use Rattle.rules.specs.Evaluation.{drop_rows, alter_rows}
use Rattle.lots.specs.Stores.{lots_of, pairs_of, plan_pairs, room_in, row_entered}
use Rattle.lots.specs.declared.store.Store.{Store}

-- A store at the pairs of a plan, whatever was written to it, holds in each lot at most as many rows as the plan has room
-- for.
abbrev pub RowsFit : Type 0
RowsFit = (store : Store) (plan : Plan) → pairs_of store ≡ plan_pairs plan → InRoom plan (lots_of store)

-- Every row of a lot has so many cells.
abbrev pub Wide : ℕ → Lot → Type 0
Wide width lot = AllByRecursion (λ row. length row ≡ width) lot.rows

-- What may be done to a lot of such rows: a row of that width enters, rows are dropped, rows are altered.
pub record WidthStays (width : ℕ) (lot : Lot) : Type 0 where
  pub entered : (room : ℕ) (row : List ℕ) → length row ≡ width → Wide width (enter_row room row lot)
  pub dropped : (condition : List ℕ → ℕ) → Wide width (drop_rows condition lot)
  pub altered : (column : ℕ) (value condition : List ℕ → ℕ) → Wide width (alter_rows column value condition lot)

abbrev pub WidthsStay : Type 0
WidthsStay = (width : ℕ) (lot : Lot) → Wide width lot → WidthStays width lot

-- The pairs of a plan give its rooms; and a row enters a lot of a sound plan as the rules have it.
pub record PlanLots (plan : Plan) (t v : ℕ) : Type 0 where
  pub rooms : room_in (plan_pairs plan) t v ≡ room plan t v
  pub enters : sound plan ≡ true → t < length plan.tables → v < plan.vendors → (row : List ℕ) (lots : Lots)
      → row_entered (plan_pairs plan) t v row lots ≡ put_lot lots t v (enter_row (room plan t v) row (lots t v))

abbrev pub PlanLotsHold : Type 0
PlanLotsHold = (plan : Plan) (t v : ℕ) → PlanLots plan t v
