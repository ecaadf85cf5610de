-- What a store stands for: the lots of all tables of a bench.
use Rattle.std.specs.Prelude.{◌≡◌, ℕ, Bool, cond, List, [], map, length, ◌≢◌, nat_lt, slice_index_or}
use Rattle.inplace.specs.Held.{held}
use Rattle.rules.specs.Pairs.{Pair, pair_at}
use Rattle.rules.specs.Plans.{Plan}
use Rattle.rules.specs.Lots.{Lot, Lots, no_rows, put_lot, enter_row}
use Rattle.lots.specs.Lots.{lot_at, OnlyIn}
use Rattle.lots.specs.Tables.{lots_in, pairs_in, slots_in}
use Rattle.lots.specs.Rows.{Row}
use Rattle.lots.specs.declared.table.Table as stored
use Rattle.lots.specs.declared.store.Store as coded

-- Lots that are listed by table and vendor. What is not in the list has no rows.
abbrev pub lots_at : List (List Lot) → Lots
lots_at lists t v = lot_at (slice_index_or lists t []) v

abbrev pub by_table : coded.Store → List (List Lot)
by_table s = map lots_in (held s.tables)

-- The lots of a store.
unfoldable pub lots_of : coded.Store → Lots
lots_of s = lots_at (by_table s)

-- Their pairs, by table and vendor: no call on a store changes them.
unfoldable pub pairs_of : coded.Store → List (List Pair)
pairs_of s = map pairs_in (held s.tables)

-- All slots, by table.
unfoldable pub slots_of : coded.Store → List (List Row)
slots_of s = map slots_in (held s.tables)

-- Only slots of one lot have changed: the other tables are as they were, and in its own table so are the slots before it
-- and behind it.
pub record OnlyInLot (pairs : List (List Pair)) (t v : ℕ) (was is : List (List Row)) : Type 0 where
  pub tables : (u : ℕ) → (u ≢ t) → slice_index_or is u [] ≡ slice_index_or was u []
  pub slots : OnlyIn (pair_at (slice_index_or pairs t []) v) (slice_index_or was t []) (slice_index_or is t [])

-- The pairs of a plan, by table and vendor.
abbrev pub plan_pairs : Plan → List (List Pair)
plan_pairs plan = map (λ table. table.lots) plan.tables

-- How many rows a lot can hold.
abbrev pub room_in : List (List Pair) → ℕ → ℕ → ℕ
room_in pairs t v = (pair_at (slice_index_or pairs t []) v).length

-- Whether there is such a lot.
abbrev pub has_lot : List (List Pair) → ℕ → ℕ → Bool
has_lot pairs t v = nat_lt v (length (slice_index_or pairs t []))

-- The lots after a row has entered one of them; as they were where there is no such lot.
abbrev pub row_entered : List (List Pair) → ℕ → ℕ → List ℕ → Lots → Lots
row_entered pairs t v row lots = cond (has_lot pairs t v) (put_lot lots t v (enter_row (room_in pairs t v) row (lots t v))) lots

-- A table of the store holds its lots, at its pairs.
pub record TableOf (store : coded.Store) (t : ℕ) (s : stored.Table) : Type 0 where
  pub lots : (v : ℕ) → lots_of store t v ≡ lot_at (lots_in s) v
  pub rooms : (v : ℕ) → room_in (pairs_of store) t v ≡ (pair_at (pairs_in s) v).length

-- There is no such table: no rows, and no room.
pub record NoTable (store : coded.Store) (t : ℕ) : Type 0 where
  pub lots : (v : ℕ) → lots_of store t v ≡ no_rows
  pub rooms : (v : ℕ) → room_in (pairs_of store) t v ≡ 0
