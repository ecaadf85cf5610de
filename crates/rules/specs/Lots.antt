-- The lots of a bench: what each holds, and how a row enters.
use Rattle.std.specs.Prelude.{ℕ, ◌+◌, ◌≤◌, min, max, cond, ◌&&◌, List, [], ◌∷◌, length, ◌==◌, nat_lt, slice_index_or}
use Rattle.rules.specs.Pairs.{Pair, pair_at}
use Rattle.rules.specs.Plans.{Plan, Table}

-- The largest number that a cell or a count holds: 2^32 − 1.
abbrev pub last_word : ℕ
last_word = 4294967295

-- A vendor's part of a table: its rows, newest first, each a list of cells, and how many rows were lost since there was
-- no room.
pub record Lot : Type 0 where
  pub rows : List (List ℕ)
  pub lost : ℕ

abbrev pub no_rows : Lot
no_rows = record { rows = []; lost = 0 }

-- The lots of all tables: by table, then by vendor.
abbrev pub Lots : Type 0
Lots = ℕ → ℕ → Lot

abbrev pub table_at : Plan → ℕ → Table
table_at plan t = slice_index_or plan.tables t (record { row = 0; columns = []; lots = [] })

abbrev pub width : Plan → ℕ → ℕ
width plan t = length (table_at plan t).columns

-- How many rows a lot can hold.
abbrev pub room : Plan → ℕ → ℕ → ℕ
room plan t v = (pair_at (table_at plan t).lots v).length

abbrev pub longest_of : List Pair → ℕ
longest_of [] = 0
longest_of (p ∷ ps) = max p.length (longest_of ps)

-- The longest lot of a table.
abbrev pub longest : Plan → ℕ → ℕ
longest plan t = longest_of (table_at plan t).lots

-- A function changed at one number.
abbrev pub upd : {A : Type 0} → (ℕ → A) → ℕ → A → ℕ → A
upd f k x j = cond (j == k) x (f j)

-- The lots with one of them changed.
abbrev pub put_lot : Lots → ℕ → ℕ → Lot → Lots
put_lot lots t v lot u w = cond (u == t && w == v) lot (lots u w)

-- A row in front, or one more lost where the lot is full; the count of lost rows stops at the largest number.
abbrev pub enter_row : ℕ → List ℕ → Lot → Lot
enter_row room row lot = cond (nat_lt (length lot.rows) room)
    (record { rows = row ∷ lot.rows; lost = lot.lost })
    (record { rows = lot.rows; lost = min (lot.lost + 1) last_word })

-- No lot holds more rows than it has room for.
abbrev pub InRoom : Plan → Lots → Type 0
InRoom plan lots = (t v : ℕ) → length (lots t v).rows ≤ room plan t v
