-- What a row of the code stands for, and what the rows in some slots do.
use Rattle.std.specs.Prelude.{◌≡◌, ℕ, ◌<◌, cond, List, [], map, reverse, length, ◌==◌, slice_index_or, slice_set}
use Rattle.rules.specs.Lots.{Lot}
use Rattle.inplace.specs.Held.{held}
use Rattle.inplace.specs.declared.array_vec.ArrayVec.{ArrayVec}

-- A row of the code: up to four cells.
abbrev pub Row : Type 0
Row = ArrayVec ℕ 4

-- The rows that lie in some slots, oldest first: what they hold, newest first.
abbrev pub newest : List Row → List (List ℕ)
newest rows = reverse (map held rows)

-- The lot whose rows those are, with nothing lost.
abbrev pub lot_of_rows : List Row → Lot
lot_of_rows rows = record { rows = newest rows; lost = 0 }

-- What an alteration makes of one row.
abbrev pub changed : ℕ → (List ℕ → ℕ) → (List ℕ → ℕ) → List ℕ → List ℕ
changed column value condition row = cond (condition row == 0) row (slice_set row column (value row))

-- The row at a place of a list of rows.
pub record RowAt (rows : List (List ℕ)) (place : ℕ) (row : List ℕ) : Type 0 where
  pub within : place < length rows
  pub is : row ≡ slice_index_or rows place []
