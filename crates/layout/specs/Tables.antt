-- What a table of the code stands for, and what the fields of a plan do.
use Rattle.std.specs.Prelude.{ℕ, List, map}
use Rattle.inplace.specs.Held.{held}
use Rattle.inplace.specs.declared.array_vec.ArrayVec.{ArrayVec}
use Rattle.rules.specs.Plans.{Table, Plan}
use Rattle.layout.specs.Pairs.{pair_of}
use Rattle.layout.specs.declared.pair.Pair as pair
use Rattle.layout.specs.declared.table.Table as coded

abbrev pub table_of : coded.Table → Table
table_of t = record { row = t.row; columns = held t.columns; lots = map pair_of (held t.lots) }

-- The table that a declaration brings.
abbrev pub declared : ℕ → List ℕ → List pair.Pair → Table
declared row columns pairs = record { row = row; columns = columns; lots = map pair_of pairs }

abbrev pub laid_out : ℕ → ArrayVec coded.Table 4 → Plan
laid_out vendors tables = record { vendors = vendors; tables = map table_of (held tables) }
