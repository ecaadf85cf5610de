-- What the lots of one table stand for.
use Rattle.std.specs.Prelude.{◌≡◌, ℕ, List, take, drop, slice_index_or}
use Rattle.rules.specs.Pairs.{Pair, end}
use Rattle.rules.specs.Lots.{Lot, no_rows}
use Rattle.lots.specs.Rows.{newest}
use Rattle.lots.specs.Rows.{Row}
use Rattle.lots.specs.declared.lot.Lot as coded

-- The slots of a lot, as a pair of offset and length.
abbrev pub span_of : coded.Lot → Pair
span_of l = record { offset = l.offset; length = l.length }

-- What a lot holds, given the rows in all the slots of its table.
abbrev pub lot_in : List Row → coded.Lot → Lot
lot_in rows l = record { rows = newest (take l.count (drop l.offset rows)); lost = l.lost }

-- A lot of a list; one with no rows where the list has none.
abbrev pub lot_at : List Lot → ℕ → Lot
lot_at lots v = slice_index_or lots v no_rows

-- Only slots of one pair have changed: those before it and those behind it are as they were.
pub record OnlyIn (p : Pair) (was is : List Row) : Type 0 where
  pub before : take p.offset is ≡ take p.offset was
  pub behind : drop (end p) is ≡ drop (end p) was
