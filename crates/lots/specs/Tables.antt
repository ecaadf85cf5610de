-- What a table of a store stands for.
use Rattle.std.specs.Prelude.{List, map}
use Rattle.inplace.specs.Held.{held}
use Rattle.rules.specs.Pairs.{Pair}
use Rattle.rules.specs.Lots.{Lot}
use Rattle.lots.specs.Lots.{lot_in, span_of}
use Rattle.lots.specs.Rows.{Row}
use Rattle.lots.specs.declared.table.Table as coded

-- The lots, by vendor.
abbrev pub lots_in : coded.Table → List Lot
lots_in s = map (lot_in s.slots) (held s.lots)

-- Their pairs, by vendor.
abbrev pub pairs_in : coded.Table → List Pair
pairs_in s = map span_of (held s.lots)

-- The rows in all slots, whether they are in use or not.
abbrev pub slots_in : coded.Table → List Row
slots_in s = s.slots
