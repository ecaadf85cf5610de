use Rattle.std.proofs.Common.{◌≡◌, List, map, take}
use Rattle.inplace.specs.Held.{held}
use Rattle.rules.specs.Lots.{no_rows}
use Rattle.layout.specs.Pairs.{pair_of}
use Rattle.lots.specs.Rows.{Row}
use Rattle.lots.specs.Lots.{span_of, lot_in}
use Rattle.lots.proofs.table.Table.new.Given as goal

-- The pairs passed have their lots, and no lot has a row.
abbrev pub invariant-loop-pair : goal.invariant-loop-pair
invariant-loop-pair l =
    let passed = take l.pair-index l.pairs in
    (map span_of (held l.lots) ≡ map pair_of passed) × ((rows : List Row) → map (lot_in rows) (held l.lots) ≡ map (λ _. no_rows) passed)
