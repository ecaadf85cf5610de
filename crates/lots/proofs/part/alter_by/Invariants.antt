use Rattle.std.proofs.Common.{◌≡◌, ◌++◌, map, take, drop}
use Rattle.inplace.specs.Held.{held}
use Rattle.lots.specs.Rows.{changed}
use Rattle.lots.proofs.part.alter_by.Given as goal

-- The rows passed are changed, the others are as they were.
abbrev pub invariant-loop-row : goal.invariant-loop-row
invariant-loop-row g l =
    let rows = map held l.initial.rows in
    let change = changed l.column (g.V.Reading.reads l.value) (g.C.Reading.reads l.condition) in
    map held l.rows ≡ map change (take l.row-index rows) ++ drop l.row-index rows
