use Rattle.std.proofs.Common.{◌≡◌, map, take}
use Rattle.inplace.specs.Held.{held}
use Rattle.runner.specs.Values.{value_in}
use Rattle.runner.proofs.evaluate.row_of.Given as goal

-- The values of the places passed.
abbrev pub invariant-loop-at : goal.invariant-loop-at
invariant-loop-at l = held l.row ≡ map (value_in l.env l.locals) (take l.at-index l.at-items)
