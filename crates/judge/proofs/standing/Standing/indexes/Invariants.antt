use Rattle.std.proofs.Common.{◌≡◌, ◌≤◌, length}
use Rattle.inplace.specs.Held.{held}
use Rattle.judge.specs.Names.{scope_of, val_of}
use Rattle.judge.specs.Breaking.{indexes_below}
use Rattle.judge.proofs.standing.Standing.indexes.Given as goal

-- The vendors of the indexes below the level, no more than there are levels.
abbrev pub invariant-loop-name : goal.invariant-loop-name
invariant-loop-name l = record {
  items : held l.vendors ≡ indexes_below (scope_of l.self) (val_of l.self) l.name-index;
  few : length (held l.vendors) ≤ l.name-index;
}
