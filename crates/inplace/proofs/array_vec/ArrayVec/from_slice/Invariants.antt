use Rattle.std.proofs.Common.{◌≡◌, ◌≤◌, length, take}
use Rattle.inplace.specs.Held.{held}
use Rattle.inplace.proofs.array_vec.ArrayVec.from_slice.Given as goal

abbrev pub invariant-loop-item : goal.invariant-loop-item
invariant-loop-item g l = (l.item-index ≤ length l.items) × (l.item-index ≤ g.row.N) × (held l.list ≡ take l.item-index l.items)
