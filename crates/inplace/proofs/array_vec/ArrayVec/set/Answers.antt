use Rattle.std.proofs.Common.{sym, arith, length-take}
use Rattle.std.proofs.lemmas.List.{set_past}
use Rattle.inplace.specs.Held.{held}
use Rattle.inplace.proofs.Replaced.{take_of_set}
use Rattle.inplace.proofs.array_vec.ArrayVec.set.Goals as goal

pub returns-then-place-self : goal.returns-then-place-self
returns-then-place-self g c = take_of_set c.args.self.now.len c.args.self.now.items c.args.place c.args.item

pub returns-else-place-self : goal.returns-else-place-self
returns-else-place-self g c = sym (set_past (held c.args.self.now) c.args.place c.args.item (simp length-take (omega arith)))
