use Rattle.std.proofs.Common.{refl, sym, ◌∙◌}
use Rattle.std.proofs.lemmas.List.{get_or-take}
use Rattle.inplace.proofs.Replaced.{take_of_set}
use Rattle.inplace.proofs.array_vec.ArrayVec.modify.Goals as goal

pub returns-then-at-self-clause-changed : goal.returns-then-at-self-clause-changed
returns-then-at-self-clause-changed g c within =
    let s = c.args.self.now in
    let was = c.index-self-at.result in (
      was,
      _,
      c.index-self-at.is ∙ sym (get_or-take s.len s.items c.args.at was c.if-at-self.true),
      record { shown = _; shows = sym c.index-self-at.is; left = _; met = c.change.ensures; leaves = refl },
      take_of_set s.len s.items c.args.at _,
    )
