use Rattle.std.proofs.Common.{◌≡◌}
use Rattle.layout.specs.Plans.{plan_of}
use Rattle.script.specs.Meaning.{exprs_of}
use Rattle.judge.specs.Names.{scope_of}
use Rattle.judge.proofs.Cells.{left_flow}
use Rattle.judge.proofs.judging.Judge.check_cells.Given as goal

-- What is left decides as all of them do.
abbrev pub invariant-loop-column : goal.invariant-loop-column
invariant-loop-column g l =
    let left = left_flow (g.L.Lattice.answers l.self.policy.lattice.now) (plan_of l.self.policy.plan.now) (scope_of l.standing) l.lot.table l.lot.vendor (exprs_of l.self.script.now) l.values in
    left l.column ≡ left 0
