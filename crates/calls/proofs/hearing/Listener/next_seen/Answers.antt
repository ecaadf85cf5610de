use Rattle.std.proofs.Common.{rules, tests}
use Rattle.layout.specs.Plans.{plan_of}
use Rattle.calls.proofs.Seen.{first_seen}
use Rattle.calls.proofs.hearing.Listener.next_seen.Goals as goal

pub returns-clause-gives : goal.returns-clause-gives
returns-clause-gives g c =
    let me = c.args.self.now in
    let ran = c.find.ensures.ran in
    first_seen (g.L.Lattice.answers me.policy.lattice.now) (plan_of me.policy.plan.now) me.label _ _ (λ x b q k. search (rules, tests))
    ran.0 c.args.calls.now c.find.new.self c.find.result ran.1 ran.2 ran.3 ran.4
