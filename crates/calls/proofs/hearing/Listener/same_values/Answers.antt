use Rattle.std.proofs.Common.{sym, ◌∙◌, rules, tests}
use Rattle.std.proofs.lemmas.Bool.{ne_eqb}
use Rattle.std.proofs.lemmas.Iterator.{YieldsList-from_slice, YieldsList-from_zip}
use Rattle.std.proofs.lemmas.Iterator.Consumers.{YieldsList-from_enumerate, YieldsList-at}
use Rattle.std.proofs.lemmas.Iterator.Search.{all_from_yields_List}
use Rattle.layout.specs.Plans.{plan_of}
use Rattle.calls.proofs.Values.{passes, unequal_lengths, values_pass}
use Rattle.calls.proofs.hearing.Listener.same_values.Goals as goal

pub returns-then-left-right : goal.returns-then-left-right
returns-then-left-right g c =
    let me = c.args.self.now in
    let o = g.L.Lattice.answers me.policy.lattice.now in
    let p = plan_of me.policy.plan.now in
    all_from_yields_List (passes o p me.label c.args.lot.table c.args.lot.vendor) c.all.new.self _ c.all.result c.all.ensures.ran
    (YieldsList-from_enumerate (YieldsList-at c.enumerate.ensures.source (YieldsList-from_zip (YieldsList-at c.zip.ensures.first (YieldsList-from_slice c.args.left.now cc)) (YieldsList-from_slice c.args.right.now cc))) (cc))
    (λ x b q k. search (rules, tests))
    ∙ values_pass o p me.label c.args.lot.table c.args.lot.vendor 0 c.args.left.now c.args.right.now c.if-left-right.true

pub returns-else-left-right : goal.returns-else-left-right
returns-else-left-right g c =
    let me = c.args.self.now in
    ne_eqb _ _ c.if-left-right.false
    ∙ sym (unequal_lengths (g.L.Lattice.answers me.policy.lattice.now) (plan_of me.policy.plan.now) me.label c.args.lot.table c.args.lot.vendor 0
    c.args.left.now c.args.right.now c.if-left-right.false)
