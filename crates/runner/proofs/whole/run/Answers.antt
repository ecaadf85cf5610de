use Rattle.std.proofs.Common.{refl, subst, rules}
use Rattle.layout.specs.Plans.{plan_of}
use Rattle.script.specs.Meaning.{script_of}
use Rattle.runner.specs.Whole.{Ran}
use Rattle.runner.proofs.Running.{as_read}
use Rattle.runner.proofs.Wholes.{ran_whole}
use Rattle.runner.proofs.whole.run.Goals as goal

pub returns : goal.returns
returns c ready =
    let plan = c.args.plan.now in
    let script = c.args.script.now in
    let env = c.new-env.result in
    let end = c.run_block.new.self in
    let done : Ran (plan_of plan) (script_of script) c.args.vendor c.args.lots.now end.lots.now end.locals.steps =
    ran_whole (plan_of plan) (script_of script) c.args.vendor c.args.lots.now plan.kept ready env _ end
    (search rules) c.new.ensures.vars c.new.ensures.steps refl
    (as_read env _ _ _ _ (search rules) c.run_block.ensures.does) in
    subst (λ store. Ran (plan_of plan) (script_of script) c.args.vendor c.args.lots.now store end.locals.steps) (search rules) done
