use Rattle.lots.proofs.Keeping.{plan_lots}
use Rattle.lots.proofs.promises.lots_are_those_of_the_plan.Goals as goal

pub returns : goal.returns
returns c = plan_lots
