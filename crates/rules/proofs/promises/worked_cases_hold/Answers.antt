use Rattle.rules.proofs.Worked.{worked}
use Rattle.rules.proofs.promises.worked_cases_hold.Goals as goal

pub returns : goal.returns
returns c = worked
