use Rattle.judge.proofs.Faults.{explained}
use Rattle.judge.proofs.promises.explained_flows_are_faults.Goals as goal

pub returns : goal.returns
returns c = explained
