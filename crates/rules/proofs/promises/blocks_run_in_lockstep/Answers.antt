use Rattle.rules.proofs.InStep.{lockstep}
use Rattle.rules.proofs.promises.blocks_run_in_lockstep.Goals as goal

pub returns : goal.returns
returns c = lockstep
