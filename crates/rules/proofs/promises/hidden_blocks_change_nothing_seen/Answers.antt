use Rattle.rules.proofs.Confined.{confinement}
use Rattle.rules.proofs.promises.hidden_blocks_change_nothing_seen.Goals as goal

pub returns : goal.returns
returns c = confinement
