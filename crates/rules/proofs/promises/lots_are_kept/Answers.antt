use Rattle.rules.proofs.Keeps.{kept}
use Rattle.rules.proofs.promises.lots_are_kept.Goals as goal

pub returns : goal.returns
returns c = kept
