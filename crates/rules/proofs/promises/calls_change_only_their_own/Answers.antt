use Rattle.rules.proofs.Framed.{frames}
use Rattle.rules.proofs.promises.calls_change_only_their_own.Goals as goal

pub returns : goal.returns
returns c = frames
