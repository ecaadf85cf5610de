use Rattle.rules.proofs.Reasons.{why_sent_back}
use Rattle.rules.proofs.promises.refusals_have_their_reason.Goals as goal

pub returns : goal.returns
returns c = why_sent_back
