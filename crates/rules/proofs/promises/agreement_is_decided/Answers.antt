use Rattle.rules.proofs.Decided.{agreement_is_decided}
use Rattle.rules.proofs.promises.agreement_is_decided.Goals as goal

pub returns : goal.returns
returns c = agreement_is_decided
