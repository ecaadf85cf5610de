use Rattle.rules.proofs.TwoBenches.{two_benches}
use Rattle.rules.proofs.promises.two_benches_answer_alike.Goals as goal

pub returns : goal.returns
returns c = two_benches
