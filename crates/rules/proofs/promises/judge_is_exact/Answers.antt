use Rattle.rules.proofs.Judged.{judge_is_exact}
use Rattle.rules.proofs.promises.judge_is_exact.Goals as goal

pub returns : goal.returns
returns c = judge_is_exact
