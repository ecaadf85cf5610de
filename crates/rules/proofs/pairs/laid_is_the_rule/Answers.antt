use Rattle.rules.proofs.PairRule.{laid_is_the_rule}
use Rattle.rules.proofs.pairs.laid_is_the_rule.Goals as goal

pub returns : goal.returns
returns c = laid_is_the_rule
