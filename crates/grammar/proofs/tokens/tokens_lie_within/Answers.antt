use Rattle.grammar.proofs.TokenLaws.{tokens_lie_within}
use Rattle.grammar.proofs.tokens.tokens_lie_within.Goals as goal

pub returns : goal.returns
returns c = tokens_lie_within
