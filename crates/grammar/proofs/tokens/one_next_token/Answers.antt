use Rattle.grammar.proofs.TokenLaws.{one_next_token}
use Rattle.grammar.proofs.tokens.one_next_token.Goals as goal

pub returns : goal.returns
returns c = one_next_token
