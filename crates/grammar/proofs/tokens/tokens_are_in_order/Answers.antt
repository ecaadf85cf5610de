use Rattle.grammar.proofs.TokenOrder.{tokens_are_in_order}
use Rattle.grammar.proofs.tokens.tokens_are_in_order.Goals as goal

pub returns : goal.returns
returns c = tokens_are_in_order
