use Rattle.grammar.proofs.TokenLaws.{reading_looks_no_further}
use Rattle.grammar.proofs.tokens.reading_looks_no_further.Goals as goal

pub returns : goal.returns
returns c = reading_looks_no_further
