use Rattle.grammar.proofs.Spelled.{told_apart}
use Rattle.grammar.proofs.tokens.told_apart.Goals as goal

pub returns : goal.returns
returns c = told_apart
