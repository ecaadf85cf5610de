use Rattle.grammar.proofs.TokenLaws.{blanks_do_not_matter}
use Rattle.grammar.proofs.tokens.blanks_do_not_matter.Goals as goal

pub returns : goal.returns
returns c = blanks_do_not_matter
