use Rattle.grammar.proofs.Answered.{reading_is_the_rule}
use Rattle.grammar.proofs.tokens.reading_is_the_rule.Goals as goal

pub returns : goal.returns
returns c = reading_is_the_rule
