use Rattle.grammar.proofs.SmallTexts.{small_texts}
use Rattle.grammar.proofs.tokens.small_texts.Goals as goal

pub returns : goal.returns
returns c = small_texts
