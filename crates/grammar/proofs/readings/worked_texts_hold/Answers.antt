use Rattle.grammar.proofs.TextPromises.{worked_texts}
use Rattle.grammar.proofs.readings.worked_texts_hold.Goals as goal

pub returns : goal.returns
returns c = worked_texts
