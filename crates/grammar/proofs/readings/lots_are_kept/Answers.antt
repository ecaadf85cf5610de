use Rattle.grammar.proofs.TextPromises.{lots_kept_under_texts}
use Rattle.grammar.proofs.readings.lots_are_kept.Goals as goal

pub returns : goal.returns
returns c = lots_kept_under_texts
