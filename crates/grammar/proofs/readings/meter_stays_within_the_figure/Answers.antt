use Rattle.grammar.proofs.TextPromises.{meter_of_texts}
use Rattle.grammar.proofs.readings.meter_stays_within_the_figure.Goals as goal

pub returns : goal.returns
returns c = meter_of_texts
