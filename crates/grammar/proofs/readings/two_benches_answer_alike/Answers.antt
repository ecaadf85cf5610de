use Rattle.grammar.proofs.TextPromises.{two_benches_of_texts}
use Rattle.grammar.proofs.readings.two_benches_answer_alike.Goals as goal

pub returns : goal.returns
returns c = two_benches_of_texts
