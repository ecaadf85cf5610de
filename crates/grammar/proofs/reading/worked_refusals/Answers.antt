use Rattle.grammar.proofs.ReadingCases.{refusals}
use Rattle.grammar.proofs.reading.worked_refusals.Goals as goal

pub returns : goal.returns
returns c = refusals
