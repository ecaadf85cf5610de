use Rattle.grammar.proofs.ReadingCases.{scripts}
use Rattle.grammar.proofs.reading.worked_scripts.Goals as goal

pub returns : goal.returns
returns c = scripts
