use Rattle.grammar.proofs.ReadingCases.{limits}
use Rattle.grammar.proofs.reading.worked_limits.Goals as goal

pub returns : goal.returns
returns c = limits
