use Rattle.grammar.proofs.ScopeLaws.{leaving_forgets}
use Rattle.grammar.proofs.scopes.leaving_forgets.Goals as goal

pub returns : goal.returns
returns c = leaving_forgets
