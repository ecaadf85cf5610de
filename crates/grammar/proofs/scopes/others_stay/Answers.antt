use Rattle.grammar.proofs.ScopeLaws.{others_stay}
use Rattle.grammar.proofs.scopes.others_stay.Goals as goal

pub returns : goal.returns
returns c = others_stay
