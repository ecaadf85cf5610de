use Rattle.grammar.proofs.ScopeLaws.{found_names_are_there}
use Rattle.grammar.proofs.scopes.found_names_are_there.Goals as goal

pub returns : goal.returns
returns c = found_names_are_there
