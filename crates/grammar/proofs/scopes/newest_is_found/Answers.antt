use Rattle.grammar.proofs.ScopeLaws.{newest_is_found}
use Rattle.grammar.proofs.scopes.newest_is_found.Goals as goal

pub returns : goal.returns
returns c = newest_is_found
