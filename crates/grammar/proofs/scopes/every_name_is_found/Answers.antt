use Rattle.grammar.proofs.ScopeLaws.{every_name_is_found}
use Rattle.grammar.proofs.scopes.every_name_is_found.Goals as goal

pub returns : goal.returns
returns c = every_name_is_found
