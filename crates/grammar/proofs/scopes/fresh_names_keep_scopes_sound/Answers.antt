use Rattle.grammar.proofs.ScopeLaws.{fresh_names_keep_scopes_sound}
use Rattle.grammar.proofs.scopes.fresh_names_keep_scopes_sound.Goals as goal

pub returns : goal.returns
returns c = fresh_names_keep_scopes_sound
