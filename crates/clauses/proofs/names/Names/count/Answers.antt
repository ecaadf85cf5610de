use Rattle.std.proofs.Common.{sym, ◌∙◌}
use Rattle.clauses.proofs.Scoped.{scope_length}
use Rattle.clauses.proofs.names.Names.count.Goals as goal

pub returns : goal.returns
returns c = c.len.ensures ∙ sym (scope_length _)
