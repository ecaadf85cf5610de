use Rattle.clauses.proofs.Scoped.{with_one}
use Rattle.clauses.proofs.names.Names.with.Goals as goal

pub returns : goal.returns
returns c = with_one _ _ _ _ c.push.ensures.value c.push.ensures.after
