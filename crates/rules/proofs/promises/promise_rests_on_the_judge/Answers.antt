use Rattle.rules.proofs.Unjudged.{rests_on_the_judge}
use Rattle.rules.proofs.promises.promise_rests_on_the_judge.Goals as goal

pub returns : goal.returns
returns c = rests_on_the_judge c.lattices_are_lawful.ensures
