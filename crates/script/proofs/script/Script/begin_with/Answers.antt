use Rattle.std.proofs.Common.{refl}
use Rattle.script.specs.Meaning.{exprs_of, codes_of}
use Rattle.script.proofs.script.Script.begin_with.Goals as goal

pub returns : goal.returns
unfolding exprs_of codes_of
returns c = record { exprs = refl; codes = refl; first = refl }
