use Rattle.std.proofs.Common.{refl, ap, ap₂}
use Rattle.script.specs.Meaning.{exprs_of, codes_of, grown_exprs, grown_codes}
use Rattle.script.proofs.script.Script.clear.Goals as goal

pub returns : goal.returns
unfolding exprs_of codes_of
returns c =
    record {
      exprs = ap grown_exprs c.clear-2.ensures;
      codes = ap₂ (λ ns ms. grown_codes (grown_exprs ns) ms) c.clear-2.ensures c.clear.ensures;
      first = refl;
    }
