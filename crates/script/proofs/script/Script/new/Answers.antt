use Rattle.std.proofs.Common.{ap, ap₂}
use Rattle.script.specs.Meaning.{exprs_of, codes_of, grown_exprs, grown_codes}
use Rattle.script.specs.Nodes.{block_at}
use Rattle.script.proofs.script.Script.new.Goals as goal

pub returns : goal.returns
unfolding exprs_of codes_of
returns c =
    let es = ap grown_exprs c.new.ensures in
    let cs = ap₂ (λ ns ms. grown_codes (grown_exprs ns) ms) c.new.ensures c.new-2.ensures in
    record { exprs = es; codes = cs; script = ap (λ xs. block_at xs 0) cs }
