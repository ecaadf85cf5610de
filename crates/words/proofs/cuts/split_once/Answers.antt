use Rattle.std.proofs.Common.{eqb, sym, ap, ◌∙◌, rules, tests}
use Rattle.std.proofs.lemmas.Iterator.{YieldsList-from_slice}
use Rattle.std.proofs.lemmas.Iterator.Search.{position_from_yields_List}
use Rattle.std.proofs.lemmas.List.{take_rest}
use Rattle.words.proofs.Cutting.{parts_found, parts_at}
use Rattle.words.proofs.cuts.split_once.Goals as goal

pub returns-in_err-at : goal.returns-in_err-at
returns-in_err-at c =
    let first = position_from_yields_List (λ b. eqb b c.args.mark) _ _ _ c.position.ensures.ran (YieldsList-from_slice c.args.text.now (cc)) (λ x b q k. search (rules, tests)) in
    rw c.from_residual.ensures (sym (ap (parts_at c.args.text.now) c.in_err-at.was) ∙ parts_found c.args.mark c.args.text.now c.position.result first)

pub returns : goal.returns
returns c =
    let first = position_from_yields_List (λ b. eqb b c.args.mark) _ _ _ c.position.ensures.ran (YieldsList-from_slice c.args.text.now (cc)) (λ x b q k. search (rules, tests)) in
    rw take_rest (sym (ap (parts_at c.args.text.now) c.in_ok-at.was) ∙ parts_found c.args.mark c.args.text.now c.position.result first)
