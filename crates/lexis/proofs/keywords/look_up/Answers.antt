use Rattle.std.proofs.Common.{◌≡◌, eqb, ◌∙◌, rules, tests}
use Rattle.std.specs.Option.{option_map}
use Rattle.std.proofs.lemmas.Iterator.{YieldsList-from_slice}
use Rattle.std.proofs.lemmas.Iterator.Search.{find_from_yields_List}
use Rattle.lexis.proofs.LookUps.{looked_up}
use Rattle.lexis.proofs.keywords.look_up.Goals as goal

pub returns : goal.returns
returns c =
    let found = find_from_yields_List (λ e. eqb e.0 c.args.code) _ _ c.find.result c.find.ensures.ran (YieldsList-from_slice c.args.table.now (cc)) (λ x b q k. search (rules, tests)) in
    let mapped : c.map.result ≡ option_map (λ x. x.now.1) c.find.result = search rules in
    mapped ∙ looked_up c.args.code c.args.table.now c.find.result found
