use Rattle.std.proofs.Common.{rules, tests, ap, ◌∙◌}
use Rattle.std.specs.List.{list_any}
use Rattle.std.proofs.lemmas.Iterator.{YieldsList-from_slice}
use Rattle.std.proofs.lemmas.Iterator.Search.{any_from_yields_List}
use Rattle.inplace.specs.Held.{held}
use Rattle.grammar.specs.Clauses.{walks}
use Rattle.clauses.specs.declared.names.Name.{Name}
use Rattle.clauses.proofs.Scoped.{walked_any}
use Rattle.clauses.proofs.names.Names.walk.Goals as goal

pub returns : goal.returns
returns c =
    any_from_yields_List (λ (n : Name). walks c.args.table n.kind) _ _ _ c.any.ensures.ran (YieldsList-from_slice c.as_slice-names.result.now cc) (λ x b q k. search (rules, tests))
    ∙ ap (list_any (λ n. walks c.args.table n.kind)) c.as_slice-names.ensures
    ∙ walked_any c.args.table (held c.args.self.now.list)
