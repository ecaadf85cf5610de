use Rattle.std.proofs.Common.{refl}
use Rattle.inplace.specs.Held.{held}
use Rattle.script.specs.Meaning.{exprs_of}
use Rattle.script.proofs.Places.{expr_place, no_expr}
use Rattle.script.proofs.script.Script.expr.Goals as goal

pub returns-in-Some : goal.returns-in-Some
unfolding exprs_of
returns-in-Some c =
    let s = c.args.self.now in
    let found = c.in-Some.ensures in
    let p = expr_place (held s.exprs) c.args.at c.in-Some.node s.built found.0 found.1 in
    record { meaning = p.meaning; back = p.back }

pub returns-in-None : goal.returns-in-None
unfolding exprs_of
returns-in-None c = record { meaning = no_expr (held c.args.self.now.exprs) c.args.at c.in-None.ensures; back = refl }
