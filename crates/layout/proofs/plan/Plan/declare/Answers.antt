use Rattle.std.proofs.Common.{Err, sym, ap, ◌∙◌}
use Rattle.std.proofs.lemmas.Result.{err_from_is_err_and}
use Rattle.rules.specs.Guards.{after}
use Rattle.rules.specs.Plans.{sound, declare}
use Rattle.layout.specs.Tables.{declared}
use Rattle.layout.specs.Plans.{plan_of}
use Rattle.layout.proofs.Declaring.{refused_after, was_accepted, stays_sound}
use Rattle.layout.proofs.Pushed.{pushed}
use Rattle.layout.proofs.plan.Plan.declare.Goals as goal

pub returns-in_err-check : goal.returns-in_err-check
returns-in_err-check c =
    let q = err_from_is_err_and c.from_residual.result c.from_residual.ensures.1 in
    let p = plan_of c.args.self.now in
    let t = declared c.args.row c.args.columns.now c.args.pairs.now in
    let sent = sym c.check.ensures ∙ c.in_err-check.was in
    record {
      answer = q.1 ∙ ap Err q.2 ∙ sym c.in_err-check.was ∙ c.check.ensures;
      after = sym (refused_after p (declare p t) c.in_err-check.field-0.0 sent);
    }

pub invariant_of-self : goal.invariant_of-self
invariant_of-self c =
    let s = c.args.self.now in
    let p = plan_of s in
    let t = declared c.args.row c.args.columns.now c.args.pairs.now in
    let a = was_accepted p t (sym c.check.ensures ∙ c.in_ok-check.was) in
    let is = pushed s.vendors c.args.row c.args.columns.now c.args.pairs.now s.tables c.push.new.self c.new.result c.push.result
    s.kept a c.new.ensures c.push.ensures.value c.push.ensures.after in
    record { kept = ap sound is ∙ stays_sound p t s.kept a }

pub returns : goal.returns
returns c =
    let s = c.args.self.now in
    let p = plan_of s in
    let t = declared c.args.row c.args.columns.now c.args.pairs.now in
    let a = was_accepted p t (sym c.check.ensures ∙ c.in_ok-check.was) in
    let is = pushed s.vendors c.args.row c.args.columns.now c.args.pairs.now s.tables c.push.new.self c.new.result c.push.result
    s.kept a c.new.ensures c.push.ensures.value c.push.ensures.after in
    record { answer = sym c.in_ok-check.was ∙ c.check.ensures; after = is ∙ sym (ap (after p) a.result) }
