use Rattle.std.proofs.Common.{◌≡◌, ◌-◌, ◌<◌, [], ◌∷◌, ◌++◌, map, length, Ok, sym, ap, ◌∙◌, arith, rules}
use Rattle.inplace.specs.Held.{held}
use Rattle.grammar.specs.Tokens.{token_at}
use Rattle.grammar.specs.Statements.{read_values}
use Rattle.layout.specs.Plans.{plan_of}
use Rattle.lexis.specs.Meaning.{text_of, place_of}
use Rattle.script.specs.Nodes.{expr_at}
use Rattle.script.specs.Meaning.{exprs_of}
use Rattle.clauses.specs.Names.{scope_of}
use Rattle.reading.proofs.ManyValues.{values_are, values_last, values_more, values_other, values_on, values_end, one_pushed, value_pushed}
use Rattle.reading.proofs.parser.Parser.+read_values.Goals as goal

pub returns-in_err-value-clause-value : goal.returns-in_err-value-clause-value
returns-in_err-value-clause-value t c = rw values_are (search rules)

pub returns-in_err-found-clause-value : goal.returns-in_err-found-clause-value
returns-in_err-found-clause-value t c = rw values_are (search rules)

pub returns-then-more-eq0-clause-value : goal.returns-then-more-eq0-clause-value
returns-then-more-eq0-clause-value t c = rw (values_last _ _ _ _ _ _ _ c.if-more-eq0.true) (search rules)

pub returns-then-more-ne0-clause-value : goal.returns-then-more-ne0-clause-value
returns-then-more-ne0-clause-value t c = rw (values_more _ _ _ _ _ _ _ c.if-more-ne0.true) (search rules)

pub returns-else-is-2-clause-value : goal.returns-else-is-2-clause-value
returns-else-is-2-clause-value t c =
    sym (values_other _ _ _ _ _ _ _ _ _ (sym c.in_ok-value.ensures.value)
    (ap (λ u. token_at u (place_of c.read_expr.new.self.reader)) (sym c.in_ok-value.ensures.text) ∙ sym c.in_ok-found.ensures.value)
    (sym c.is.ensures ∙ c.if-is.false) (sym c.is-2.ensures ∙ c.if-is-2.false))

-- The places, with the newest.
pub read_values-requires : goal.read_values-requires
read_values-requires t c =
    let grown = c.in_ok-value.ensures.grown in
    let more = value_pushed _ _ _ _ _ grown.larger.exprs c.requires.inside grown.inside
    (one_pushed _ _ _ _ c.push.ensures.value c.push.ensures.after (omega (arith, c.requires.room))) in
    (omega (arith, c.decreases, c.if-more-eq0.false), (more.inside, omega (arith, more.size, c.requires.room, c.if-more-eq0.false)))

pub returns-else-more-eq0-clause-value : goal.returns-else-more-eq0-clause-value
returns-else-more-eq0-clause-value t c =
    let grown = c.in_ok-value.ensures.grown in
    let was = c.in_ok-value.ensures.text in
    let then = c.in_ok-found.ensures.text in
    let plan = plan_of c.args.scope.now.plan.now in
    let scope = scope_of c.args.scope.now.names in
    let es = exprs_of c.read_expr.new.self.script in
    let atoms = c.read_expr.new.self.counts.atoms in
    let text = text_of c.args.self.now.reader in
    let read = map (expr_at (exprs_of c.args.self.now.script)) (held c.args.values.now) in
    let room : length (held c.args.values.now) < 4 = omega (arith, c.requires.room) in
    let more = value_pushed _ _ _ _ _ grown.larger.exprs c.requires.inside grown.inside
    (one_pushed _ _ _ _ c.push.ensures.value c.push.ensures.after room) in
    c.read_values.ensures.value
    ∙ ap (λ u. read_values u plan scope (c.args.more - 1) (map (expr_at es) (held c.push.new.self)) (place_of c.next.new.self) atoms) (then ∙ was)
    ∙ ap (λ vs. read_values text plan scope (c.args.more - 1) vs (place_of c.next.new.self) atoms) more.values
    ∙ ap (λ n. read_values text plan scope (c.args.more - 1) (read ++ expr_at es c.in_ok-value.value ∷ []) n atoms) c.in_ok-found.ensures.place
    ∙ sym (values_on _ _ _ _ _ _ _ _ _ (sym c.in_ok-value.ensures.value)
    (ap (λ u. token_at u (place_of c.read_expr.new.self.reader)) (sym was) ∙ sym c.in_ok-found.ensures.value)
    (sym c.is.ensures ∙ c.if-is.true) c.if-more-eq0.false)

pub returns-else-more-ne0 : goal.returns-else-more-ne0
returns-else-more-ne0 t c =
    let grown = c.in_ok-value.ensures.grown in
    let was = c.in_ok-value.ensures.text in
    let es = exprs_of c.read_expr.new.self.script in
    let atoms = c.read_expr.new.self.counts.atoms in
    let read = map (expr_at (exprs_of c.args.self.now.script)) (held c.args.values.now) in
    let room : length (held c.args.values.now) < 4 = omega (arith, c.requires.room) in
    let more = value_pushed _ _ _ _ _ grown.larger.exprs c.requires.inside grown.inside
    (one_pushed _ _ _ _ c.push.ensures.value c.push.ensures.after room) in
    let none : c.args.more ≡ 0 = search rules in
    record {
      value = ap (λ vs. Ok (record { values = vs; after = place_of c.next.new.self; atoms = atoms })) more.values
          ∙ ap (λ n. Ok (record { values = read ++ expr_at es c.in_ok-value.value ∷ []; after = n; atoms = atoms })) c.in_ok-found.ensures.place
          ∙ sym (values_end _ _ _ _ _ _ _ _ _ (sym c.in_ok-value.ensures.value)
          (ap (λ u. token_at u (place_of c.read_expr.new.self.reader)) (sym was) ∙ sym c.in_ok-found.ensures.value)
          (sym c.is.ensures ∙ c.if-is.false) (sym c.is-2.ensures ∙ c.if-is-2.true) none);
      text = c.in_ok-found.ensures.text ∙ was;
      grown = record { inside = more.inside; begun = grown.begun; larger = grown.larger };
    }
