use Rattle.std.proofs.Common.{◌≡◌, ◌-◌, ltb, length, Ok, sym, ap, ◌∙◌, arith, rules}
use Rattle.std.proofs.lemmas.Bool.{and_from, lt-ltb}
use Rattle.std.proofs.lemmas.Result.{err_from_is_err_and}
use Rattle.rules.specs.Scripts as rules
use Rattle.grammar.specs.declared.marks.Mark.TheVariants.{Equals}
use Rattle.grammar.specs.Tokens.{is_mark}
use Rattle.grammar.specs.Steps.{expect}
use Rattle.grammar.specs.Clauses.{read_index}
use Rattle.grammar.specs.Statements.{naming, two_blocks}
use Rattle.grammar.specs.Reading.{begin, read_rest}
use Rattle.lexis.specs.Meaning.{text_of, place_of}
use Rattle.script.specs.Nodes.{index_of, expr_at, block_at}
use Rattle.script.specs.Ordered.{stmt_ordered}
use Rattle.script.specs.Meaning.{exprs_of, codes_of}
use Rattle.clauses.specs.Names.{scope_of}
use Rattle.reading.specs.Stated.{env_of}
use Rattle.reading.specs.Blocks.{closes, within, going}
use Rattle.reading.proofs.Grows.{some_block, empty_first, larger_self, counted}
use Rattle.reading.proofs.Rests.{rest_is, rest_closed, rest_strange, rest_passed, rest_spent, rest_begun, going_is}
use Rattle.reading.proofs.Building.{rest_fits, rest_code}
use Rattle.reading.proofs.Ifs.{if_is}
use Rattle.reading.proofs.Whens.{when_is}
use Rattle.reading.proofs.parser.Parser.+blocks.Goals as goal

pub read_going-push_stmt-requires : goal.read_going-push_stmt-requires
read_going-push_stmt-requires t c =
    let told = c.in_ok-stmt.ensures.grown in
    let rest = c.in_ok-rest.ensures.grown in
    let last = c.read_rest.new.self in
    let es = exprs_of last.script in
    let cs = codes_of last.script in
    and_from (ltb (length cs) 65) (stmt_ordered (length es) (length cs) (record { stmt = c.in_ok-stmt.stmt; rest = c.in_ok-rest.rest }))
    (lt-ltb (length cs) 65 (omega (arith, c.args.self.now.blocks, told.larger.begun, rest.larger.begun, last.limit)))
    (rest_fits _ _ _ _ rest.larger.exprs rest.larger.stays c.in_ok-stmt.stmt c.in_ok-rest.rest told.fits rest.inside)

pub read_going-returns-clause-value : goal.read_going-returns-clause-value
read_going-returns-clause-value t c =
    let told = c.in_ok-stmt.ensures.grown in
    let rest = c.in_ok-rest.ensures.grown in
    let now = c.args.self.now in
    let mid = c.read_statement.new.self in
    let last = c.read_rest.new.self in
    let env = env_of c.args.env in
    let scope = scope_of c.read_statement.new.env.scope.names in
    let closed = closes c.args.close in
    ap (λ x. Ok (record { code = x; after = place_of last.reader; counts = last.counts }))
    (c.push_stmt.ensures.here ∙ rest_code _ _ _ _ rest.larger.exprs rest.larger.stays c.in_ok-stmt.stmt c.in_ok-rest.rest told.fits)
    ∙ sym (going_is (text_of now.reader) c.args.left closed env c.args.place (place_of now.reader) (begin now.counts) c.args.opening _ _
    (sym c.in_ok-stmt.ensures.value)
    (ap (λ u. read_rest u c.args.left closed (naming env scope) (place_of mid.reader) mid.counts) (sym c.in_ok-stmt.ensures.text)
    ∙ ap (λ e. read_rest (text_of mid.reader) c.args.left closed e (place_of mid.reader) mid.counts) (sym c.in_ok-stmt.ensures.env)
    ∙ sym c.in_ok-rest.ensures.value))

pub read_rest-returns-in_err-found-clause-value : goal.read_rest-returns-in_err-found-clause-value
read_rest-returns-in_err-found-clause-value t c = rw rest_is (search rules)

pub read_rest-returns-then-is : goal.read_rest-returns-then-is
read_rest-returns-then-is t c =
    let now = c.args.self.now in
    record {
      value = ap (λ x. Ok (record { code = x; after = place_of c.next.new.self; counts = now.counts })) (empty_first now.script)
          ∙ ap (λ n. Ok (record { code = rules.Code.stop; after = n; counts = now.counts })) c.in_ok-found.ensures.place
          ∙ sym (rest_closed (text_of now.reader) c.args.left (closes c.args.close) (env_of c.args.env) (place_of now.reader) now.counts _ (sym c.in_ok-found.ensures.value) (sym c.is.ensures ∙ c.if-is.true));
      text = c.in_ok-found.ensures.text;
      grown = record { inside = some_block now.script; larger = larger_self _ _ _ };
    }

pub read_rest-returns-in_default-clause-value : goal.read_rest-returns-in_default-clause-value
read_rest-returns-in_default-clause-value t c =
    let now = c.args.self.now in
    sym (rest_strange (text_of now.reader) c.args.left (closes c.args.close) (env_of c.args.env) (place_of now.reader) now.counts _ (sym c.in_ok-found.ensures.value)
    (sym c.is.ensures ∙ c.if-is.false) (sym c.in_default.ensures))

pub read_rest-returns-then-self-ge-MOST_STATEMENTS-clause-value : goal.read_rest-returns-then-self-ge-MOST_STATEMENTS-clause-value
read_rest-returns-then-self-ge-MOST_STATEMENTS-clause-value t c =
    let now = c.args.self.now in
    sym (rest_passed (text_of now.reader) c.args.left (closes c.args.close) (env_of c.args.env) (place_of now.reader) now.counts _ (sym c.in_ok-found.ensures.value) _
    (sym c.is.ensures ∙ c.if-is.false) (sym c.in-Some.ensures) c.if-self-ge-MOST_STATEMENTS.true)

pub read_rest-returns-then-left-eq0-clause-value : goal.read_rest-returns-then-left-eq0-clause-value
read_rest-returns-then-left-eq0-clause-value t c =
    let now = c.args.self.now in
    sym (rest_spent (text_of now.reader) c.args.left (closes c.args.close) (env_of c.args.env) (place_of now.reader) now.counts _ (sym c.in_ok-found.ensures.value) _
    (sym c.is.ensures ∙ c.if-is.false) (sym c.in-Some.ensures) c.if-self-ge-MOST_STATEMENTS.false c.if-left-eq0.true)

pub read_rest-returns-clause-value : goal.read_rest-returns-clause-value
read_rest-returns-clause-value t c =
    let now = c.args.self.now in
    let found = c.in_ok-found.found in
    let env = env_of c.args.env in
    let closed = closes c.args.close in
    c.read_going.ensures.value
    ∙ ap (λ u. going u (c.args.left - 1) closed env found.place (place_of c.next.new.self) (begin now.counts) c.in-Some.opening) c.in_ok-found.ensures.text
    ∙ ap (λ n. going (text_of now.reader) (c.args.left - 1) closed env found.place n (begin now.counts) c.in-Some.opening) c.in_ok-found.ensures.place
    ∙ sym (rest_begun (text_of now.reader) c.args.left closed env (place_of now.reader) now.counts _ (sym c.in_ok-found.ensures.value) _
    (sym c.is.ensures ∙ c.if-is.false) (sym c.in-Some.ensures) c.if-self-ge-MOST_STATEMENTS.false c.if-left-eq0.false)

pub read_else-returns-then-not-next_is : goal.read_else-returns-then-not-next_is
read_else-returns-then-not-next_is t c =
    let now = c.args.self.now in
    record {
      value = rw (empty_first now.script) (search rules);
      text = search rules;
      grown = record { inside = some_block now.script; larger = larger_self _ _ _ };
    }

pub read_if-returns-in_err-two-clause-value : goal.read_if-returns-in_err-two-clause-value
read_if-returns-in_err-two-clause-value t c =
    let now = c.args.self.now in
    let text = text_of now.reader in
    let env = env_of c.args.env.now in
    let mid = c.read_value.new.self in
    let grown = c.in_ok-condition.ensures.grown in
    let before = rules.Code.if (expr_at (exprs_of mid.script) c.in_ok-condition.condition) in
    let p = err_from_is_err_and c.from_residual-in_err-two.result c.from_residual-in_err-two.ensures.1 in
    rw (p.1, p.2) (c.in_err-two.ensures.value before
    ∙ ap (λ u. two_blocks (within u c.args.left) u env before (place_of mid.reader) mid.counts) c.in_ok-condition.ensures.text
    ∙ sym (if_is (within text c.args.left) text env (place_of now.reader) now.counts _ mid.counts (sym c.in_ok-condition.ensures.value) (counted now.counts mid.counts grown.begun)))

pub read_if-returns-clause-value : goal.read_if-returns-clause-value
read_if-returns-clause-value t c =
    let now = c.args.self.now in
    let text = text_of now.reader in
    let env = env_of c.args.env.now in
    let mid = c.read_value.new.self in
    let grown = c.in_ok-condition.ensures.grown in
    let before = rules.Code.if (expr_at (exprs_of mid.script) c.in_ok-condition.condition) in
    let last = c.read_two.new.self in
    let two = c.in_ok-two.two in
    let cs = codes_of last.script in
    ap (λ v. Ok (record { before = rules.Code.if v (block_at cs two.first) (block_at cs two.second); scope = env.scope; after = place_of last.reader; counts = last.counts }))
    (c.in_ok-two.ensures.grown.larger.exprs.same c.in_ok-condition.condition grown.inside)
    ∙ c.in_ok-two.ensures.value before
    ∙ ap (λ u. two_blocks (within u c.args.left) u env before (place_of mid.reader) mid.counts) c.in_ok-condition.ensures.text
    ∙ sym (if_is (within text c.args.left) text env (place_of now.reader) now.counts _ mid.counts (sym c.in_ok-condition.ensures.value) (counted now.counts mid.counts grown.begun))

pub read_when-returns-in_err-two-clause-value : goal.read_when-returns-in_err-two-clause-value
read_when-returns-in_err-two-clause-value t c =
    let now = c.args.self.now in
    let text = text_of now.reader in
    let env = env_of c.args.env.now in
    let one = c.read_index.new.reader in
    let mark = c.expect.new.reader in
    let other = c.read_index-2.new.reader in
    let to_one = c.in_ok-one.ensures.text in
    let to_mark = c.in_ok-expect.ensures.text ∙ to_one in
    let to_other : text_of other ≡ text = c.in_ok-other.ensures.text ∙ to_mark in
    let before = rules.Code.when (index_of c.in_ok-one.one) (index_of c.in_ok-other.other) in
    let p = err_from_is_err_and c.from_residual-in_err-two.result c.from_residual-in_err-two.ensures.1 in
    rw (p.1, p.2) (c.in_err-two.ensures.value before
    ∙ ap (λ u. two_blocks (within u c.args.left) u env before (place_of other) now.counts) to_other
    ∙ sym (when_is (within text c.args.left) text env (place_of now.reader) now.counts _ _ _ (place_of mark)
    (sym c.in_ok-one.ensures.value)
    (ap (λ u. expect u (is_mark Equals) (place_of one)) (sym to_one) ∙ sym c.in_ok-expect.ensures.value)
    c.in_ok-expect.ensures.place
    (ap (λ u. read_index u env.plan env.scope (place_of mark)) (sym to_mark) ∙ sym c.in_ok-other.ensures.value)))

pub read_when-returns-clause-value : goal.read_when-returns-clause-value
read_when-returns-clause-value t c =
    let now = c.args.self.now in
    let text = text_of now.reader in
    let env = env_of c.args.env.now in
    let one = c.read_index.new.reader in
    let mark = c.expect.new.reader in
    let other = c.read_index-2.new.reader in
    let to_one = c.in_ok-one.ensures.text in
    let to_mark = c.in_ok-expect.ensures.text ∙ to_one in
    let to_other : text_of other ≡ text = c.in_ok-other.ensures.text ∙ to_mark in
    let before = rules.Code.when (index_of c.in_ok-one.one) (index_of c.in_ok-other.other) in
    c.in_ok-two.ensures.value before
    ∙ ap (λ u. two_blocks (within u c.args.left) u env before (place_of other) now.counts) to_other
    ∙ sym (when_is (within text c.args.left) text env (place_of now.reader) now.counts _ _ _ (place_of mark)
    (sym c.in_ok-one.ensures.value)
    (ap (λ u. expect u (is_mark Equals) (place_of one)) (sym to_one) ∙ sym c.in_ok-expect.ensures.value)
    c.in_ok-expect.ensures.place
    (ap (λ u. read_index u env.plan env.scope (place_of mark)) (sym to_mark) ∙ sym c.in_ok-other.ensures.value))
