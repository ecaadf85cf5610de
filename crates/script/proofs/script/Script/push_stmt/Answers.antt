use Rattle.std.proofs.Common.{◌≡◌, ◌+◌, true, false, length, Some, sym, refl, ap, ◌∙◌, ap₂, arith}
use Rattle.inplace.specs.Held.{held}
use Rattle.script.specs.Nodes.{code_of}
use Rattle.script.specs.Ordered.{stmt_ordered}
use Rattle.script.specs.Pushing.{place_if, pushed}
use Rattle.script.specs.Meaning.{exprs_of, codes_of, grown_exprs, grown_codes}
use Rattle.script.proofs.Pushes.{stmt_pushed, as_many_exprs, as_many_codes, stmts_full, stmt_unfit}
use Rattle.script.proofs.script.Script.push_stmt.Goals as goal

pub returns-then-at-ge-MOST_STATEMENTS : goal.returns-then-at-ge-MOST_STATEMENTS
unfolding exprs_of codes_of
returns-then-at-ge-MOST_STATEMENTS c =
    let s = c.args.self.now in
    let es = grown_exprs (held s.exprs) in
    let cs = grown_codes es (held s.stmts) in
    let no_room = stmts_full es (held s.stmts) c.args.node (omega (arith, c.if-at-ge-MOST_STATEMENTS.true, c.len-at.ensures)) in
    record {
      value = ap (λ b. place_if b (length cs)) (sym no_room);
      codes = ap (λ b. pushed b cs (code_of es cs c.args.node)) (sym no_room);
      exprs = refl;
      first = refl;
    }

pub returns-then-not-node_fits : goal.returns-then-not-node_fits
unfolding exprs_of codes_of
returns-then-not-node_fits c =
    let s = c.args.self.now in
    let es = grown_exprs (held s.exprs) in
    let cs = grown_codes es (held s.stmts) in
    let unfit : stmt_ordered (length (held s.exprs)) (length (held s.stmts) + 1) c.args.node ≡ false =
    ap₂ (λ n m. stmt_ordered n (m + 1) c.args.node) (sym c.len.ensures) (sym c.len-at.ensures) ∙ sym c.node_fits.ensures ∙ c.if-not-node_fits.true in
    let no_room = stmt_unfit es (length (held s.exprs)) (held s.stmts) c.args.node (as_many_exprs (held s.exprs)) unfit in
    record {
      value = ap (λ b. place_if b (length cs)) (sym no_room);
      codes = ap (λ b. pushed b cs (code_of es cs c.args.node)) (sym no_room);
      exprs = refl;
      first = refl;
    }

pub invariant_of-self : goal.invariant_of-self
invariant_of-self c =
    let s = c.args.self.now in
    let fits : stmt_ordered (length (held s.exprs)) (length (held s.stmts) + 1) c.args.node ≡ true =
    ap₂ (λ n m. stmt_ordered n (m + 1) c.args.node) (sym c.len.ensures) (sym c.len-at.ensures) ∙ sym c.node_fits.ensures ∙ c.if-not-node_fits.false in
    let p = stmt_pushed (grown_exprs (held s.exprs)) (length (held s.exprs)) s.stmts c.push.new.self c.args.node c.push.result
    (as_many_exprs (held s.exprs)) s.joined (omega (arith, c.if-at-ge-MOST_STATEMENTS.false, c.len-at.ensures)) fits c.push.ensures.value c.push.ensures.after in
    record { built = s.built; joined = p.joined }

pub returns : goal.returns
unfolding exprs_of codes_of
returns c =
    let s = c.args.self.now in
    let es = grown_exprs (held s.exprs) in
    let cs = grown_codes es (held s.stmts) in
    let fits : stmt_ordered (length (held s.exprs)) (length (held s.stmts) + 1) c.args.node ≡ true =
    ap₂ (λ n m. stmt_ordered n (m + 1) c.args.node) (sym c.len.ensures) (sym c.len-at.ensures) ∙ sym c.node_fits.ensures ∙ c.if-not-node_fits.false in
    let p = stmt_pushed es (length (held s.exprs)) s.stmts c.push.new.self c.args.node c.push.result
    (as_many_exprs (held s.exprs)) s.joined (omega (arith, c.if-at-ge-MOST_STATEMENTS.false, c.len-at.ensures)) fits c.push.ensures.value c.push.ensures.after in
    record {
      value = ap Some (omega (arith, c.len-at.ensures, as_many_codes es (held s.stmts))) ∙ ap (λ b. place_if b (length cs)) (sym p.room);
      codes = p.codes ∙ ap (λ b. pushed b cs (code_of es cs c.args.node)) (sym p.room);
      exprs = refl;
      first = refl;
    }
