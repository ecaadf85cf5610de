use Rattle.std.proofs.Common.{◌≡◌, true, false, length, Some, sym, refl, ap, ◌∙◌, arith}
use Rattle.inplace.specs.Held.{held}
use Rattle.script.specs.Nodes.{expr_of}
use Rattle.script.specs.Ordered.{all_below, parts}
use Rattle.script.specs.Pushing.{place_if, pushed}
use Rattle.script.specs.Meaning.{exprs_of, codes_of, grown_exprs}
use Rattle.script.proofs.Pushes.{expr_pushed, as_many_exprs, exprs_full, expr_unfit}
use Rattle.script.proofs.script.Script.push_expr.Goals as goal

pub returns-then-at-ge-MOST_EXPRS : goal.returns-then-at-ge-MOST_EXPRS
unfolding exprs_of codes_of
returns-then-at-ge-MOST_EXPRS c =
    let ns = held c.args.self.now.exprs in
    let no_room = exprs_full ns c.args.node (omega (arith, c.if-at-ge-MOST_EXPRS.true, c.len-at.ensures)) in
    record {
      value = ap (λ b. place_if b (length (grown_exprs ns))) (sym no_room);
      exprs = ap (λ b. pushed b (grown_exprs ns) (expr_of (grown_exprs ns) c.args.node)) (sym no_room);
      codes = refl;
      first = refl;
    }

pub returns-then-not-expr_fits : goal.returns-then-not-expr_fits
unfolding exprs_of codes_of
returns-then-not-expr_fits c =
    let ns = held c.args.self.now.exprs in
    let unfit : all_below (length ns) (parts c.args.node) ≡ false =
    ap (λ n. all_below n (parts c.args.node)) (sym c.len-at.ensures) ∙ sym c.expr_fits.ensures ∙ c.if-not-expr_fits.true in
    let no_room = expr_unfit ns c.args.node unfit in
    record {
      value = ap (λ b. place_if b (length (grown_exprs ns))) (sym no_room);
      exprs = ap (λ b. pushed b (grown_exprs ns) (expr_of (grown_exprs ns) c.args.node)) (sym no_room);
      codes = refl;
      first = refl;
    }

pub invariant_of-self : goal.invariant_of-self
invariant_of-self c =
    let s = c.args.self.now in
    let fits : all_below (length (held s.exprs)) (parts c.args.node) ≡ true =
    ap (λ n. all_below n (parts c.args.node)) (sym c.len-at.ensures) ∙ sym c.expr_fits.ensures ∙ c.if-not-expr_fits.false in
    let p = expr_pushed s.exprs c.push.new.self (held s.stmts) c.args.node c.push.result s.built s.joined
    (omega (arith, c.if-at-ge-MOST_EXPRS.false, c.len-at.ensures)) fits c.push.ensures.value c.push.ensures.after in
    record { built = p.built; joined = p.joined }

pub returns : goal.returns
unfolding exprs_of codes_of
returns c =
    let s = c.args.self.now in
    let ns = held s.exprs in
    let fits : all_below (length ns) (parts c.args.node) ≡ true =
    ap (λ n. all_below n (parts c.args.node)) (sym c.len-at.ensures) ∙ sym c.expr_fits.ensures ∙ c.if-not-expr_fits.false in
    let p = expr_pushed s.exprs c.push.new.self (held s.stmts) c.args.node c.push.result s.built s.joined
    (omega (arith, c.if-at-ge-MOST_EXPRS.false, c.len-at.ensures)) fits c.push.ensures.value c.push.ensures.after in
    record {
      value = ap Some (c.len-at.ensures ∙ sym (as_many_exprs ns)) ∙ ap (λ b. place_if b (length (grown_exprs ns))) (sym p.room);
      exprs = p.exprs ∙ ap (λ b. pushed b (grown_exprs ns) (expr_of (grown_exprs ns) c.args.node)) (sym p.room);
      codes = p.codes;
      first = refl;
    }
