-- A script at a place.
use Rattle.std.proofs.Common.{◌≡◌, ℕ, ◌+◌, ◌-◌, ◌<◌, ◌≤◌, true, List, [], ◌∷◌, length, get_or, sym, refl, ap, ◌∙◌, arith}
use Rattle.std.proofs.lemmas.List.{get_or_past}
use Rattle.std.proofs.lemmas.Bool.{and_parts}
use Rattle.rules.specs.Scripts as rules
use Rattle.script.specs.declared.node.Expr.{Expr}
use Rattle.script.specs.declared.node.Node.{Node}
use Rattle.script.specs.Nodes.{expr_of, code_of, expr_at, block_at}
use Rattle.script.specs.Ordered.{all_below, parts, blocks_in, exprs_in, exprs_ordered, stmt_ordered, stmts_ordered}
use Rattle.script.specs.Meaning.{grown_exprs, grown_codes}
use Rattle.script.proofs.Grown.{grow_at, grow_front}
use Rattle.script.proofs.Order.{expr_local, code_local, below_more, expr_ordered_at, stmt_ordered_at}
use Rattle.script.proofs.Pushes.{as_many_exprs, as_many_codes}

pub record ExprPlace (ns : List Expr) (at : ℕ) (node : Expr) : Type 0 where
  pub meaning : expr_at (grown_exprs ns) at ≡ expr_of (grown_exprs ns) node
  pub back : all_below at (parts node) ≡ true

pub expr_place : (ns : List Expr) (at : ℕ) (node : Expr) → exprs_ordered 0 ns ≡ true → at < length ns → node ≡ get_or ns at node → ExprPlace ns at node
expr_place ns at node o h is =
    let fits : all_below at (parts (get_or ns at node)) ≡ true =
    below_more (0 + at) at (parts (get_or ns at node)) (omega arith) (expr_ordered_at 0 ns at node o h) in
    let stands = grow_at expr_of [] ns at at (rules.Expr.literal 0) node h (omega arith) (expr_local at (get_or ns at node) fits) in
    record {
      meaning = stands ∙ ap (expr_of (grown_exprs ns)) (sym is);
      back = ap (λ e. all_below at (parts e)) is ∙ fits;
    }

pub no_expr : (ns : List Expr) (at : ℕ) → length ns ≤ at → expr_at (grown_exprs ns) at ≡ rules.Expr.literal 0
no_expr ns at h = get_or_past (grown_exprs ns) at (rules.Expr.literal 0) (omega (arith, as_many_exprs ns))

pub record StmtPlace (es : List rules.Expr) (ns : List Node) (block : ℕ) (node : Node) : Type 0 where
  pub meaning : block_at (grown_codes es ns) block ≡ code_of es (grown_codes es ns) node
  pub back : all_below block (blocks_in node) ≡ true

pub stmt_place : (es : List rules.Expr) (top : ℕ) (ns : List Node) (block : ℕ) (node : Node) → stmts_ordered top 1 ns ≡ true → 0 < block
    → block - 1 < length ns → node ≡ get_or ns (block - 1) node → StmtPlace es ns block node
stmt_place es top ns block node o pos h is =
    let m = get_or ns (block - 1) node in
    let fits : stmt_ordered top (1 + (block - 1)) m ≡ true = stmt_ordered_at top 1 ns (block - 1) node o h in
    let q = and_parts (all_below top (exprs_in m)) (all_below (1 + (block - 1)) (blocks_in m)) fits in
    let low : all_below block (blocks_in m) ≡ true = below_more (1 + (block - 1)) block (blocks_in m) (omega arith) q.1 in
    let ok : stmt_ordered top block m ≡ true = rw (q.0, low) refl in
    let stands = grow_at (code_of es) (rules.Code.stop ∷ []) ns (block - 1) block rules.Code.stop node h (omega arith)
    (λ xs ys s. code_local top block es es xs ys (λ j d l. refl) s m ok) in
    record {
      meaning = stands ∙ ap (code_of es (grown_codes es ns)) (sym is);
      back = ap (λ e. all_below block (blocks_in e)) is ∙ low;
    }

pub no_stmt : (es : List rules.Expr) (ns : List Node) (block : ℕ) → 0 < block → length ns ≤ block - 1 → block_at (grown_codes es ns) block ≡ rules.Code.stop
no_stmt es ns block pos h = get_or_past (grown_codes es ns) block rules.Code.stop (omega (arith, as_many_codes es ns))

pub empty_block : (es : List rules.Expr) (ns : List Node) → block_at (grown_codes es ns) 0 ≡ rules.Code.stop
empty_block es ns = sym (grow_front (code_of es) (rules.Code.stop ∷ []) ns 0 rules.Code.stop (omega arith))
