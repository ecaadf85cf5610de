use Rattle.std.proofs.Common.{rules}
use Rattle.reading.proofs.Depths.{expr_is, expr_flat, expr_deeper}
use Rattle.reading.proofs.parser.Parser.+expressions.Goals as goal

pub read_expr-returns-in_err-found : goal.read_expr-returns-in_err-found
read_expr-returns-in_err-found t c = rw expr_is (search rules)

pub read_expr-returns-in-Name : goal.read_expr-returns-in-Name
read_expr-returns-in-Name t c = rw expr_is (search rules)

pub read_expr-returns-in-Number : goal.read_expr-returns-in-Number
read_expr-returns-in-Number t c = rw expr_is (search rules)

pub read_expr-returns-in_default : goal.read_expr-returns-in_default
read_expr-returns-in_default t c = rw expr_is (search rules)

pub read_expr-returns-in_default-3 : goal.read_expr-returns-in_default-3
read_expr-returns-in_default-3 t c = rw expr_is (search rules)

pub read_expr-returns-then-depth-eq0 : goal.read_expr-returns-then-depth-eq0
read_expr-returns-then-depth-eq0 t c = rw (expr_flat _ _ _ _ _ _ c.if-depth-eq0.true) (search rules)

pub read_expr-returns-else-depth-eq0 : goal.read_expr-returns-else-depth-eq0
read_expr-returns-else-depth-eq0 t c = rw (expr_deeper _ _ _ _ _ _ c.if-depth-eq0.false) (search rules)
