-- What the parts of a script stand for where a block is run.
use Rattle.std.specs.Prelude.{ℕ, cond, List}
use Rattle.rules.specs.Scripts.{Expr, Code}
use Rattle.rules.specs.Lots.{upd}
use Rattle.rules.specs.Scoping.{nameable}
use Rattle.rules.specs.Evaluation.{Cursors, eval}
use Rattle.script.specs.Nodes.{expr_at, block_at}
use Rattle.script.specs.Meaning.{exprs_of, codes_of}
use Rattle.runner.specs.declared.env.Env.{Env}
use Rattle.runner.specs.declared.locals.Locals.{Locals}
use Rattle.runner.specs.Names.{val_of, cursors_of, depth_of, vars_of}

-- The expression at a place of the script, and the block with a number.
abbrev pub expr_in : Env → ℕ → Expr
expr_in env at = expr_at (exprs_of env.script.now) at

abbrev pub block_in : Env → ℕ → Code
block_in env block = block_at (codes_of env.script.now) block

-- The value of the expression at a place.
abbrev pub value_in : Env → Locals → ℕ → ℕ
value_in env locals at = eval (val_of env) (cursors_of env) (vars_of locals) (expr_in env at)

-- The cursors with one more, where there is room for a name.
abbrev pub cursors_at : Env → List ℕ → Cursors
cursors_at env row = cond (nameable (depth_of env)) (upd (cursors_of env) (depth_of env) row) (cursors_of env)

-- The value of the expression at a place, under one cursor more.
unfoldable pub row_value : Env → Locals → ℕ → List ℕ → ℕ
row_value env locals at row = eval (val_of env) (cursors_at env row) (vars_of locals) (expr_in env at)
