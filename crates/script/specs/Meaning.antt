-- What a script of the code stands for.
use Rattle.std.specs.Prelude.{List, [], ◌∷◌}
use Rattle.inplace.specs.Held.{held}
use Rattle.rules.specs.Scripts as rules
use Rattle.script.specs.declared.node.Expr.{Expr}
use Rattle.script.specs.declared.node.Node.{Node}
use Rattle.script.specs.declared.script.Script.{Script}
use Rattle.script.specs.Growing.{grow}
use Rattle.script.specs.Nodes.{expr_of, code_of, block_at}

abbrev pub grown_exprs : List Expr → List rules.Expr
grown_exprs nodes = grow expr_of [] nodes

abbrev pub grown_codes : List rules.Expr → List Node → List rules.Code
grown_codes es nodes = grow (code_of es) (rules.Code.stop ∷ []) nodes

-- Its expressions, by their places, and its blocks, by their numbers.
unfoldable pub exprs_of : Script → List rules.Expr
exprs_of s = grown_exprs (held s.exprs)

unfoldable pub codes_of : Script → List rules.Code
codes_of s = grown_codes (grown_exprs (held s.exprs)) (held s.stmts)

-- The script itself.
abbrev pub script_of : Script → rules.Code
script_of s = block_at (codes_of s) s.first
