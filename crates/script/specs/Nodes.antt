-- What a node stands for, given what the nodes before it stand for.
use Rattle.std.specs.Prelude.{ℕ, List, map, slice_index_or}
use Rattle.inplace.specs.Held.{held}
use Rattle.rules.specs.Scripts as rules
use Rattle.script.specs.declared.node.Index.{Index}
use Rattle.script.specs.declared.node.Index.TheVariants.{Number, Me, Level}
use Rattle.script.specs.declared.node.Mark.{Mark}
use Rattle.script.specs.declared.node.Mark.TheVariants.{Open, Tag}
use Rattle.script.specs.declared.node.Op.{Op}
use Rattle.script.specs.declared.node.Op.TheVariants.{Plus, Minus, Min, Max, Equal, Less}
use Rattle.script.specs.declared.node.Expr.{Expr}
use Rattle.script.specs.declared.node.Expr.TheVariants.{Literal, Mine, OfIndex, Variable, Cell, Apply}
use Rattle.script.specs.declared.node.Stmt.{Stmt}
use Rattle.script.specs.declared.node.Node.{Node}
use Rattle.script.specs.declared.node.Stmt.TheVariants.{Var, Set, If, When, Vendors, Each, Add, Drop, Alter}

abbrev pub index_of : Index → rules.Index
index_of (Number n) = rules.Index.number n
index_of Me = rules.Index.me
index_of (Level level) = rules.Index.index level

abbrev pub mark_of : Mark → rules.Mark rules.Index
mark_of Open = rules.Mark.opened
mark_of (Tag family owner) = rules.Mark.tag_of family (index_of owner)

abbrev pub op_of : Op → rules.Op
op_of Plus = rules.Op.plus
op_of Minus = rules.Op.minus
op_of Min = rules.Op.least
op_of Max = rules.Op.largest
op_of Equal = rules.Op.equal
op_of Less = rules.Op.less

-- The expression at a place, and the block with a number.
abbrev pub expr_at : List rules.Expr → ℕ → rules.Expr
expr_at es at = slice_index_or es at (rules.Expr.literal 0)

abbrev pub block_at : List rules.Code → ℕ → rules.Code
block_at cs at = slice_index_or cs at rules.Code.stop

abbrev pub expr_of : List rules.Expr → Expr → rules.Expr
expr_of es (Literal n) = rules.Expr.literal n
expr_of es Mine = rules.Expr.mine
expr_of es (OfIndex level) = rules.Expr.of_index level
expr_of es (Variable level) = rules.Expr.variable level
expr_of es (Cell level column) = rules.Expr.cell level column
expr_of es (Apply op left right) = rules.Expr.apply (op_of op) (expr_at es left) (expr_at es right)

-- What a statement stands for, before the rest of its block.
abbrev pub stmt_of : List rules.Expr → List rules.Code → Stmt → rules.Code → rules.Code
stmt_of es cs (Var mark) rest = rules.Code.var (mark_of mark) rest
stmt_of es cs (Set place level value) rest = rules.Code.set place level (expr_at es value) rest
stmt_of es cs (If condition first second) rest = rules.Code.if (expr_at es condition) (block_at cs first) (block_at cs second) rest
stmt_of es cs (When left right first second) rest = rules.Code.when (index_of left) (index_of right) (block_at cs first) (block_at cs second) rest
stmt_of es cs (Vendors body) rest = rules.Code.vendors (block_at cs body) rest
stmt_of es cs (Each lot body) rest = rules.Code.each lot.table (index_of lot.owner) (block_at cs body) rest
stmt_of es cs (Add place lot values) rest = rules.Code.add place lot.table (index_of lot.owner) (map (expr_at es) (held values)) rest
stmt_of es cs (Drop place lot condition) rest = rules.Code.drop place lot.table (index_of lot.owner) (expr_at es condition) rest
stmt_of es cs (Alter place lot column value condition) rest =
    rules.Code.alter place lot.table (index_of lot.owner) column (expr_at es value) (expr_at es condition) rest

abbrev pub code_of : List rules.Expr → List rules.Code → Node → rules.Code
code_of es cs node = stmt_of es cs node.stmt (block_at cs node.rest)
