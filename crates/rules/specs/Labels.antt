-- The labels of rows, cells, variables and expressions, at a valuation.
use Rattle.std.specs.Prelude.{ℕ, suc, cond, nat_lt, slice_index}
use Rattle.lattice.specs.Order.{Order}
use Rattle.rules.specs.Plans.{Plan}
use Rattle.rules.specs.Scripts.{Index, Mark, Expr}
use Rattle.rules.specs.Scripts.Mark.{opened, tag_of}
use Rattle.rules.specs.Scripts.Expr.{literal, mine, of_index, variable, cell, apply}
use Rattle.rules.specs.Lots.{table_at, upd}
use Rattle.rules.specs.Evaluation.{Valuation, whom}

abbrev pub row_label : Order → Plan → ℕ → ℕ → ℕ
row_label o plan t v = o.tag (table_at plan t).row v

abbrev pub cell_label : Order → Plan → ℕ → ℕ → ℕ → ℕ
cell_label o plan t v column = o.join (row_label o plan t v) (o.tag (slice_index (table_at plan t).columns column) v)

-- What a name in scope is, with the families and vendors that it names worked out.
pub data Name : Type 0 where
  unknown : Name
  held : Mark ℕ → Name
  turn : Name
  cursor : ℕ → ℕ → Name

-- The names in scope, by level.
pub record Scope : Type 0 where
  pub depth : ℕ
  pub names : ℕ → Name

abbrev pub no_names : Scope
no_names = record { depth = 0; names = λ _. unknown }

abbrev pub enter : Scope → Name → Scope
enter scope name = record { depth = suc scope.depth; names = upd scope.names scope.depth name }

abbrev pub name_at : Scope → ℕ → Name
name_at scope level = cond (nat_lt level scope.depth) (scope.names level) unknown

abbrev pub mark_at : Valuation → Mark Index → Mark ℕ
mark_at val opened = opened
mark_at val (tag_of f i) = tag_of f (whom val i)

abbrev pub mark_label : Order → Mark ℕ → ℕ
mark_label o opened = o.bottom
mark_label o (tag_of f v) = o.tag f v

-- A variable has its own label. A name that is no variable has the top, so that nothing rests on the names being right.
abbrev pub held_label : Order → Name → ℕ
held_label o unknown = o.top
held_label o (held mark) = mark_label o mark
held_label o turn = o.top
held_label o (cursor t v) = o.top

abbrev pub var_label : Order → Scope → ℕ → ℕ
var_label o scope level = held_label o (name_at scope level)

-- A cursor's column has its cell's label; a name that is no cursor has the top.
abbrev pub column_label : Order → Plan → Name → ℕ → ℕ
column_label o plan unknown column = o.top
column_label o plan (held mark) column = o.top
column_label o plan turn column = o.top
column_label o plan (cursor t v) column = cell_label o plan t v column

abbrev pub cursor_label : Order → Plan → Scope → ℕ → ℕ → ℕ
cursor_label o plan scope level column = column_label o plan (name_at scope level) column

-- The label of an expression: the join over its atoms; numbers, `me` and indexes have the bottom.
unfoldable pub expr_label : Order → Plan → Scope → Expr → ℕ
expr_label o plan scope (literal n) = o.bottom
expr_label o plan scope mine = o.bottom
expr_label o plan scope (of_index level) = o.bottom
expr_label o plan scope (variable level) = var_label o scope level
expr_label o plan scope (cell level column) = cursor_label o plan scope level column
expr_label o plan scope (apply op a b) = o.join (expr_label o plan scope a) (expr_label o plan scope b)
