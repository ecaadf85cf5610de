-- One node more.
use Rattle.std.specs.Prelude.{ℕ, Bool, true, false, ◌&&◌, List, [], ◌∷◌, ◌++◌, length, Some, None, Option, nat_lt}
use Rattle.rules.specs.Scripts as rules
use Rattle.script.specs.declared.node.Expr.{Expr}
use Rattle.script.specs.declared.node.Node.{Node}
use Rattle.script.specs.Ordered.{all_below, parts, stmt_ordered}

-- An expression may be pushed where there is room and what it names stands before it.
abbrev pub expr_room : List rules.Expr → Expr → Bool
expr_room es node = nat_lt (length es) 256 && all_below (length es) (parts node)

-- So may a statement; the empty block is no statement.
abbrev pub stmt_room : List rules.Expr → List rules.Code → Node → Bool
stmt_room es cs node = nat_lt (length cs) 65 && stmt_ordered (length es) (length cs) node

-- A list with one more at its end, if that may be, and the place where it then stands.
abbrev pub pushed : {A : Type 0} → Bool → List A → A → List A
pushed true xs x = xs ++ x ∷ []
pushed false xs x = xs

abbrev pub place_if : Bool → ℕ → Option ℕ
place_if true at = Some at
place_if false at = None
