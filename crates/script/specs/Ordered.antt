-- Parts stand before what they are part of.
use Rattle.std.specs.Prelude.{ℕ, suc, Bool, true, ◌&&◌, List, [], ◌∷◌, nat_lt}
use Rattle.inplace.specs.Held.{held}
use Rattle.script.specs.declared.node.Expr.{Expr}
use Rattle.script.specs.declared.node.Expr.TheVariants.{Literal, Mine, OfIndex, Variable, Cell, Apply}
use Rattle.script.specs.declared.node.Node.{Node}
use Rattle.script.specs.declared.node.Stmt.{Stmt}
use Rattle.script.specs.declared.node.Stmt.TheVariants.{Var, Set, If, When, Vendors, Each, Add, Drop, Alter}

-- All numbers of a list are below n.
abbrev pub all_below : ℕ → List ℕ → Bool
all_below n [] = true
all_below n (k ∷ ks) = nat_lt k n && all_below n ks

-- The expressions that a node names, and the blocks.
abbrev pub parts : Expr → List ℕ
parts (Literal n) = []
parts Mine = []
parts (OfIndex level) = []
parts (Variable level) = []
parts (Cell level column) = []
parts (Apply op left right) = left ∷ right ∷ []

abbrev pub named_exprs : Stmt → List ℕ
named_exprs (Var mark) = []
named_exprs (Set place level value) = value ∷ []
named_exprs (If condition first second) = condition ∷ []
named_exprs (When left right first second) = []
named_exprs (Vendors body) = []
named_exprs (Each lot body) = []
named_exprs (Add place lot values) = held values
named_exprs (Drop place lot condition) = condition ∷ []
named_exprs (Alter place lot column value condition) = value ∷ condition ∷ []

abbrev pub inner_blocks : Stmt → List ℕ
inner_blocks (Var mark) = []
inner_blocks (Set place level value) = []
inner_blocks (If condition first second) = first ∷ second ∷ []
inner_blocks (When left right first second) = first ∷ second ∷ []
inner_blocks (Vendors body) = body ∷ []
inner_blocks (Each lot body) = body ∷ []
inner_blocks (Add place lot values) = []
inner_blocks (Drop place lot condition) = []
inner_blocks (Alter place lot column value condition) = []

-- A statement names only expressions below `top` and blocks below n.
abbrev pub names_below : ℕ → ℕ → Stmt → Bool
names_below top n s = all_below top (named_exprs s) && all_below n (inner_blocks s)

-- What a node names: its statement's, and the rest of its block.
abbrev pub exprs_in : Node → List ℕ
exprs_in node = named_exprs node.stmt

abbrev pub blocks_in : Node → List ℕ
blocks_in node = node.rest ∷ inner_blocks node.stmt

-- The expression at place n names only expressions before it, and so on.
abbrev pub exprs_ordered : ℕ → List Expr → Bool
exprs_ordered n [] = true
exprs_ordered n (e ∷ es) = all_below n (parts e) && exprs_ordered (suc n) es

-- The statement of block n names only blocks before it and expressions below `top`, and so on.
abbrev pub stmt_ordered : ℕ → ℕ → Node → Bool
stmt_ordered top n s = all_below top (exprs_in s) && all_below n (blocks_in s)

abbrev pub stmts_ordered : ℕ → ℕ → List Node → Bool
stmts_ordered top n [] = true
stmts_ordered top n (s ∷ ss) = stmt_ordered top n s && stmts_ordered top (suc n) ss
