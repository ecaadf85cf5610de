-- Which flows are allowed: the rule of each statement, at one valuation.
use Rattle.std.specs.Prelude.{◌≡◌, ℕ, suc, ◌<◌, Bool, true, false, ◌&&◌, List, [], ◌∷◌, ◌==◌}
use Rattle.lattice.specs.Order.{Order}
use Rattle.rules.specs.Plans.{Plan}
use Rattle.rules.specs.Scripts.{Expr, Code}
use Rattle.rules.specs.Scripts.Code.{stop, var, set, if, when, vendors, each, add, drop, alter}
use Rattle.rules.specs.Evaluation.{Valuation, whom, put_index}
use Rattle.rules.specs.Labels.{Scope, enter, held, turn, cursor, mark_at, row_label, cell_label, var_label, expr_label}

-- `set`: context and expression at or below the variable's label.
abbrev pub set_flows : Order → Plan → Scope → ℕ → ℕ → Expr → Bool
set_flows o plan scope context level e = o.below (o.join context (expr_label o plan scope e)) (var_label o scope level)

-- each expression at or below the label of its cell, from a column on
abbrev pub cells_flow : Order → Plan → Scope → ℕ → ℕ → ℕ → List Expr → Bool
cells_flow o plan scope t v column [] = true
cells_flow o plan scope t v column (e ∷ es) =
    o.below (expr_label o plan scope e) (cell_label o plan t v column) && cells_flow o plan scope t v (suc column) es

-- `add`: the context at or below the row label, and each expression at or below its cell's.
abbrev pub add_flows : Order → Plan → Scope → ℕ → ℕ → ℕ → List Expr → Bool
add_flows o plan scope context t v es = o.below context (row_label o plan t v) && cells_flow o plan scope t v 0 es

-- `drop`: context and condition at or below the row label.
abbrev pub drop_flows : Order → Plan → Scope → ℕ → ℕ → ℕ → Expr → Bool
drop_flows o plan scope context t v condition =
    o.below (o.join context (expr_label o plan (enter scope (cursor t v)) condition)) (row_label o plan t v)

-- `alter`: context, value and condition at or below the cell's label.
abbrev pub alter_flows : Order → Plan → Scope → ℕ → ℕ → ℕ → ℕ → Expr → Expr → Bool
alter_flows o plan scope context t v column value condition =
    o.below (o.join (o.join context (expr_label o plan (enter scope (cursor t v)) value)) (expr_label o plan (enter scope (cursor t v)) condition))
    (cell_label o plan t v column)

-- The context of the blocks of `if`: raised by the condition.
abbrev pub if_context : Order → Plan → Scope → ℕ → Expr → ℕ
if_context o plan scope context e = o.join context (expr_label o plan scope e)

-- The context of the block of `each`: raised by the label of the lot's rows.
abbrev pub each_context : Order → Plan → ℕ → ℕ → ℕ → ℕ
each_context o plan context t v = o.join context (row_label o plan t v)

-- Every flow of a block is allowed at a valuation. The first block of `when` counts only where its indexes are equal, the
-- second only where they differ; the block of `vendors` counts at every vendor. Behind a block the context is what it was.
unfoldable pub Allowed : Order → Plan → Code → Scope → Valuation → ℕ → Type 0
Allowed o plan stop scope val context = Unit {0}
Allowed o plan (var mark rest) scope val context = Allowed o plan rest (enter scope (held (mark_at val mark))) val context
Allowed o plan (set place level e rest) scope val context =
    (set_flows o plan scope context level e ≡ true) × Allowed o plan rest scope val context
Allowed o plan (if e first second rest) scope val context =
    Allowed o plan first scope val (if_context o plan scope context e)
    × Allowed o plan second scope val (if_context o plan scope context e)
    × Allowed o plan rest scope val context
Allowed o plan (when i j first second rest) scope val context =
    ((whom val i == whom val j) ≡ true → Allowed o plan first scope val context)
    × ((whom val i == whom val j) ≡ false → Allowed o plan second scope val context)
    × Allowed o plan rest scope val context
Allowed o plan (vendors body rest) scope val context =
    ((v : ℕ) → v < plan.vendors → Allowed o plan body (enter scope turn) (put_index val scope.depth v) context)
    × Allowed o plan rest scope val context
Allowed o plan (each t i body rest) scope val context =
    Allowed o plan body (enter scope (cursor t (whom val i))) val (each_context o plan context t (whom val i))
    × Allowed o plan rest scope val context
Allowed o plan (add place t i es rest) scope val context =
    (add_flows o plan scope context t (whom val i) es ≡ true) × Allowed o plan rest scope val context
Allowed o plan (drop place t i condition rest) scope val context =
    (drop_flows o plan scope context t (whom val i) condition ≡ true) × Allowed o plan rest scope val context
Allowed o plan (alter place t i column value condition rest) scope val context =
    (alter_flows o plan scope context t (whom val i) column value condition ≡ true) × Allowed o plan rest scope val context
