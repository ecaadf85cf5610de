-- What is said of a flow that is not allowed: its statement, its labels, and a valuation at which it breaks its rule.
use Rattle.std.specs.Prelude.{◌≡◌, ℕ, zero, suc, ◌<◌, true, false, ◌⊎◌, List, [], ◌∷◌, ◌++◌, length, ◌==◌, slice_index_or}
use Rattle.inplace.specs.Held.{held as items_of}
use Rattle.lattice.specs.Order.{Order}
use Rattle.rules.specs.Plans.{Plan}
use Rattle.rules.specs.Scripts.{Expr, Code}
use Rattle.rules.specs.Scripts.Expr.{literal}
use Rattle.rules.specs.Scripts.Code.{stop, var, set, if, when, vendors, each, add, drop, alter}
use Rattle.rules.specs.Evaluation.{Valuation, whom, put_index, run_for}
use Rattle.rules.specs.Labels.{Name, Scope, no_names, enter, mark_at, row_label, cell_label, var_label, expr_label}
use Rattle.rules.specs.Labels.Name.{unknown, held, turn, cursor}
use Rattle.rules.specs.Flows.{if_context, each_context}
use Rattle.rules.specs.Judging.{Faulty}
use Rattle.judge.specs.declared.broken.Broken.{Broken}

-- The vendor of a name, where that is an index.
abbrev pub index_vendor : Name → ℕ → List ℕ
index_vendor unknown v = []
index_vendor (held mark) v = []
index_vendor turn v = v ∷ []
index_vendor (cursor table owner) v = []

-- The vendors of the indexes below a level, the oldest first.
abbrev pub indexes_below : Scope → Valuation → ℕ → List ℕ
indexes_below scope val zero = []
indexes_below scope val (suc level) = indexes_below scope val level ++ index_vendor (scope.names level) (val.indexes level)

-- A flow of the statement at a place is the one that is meant: its labels and the valuation are those that are said, and
-- the label that flows is not at or below the other.
pub record Breach (o : Order) (b : Broken) (at : ℕ) (scope : Scope) (val : Valuation) (low high : ℕ) : Type 0 where
  pub place : b.place ≡ at
  pub flowing : b.flowing ≡ low
  pub limit : b.limit ≡ high
  pub me : b.me ≡ val.mine
  pub indexes : items_of b.indexes ≡ indexes_below scope val scope.depth
  pub above : o.below low high ≡ false

-- The flows of each statement.
abbrev pub SetBreaks : Order → Plan → Broken → Scope → Valuation → ℕ → ℕ → ℕ → Expr → Type 0
SetBreaks o plan b scope val context place level e =
    Breach o b place scope val (o.join context (expr_label o plan scope e)) (var_label o scope level)

-- an expression against the label of its cell, in some column
abbrev pub CellBreaks : Order → Plan → Broken → Scope → Valuation → ℕ → ℕ → ℕ → List Expr → Type 0
CellBreaks o plan b scope val place t v es =
    (column : ℕ) × (column < length es)
    × Breach o b place scope val (expr_label o plan scope (slice_index_or es column (literal 0))) (cell_label o plan t v column)

abbrev pub AddBreaks : Order → Plan → Broken → Scope → Valuation → ℕ → ℕ → ℕ → ℕ → List Expr → Type 0
AddBreaks o plan b scope val context place t v es =
    Breach o b place scope val context (row_label o plan t v) ⊎ CellBreaks o plan b scope val place t v es

abbrev pub DropBreaks : Order → Plan → Broken → Scope → Valuation → ℕ → ℕ → ℕ → ℕ → Expr → Type 0
DropBreaks o plan b scope val context place t v condition =
    Breach o b place scope val (o.join context (expr_label o plan (enter scope (cursor t v)) condition)) (row_label o plan t v)

abbrev pub AlterBreaks : Order → Plan → Broken → Scope → Valuation → ℕ → ℕ → ℕ → ℕ → ℕ → Expr → Expr → Type 0
AlterBreaks o plan b scope val context place t v column value condition =
    Breach o b place scope val
    (o.join (o.join context (expr_label o plan (enter scope (cursor t v)) value)) (expr_label o plan (enter scope (cursor t v)) condition))
    (cell_label o plan t v column)

-- The flow that is meant is one of a block's first statement by itself.
abbrev pub BreaksFirst : Order → Plan → Broken → Scope → Valuation → ℕ → Code → Type 0
BreaksFirst o plan b scope val context stop = ⊥
BreaksFirst o plan b scope val context (var mark rest) = ⊥
BreaksFirst o plan b scope val context (set place level e rest) = SetBreaks o plan b scope val context place level e
BreaksFirst o plan b scope val context (if e first second rest) = ⊥
BreaksFirst o plan b scope val context (when i j first second rest) = ⊥
BreaksFirst o plan b scope val context (vendors body rest) = ⊥
BreaksFirst o plan b scope val context (each t i body rest) = ⊥
BreaksFirst o plan b scope val context (add place t i es rest) = AddBreaks o plan b scope val context place t (whom val i) es
BreaksFirst o plan b scope val context (drop place t i condition rest) = DropBreaks o plan b scope val context place t (whom val i) condition
BreaksFirst o plan b scope val context (alter place t i column value condition rest) =
    AlterBreaks o plan b scope val context place t (whom val i) column value condition

-- The flow that is meant is one of a block's statements, at the valuation or at one of those that `vendors` adds to it.
unfoldable pub Breaks : Order → Plan → Broken → Code → Scope → Valuation → ℕ → Type 0
Breaks o plan b stop scope val context = ⊥
Breaks o plan b (var mark rest) scope val context = Breaks o plan b rest (enter scope (held (mark_at val mark))) val context
Breaks o plan b (set place level e rest) scope val context =
    SetBreaks o plan b scope val context place level e ⊎ Breaks o plan b rest scope val context
Breaks o plan b (if e first second rest) scope val context =
    Breaks o plan b first scope val (if_context o plan scope context e)
    ⊎ (Breaks o plan b second scope val (if_context o plan scope context e) ⊎ Breaks o plan b rest scope val context)
Breaks o plan b (when i j first second rest) scope val context =
    (((whom val i == whom val j) ≡ true) × Breaks o plan b first scope val context)
    ⊎ ((((whom val i == whom val j) ≡ false) × Breaks o plan b second scope val context) ⊎ Breaks o plan b rest scope val context)
Breaks o plan b (vendors body rest) scope val context =
    ((v : ℕ) × (v < plan.vendors) × Breaks o plan b body (enter scope turn) (put_index val scope.depth v) context)
    ⊎ Breaks o plan b rest scope val context
Breaks o plan b (each t i body rest) scope val context =
    Breaks o plan b body (enter scope (cursor t (whom val i))) val (each_context o plan context t (whom val i))
    ⊎ Breaks o plan b rest scope val context
Breaks o plan b (add place t i es rest) scope val context =
    AddBreaks o plan b scope val context place t (whom val i) es ⊎ Breaks o plan b rest scope val context
Breaks o plan b (drop place t i condition rest) scope val context =
    DropBreaks o plan b scope val context place t (whom val i) condition ⊎ Breaks o plan b rest scope val context
Breaks o plan b (alter place t i column value condition rest) scope val context =
    AlterBreaks o plan b scope val context place t (whom val i) column value condition ⊎ Breaks o plan b rest scope val context

-- The flow that is meant is one of the blocks inside a block's first statement.
abbrev pub BreaksInside : Order → Plan → Broken → Scope → Valuation → ℕ → Code → Type 0
BreaksInside o plan b scope val context stop = ⊥
BreaksInside o plan b scope val context (var mark rest) = ⊥
BreaksInside o plan b scope val context (set place level e rest) = ⊥
BreaksInside o plan b scope val context (if e first second rest) =
    Breaks o plan b first scope val (if_context o plan scope context e) ⊎ Breaks o plan b second scope val (if_context o plan scope context e)
BreaksInside o plan b scope val context (when i j first second rest) =
    (((whom val i == whom val j) ≡ true) × Breaks o plan b first scope val context)
    ⊎ (((whom val i == whom val j) ≡ false) × Breaks o plan b second scope val context)
BreaksInside o plan b scope val context (vendors body rest) =
    (v : ℕ) × (v < plan.vendors) × Breaks o plan b body (enter scope turn) (put_index val scope.depth v) context
BreaksInside o plan b scope val context (each t i body rest) =
    Breaks o plan b body (enter scope (cursor t (whom val i))) val (each_context o plan context t (whom val i))
BreaksInside o plan b scope val context (add place t i es rest) = ⊥
BreaksInside o plan b scope val context (drop place t i condition rest) = ⊥
BreaksInside o plan b scope val context (alter place t i column value condition rest) = ⊥

-- The flow that is meant is one of what follows a block's first statement.
abbrev pub BreaksBehind : Order → Plan → Broken → Scope → Valuation → ℕ → Code → Type 0
BreaksBehind o plan b scope val context stop = ⊥
BreaksBehind o plan b scope val context (var mark rest) = Breaks o plan b rest (enter scope (held (mark_at val mark))) val context
BreaksBehind o plan b scope val context (set place level e rest) = Breaks o plan b rest scope val context
BreaksBehind o plan b scope val context (if e first second rest) = Breaks o plan b rest scope val context
BreaksBehind o plan b scope val context (when i j first second rest) = Breaks o plan b rest scope val context
BreaksBehind o plan b scope val context (vendors body rest) = Breaks o plan b rest scope val context
BreaksBehind o plan b scope val context (each t i body rest) = Breaks o plan b rest scope val context
BreaksBehind o plan b scope val context (add place t i es rest) = Breaks o plan b rest scope val context
BreaksBehind o plan b scope val context (drop place t i condition rest) = Breaks o plan b rest scope val context
BreaksBehind o plan b scope val context (alter place t i column value condition rest) = Breaks o plan b rest scope val context

-- The flow that is meant is one of the script's, run for the vendor that is said.
abbrev pub Explains : Order → Plan → Code → Broken → Type 0
Explains o plan code b = (b.me < plan.vendors) × Breaks o plan b code no_names (run_for b.me) o.bottom

-- A flow that is meant so is a fault of the script, at the place that is said.
abbrev pub ExplainedFlowsAreFaults : Type 0
ExplainedFlowsAreFaults = (o : Order) (plan : Plan) (code : Code) (b : Broken) → Explains o plan code b → Faulty o plan code b.place
