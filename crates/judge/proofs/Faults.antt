-- A broken flow is a fault of the rules.
use Rattle.std.proofs.Common.{◌≡◌, ℕ, zero, suc, ◌+◌, ◌<◌, Bool, true, false, ◌&&◌, List, [], ◌∷◌, length, get_or, sym, refl, ap, ◌∙◌, inl, inr, arith}
use Rattle.lattice.specs.Order.{Order}
use Rattle.rules.specs.Plans.{Plan}
use Rattle.rules.specs.Scripts.{Expr, Code}
use Rattle.rules.specs.Scripts.Expr.{literal}
use Rattle.rules.specs.Scripts.Code.{stop, var, set, if, when, vendors, each, add, drop, alter}
use Rattle.rules.specs.Evaluation.{Valuation, whom, put_index}
use Rattle.rules.specs.Labels.{Scope, enter, held, turn, cursor, mark_at, cell_label, expr_label}
use Rattle.rules.specs.Flows.{cells_flow, add_flows, if_context, each_context}
use Rattle.rules.specs.Judging.{Fault}
use Rattle.judge.specs.declared.broken.Broken.{Broken}
use Rattle.judge.specs.Breaking.{AddBreaks, Breaks, ExplainedFlowsAreFaults}

and_false : (x : Bool) {y : Bool} → y ≡ false → (x && y) ≡ false
and_false true e = e
and_false false e = refl

module _ (o : Order) (plan : Plan) where
  -- one cell decides
  cell_decides : (scope : Scope) (t v k : ℕ) (es : List Expr) (column : ℕ) → column < length es
      → o.below (expr_label o plan scope (get_or es column (literal 0))) (cell_label o plan t v (k + column)) ≡ false → cells_flow o plan scope t v k es ≡ false
  cell_decides scope t v k [] column h e = absurd (omega arith)
  cell_decides scope t v k (x ∷ es) zero h e =
      let same : k + 0 ≡ k = omega arith in
      ap (λ z. z && cells_flow o plan scope t v (suc k) es) (ap (λ z. o.below (expr_label o plan scope x) (cell_label o plan t v z)) (sym same) ∙ e)
  cell_decides scope t v k (x ∷ es) (suc column) h e =
      let same : suc k + column ≡ k + suc column = omega arith in
      let less : column < length es = omega arith in
      and_false (o.below (expr_label o plan scope x) (cell_label o plan t v k))
      (cell_decides scope t v (suc k) es column less (ap (λ z. o.below (expr_label o plan scope (get_or es column (literal 0))) (cell_label o plan t v z)) same ∙ e))

  add_decides : (b : Broken) (scope : Scope) (val : Valuation) (context place t v : ℕ) (es : List Expr) → AddBreaks o plan b scope val context place t v es
      → (add_flows o plan scope context t v es ≡ false) × (place ≡ b.place)
  add_decides b scope val context place t v es (inl said) = (ap (λ z. z && cells_flow o plan scope t v 0 es) said.above, sym said.place)
  add_decides b scope val context place t v es (inr said) =
      let column = said.0 in
      let same : 0 + column ≡ column = omega arith in (
        and_false _ (cell_decides scope t v 0 es column said.1 (ap (λ z. o.below (expr_label o plan scope (get_or es column (literal 0))) (cell_label o plan t v z)) same ∙ said.2.above)),
        sym said.2.place,
      )

  faults : (b : Broken) (code : Code) (scope : Scope) (val : Valuation) (context : ℕ) → Breaks o plan b code scope val context → Fault o plan b.place code scope val context
  unfolding Breaks Fault
  faults b stop scope val context said = said
  faults b (var mark rest) scope val context said = faults b rest (enter scope (held (mark_at val mark))) val context said
  faults b (set place level e rest) scope val context (inl said) = inl (said.above, sym said.place)
  faults b (set place level e rest) scope val context (inr said) = inr (faults b rest scope val context said)
  faults b (if e first second rest) scope val context (inl said) = inl (faults b first scope val (if_context o plan scope context e) said)
  faults b (if e first second rest) scope val context (inr (inl said)) = inr (inl (faults b second scope val (if_context o plan scope context e) said))
  faults b (if e first second rest) scope val context (inr (inr said)) = inr (inr (faults b rest scope val context said))
  faults b (when i j first second rest) scope val context (inl said) = inl (said.0, faults b first scope val context said.1)
  faults b (when i j first second rest) scope val context (inr (inl said)) = inr (inl (said.0, faults b second scope val context said.1))
  faults b (when i j first second rest) scope val context (inr (inr said)) = inr (inr (faults b rest scope val context said))
  faults b (vendors body rest) scope val context (inl said) =
      inl (said.0, said.1, faults b body (enter scope turn) (put_index val scope.depth said.0) context said.2)
  faults b (vendors body rest) scope val context (inr said) = inr (faults b rest scope val context said)
  faults b (each t i body rest) scope val context (inl said) =
      inl (faults b body (enter scope (cursor t (whom val i))) val (each_context o plan context t (whom val i)) said)
  faults b (each t i body rest) scope val context (inr said) = inr (faults b rest scope val context said)
  faults b (add place t i es rest) scope val context (inl said) = inl (add_decides b scope val context place t (whom val i) es said)
  faults b (add place t i es rest) scope val context (inr said) = inr (faults b rest scope val context said)
  faults b (drop place t i condition rest) scope val context (inl said) = inl (said.above, sym said.place)
  faults b (drop place t i condition rest) scope val context (inr said) = inr (faults b rest scope val context said)
  faults b (alter place t i column value condition rest) scope val context (inl said) = inl (said.above, sym said.place)
  faults b (alter place t i column value condition rest) scope val context (inr said) = inr (faults b rest scope val context said)

pub explained : ExplainedFlowsAreFaults
explained o plan code b said = (b.me, said.0, faults o plan b code _ _ _ said.1)
