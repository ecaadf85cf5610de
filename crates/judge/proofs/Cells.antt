-- The cells of a row to add, one after the other.
use Rattle.std.proofs.Common.{◌≡◌, ℕ, ◌+◌, ◌<◌, ◌≤◌, Bool, true, ◌&&◌, List, map, length, get_or, drop, sym, ap, ◌∙◌, subst, add-one}
use Rattle.std.proofs.lemmas.List.{at_drop_more, at_drop_all, get_or-map, length-map}
use Rattle.lattice.specs.Order.{Order}
use Rattle.rules.specs.Plans.{Plan}
use Rattle.rules.specs.Scripts as rules
use Rattle.rules.specs.Evaluation.{Valuation}
use Rattle.rules.specs.Labels.{Scope, expr_label, cell_label}
use Rattle.rules.specs.Flows.{cells_flow}
use Rattle.script.specs.Nodes.{expr_at}
use Rattle.judge.specs.declared.broken.Broken.{Broken}
use Rattle.judge.specs.Breaking.{Breach, CellBreaks}

-- A flow between labels that are other terms for the same
breach_at : {o : Order} {place : ℕ} {scope : Scope} {val : Valuation} {a x z y : ℕ} (b : Broken) → a ≡ x → z ≡ y → Breach o b place scope val a z → Breach o b place scope val x y
breach_at {o = o} {place = place} {scope = scope} {val = val} {a = a} {y = y} b p q said =
    let F : ℕ → Type 0 = λ n. Breach o b place scope val n y in
    let G : ℕ → Type 0 = λ n. Breach o b place scope val a n in
    subst F p (subst G q said)

module _ (o : Order) (plan : Plan) (scope : Scope) (t v : ℕ) (es : List rules.Expr) (xs : List ℕ) where
  -- the cells from a column on
  abbrev pub left_flow : ℕ → Bool
  left_flow k = cells_flow o plan scope t v k (map (expr_at es) (drop k xs))

  abbrev pub label_at : ℕ → ℕ
  label_at k = expr_label o plan scope (expr_at es (get_or xs k 0))

  pub cell_more : (k : ℕ) {a z : ℕ} → k < length xs → a ≡ label_at k → z ≡ cell_label o plan t v k → left_flow k ≡ (o.below a z && left_flow (k + 1))
  cell_more k {a = a} {z = z} h p q =
      at_drop_more (λ ys. cells_flow o plan scope t v k (map (expr_at es) ys)) xs k 0 h
      ∙ ap (λ n. o.below (label_at k) (cell_label o plan t v k) && cells_flow o plan scope t v n (map (expr_at es) (drop (k + 1) xs))) (sym (add-one k))
      ∙ sym (λ i. o.below (p i) (q i) && left_flow (k + 1))

  pub cell_none : (k : ℕ) → length xs ≤ k → left_flow k ≡ true
  cell_none k h = at_drop_all (λ ys. cells_flow o plan scope t v k (map (expr_at es) ys)) xs k h

  -- the cell at a column is the one that breaks its rule
  pub cell_breaks : (val : Valuation) (place k : ℕ) {a z : ℕ} (b : Broken) → k < length xs → a ≡ label_at k → z ≡ cell_label o plan t v k
      → Breach o b place scope val a z → CellBreaks o plan b scope val place t v (map (expr_at es) xs)
  cell_breaks val place k b h p q said = (
    k,
    rw (length-map xs (expr_at es)) h,
    breach_at b (p ∙ ap (expr_label o plan scope) (sym (get_or-map (expr_at es) xs k 0 (rules.Expr.literal 0) h))) q said,
  )
