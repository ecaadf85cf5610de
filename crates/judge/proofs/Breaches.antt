-- A broken flow of a part of a block is one of the block.
use Rattle.std.proofs.Common.{◌≡◌, ℕ, ◌<◌, Option, None, Some, sym, refl, subst, inl, inr}
use Rattle.lattice.specs.Order.{Order}
use Rattle.rules.specs.Plans.{Plan}
use Rattle.rules.specs.Scripts as rules
use Rattle.rules.specs.Scripts.Code.{stop, var, set, if, when, vendors, each, add, drop, alter}
use Rattle.rules.specs.Evaluation.{Valuation, whom, put_index, run_for}
use Rattle.rules.specs.Labels.{Scope, no_names, enter, held, turn, cursor, mark_at}
use Rattle.rules.specs.Flows.{if_context, each_context}
use Rattle.judge.specs.declared.broken.Broken.{Broken}
use Rattle.judge.specs.Verdicts.{Of}
use Rattle.judge.specs.Breaking.{BreaksFirst, BreaksInside, BreaksBehind, Breaks, Explains}

-- names, valuation and context in other terms
pub moved : (o : Order) (plan : Plan) (code : rules.Code) {s s' : Scope} {v v' : Valuation} {l l' : ℕ} (b : Broken) → s ≡ s' → v ≡ v' → l ≡ l'
    → Breaks o plan b code s v l → Breaks o plan b code s' v' l'
moved o plan code {s = s} {s' = s'} {v = v} {v' = v'} {l = l} {l' = l'} b p q r said =
    let F : Scope → Type 0 = λ z. Breaks o plan b code z v' l' in
    let G : Valuation → Type 0 = λ z. Breaks o plan b code s z l' in
    let H : ℕ → Type 0 = λ z. Breaks o plan b code s v z in
    subst F p (subst G q (subst H r said))

-- What follows of a flow is said of it where it is told.
of_more : (told : Option Broken) (P Q : Broken → Type 0) → ((b : Broken) → P b → Q b) → Of told P → Of told Q
of_more None P Q more said = said
of_more (Some b) P Q more said = more b said

module _ (o : Order) (plan : Plan) (scope : Scope) (val : Valuation) (label : ℕ) where
  abbrev At : rules.Code → Broken → Type 0
  At code b = Breaks o plan b code scope val label

  pub own : (b : Broken) (code : rules.Code) → BreaksFirst o plan b scope val label code → At code b
  unfolding Breaks
  own b stop said = said
  own b (var mark rest) said = absurd said
  own b (set place level e rest) said = inl said
  own b (if e first second rest) said = absurd said
  own b (when i j first second rest) said = absurd said
  own b (vendors body rest) said = absurd said
  own b (each t i body rest) said = absurd said
  own b (add place t i es rest) said = inl said
  own b (drop place t i condition rest) said = inl said
  own b (alter place t i column value condition rest) said = inl said

  pub inside : (b : Broken) (code : rules.Code) → BreaksInside o plan b scope val label code → At code b
  unfolding Breaks
  inside b stop said = said
  inside b (var mark rest) said = absurd said
  inside b (set place level e rest) said = absurd said
  inside b (if e first second rest) (inl said) = inl said
  inside b (if e first second rest) (inr said) = inr (inl said)
  inside b (when i j first second rest) (inl said) = inl said
  inside b (when i j first second rest) (inr said) = inr (inl said)
  inside b (vendors body rest) said = inl said
  inside b (each t i body rest) said = inl said
  inside b (add place t i es rest) said = absurd said
  inside b (drop place t i condition rest) said = absurd said
  inside b (alter place t i column value condition rest) said = absurd said

  pub behind : (b : Broken) (code : rules.Code) → BreaksBehind o plan b scope val label code → At code b
  unfolding Breaks
  behind b stop said = said
  behind b (var mark rest) said = said
  behind b (set place level e rest) said = inr said
  behind b (if e first second rest) said = inr (inr said)
  behind b (when i j first second rest) said = inr (inr said)
  behind b (vendors body rest) said = inr said
  behind b (each t i body rest) said = inr said
  behind b (add place t i es rest) said = inr said
  behind b (drop place t i condition rest) said = inr said
  behind b (alter place t i column value condition rest) said = inr said

  pub own_told : (told : Option Broken) (code : rules.Code) → Of told (λ b. BreaksFirst o plan b scope val label code) → Of told (At code)
  own_told told code said = of_more told (λ b. BreaksFirst o plan b scope val label code) (At code) (λ b s. own b code s) said

  pub inside_told : (told : Option Broken) (code : rules.Code) → Of told (λ b. BreaksInside o plan b scope val label code) → Of told (At code)
  inside_told told code said = of_more told (λ b. BreaksInside o plan b scope val label code) (At code) (λ b s. inside b code s) said

  pub behind_told : (told : Option Broken) (code : rules.Code) → Of told (λ b. BreaksBehind o plan b scope val label code) → Of told (At code)
  behind_told told code said = of_more told (λ b. BreaksBehind o plan b scope val label code) (At code) (λ b s. behind b code s) said

module _ (o : Order) (plan : Plan) (b : Broken) where
  -- the vendor that is said is the one that the script runs for
  runs_for : (code : rules.Code) (scope : Scope) (val : Valuation) (label : ℕ) → Breaks o plan b code scope val label → b.me ≡ val.mine
  unfolding Breaks
  runs_for stop scope val label said = absurd said
  runs_for (var mark rest) scope val label said = runs_for rest (enter scope (held (mark_at val mark))) val label said
  runs_for (set place level e rest) scope val label (inl said) = said.me
  runs_for (set place level e rest) scope val label (inr said) = runs_for rest scope val label said
  runs_for (if e first second rest) scope val label (inl said) = runs_for first scope val (if_context o plan scope label e) said
  runs_for (if e first second rest) scope val label (inr (inl said)) = runs_for second scope val (if_context o plan scope label e) said
  runs_for (if e first second rest) scope val label (inr (inr said)) = runs_for rest scope val label said
  runs_for (when i j first second rest) scope val label (inl said) = runs_for first scope val label said.1
  runs_for (when i j first second rest) scope val label (inr (inl said)) = runs_for second scope val label said.1
  runs_for (when i j first second rest) scope val label (inr (inr said)) = runs_for rest scope val label said
  runs_for (vendors body rest) scope val label (inl said) = runs_for body (enter scope turn) (put_index val scope.depth said.0) label said.2
  runs_for (vendors body rest) scope val label (inr said) = runs_for rest scope val label said
  runs_for (each t i body rest) scope val label (inl said) =
      runs_for body (enter scope (cursor t (whom val i))) val (each_context o plan label t (whom val i)) said
  runs_for (each t i body rest) scope val label (inr said) = runs_for rest scope val label said
  runs_for (add place t i es rest) scope val label (inl (inl said)) = said.me
  runs_for (add place t i es rest) scope val label (inl (inr said)) = said.2.me
  runs_for (add place t i es rest) scope val label (inr said) = runs_for rest scope val label said
  runs_for (drop place t i condition rest) scope val label (inl said) = said.me
  runs_for (drop place t i condition rest) scope val label (inr said) = runs_for rest scope val label said
  runs_for (alter place t i column value condition rest) scope val label (inl said) = said.me
  runs_for (alter place t i column value condition rest) scope val label (inr said) = runs_for rest scope val label said

  pub explained_for : (code : rules.Code) (k l : ℕ) → k < plan.vendors → l ≡ o.bottom → Breaks o plan b code no_names (run_for k) l → Explains o plan code b
  explained_for code k l h e said =
      let same : b.me ≡ k = runs_for code no_names (run_for k) l said in
      let F : ℕ → Type 0 = λ z. (z < plan.vendors) × Breaks o plan b code no_names (run_for z) o.bottom in
      subst F (sym same) (h, moved o plan code b refl refl e said)
