-- The judge: where a script breaks a flow rule first.
use Rattle.std.specs.Prelude.{◌≡◌, ℕ, zero, suc, ◌<◌, ◌≤◌, min, Bool, true, false, cond, ◌⊎◌, List, [], ◌∷◌, ◌++◌, Some, None, Option, ◌==◌}
use Rattle.std.specs.List.{AllByRecursion}
use Rattle.lattice.specs.Order.{Order}
use Rattle.rules.specs.Plans.{Plan}
use Rattle.rules.specs.Scripts.{Code}
use Rattle.rules.specs.Scripts.Code.{stop, var, set, if, when, vendors, each, add, drop, alter}
use Rattle.rules.specs.Evaluation.{Valuation, whom, put_index, run_for}
use Rattle.rules.specs.Labels.{Scope, no_names, enter, held, turn, cursor, mark_at}
use Rattle.rules.specs.Flows.{Allowed, set_flows, add_flows, drop_flows, alter_flows, if_context, each_context}

-- The fault of a statement at a place: none where its flow is allowed.
abbrev pub flow : ℕ → Bool → Option ℕ
flow place true = None
flow place false = Some place

-- The first of two, in text order.
abbrev pub earlier : Option ℕ → Option ℕ → Option ℕ
earlier (Some p) later = Some p
earlier None later = later

-- The one with the least place.
abbrev pub least_of : Option ℕ → Option ℕ → Option ℕ
least_of None q = q
least_of (Some p) None = Some p
least_of (Some p) (Some q) = Some (min p q)

-- The least over the vendors below a number.
abbrev pub over : (ℕ → Option ℕ) → ℕ → Option ℕ
over f zero = None
over f (suc n) = least_of (over f n) (f n)

-- The first fault of a block at a valuation, in text order; over the turns of `vendors`, the least of theirs.
unfoldable pub verdict : Order → Plan → Code → Scope → Valuation → ℕ → Option ℕ
verdict o plan stop scope val context = None
verdict o plan (var mark rest) scope val context = verdict o plan rest (enter scope (held (mark_at val mark))) val context
verdict o plan (set place level e rest) scope val context =
    earlier (flow place (set_flows o plan scope context level e)) (verdict o plan rest scope val context)
verdict o plan (if e first second rest) scope val context =
    earlier (verdict o plan first scope val (if_context o plan scope context e))
    (earlier (verdict o plan second scope val (if_context o plan scope context e)) (verdict o plan rest scope val context))
verdict o plan (when i j first second rest) scope val context =
    earlier (cond (whom val i == whom val j) (verdict o plan first scope val context) (verdict o plan second scope val context))
    (verdict o plan rest scope val context)
verdict o plan (vendors body rest) scope val context =
    earlier (over (λ v. verdict o plan body (enter scope turn) (put_index val scope.depth v) context) plan.vendors)
    (verdict o plan rest scope val context)
verdict o plan (each t i body rest) scope val context =
    earlier (verdict o plan body (enter scope (cursor t (whom val i))) val (each_context o plan context t (whom val i)))
    (verdict o plan rest scope val context)
verdict o plan (add place t i es rest) scope val context =
    earlier (flow place (add_flows o plan scope context t (whom val i) es)) (verdict o plan rest scope val context)
verdict o plan (drop place t i condition rest) scope val context =
    earlier (flow place (drop_flows o plan scope context t (whom val i) condition)) (verdict o plan rest scope val context)
verdict o plan (alter place t i column value condition rest) scope val context =
    earlier (flow place (alter_flows o plan scope context t (whom val i) column value condition)) (verdict o plan rest scope val context)

-- The verdict on a script: the least place over every vendor that it may run for, with no name in scope and the context
-- at the bottom.
unfoldable pub judge : Order → Plan → Code → Option ℕ
judge o plan code = over (λ v. verdict o plan code no_names (run_for v) o.bottom) plan.vendors

-- Every flow of a script is allowed, whichever vendor it runs for.
abbrev pub Admissible : Order → Plan → Code → Type 0
Admissible o plan code = (v : ℕ) → v < plan.vendors → Allowed o plan code no_names (run_for v) o.bottom

-- A statement at this place breaks its flow rule, at the valuation or at one of those that `vendors` adds to it.
unfoldable pub Fault : Order → Plan → ℕ → Code → Scope → Valuation → ℕ → Type 0
Fault o plan p stop scope val context = ⊥
Fault o plan p (var mark rest) scope val context = Fault o plan p rest (enter scope (held (mark_at val mark))) val context
Fault o plan p (set place level e rest) scope val context =
    ((set_flows o plan scope context level e ≡ false) × (place ≡ p)) ⊎ Fault o plan p rest scope val context
Fault o plan p (if e first second rest) scope val context =
    Fault o plan p first scope val (if_context o plan scope context e)
    ⊎ (Fault o plan p second scope val (if_context o plan scope context e) ⊎ Fault o plan p rest scope val context)
Fault o plan p (when i j first second rest) scope val context =
    (((whom val i == whom val j) ≡ true) × Fault o plan p first scope val context)
    ⊎ ((((whom val i == whom val j) ≡ false) × Fault o plan p second scope val context) ⊎ Fault o plan p rest scope val context)
Fault o plan p (vendors body rest) scope val context =
    ((v : ℕ) × (v < plan.vendors) × Fault o plan p body (enter scope turn) (put_index val scope.depth v) context)
    ⊎ Fault o plan p rest scope val context
Fault o plan p (each t i body rest) scope val context =
    Fault o plan p body (enter scope (cursor t (whom val i))) val (each_context o plan context t (whom val i))
    ⊎ Fault o plan p rest scope val context
Fault o plan p (add place t i es rest) scope val context =
    ((add_flows o plan scope context t (whom val i) es ≡ false) × (place ≡ p)) ⊎ Fault o plan p rest scope val context
Fault o plan p (drop place t i condition rest) scope val context =
    ((drop_flows o plan scope context t (whom val i) condition ≡ false) × (place ≡ p)) ⊎ Fault o plan p rest scope val context
Fault o plan p (alter place t i column value condition rest) scope val context =
    ((alter_flows o plan scope context t (whom val i) column value condition ≡ false) × (place ≡ p)) ⊎ Fault o plan p rest scope val context

-- A statement of the script at this place breaks its flow rule for some vendor.
abbrev pub Faulty : Order → Plan → Code → ℕ → Type 0
Faulty o plan code p = (v : ℕ) × (v < plan.vendors) × Fault o plan p code no_names (run_for v) o.bottom

-- The places of a block's statements, in text order.
unfoldable pub places : Code → List ℕ
places stop = []
places (var mark rest) = places rest
places (set place level e rest) = place ∷ places rest
places (if e first second rest) = places first ++ (places second ++ places rest)
places (when i j first second rest) = places first ++ (places second ++ places rest)
places (vendors body rest) = places body ++ places rest
places (each t i body rest) = places body ++ places rest
places (add place t i es rest) = place ∷ places rest
places (drop place t i condition rest) = place ∷ places rest
places (alter place t i column value condition rest) = place ∷ places rest

abbrev pub Rising : List ℕ → Type 0
Rising [] = Unit {0}
Rising (p ∷ ps) = AllByRecursion (λ q. p ≤ q) ps × Rising ps
