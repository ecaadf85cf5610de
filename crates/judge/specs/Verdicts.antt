-- What a judged block answers: the part of its first statement by itself, of the blocks inside it, and of what follows.
use Rattle.std.specs.Prelude.{ℕ, cond, Some, None, Ok, Err, Option, Result, ◌==◌}
use Rattle.lattice.specs.Order.{Order}
use Rattle.rules.specs.Plans.{Plan}
use Rattle.rules.specs.Scripts.{Code}
use Rattle.rules.specs.Scripts.Code.{stop, var, set, if, when, vendors, each, add, drop, alter}
use Rattle.rules.specs.Evaluation.{Valuation, whom, put_index}
use Rattle.rules.specs.Labels.{Scope, enter, held, turn, cursor, mark_at}
use Rattle.rules.specs.Flows.{set_flows, add_flows, drop_flows, alter_flows, if_context, each_context}
use Rattle.rules.specs.Judging.{flow, earlier, over, verdict}
use Rattle.judge.specs.declared.broken.Broken.{Broken}

-- The fault that was found, if any, and its place.
abbrev pub told : Result (Unit {0}) Broken → Option Broken
told (Ok done) = None
told (Err broken) = Some broken

abbrev pub place_in : Option Broken → Option ℕ
place_in None = None
place_in (Some broken) = Some broken.place

abbrev pub found : Result (Unit {0}) Broken → Option ℕ
found r = place_in (told r)

-- The same of any report of a fault, from which its place is read, and the whole of it, where that is told.
abbrev pub told_by : {R : Type 0} → (R → Option Broken) → Result (Unit {0}) R → Option Broken
told_by whole (Ok done) = None
told_by whole (Err report) = whole report

abbrev pub found_by : {R : Type 0} → (R → ℕ) → Result (Unit {0}) R → Option ℕ
found_by place (Ok done) = None
found_by place (Err report) = Some (place report)

-- What holds of a fault, where there is one.
abbrev pub Of : Option Broken → (Broken → Type 0) → Type 0
Of None P = Unit {0}
Of (Some broken) P = P broken

-- The fault of a block's first statement by itself, apart from its own blocks and from the rest.
abbrev pub own_fault : Order → Plan → Scope → Valuation → ℕ → Code → Option ℕ
own_fault o plan scope val context stop = None
own_fault o plan scope val context (var mark rest) = None
own_fault o plan scope val context (set place level e rest) = flow place (set_flows o plan scope context level e)
own_fault o plan scope val context (if e first second rest) = None
own_fault o plan scope val context (when i j first second rest) = None
own_fault o plan scope val context (vendors body rest) = None
own_fault o plan scope val context (each t i body rest) = None
own_fault o plan scope val context (add place t i es rest) = flow place (add_flows o plan scope context t (whom val i) es)
own_fault o plan scope val context (drop place t i condition rest) = flow place (drop_flows o plan scope context t (whom val i) condition)
own_fault o plan scope val context (alter place t i column value condition rest) =
    flow place (alter_flows o plan scope context t (whom val i) column value condition)

-- The verdict on the blocks inside a block's first statement.
abbrev pub inner_verdict : Order → Plan → Scope → Valuation → ℕ → Code → Option ℕ
inner_verdict o plan scope val context stop = None
inner_verdict o plan scope val context (var mark rest) = None
inner_verdict o plan scope val context (set place level e rest) = None
inner_verdict o plan scope val context (if e first second rest) =
    earlier (verdict o plan first scope val (if_context o plan scope context e)) (verdict o plan second scope val (if_context o plan scope context e))
inner_verdict o plan scope val context (when i j first second rest) =
    cond (whom val i == whom val j) (verdict o plan first scope val context) (verdict o plan second scope val context)
inner_verdict o plan scope val context (vendors body rest) =
    over (λ v. verdict o plan body (enter scope turn) (put_index val scope.depth v) context) plan.vendors
inner_verdict o plan scope val context (each t i body rest) =
    verdict o plan body (enter scope (cursor t (whom val i))) val (each_context o plan context t (whom val i))
inner_verdict o plan scope val context (add place t i es rest) = None
inner_verdict o plan scope val context (drop place t i condition rest) = None
inner_verdict o plan scope val context (alter place t i column value condition rest) = None

-- The verdict on what follows a block's first statement.
abbrev pub rest_verdict : Order → Plan → Scope → Valuation → ℕ → Code → Option ℕ
rest_verdict o plan scope val context stop = None
rest_verdict o plan scope val context (var mark rest) = verdict o plan rest (enter scope (held (mark_at val mark))) val context
rest_verdict o plan scope val context (set place level e rest) = verdict o plan rest scope val context
rest_verdict o plan scope val context (if e first second rest) = verdict o plan rest scope val context
rest_verdict o plan scope val context (when i j first second rest) = verdict o plan rest scope val context
rest_verdict o plan scope val context (vendors body rest) = verdict o plan rest scope val context
rest_verdict o plan scope val context (each t i body rest) = verdict o plan rest scope val context
rest_verdict o plan scope val context (add place t i es rest) = verdict o plan rest scope val context
rest_verdict o plan scope val context (drop place t i condition rest) = verdict o plan rest scope val context
rest_verdict o plan scope val context (alter place t i column value condition rest) = verdict o plan rest scope val context
