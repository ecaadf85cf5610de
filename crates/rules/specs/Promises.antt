-- What is promised of these rules, each statement as a type. Its proof stands on the contract of a function.
use Rattle.std.specs.Prelude.{◌≡◌, ℕ, ◌≤◌, true, false, List, ◌∷◌, ◌++◌, Some, None, ◌≢◌}
use Rattle.std.specs.List.{AllByRecursion}
use Rattle.rules.specs.declared.refusal.Refusal.{Refusal}
use Rattle.rules.specs.declared.answer.Answer.TheVariants.{Figure, Refused}
use Rattle.lattice.specs.Order.{Order, Laws}
use Rattle.rules.specs.Plans.{Plan, sound}
use Rattle.rules.specs.Scripts.{Code}
use Rattle.rules.specs.Evaluation.{Valuation, Cursors, State, exec}
use Rattle.rules.specs.Labels.{Scope}
use Rattle.rules.specs.Flows.{Allowed}
use Rattle.rules.specs.Judging.{judge, Admissible, Faulty, places, Rising}
use Rattle.rules.specs.Admission.{Reading, Admission, admission}
use Rattle.rules.specs.Calls.{Bench, new_bench, Call, reply, step, after_calls}
use Rattle.rules.specs.Calls.Call.{post, admit, run, look, count, meter}
use Rattle.rules.specs.Reasons.{Reason}
use Rattle.rules.specs.Metering.{no_run, run_steps}
use Rattle.rules.specs.Keeping.{KeptLot, Fitting, CallWords}
use Rattle.rules.specs.Agreement.{Agree, heard}
use Rattle.rules.specs.Sight.{Same, SameCursors}

-- An allowed block in a context that is not seen changes nothing that is seen.
abbrev pub Confinement : Type 0
Confinement =
    (o : Order) → Laws o → (plan : Plan) (s : ℕ) (code : Code) (scope : Scope) (val : Valuation) (context : ℕ) (cursors : Cursors) (st : State)
    → o.label context ≡ true → o.below context s ≡ false → Allowed o plan code scope val context
    → Same o plan s scope st (exec plan code scope.depth val cursors st)

-- An allowed block from two states that look the same at s ends in two that do.
abbrev pub Lockstep : Type 0
Lockstep =
    (o : Order) → Laws o → (plan : Plan) (s : ℕ) (code : Code) (scope : Scope) (val : Valuation) (context : ℕ) (left right : Cursors) (a b : State)
    → o.label context ≡ true → Allowed o plan code scope val context
    → SameCursors o plan s scope left right → Same o plan s scope a b
    → Same o plan s scope (exec plan code scope.depth val left a) (exec plan code scope.depth val right b)

-- The judge finds no fault exactly where every flow is allowed, for every vendor that the script may run for. A fault that
-- it finds is one, and the first of all in the text where the places of the statements rise, as they do in a text.
pub record Exact (o : Order) (plan : Plan) (code : Code) : Type 0 where
  pub clean : judge o plan code ≡ None → Admissible o plan code
  pub passes : Admissible o plan code → judge o plan code ≡ None
  pub fault : (p : ℕ) → judge o plan code ≡ Some p → Faulty o plan code p
  pub least : Rising (places code) → (p : ℕ) → judge o plan code ≡ Some p → (q : ℕ) → Faulty o plan code q → p ≤ q

abbrev pub JudgeIsExact : Type 0
JudgeIsExact = (o : Order) (plan : Plan) (code : Code) → Exact o plan code

-- The promise: two lists of calls that agree at s, each played on a new bench of one plan, give those who hear at s the
-- same answers in the same order. It holds of every lawful lattice, every plan and every way in which texts are read.
abbrev pub TwoBenches : Type 0
TwoBenches =
    (o : Order) → Laws o → (read : Reading) (plan : Plan) (s : ℕ) (left right : List Call) → Agree o plan s left right
    → heard o (admission o read plan) plan s new_bench left ≡ heard o (admission o read plan) plan s new_bench right

-- The meter along a list of calls: 0 before the first accepted run; from each accepted run to the next one or the end it is
-- the steps of that run, and these are at most the figure that the run answered.
pub record Meter (o : Order) (admits : Admission) (plan : Plan) : Type 0 where
  pub before : (calls : List Call) → no_run o admits plan new_bench calls ≡ true → (after_calls o admits plan new_bench calls).meter ≡ 0
  pub since : (earlier later : List Call) (slot v figure : ℕ)
      → reply o admits plan (after_calls o admits plan new_bench earlier) (run slot v) ≡ Figure figure
      → no_run o admits plan (step o admits plan (after_calls o admits plan new_bench earlier) (run slot v)) later ≡ true
      → (after_calls o admits plan new_bench (earlier ++ run slot v ∷ later)).meter ≡ run_steps plan (after_calls o admits plan new_bench earlier) slot v
  pub within : (earlier : List Call) (slot v figure : ℕ)
      → reply o admits plan (after_calls o admits plan new_bench earlier) (run slot v) ≡ Figure figure
      → run_steps plan (after_calls o admits plan new_bench earlier) slot v ≤ figure

abbrev pub Metered : Type 0
Metered = (o : Order) (read : Reading) (plan : Plan) → Meter o (admission o read plan) plan

-- What a call leaves alone: a refused call and a read leave the whole bench, a post all but one lot, an admission all but
-- one slot, a run the slots.
pub record Frame (o : Order) (admits : Admission) (plan : Plan) (bench : Bench) : Type 0 where
  pub refused : (call : Call) (why : Refusal) → reply o admits plan bench call ≡ Refused why → step o admits plan bench call ≡ bench
  pub looked : (clearance t v place column : ℕ) → step o admits plan bench (look clearance t v place column) ≡ bench
  pub counted : (clearance t v : ℕ) → step o admits plan bench (count clearance t v) ≡ bench
  pub metered : (clearance : ℕ) → step o admits plan bench (meter clearance) ≡ bench
  pub post_lots : (t v : ℕ) (values : List ℕ) (u w : ℕ) → (u ≡ t → w ≢ v) → (step o admits plan bench (post t v values)).lots u w ≡ bench.lots u w
  pub post_slots : (t v : ℕ) (values : List ℕ) → (step o admits plan bench (post t v values)).slots ≡ bench.slots
  pub post_meter : (t v : ℕ) (values : List ℕ) → (step o admits plan bench (post t v values)).meter ≡ bench.meter
  pub admit_lots : (slot : ℕ) (text : List ℕ) → (step o admits plan bench (admit slot text)).lots ≡ bench.lots
  pub admit_slots : (slot : ℕ) (text : List ℕ) (k : ℕ) → (k ≢ slot) → (step o admits plan bench (admit slot text)).slots k ≡ bench.slots k
  pub admit_meter : (slot : ℕ) (text : List ℕ) → (step o admits plan bench (admit slot text)).meter ≡ bench.meter
  pub run_slots : (slot v : ℕ) → (step o admits plan bench (run slot v)).slots ≡ bench.slots

abbrev pub Frames : Type 0
Frames = (o : Order) (admits : Admission) (plan : Plan) (bench : Bench) → Frame o admits plan bench

-- A call is sent back with a number exactly when that number's condition holds and no earlier one of that call does.
abbrev pub Why : Type 0
Why =
    (o : Order) (read : Reading) (plan : Plan) (bench : Bench) (call : Call) (why : Refusal)
    → (reply o (admission o read plan) plan bench call ≡ Refused why → Reason o read plan bench call why)
    × (Reason o read plan bench call why → reply o (admission o read plan) plan bench call ≡ Refused why)

-- After any list of calls every lot is kept.
abbrev pub Kept : Type 0
Kept =
    (o : Order) (read : Reading) (plan : Plan) → sound plan ≡ true → Fitting plan read
    → (calls : List Call) → AllByRecursion CallWords calls → (t v : ℕ) → KeptLot plan t v ((after_calls o (admission o read plan) plan new_bench calls).lots t v)
