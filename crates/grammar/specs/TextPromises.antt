-- The promises about benches whose scripts come as texts: nothing about the reading is left open.
use Rattle.std.specs.Prelude.{◌≡◌, ℕ, ◌≤◌, true, List, [], ◌∷◌, Some, Ok, codes}
use Rattle.std.specs.List.{AllByRecursion}
use Rattle.lattice.specs.Order.{Order, Laws}
use Rattle.lattice.specs.Built.{compartments, contributors, grades}
use Rattle.rules.specs.declared.refusal.Refusal.TheVariants.{FlowNotAllowed, WrittenInEach}
use Rattle.rules.specs.declared.answer.Answer.{Answer}
use Rattle.rules.specs.declared.answer.Answer.TheVariants.{Done, Figure, Cell, Rows, Steps, Refused}
use Rattle.rules.specs.Plans.{Plan, sound}
use Rattle.rules.specs.Scripts.{Code}
use Rattle.rules.specs.Judging.{judge, Faulty}
use Rattle.rules.specs.Admission.{Admission, admission}
use Rattle.rules.specs.Calls.{Call, new_bench, answers, after_calls}
use Rattle.rules.specs.Calls.Call.{post, admit, run, look, count, meter}
use Rattle.rules.specs.Agreement.{Agree, heard}
use Rattle.rules.specs.Keeping.{KeptLot, CallWords}
use Rattle.rules.specs.Promises.{Meter}
use Rattle.rules.specs.Examples.{small_plan, single_plan}
use Rattle.grammar.specs.Reading.{reading}

-- What becomes of a text on a bench.
abbrev pub admits : Order → Plan → Admission
admits o plan = admission o reading plan

-- Two lists of calls that agree at s, each played on a new bench of one plan, give those who hear at s the same answers.
abbrev pub TwoBenchesOfTexts : Type 0
TwoBenchesOfTexts =
    (o : Order) → Laws o → (plan : Plan) (s : ℕ) (left right : List Call) → Agree o plan s left right
    → heard o (admits o plan) plan s new_bench left ≡ heard o (admits o plan) plan s new_bench right

-- The meter is 0 before the first accepted run, and from each accepted run on its steps, at most the figure it answered.
abbrev pub MeterOfTexts : Type 0
MeterOfTexts = (o : Order) (plan : Plan) → Meter o (admits o plan) plan

-- After any list of calls every lot is within its length and its columns, and every number in it fits 32 bits.
abbrev pub LotsKeptUnderTexts : Type 0
LotsKeptUnderTexts =
    (o : Order) (plan : Plan) → sound plan ≡ true → (calls : List Call) → AllByRecursion CallWords calls
    → (t v : ℕ) → KeptLot plan t v ((after_calls o (admits o plan) plan new_bench calls).lots t v)

-- The place that a refused flow brings is that of the earliest statement in the text with a flow that is not allowed.
abbrev pub FirstFaultOfAText : Type 0
FirstFaultOfAText =
    (o : Order) (plan : Plan) → sound plan ≡ true → (text : List ℕ) (code : Code) → reading plan text ≡ Ok code
    → (p : ℕ) → judge o plan code ≡ Some p → Faulty o plan code p × ((q : ℕ) → Faulty o plan code q → p ≤ q)

-- The answers of a list of calls on a new bench.
abbrev pub play : Order → Plan → List Call → List Answer
play o plan calls = answers o (admits o plan) plan new_bench calls

abbrev pub count_mine : List ℕ
count_mine = codes "var n at 1[me]; each r in @0[me] { set n = (n + 1); } add @1[me] (n);"

abbrev pub count_all : List ℕ
count_all = codes "var n at 1[me]; vendors v { each r in @0[v] { set n = (n + 1); } } add @1[me] (n);"

abbrev pub count_guarded : List ℕ
count_guarded = codes "var n at 1[me]; vendors v { when v = me { each r in @0[v] { set n = (n + 1); } } } add @1[me] (n);"

abbrev pub drop_twos : List ℕ
drop_twos = codes "drop r in @0[me] where (r.1 = 2);"

abbrev pub drop_inside : List ℕ
drop_inside = codes "each r in @0[me] { drop q in @0[0] where 1; }"

abbrev pub three_posts : List Call → List Call
three_posts calls = post 0 1 (7 ∷ 7 ∷ []) ∷ post 0 1 (8 ∷ 8 ∷ []) ∷ post 0 1 (9 ∷ 9 ∷ []) ∷ calls

-- The worked cases, from the text on.
pub record WorkedTexts : Type 0 where
  pub nothing : play compartments small_plan (admit 0 [] ∷ []) ≡ Figure 0 ∷ []
  pub mine : play compartments small_plan (three_posts (admit 0 count_mine ∷ run 0 1 ∷ meter 256 ∷ look 65 1 1 0 0 ∷ []))
      ≡ Done ∷ Done ∷ Done ∷ Figure 11 ∷ Figure 11 ∷ Steps 9 ∷ Cell 3 ∷ []
  pub mine_thrice : play compartments small_plan (three_posts (admit 0 count_mine ∷ run 0 1 ∷ run 0 1 ∷ run 0 1 ∷ count 65 1 1 ∷ []))
      ≡ Done ∷ Done ∷ Done ∷ Figure 11 ∷ Figure 11 ∷ Figure 11 ∷ Figure 11 ∷ Rows 2 1 ∷ []
  pub all : play compartments small_plan (admit 0 count_all ∷ []) ≡ Refused (FlowNotAllowed 46) ∷ []
  pub all_single : play compartments single_plan (admit 0 count_all ∷ []) ≡ Figure 13 ∷ []
  pub all_grades : play grades small_plan (admit 0 count_all ∷ []) ≡ Figure 33 ∷ []
  pub guarded : play compartments small_plan (admit 0 count_guarded ∷ []) ≡ Figure 36 ∷ []
  pub twos : play compartments small_plan (admit 0 drop_twos ∷ []) ≡ Refused (FlowNotAllowed 0) ∷ []
  pub twos_contributors : play contributors small_plan (admit 0 drop_twos ∷ []) ≡ Figure 5 ∷ []
  pub inside : play compartments small_plan (admit 0 drop_inside ∷ []) ≡ Refused (WrittenInEach 30) ∷ []
