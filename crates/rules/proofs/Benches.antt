-- A call over plain values: its checks and what it does, what an admission gives, and what every bench keeps.
use Rattle.std.proofs.Common.{◌≡◌, ℕ, ◌≤◌, Bool, true, false, cond, eqb, List, [], ◌∷◌, length, is_some, Some, None, Ok, Err, Option, Result, refl, arith}
use Rattle.std.specs.List.{AllByRecursion}
use Rattle.std.proofs.lemmas.Bool.{both_ways, ltb-false, leb-false}
use Rattle.rules.specs.declared.refusal.Refusal.{Refusal}
use Rattle.lattice.specs.Order.{Order}
use Rattle.rules.specs.Guards.{Check, guard, sift, and_then}
use Rattle.rules.specs.Plans.{Plan}
use Rattle.rules.specs.Scripts.{Code}
use Rattle.rules.specs.Lots.{Lots, InRoom, room, upd}
use Rattle.rules.specs.Evaluation.{ran, run_for}
use Rattle.rules.specs.Figures.{figure}
use Rattle.rules.specs.Judging.{judge, Admissible}
use Rattle.rules.specs.Admission.{Script, Reading, script_checks, admit_code, admission}
use Rattle.rules.specs.Calls.{Bench, new_bench, Call, checks, effect, outcome, step, bench_of, after_calls, hold, script_in, script_of}
use Rattle.rules.specs.Calls.Call.{post, admit, run, look, count, meter}
use Rattle.rules.proofs.Judged.{judge_is_exact}
use Rattle.rules.proofs.StepBound.{Within, within_figure, put_in_room}

-- what holds of every refusal, and of the rest where no check holds, holds of the whole
pub sifted : {A : Type 0} (P : Result A Refusal → Type 0) (cs : List Check) (rest : Result A Refusal)
    → ((why : Refusal) → P (Err why)) → (AllByRecursion (λ c. c.holds ≡ false) cs → P rest) → P (sift cs rest)
sifted {A} P [] rest refused passed = passed tt
sifted {A} P (c ∷ cs) rest refused passed = go c.holds refl (λ e. sifted P cs rest refused (λ all. passed (e, all)))
  where
    go : (b : Bool) → c.holds ≡ b → (c.holds ≡ false → P (sift cs rest)) → P (guard b c.why (sift cs rest))
    go true e k = refused c.why
    go false e k = k e

-- a call that is not sent back passed its checks, and did what it does
pub record Passed {A : Type 0} (cs : List Check) (rest : Result A Refusal) (x : A) : Type 0 where
  pub all : AllByRecursion (λ c. c.holds ≡ false) cs
  pub is : rest ≡ Ok x

pub passed : {A : Type 0} (cs : List Check) (rest : Result A Refusal) (x : A) → sift cs rest ≡ Ok x → Passed cs rest x
passed {A} cs rest x = sifted (λ r. r ≡ Ok x → Passed cs rest x) cs rest
    (λ why e. absurd (let z : ◌≡◌ {A = ℕ} 0 1 = cc in omega arith))
    (λ all e. record { all = all; is = e })

-- what an admitted script is
pub record Admitted (o : Order) (read : Reading) (plan : Plan) (text : List ℕ) (script : Script) : Type 0 where
  pub is_read : read plan text ≡ Ok script.code
  pub no_fault : judge o plan script.code ≡ None
  pub its_figure : script.figure ≡ figure plan script.code
  pub small : script.figure ≤ 1000000

no_fault_none : (x : Option ℕ) → is_some x ≡ false → x ≡ None
no_fault_none None e = refl
no_fault_none (Some p) e = absurd (both_ways true e refl)

pub admitted : (o : Order) (read : Reading) (plan : Plan) (text : List ℕ) (script : Script) → admission o read plan text ≡ Ok script
    → Admitted o read plan text script
unfolding admission
admitted o read plan text script = go (read plan text) refl
  where
    go : (r : Result Code Refusal) → read plan text ≡ r
        → and_then r (admit_code o plan (length text)) ≡ Ok script
        → Admitted o read plan text script
    go (Err why) e h = absurd (let z : ◌≡◌ {A = ℕ} 0 1 = cc in omega arith)
    go (Ok code) e h =
        let p = passed (script_checks o plan (length text) code) (Ok (record { code = code; figure = figure plan code })) script h in
        let is : script ≡ record { code = code; figure = figure plan code } = cc p.is in
        rw is (record {
          is_read = e;
          no_fault = no_fault_none (judge o plan code) p.all.0;
          its_figure = refl;
          small = ltb-false 1000000 (figure plan code) p.all.1.0;
        })

-- a fact of the script that a slot holds, if it holds one
abbrev pub Held : (Script → Type 0) → Option Script → Type 0
Held P (Some script) = P script
Held P None = Unit {0}

pub held_upd : (P : Script → Type 0) (slots : ℕ → Option Script) (slot : ℕ) (script : Script) → ((k : ℕ) → Held P (slots k)) → P script
    → (k : ℕ) → Held P (upd slots slot (Some script) k)
held_upd P slots slot script h p k = go (eqb k slot)
  where
    go : (b : Bool) → Held P (cond b (Some script) (slots k))
    go true = p
    go false = h k

-- what every bench keeps: no lot outgrows its room, and each script in a slot was judged and has its figure
pub record JudgedScript (o : Order) (plan : Plan) (script : Script) : Type 0 where
  pub allowed : Admissible o plan script.code
  pub its_figure : script.figure ≡ figure plan script.code

pub record Orderly (o : Order) (plan : Plan) (bench : Bench) : Type 0 where
  pub rooms : InRoom plan bench.lots
  pub scripts : (slot : ℕ) → Held (JudgedScript o plan) (bench.slots slot)

pub new_orderly : (o : Order) (plan : Plan) → Orderly o plan new_bench
new_orderly o plan = record { rooms = λ t v. omega arith; scripts = λ slot. tt }

-- the figure of what a slot holds, an empty one too
pub slot_figure : (o : Order) (plan : Plan) (bench : Bench) (slot : ℕ) → Orderly o plan bench → (script_in bench slot).figure ≡ figure plan (script_in bench slot).code
unfolding figure
slot_figure o plan bench slot h = go (bench.slots slot) (h.scripts slot)
  where
    go : (x : Option Script) → Held (JudgedScript o plan) x → (script_of x).figure ≡ figure plan (script_of x).code
    go (Some script) p = p.its_figure
    go None p = refl

pub ran_within : (plan : Plan) (code : Code) (v : ℕ) (lots : Lots) → InRoom plan lots
    → Within plan (figure plan code) (record { vars = λ _. 0; lots = lots; steps = 0 }) (ran plan code v lots)
unfolding ran
ran_within plan code v lots r = within_figure plan code 0 (run_for v) (λ _. []) (record { vars = λ _. 0; lots = lots; steps = 0 }) r

module _ (o : Order) (read : Reading) (plan : Plan) where
  pub orderly_step : (bench : Bench) (call : Call) → Orderly o plan bench → Orderly o plan (step o (admission o read plan) plan bench call)
  unfolding outcome
  orderly_step bench call h = sifted (λ r. Orderly o plan (bench_of bench r)) (checks o plan bench call) (effect (admission o read plan) plan bench call) (λ why. h) (go call)
    where
      go : (c : Call) → AllByRecursion (λ k. k.holds ≡ false) (checks o plan bench c) → Orderly o plan (bench_of bench (effect (admission o read plan) plan bench c))
      go (post t v values) p = record {
        rooms = put_in_room plan bench.lots t v _ h.rooms (omega (arith, leb-false (room plan t v) (length (bench.lots t v).rows) p.1.1.1.0));
        scripts = h.scripts;
      }
      go (admit slot text) p = taken (admission o read plan text) refl
        where
          taken : (r : Result Script Refusal) → admission o read plan text ≡ r
              → Orderly o plan (bench_of bench (and_then r (hold bench slot)))
          taken (Err why) e = h
          taken (Ok script) e =
              let a = admitted o read plan text script e in
              record {
                rooms = h.rooms;
                scripts = held_upd (JudgedScript o plan) bench.slots slot script h.scripts
                    (record { allowed = (judge_is_exact o plan script.code).clean a.no_fault; its_figure = a.its_figure });
              }
      go (run slot v) p = record { rooms = (ran_within plan (script_in bench slot).code v bench.lots h.rooms).rooms; scripts = h.scripts }
      go (look clearance t v place column) p = h
      go (count clearance t v) p = h
      go (meter clearance) p = h

  pub orderly_after : (calls : List Call) (bench : Bench) → Orderly o plan bench → Orderly o plan (after_calls o (admission o read plan) plan bench calls)
  orderly_after [] bench h = h
  orderly_after (c ∷ cs) bench h = orderly_after cs (step o (admission o read plan) plan bench c) (orderly_step bench c h)
