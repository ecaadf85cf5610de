-- The meter along any list of calls.
use Rattle.std.proofs.Common.{◌≡◌, ℕ, ◌≤◌, true, false, not, List, [], ◌∷◌, ◌++◌, is_ok, Ok, Err, Result, refl, ap, ◌∙◌, arith}
use Rattle.std.proofs.lemmas.Bool.{both_ways, and_parts, not-true}
use Rattle.rules.specs.declared.refusal.Refusal.{Refusal}
use Rattle.rules.specs.declared.answer.Answer.TheVariants.{Figure}
use Rattle.lattice.specs.Order.{Order}
use Rattle.rules.specs.Guards.{and_then}
use Rattle.rules.specs.Plans.{Plan}
use Rattle.rules.specs.Admission.{Script, Admission, admission}
use Rattle.rules.specs.Calls.{Bench, new_bench, Call, Move, checks, effect, outcome, reply, step, reply_of, bench_of, after_calls, hold, after_run, script_in}
use Rattle.rules.specs.Calls.Call.{post, admit, run, look, count, meter}
use Rattle.rules.specs.Metering.{accepted_run, no_run, run_steps}
use Rattle.rules.specs.Promises.{Metered}
use Rattle.rules.proofs.Benches.{sifted, new_orderly, orderly_after, slot_figure, ran_within}

-- a refused call leaves the bench
refused_step : (bench : Bench) (r : Result Move Refusal) → is_ok r ≡ false → bench_of bench r ≡ bench
refused_step bench (Ok move) e = absurd (both_ways true e refl)
refused_step bench (Err why) e = refl

module _ (o : Order) (admits : Admission) (plan : Plan) where
  -- an admission leaves the meter, whatever becomes of the text
  admit_meter : (bench : Bench) (slot : ℕ) (r : Result Script Refusal)
      → (bench_of bench (and_then r (hold bench slot))).meter ≡ bench.meter
  admit_meter bench slot (Ok script) = refl
  admit_meter bench slot (Err why) = refl

  quiet_step : (bench : Bench) (call : Call) → accepted_run o admits plan bench call ≡ false → (step o admits plan bench call).meter ≡ bench.meter
  unfolding outcome
  quiet_step bench (post t v values) e =
      sifted (λ r. (bench_of bench r).meter ≡ bench.meter) (checks o plan bench (post t v values)) _ (λ why. refl) (λ p. refl)
  quiet_step bench (admit slot text) e =
      sifted (λ r. (bench_of bench r).meter ≡ bench.meter) (checks o plan bench (admit slot text)) (effect admits plan bench (admit slot text)) (λ why. refl)
      (λ p. admit_meter bench slot (admits text))
  quiet_step bench (run slot v) e = ap (λ b. b.meter) (refused_step bench (outcome o admits plan bench (run slot v)) e)
  quiet_step bench (look clearance t v place column) e =
      sifted (λ r. (bench_of bench r).meter ≡ bench.meter) (checks o plan bench (look clearance t v place column)) _ (λ why. refl) (λ p. refl)
  quiet_step bench (count clearance t v) e =
      sifted (λ r. (bench_of bench r).meter ≡ bench.meter) (checks o plan bench (count clearance t v)) _ (λ why. refl) (λ p. refl)
  quiet_step bench (meter clearance) e =
      sifted (λ r. (bench_of bench r).meter ≡ bench.meter) (checks o plan bench (meter clearance)) _ (λ why. refl) (λ p. refl)

  quiet_calls : (calls : List Call) (bench : Bench) → no_run o admits plan bench calls ≡ true → (after_calls o admits plan bench calls).meter ≡ bench.meter
  quiet_calls [] bench e = refl
  quiet_calls (c ∷ cs) bench e =
      let p = and_parts (not (accepted_run o admits plan bench c)) _ e in
      quiet_calls cs (step o admits plan bench c) p.1 ∙ quiet_step bench c (not-true _ p.0)

  after_append : (xs ys : List Call) (bench : Bench) → after_calls o admits plan bench (xs ++ ys) ≡ after_calls o admits plan (after_calls o admits plan bench xs) ys
  after_append [] ys bench = refl
  after_append (x ∷ xs) ys bench = after_append xs ys (step o admits plan bench x)

  -- an accepted run: the bench that it leaves, and the figure that it answers
  run_taken : (bench : Bench) (slot v f : ℕ) → reply o admits plan bench (run slot v) ≡ Figure f
      → (step o admits plan bench (run slot v) ≡ after_run plan bench slot v) × ((script_in bench slot).figure ≡ f)
  unfolding outcome
  run_taken bench slot v f = sifted
      (λ r. reply_of r ≡ Figure f → (bench_of bench r ≡ after_run plan bench slot v) × ((script_in bench slot).figure ≡ f))
      (checks o plan bench (run slot v)) (effect admits plan bench (run slot v))
      (λ why e. absurd (let z : ◌≡◌ {A = ℕ} 0 1 = cc in omega arith))
      (λ p e. (refl, cc))

pub metered : Metered
metered o read plan = record { before = before; since = since; within = within }
  where
    admits : Admission
    admits = admission o read plan

    before : (calls : List Call) → no_run o admits plan new_bench calls ≡ true → (after_calls o admits plan new_bench calls).meter ≡ 0
    before calls e = quiet_calls o admits plan calls new_bench e

    since : (earlier later : List Call) (slot v f : ℕ)
        → reply o admits plan (after_calls o admits plan new_bench earlier) (run slot v) ≡ Figure f
        → no_run o admits plan (step o admits plan (after_calls o admits plan new_bench earlier) (run slot v)) later ≡ true
        → (after_calls o admits plan new_bench (earlier ++ run slot v ∷ later)).meter ≡ run_steps plan (after_calls o admits plan new_bench earlier) slot v
    since earlier later slot v f e q =
        let here : Bench = after_calls o admits plan new_bench earlier in
        ap (λ b. b.meter) (after_append o admits plan earlier (run slot v ∷ later) new_bench)
        ∙ quiet_calls o admits plan later (step o admits plan here (run slot v)) q
        ∙ ap (λ b. b.meter) (run_taken o admits plan here slot v f e).0

    within : (earlier : List Call) (slot v f : ℕ)
        → reply o admits plan (after_calls o admits plan new_bench earlier) (run slot v) ≡ Figure f
        → run_steps plan (after_calls o admits plan new_bench earlier) slot v ≤ f
    within earlier slot v f e =
        let here : Bench = after_calls o admits plan new_bench earlier in
        let h = orderly_after o read plan earlier new_bench (new_orderly o plan) in
        let bound = (ran_within plan (script_in here slot).code v here.lots h.rooms).bound in
        let is = slot_figure o plan here slot h in
        let answered = (run_taken o admits plan here slot v f e).1 in
        omega arith
