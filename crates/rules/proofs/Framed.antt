-- What each call leaves alone.
use Rattle.std.proofs.Common.{◌≡◌, ℕ, Bool, true, false, cond, ◌&&◌, eqb, Some, Ok, Err, Result, refl, arith}
use Rattle.std.proofs.lemmas.Bool.Decides.{nat_tests}
use Rattle.rules.specs.declared.refusal.Refusal.{Refusal}
use Rattle.rules.specs.declared.answer.Answer.TheVariants.{Refused}
use Rattle.lattice.specs.Order.{Order}
use Rattle.rules.specs.Guards.{and_then}
use Rattle.rules.specs.Plans.{Plan}
use Rattle.rules.specs.Lots.{Lot, Lots, upd, put_lot}
use Rattle.rules.specs.Admission.{Script, Admission}
use Rattle.rules.specs.Calls.{Bench, Call, checks, effect, outcome, step, reply_of, bench_of, with_script, hold}
use Rattle.rules.specs.Calls.Call.{post, admit, run, look, count, meter}
use Rattle.rules.specs.Promises.{Frames}
use Rattle.rules.proofs.Benches.{sifted}

put_apart : (lots : Lots) (t v : ℕ) (lot : Lot) (u w : ℕ) → (u ≡ t → w ≡ v → ⊥) → put_lot lots t v lot u w ≡ lots u w
put_apart lots t v lot u w h = go (eqb u t && eqb w v) refl
  where
    go : (b : Bool) → (eqb u t && eqb w v) ≡ b → cond b lot (lots u w) ≡ lots u w
    go true e =
        let t_is : u ≡ t = grind (arith, nat_tests) in
        let v_is : w ≡ v = grind (arith, nat_tests) in
        absurd (h t_is v_is)
    go false e = refl

upd_apart : {A : Type 0} (f : ℕ → A) (k : ℕ) (x : A) (j : ℕ) → (j ≡ k → ⊥) → upd f k x j ≡ f j
upd_apart f k x j h = grind (arith, nat_tests)

-- no call answers with a refusal where it does what it does
never : (admits : Admission) (plan : Plan) (bench : Bench) (call : Call) (why : Refusal) → reply_of (effect admits plan bench call) ≡ Refused why
    → bench_of bench (effect admits plan bench call) ≡ bench
never admits plan bench (post t v values) why e = absurd (let z : ◌≡◌ {A = ℕ} 0 1 = cc in omega arith)
never admits plan bench (admit slot text) why e = go (admits text) e
  where
    go : (r : Result Script Refusal) → reply_of (and_then r (hold bench slot)) ≡ Refused why
        → bench_of bench (and_then r (hold bench slot)) ≡ bench
    go (Ok script) e = absurd (let z : ◌≡◌ {A = ℕ} 0 1 = cc in omega arith)
    go (Err w) e = refl
never admits plan bench (run slot v) why e = absurd (let z : ◌≡◌ {A = ℕ} 0 1 = cc in omega arith)
never admits plan bench (look clearance t v place column) why e = refl
never admits plan bench (count clearance t v) why e = refl
never admits plan bench (meter clearance) why e = refl

admitting : {X : Type 0} (f : Bench → X) (bench : Bench) (slot : ℕ) → ((script : Script) → f (with_script bench slot script) ≡ f bench) → (r : Result Script Refusal)
    → f (bench_of bench (and_then r (hold bench slot))) ≡ f bench
admitting f bench slot h (Ok script) = h script
admitting f bench slot h (Err why) = refl

-- what the effect of a call leaves, the call leaves
left : {X : Type 0} (f : Bench → X) (o : Order) (admits : Admission) (plan : Plan) (bench : Bench) (call : Call)
    → f (bench_of bench (effect admits plan bench call)) ≡ f bench → f (step o admits plan bench call) ≡ f bench
unfolding outcome
left f o admits plan bench call h =
    sifted (λ r. f (bench_of bench r) ≡ f bench) (checks o plan bench call) (effect admits plan bench call) (λ why. refl) (λ p. h)

pub frames : Frames
unfolding outcome
frames o admits plan bench = record {
  refused = λ call why. sifted (λ r. reply_of r ≡ Refused why → bench_of bench r ≡ bench) (checks o plan bench call) (effect admits plan bench call)
      (λ w e. refl) (λ p e. never admits plan bench call why e);
  looked = λ clearance t v place column. left (λ b. b) o admits plan bench (look clearance t v place column) refl;
  counted = λ clearance t v. left (λ b. b) o admits plan bench (count clearance t v) refl;
  metered = λ clearance. left (λ b. b) o admits plan bench (meter clearance) refl;
  post_lots = λ t v values u w h. left (λ b. b.lots u w) o admits plan bench (post t v values) (put_apart bench.lots t v _ u w h);
  post_slots = λ t v values. left (λ b. b.slots) o admits plan bench (post t v values) refl;
  post_meter = λ t v values. left (λ b. b.meter) o admits plan bench (post t v values) refl;
  admit_lots = λ slot text. left (λ b. b.lots) o admits plan bench (admit slot text) (admitting (λ b. b.lots) bench slot (λ script. refl) (admits text));
  admit_slots = λ slot text k h. left (λ b. b.slots k) o admits plan bench (admit slot text)
      (admitting (λ b. b.slots k) bench slot (λ script. upd_apart bench.slots slot (Some script) k h) (admits text));
  admit_meter = λ slot text. left (λ b. b.meter) o admits plan bench (admit slot text) (admitting (λ b. b.meter) bench slot (λ script. refl) (admits text));
  run_slots = λ slot v. left (λ b. b.slots) o admits plan bench (run slot v) refl;
}
