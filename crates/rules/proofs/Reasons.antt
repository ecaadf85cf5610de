-- Why a call is sent back: its checks decide its conditions, and the first that holds is its answer.
use Rattle.std.proofs.Common.{◌≡◌, ℕ, ◌<◌, ◌≤◌, Bool, true, false, not, ltb, leb, ◌⊎◌, List, [], ◌∷◌, length, is_some, Some, None, Ok, Err, Decides, Option, Result, sym, refl, ap, ◌∙◌, inl, inr, arith}
use Rattle.std.specs.List.{AllByRecursion}
use Rattle.std.proofs.lemmas.Bool.{leb-true, le-leb, not-true, not_from_false, false≢true, true≢false}
use Rattle.std.proofs.lemmas.Bool.Decides.{Decides-eqb, Decides-not, Decides-ltb, not_from_Decides}
use Rattle.rules.specs.declared.refusal.Refusal.{Refusal}
use Rattle.rules.specs.declared.refusal.Refusal.TheVariants.{FlowNotAllowed, FigureTooHigh}
use Rattle.rules.specs.declared.answer.Answer.TheVariants.{Refused}
use Rattle.lattice.specs.Order.{Order}
use Rattle.rules.specs.Guards.{Check, guard, sift, and_then}
use Rattle.rules.specs.Plans.{Plan}
use Rattle.rules.specs.Scripts.{Code}
use Rattle.rules.specs.Figures.{figure}
use Rattle.rules.specs.Judging.{judge}
use Rattle.rules.specs.Admission.{Script, Reading, Admission, admission, admit_code, script_checks, place_of}
use Rattle.rules.specs.Calls.{Bench, Call, checks, effect, outcome, reply, reply_of, hold}
use Rattle.rules.specs.Calls.Call.{post, admit, run, look, count, meter}
use Rattle.rules.specs.Reasons.{Ground, grounds, Due, NoGround, Unadmitted, TextWrong, Reason}
use Rattle.rules.specs.Promises.{Why}
use Rattle.rules.proofs.Benches.{sifted}

-- The first of the checks whose condition holds has this refusal.
abbrev pub First : List Check → Refusal → Type 0
First [] why = ⊥
First (c ∷ cs) why = ((c.holds ≡ true) × (c.why ≡ why)) ⊎ ((c.holds ≡ false) × First cs why)

-- None of the checks holds.
abbrev pub Clear : List Check → Type 0
Clear cs = AllByRecursion (λ c. c.holds ≡ false) cs

-- a chain of checks gives this error: one of them is the first that holds, or none does and the rest gives it
pub sift_why : {A : Type 0} (cs : List Check) (rest : Result A Refusal) (why : Refusal) → sift cs rest ≡ Err why → First cs why ⊎ (Clear cs × (rest ≡ Err why))
sift_why [] rest why e = inr (tt, e)
sift_why {A} (c ∷ cs) rest why e = go c.holds refl e (λ k. sift_why cs rest why k)
  where
    later : c.holds ≡ false → First cs why ⊎ (Clear cs × (rest ≡ Err why)) → First (c ∷ cs) why ⊎ (Clear (c ∷ cs) × (rest ≡ Err why))
    later h (inl f) = inl (inr (h, f))
    later h (inr p) = inr ((h, p.0), p.1)

    go : (b : Bool) → c.holds ≡ b → guard b c.why (sift cs rest) ≡ Err why
        → (sift cs rest ≡ Err why → First cs why ⊎ (Clear cs × (rest ≡ Err why))) → First (c ∷ cs) why ⊎ (Clear (c ∷ cs) × (rest ≡ Err why))
    go true h k ih = inl (inl (h, cc))
    go false h k ih = later h (ih k)

pub sift_first : {A : Type 0} (cs : List Check) (rest : Result A Refusal) (why : Refusal) → First cs why → sift cs rest ≡ Err why
sift_first [] rest why f = absurd f
sift_first (c ∷ cs) rest why (inl h) = rw (h.0, h.1) refl
sift_first (c ∷ cs) rest why (inr h) = rw h.0 (sift_first cs rest why h.1)

pub sift_rest : {A : Type 0} (cs : List Check) (rest : Result A Refusal) → Clear cs → sift cs rest ≡ rest
sift_rest [] rest h = refl
sift_rest (c ∷ cs) rest h = rw h.0 (sift_rest cs rest h.1)

-- each check decides the condition beside it
abbrev Decided : List Check → List Ground → Type 0
Decided [] [] = Unit {0}
Decided [] (g ∷ gs) = ⊥
Decided (c ∷ cs) [] = ⊥
Decided (c ∷ cs) (g ∷ gs) = Decides c.holds g.when × (c.why ≡ g.why) × Decided cs gs

due : (cs : List Check) (gs : List Ground) (why : Refusal) → Decided cs gs → First cs why → Due gs why
due [] [] why d f = absurd f
due [] (g ∷ gs) why d f = absurd f
due (c ∷ cs) [] why d f = absurd d
due (c ∷ cs) (g ∷ gs) why d (inl h) = inl (d.0.0 h.0, sym d.1 ∙ h.1)
due (c ∷ cs) (g ∷ gs) why d (inr h) = inr (not_from_Decides c.holds d.0 h.0, due cs gs why d.2 h.1)

not_held : (b : Bool) (P : Type 0) → Decides b P → (P → ⊥) → b ≡ false
not_held true P d h = absurd (h (d.0 refl))
not_held false P d h = refl

first : (cs : List Check) (gs : List Ground) (why : Refusal) → Decided cs gs → Due gs why → First cs why
first [] [] why d f = absurd f
first [] (g ∷ gs) why d f = absurd d
first (c ∷ cs) [] why d f = absurd f
first (c ∷ cs) (g ∷ gs) why d (inl h) = inl (d.0.1 h.0, d.1 ∙ h.1)
first (c ∷ cs) (g ∷ gs) why d (inr h) = inr (not_held c.holds g.when d.0 h.0, first cs gs why d.2 h.1)

unfounded : (cs : List Check) (gs : List Ground) → Decided cs gs → Clear cs → NoGround gs
unfounded [] [] d h = tt
unfounded [] (g ∷ gs) d h = absurd d
unfounded (c ∷ cs) [] d h = absurd d
unfounded (c ∷ cs) (g ∷ gs) d h = (not_from_Decides c.holds d.0 h.0, unfounded cs gs d.2 h.1)

clear : (cs : List Check) (gs : List Ground) → Decided cs gs → NoGround gs → Clear cs
clear [] [] d h = tt
clear [] (g ∷ gs) d h = absurd d
clear (c ∷ cs) [] d h = absurd d
clear (c ∷ cs) (g ∷ gs) d h = (not_held c.holds g.when d.0 h.0, clear cs gs d.2 h.1)

decides_leb : (a b : ℕ) → Decides (leb a b) (a ≤ b)
decides_leb a b = (leb-true a b, le-leb a b)

decides_false : (b : Bool) → Decides (not b) (b ≡ false)
decides_false b = (not-true b, not_from_false b)

decides_none : {A : Type 0} (x : Option A) → Decides (not (is_some x)) (x ≡ None)
decides_none None = (λ e. refl, λ e. refl)
decides_none (Some y) = (λ e. absurd (false≢true e), λ e. absurd (let z : ◌≡◌ {A = ℕ} 0 1 = cc in omega arith))

decided : (o : Order) (plan : Plan) (bench : Bench) (call : Call) → Decided (checks o plan bench call) (grounds o plan bench call)
decided o plan bench (post t v values) =
    (decides_leb _ _, refl, (decides_leb _ _, refl, (Decides-not _ (Decides-eqb _ _), refl, (decides_leb _ _, refl, tt))))
decided o plan bench (admit slot text) = (Decides-ltb _ _, refl, tt)
decided o plan bench (run slot v) = (decides_leb _ _, refl, (Decides-ltb _ _, refl, (decides_none (bench.slots slot), refl, tt)))
decided o plan bench (look clearance t v place column) =
    (decides_false _, refl, (decides_leb _ _, refl, (decides_leb _ _, refl, (decides_leb _ _, refl, (decides_false _, refl, (decides_leb _ _, refl, tt))))))
decided o plan bench (count clearance t v) =
    (decides_false _, refl, (decides_leb _ _, refl, (decides_leb _ _, refl, (decides_false _, refl, tt))))
decided o plan bench (meter clearance) = (decides_false _, refl, (decides_false _, refl, tt))

-- the exits of a chain whose rest never gives that error
only_first : {A : Type 0} (cs : List Check) (x : A) (why : Refusal) → sift cs (Ok x) ≡ Err why → First cs why
only_first {A} cs x why e = go (sift_why cs (Ok x) why e)
  where
    go : First cs why ⊎ (Clear cs × (◌≡◌ {A = Result A Refusal} (Ok x) (Err why))) → First cs why
    go (inl f) = f
    go (inr p) = absurd (let q = p.1 in let z : ◌≡◌ {A = ℕ} 0 1 = cc in omega arith)

-- a text that is sent back
faults : (x : Option ℕ) (f size : ℕ) (why : Refusal)
    → First (record { holds = is_some x; why = FlowNotAllowed (place_of x) } ∷ record { holds = ltb 1000000 f; why = FigureTooHigh size } ∷ []) why
    → ((p : ℕ) × (x ≡ Some p) × (FlowNotAllowed p ≡ why)) ⊎ ((x ≡ None) × (1000000 < f) × (FigureTooHigh size ≡ why))
faults (Some p) f size why (inl h) = inl (p, refl, h.1)
faults (Some p) f size why (inr h) = absurd (true≢false h.0)
faults None f size why (inl h) = absurd (false≢true h.0)
faults None f size why (inr (h, inl k)) = inr (refl, (Decides-ltb 1000000 f).0 k.0, k.1)
faults None f size why (inr (h, inr k)) = absurd k.1

unfaults : (x : Option ℕ) (f size : ℕ) (why : Refusal)
    → ((p : ℕ) × (x ≡ Some p) × (FlowNotAllowed p ≡ why)) ⊎ ((x ≡ None) × (1000000 < f) × (FigureTooHigh size ≡ why))
    → First (record { holds = is_some x; why = FlowNotAllowed (place_of x) } ∷ record { holds = ltb 1000000 f; why = FigureTooHigh size } ∷ []) why
unfaults x f size why (inl h) = rw h.1 (inl (refl, h.2))
unfaults x f size why (inr h) = rw h.0 (inr (refl, inl ((Decides-ltb 1000000 f).1 h.1, h.2)))

unadmitted : (o : Order) (read : Reading) (plan : Plan) (text : List ℕ) (why : Refusal) → admission o read plan text ≡ Err why → Unadmitted o read plan text why
unfolding admission
unadmitted o read plan text why = go (read plan text) refl
  where
    go : (r : Result Code Refusal) → read plan text ≡ r → and_then r (admit_code o plan (length text)) ≡ Err why → Unadmitted o read plan text why
    go (Err w) e h = inl (e ∙ cc)
    go (Ok code) e h = inr (code, e, faults (judge o plan code) (figure plan code) (length text) why (only_first (script_checks o plan (length text) code) _ why h))

refuses : (o : Order) (read : Reading) (plan : Plan) (text : List ℕ) (why : Refusal) → Unadmitted o read plan text why → admission o read plan text ≡ Err why
unfolding admission
refuses o read plan text why (inl e) = rw e refl
refuses o read plan text why (inr f) =
    rw f.1 (sift_first (script_checks o plan (length text) f.0) _ why (unfaults (judge o plan f.0) (figure plan f.0) (length text) why f.2))

-- only a refusal answers with one
refused_by : (admits : Admission) (plan : Plan) (bench : Bench) (call : Call) (why : Refusal) → reply_of (effect admits plan bench call) ≡ Refused why
    → effect admits plan bench call ≡ Err why
refused_by admits plan bench (post t v values) why e = absurd (let z : ◌≡◌ {A = ℕ} 0 1 = cc in omega arith)
refused_by admits plan bench (admit slot text) why e = go (admits text) e
  where
    go : (r : Result Script Refusal) → reply_of (and_then r (hold bench slot)) ≡ Refused why → and_then r (hold bench slot) ≡ Err why
    go (Ok script) h = absurd (let z : ◌≡◌ {A = ℕ} 0 1 = cc in omega arith)
    go (Err w) h = cc
refused_by admits plan bench (run slot v) why e = absurd (let z : ◌≡◌ {A = ℕ} 0 1 = cc in omega arith)
refused_by admits plan bench (look clearance t v place column) why e = absurd (let z : ◌≡◌ {A = ℕ} 0 1 = cc in omega arith)
refused_by admits plan bench (count clearance t v) why e = absurd (let z : ◌≡◌ {A = ℕ} 0 1 = cc in omega arith)
refused_by admits plan bench (meter clearance) why e = absurd (let z : ◌≡◌ {A = ℕ} 0 1 = cc in omega arith)

refused_call : (o : Order) (admits : Admission) (plan : Plan) (bench : Bench) (call : Call) (why : Refusal) → reply o admits plan bench call ≡ Refused why
    → sift (checks o plan bench call) (effect admits plan bench call) ≡ Err why
unfolding outcome
refused_call o admits plan bench call why =
    sifted (λ r. reply_of r ≡ Refused why → r ≡ Err why) (checks o plan bench call) (effect admits plan bench call) (λ w e. cc) (λ p e. refused_by admits plan bench call why e)

held_err : (bench : Bench) (slot : ℕ) (r : Result Script Refusal) (why : Refusal) → and_then r (hold bench slot) ≡ Err why → r ≡ Err why
held_err bench slot (Ok script) why e = absurd (let z : ◌≡◌ {A = ℕ} 0 1 = cc in omega arith)
held_err bench slot (Err w) why e = cc

-- what a call that passed its checks refuses: a text
text_wrong : (o : Order) (read : Reading) (plan : Plan) (bench : Bench) (call : Call) (why : Refusal) → effect (admission o read plan) plan bench call ≡ Err why
    → TextWrong o read plan call why
text_wrong o read plan bench (post t v values) why e = let z : ◌≡◌ {A = ℕ} 0 1 = cc in omega arith
text_wrong o read plan bench (admit slot text) why e = unadmitted o read plan text why (held_err bench slot (admission o read plan text) why e)
text_wrong o read plan bench (run slot v) why e = let z : ◌≡◌ {A = ℕ} 0 1 = cc in omega arith
text_wrong o read plan bench (look clearance t v place column) why e = let z : ◌≡◌ {A = ℕ} 0 1 = cc in omega arith
text_wrong o read plan bench (count clearance t v) why e = let z : ◌≡◌ {A = ℕ} 0 1 = cc in omega arith
text_wrong o read plan bench (meter clearance) why e = let z : ◌≡◌ {A = ℕ} 0 1 = cc in omega arith

text_refused : (o : Order) (read : Reading) (plan : Plan) (bench : Bench) (call : Call) (why : Refusal) → TextWrong o read plan call why
    → effect (admission o read plan) plan bench call ≡ Err why
text_refused o read plan bench (post t v values) why e = absurd e
text_refused o read plan bench (admit slot text) why e = ap (λ r. and_then r (hold bench slot)) (refuses o read plan text why e)
text_refused o read plan bench (run slot v) why e = absurd e
text_refused o read plan bench (look clearance t v place column) why e = absurd e
text_refused o read plan bench (count clearance t v) why e = absurd e
text_refused o read plan bench (meter clearance) why e = absurd e

reason : (o : Order) (read : Reading) (plan : Plan) (bench : Bench) (call : Call) (why : Refusal)
    → First (checks o plan bench call) why ⊎ (Clear (checks o plan bench call) × (effect (admission o read plan) plan bench call ≡ Err why))
    → Reason o read plan bench call why
reason o read plan bench call why (inl f) = inl (due (checks o plan bench call) (grounds o plan bench call) why (decided o plan bench call) f)
reason o read plan bench call why (inr p) =
    inr (unfounded (checks o plan bench call) (grounds o plan bench call) (decided o plan bench call) p.0, text_wrong o read plan bench call why p.1)

sent_back : (o : Order) (read : Reading) (plan : Plan) (bench : Bench) (call : Call) (why : Refusal) → Reason o read plan bench call why
    → sift (checks o plan bench call) (effect (admission o read plan) plan bench call) ≡ Err why
sent_back o read plan bench call why (inl d) =
    sift_first (checks o plan bench call) _ why (first (checks o plan bench call) (grounds o plan bench call) why (decided o plan bench call) d)
sent_back o read plan bench call why (inr p) =
    sift_rest (checks o plan bench call) _ (clear (checks o plan bench call) (grounds o plan bench call) (decided o plan bench call) p.0)
    ∙ text_refused o read plan bench call why p.1

pub why_sent_back : Why
unfolding outcome
why_sent_back o read plan bench call why = (
  λ e. reason o read plan bench call why
      (sift_why (checks o plan bench call) (effect (admission o read plan) plan bench call) why (refused_call o (admission o read plan) plan bench call why e)),
  λ r. ap reply_of (sent_back o read plan bench call why r),
)
