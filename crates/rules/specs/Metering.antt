-- Runs in a list of calls: which are accepted, and the steps that they take.
use Rattle.std.specs.Prelude.{ℕ, Bool, true, false, not, ◌&&◌, List, [], ◌∷◌, is_ok}
use Rattle.lattice.specs.Order.{Order}
use Rattle.rules.specs.Plans.{Plan}
use Rattle.rules.specs.Evaluation.{ran}
use Rattle.rules.specs.Admission.{Admission}
use Rattle.rules.specs.Calls.{Bench, Call, outcome, step, script_in}
use Rattle.rules.specs.Calls.Call.{post, admit, run, look, count, meter}

-- The call is a run, and it is not sent back.
abbrev pub accepted_run : Order → Admission → Plan → Bench → Call → Bool
accepted_run o admits plan bench (post t v values) = false
accepted_run o admits plan bench (admit slot text) = false
accepted_run o admits plan bench (run slot v) = is_ok (outcome o admits plan bench (run slot v))
accepted_run o admits plan bench (look clearance t v place column) = false
accepted_run o admits plan bench (count clearance t v) = false
accepted_run o admits plan bench (meter clearance) = false

-- No run of the list is accepted.
abbrev pub no_run : Order → Admission → Plan → Bench → List Call → Bool
no_run o admits plan bench [] = true
no_run o admits plan bench (c ∷ cs) = not (accepted_run o admits plan bench c) && no_run o admits plan (step o admits plan bench c) cs

-- The steps that a run takes, by the rules.
abbrev pub run_steps : Plan → Bench → ℕ → ℕ → ℕ
run_steps plan bench slot v = (ran plan (script_in bench slot).code v bench.lots).steps
