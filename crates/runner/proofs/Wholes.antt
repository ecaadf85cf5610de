-- A whole script is run as the rules run it: its steps are at most its figure, so the count of the code never stops.
use Rattle.std.proofs.Common.{◌≡◌, ℕ, true, [], rules, tests}
use Rattle.rules.specs.Plans.{Plan, sound}
use Rattle.rules.specs.Scripts.{Code}
use Rattle.rules.specs.Evaluation.{Cursors, State, ran, run_for}
use Rattle.rules.proofs.StepBound.{within_figure}
use Rattle.lots.specs.declared.store.Store.{Store}
use Rattle.lots.specs.Stores.{lots_of}
use Rattle.lots.proofs.Keeping.{rows_fit}
use Rattle.runner.specs.declared.env.Env.{Env}
use Rattle.runner.specs.declared.machine.Machine.{Machine}
use Rattle.runner.specs.Names.{vars_of, Nameless}
use Rattle.runner.specs.Standing.{Stands, Fits, Runs}
use Rattle.runner.specs.Whole.{Ready, Ran}
use Rattle.runner.proofs.Running.{runs_by}

module _ (plan : Plan) (code : Code) (vendor : ℕ) (s : Store) (is_sound : sound plan ≡ true) (ready : Ready plan code vendor s) where
  none : Cursors
  none _ = []

  start : State
  start = record { vars = λ _. 0; lots = lots_of s; steps = 0 }

  fits : Fits plan plan.vendors code 0 (run_for vendor)
  fits = search (rules, tests)

  pub ran_whole : (env : Env) (was is : Machine) → Nameless env vendor plan.vendors → vars_of was.locals ≡ (λ _. 0) → was.locals.steps ≡ 0
      → was.lots.now ≡ s → Runs env code was is → Ran plan code vendor s is.lots.now is.locals.steps
  unfolding ran none start
  ran_whole env was is new vars_are steps_are lots_are runs =
      let run = runs_by env was is _ _ _ _ code new.vendors_are new.depth new.val_is new.cursors_are runs in
      let begun : Stands plan was start = search rules in
      let end = run plan fits start begun in
      let within = within_figure plan code 0 (run_for vendor) none start (rows_fit s plan ready.pairs) in
      search rules
