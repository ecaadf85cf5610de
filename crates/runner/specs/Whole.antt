-- What running a whole script asks for, and what it leaves.
use Rattle.std.specs.Prelude.{◌≡◌, ℕ, ◌<◌, ◌≤◌, true}
use Rattle.rules.specs.Plans.{Plan}
use Rattle.rules.specs.Scripts.{Code}
use Rattle.rules.specs.Evaluation.{ran}
use Rattle.rules.specs.Figures.{figure}
use Rattle.rules.specs.Writes.{steady}
use Rattle.rules.specs.Scoping.{scoped}
use Rattle.rules.specs.Inside.{inside}
use Rattle.lots.specs.declared.store.Store.{Store}
use Rattle.lots.specs.Stores.{lots_of, pairs_of, plan_pairs}

-- A script as those that are read and admitted: its names are in scope, it writes no table inside an `each` over it, it
-- stays inside the plan, and its figure does not pass the limit. It is run for a vendor of the plan, on lots at the plan's
-- pairs.
pub record Ready (plan : Plan) (code : Code) (vendor : ℕ) (store : Store) : Type 0 where
  pub names : scoped 0 code ≡ true
  pub still : steady code ≡ true
  pub within : inside plan code ≡ true
  pub low : figure plan code ≤ 1000000
  pub vendor_there : vendor < plan.vendors
  pub pairs : pairs_of store ≡ plan_pairs plan

-- The run of the rules: the same lots, the same steps. The pairs stay.
pub record Ran (plan : Plan) (code : Code) (vendor : ℕ) (was is : Store) (steps : ℕ) : Type 0 where
  pub lots : lots_of is ≡ (ran plan code vendor (lots_of was)).lots
  pub steps_are : steps ≡ (ran plan code vendor (lots_of was)).steps
  pub pairs : pairs_of is ≡ pairs_of was
