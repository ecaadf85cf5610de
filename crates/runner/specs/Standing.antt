-- What a run has come to, as the code holds it.
use Rattle.std.specs.Prelude.{◌≡◌, ℕ, suc, ◌<◌, ◌≤◌, min, true, length}
use Rattle.rules.specs.Plans.{Plan, sound}
use Rattle.rules.specs.Scripts.{Code}
use Rattle.rules.specs.Lots.{last_word}
use Rattle.rules.specs.Evaluation.{Valuation, Cursors, State, exec}
use Rattle.rules.specs.Writes.{steady}
use Rattle.rules.specs.Scoping.{scoped, most_names}
use Rattle.rules.specs.Inside.{inside}
use Rattle.lots.specs.Stores.{lots_of, pairs_of, plan_pairs}
use Rattle.runner.specs.declared.env.Env.{Env}
use Rattle.runner.specs.declared.machine.Machine.{Machine}
use Rattle.runner.specs.Names.{val_of, cursors_of, depth_of, vars_of}

-- The variables, lots and steps of the code are those of a state of the rules, on a bench with this plan. The code counts
-- steps up to the largest number.
pub record Stands (plan : Plan) (machine : Machine) (st : State) : Type 0 where
  pub vars : vars_of machine.locals ≡ st.vars
  pub lots : lots_of machine.lots.now ≡ st.lots
  pub steps : machine.locals.steps ≡ min st.steps last_word
  pub pairs : pairs_of machine.lots.now ≡ plan_pairs plan

-- What a statement makes of the variables and the lots that the code holds: it does `f`, whatever state of the rules they
-- stand for.
abbrev pub Does : Machine → Machine → (State → State) → Type 0
Does was is f = (plan : Plan) (st : State) → Stands plan was st → Stands plan is (f st)

-- A lot of a sound plan.
pub record LotThere (plan : Plan) (table vendor : ℕ) : Type 0 where
  pub planned : sound plan ≡ true
  pub table_there : table < length plan.tables
  pub vendor_there : vendor < plan.vendors

-- What a block asks for to be run: its names are in scope, it writes no table inside an `each` over it, it stays inside the
-- plan, and the vendors that names stand for do so too.
pub record Fits (plan : Plan) (vendors : ℕ) (code : Code) (depth : ℕ) (val : Valuation) : Type 0 where
  pub names : scoped depth code ≡ true
  pub few : depth ≤ most_names
  pub still : steady code ≡ true
  pub within : inside plan code ≡ true
  pub planned : sound plan ≡ true
  pub count : vendors ≡ plan.vendors
  pub mine : val.mine < plan.vendors
  pub indexes : (level : ℕ) → val.indexes level < plan.vendors

-- A run of a block that leads from one machine to another does what the rules say.
abbrev pub Runs : Env → Code → Machine → Machine → Type 0
Runs env code was is =
    (plan : Plan) → Fits plan env.vendors code (depth_of env) (val_of env) → (st : State) → Stands plan was st
    → Stands plan is (exec plan code (depth_of env) (val_of env) (cursors_of env) st)

-- The same, under one name more.
abbrev pub RunsUnder : Env → Valuation → Cursors → Code → Machine → Machine → Type 0
RunsUnder env val cursors code was is =
    (plan : Plan) → Fits plan env.vendors code (suc (depth_of env)) val → (st : State) → Stands plan was st
    → Stands plan is (exec plan code (suc (depth_of env)) val cursors st)
