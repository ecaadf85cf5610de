-- What the turns of `vendors` and `each` make of the variables and the lots that the code holds.
use Rattle.std.specs.Prelude.{◌≡◌, ℕ, suc, ◌<◌, true, false, List, take}
use Rattle.rules.specs.Plans.{Plan}
use Rattle.rules.specs.Scripts.{Code}
use Rattle.rules.specs.Lots.{upd}
use Rattle.rules.specs.Evaluation.{State, exec, put_index, count_steps, walk, rounds}
use Rattle.rules.specs.Scoping.{nameable}
use Rattle.rules.specs.Writes.{writes}
use Rattle.runner.specs.declared.env.Env.{Env}
use Rattle.runner.specs.declared.machine.Machine.{Machine}
use Rattle.runner.specs.Names.{val_of, cursors_of, depth_of}
use Rattle.runner.specs.Standing.{Stands, Fits}

-- A turn of `vendors`, and one of `each`.
abbrev pub index_turn : Plan → Env → Code → ℕ → State → State
index_turn plan env body v st = exec plan body (suc (depth_of env)) (put_index (val_of env) (depth_of env) v) (cursors_of env) (count_steps 1 st)

abbrev pub row_turn : Plan → Env → Code → List ℕ → State → State
row_turn plan env body row st = exec plan body (suc (depth_of env)) (val_of env) (upd (cursors_of env) (depth_of env) row) (count_steps 1 st)

-- The first `i` turns of `vendors` are made.
abbrev pub Turned : Env → Code → ℕ → Machine → Machine → Type 0
Turned env body i was is =
    (plan : Plan) → nameable (depth_of env) ≡ true
    → ((v : ℕ) → v < env.vendors → Fits plan env.vendors body (suc (depth_of env)) (put_index (val_of env) (depth_of env) v))
    → (st : State) → Stands plan was st → Stands plan is (rounds (index_turn plan env body) i st)

-- The first `i` rows of a lot are gone through.
abbrev pub Walked : Env → ℕ → ℕ → Code → ℕ → Machine → Machine → Type 0
Walked env table v body i was is =
    (plan : Plan) → nameable (depth_of env) ≡ true → writes table body ≡ false → Fits plan env.vendors body (suc (depth_of env)) (val_of env)
    → (st : State) → Stands plan was st → Stands plan is (walk (row_turn plan env body) (take i (st.lots table v).rows) st)
