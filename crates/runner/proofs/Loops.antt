-- The turns of `vendors` and `each`.
use Rattle.std.proofs.Common.{◌≡◌, ℕ, suc, ◌+◌, ◌<◌, true, false, List, [], ◌∷◌, length, get_or, take, sym, refl, ap, ◌∙◌, subst, arith, take_all, rules}
use Rattle.rules.specs.Plans.{Plan}
use Rattle.rules.specs.Scripts.{Index, Code}
use Rattle.rules.specs.Scripts.Code.{vendors, each}
use Rattle.rules.specs.Lots.{upd}
use Rattle.rules.specs.Evaluation.{State, exec, whom, put_index, count_steps, walk, rounds}
use Rattle.rules.specs.Scoping.{nameable}
use Rattle.rules.specs.Writes.{writes}
use Rattle.rules.proofs.Turns.{walk_more, rounds_more}
use Rattle.rules.proofs.Unwritten.{unwritten}
use Rattle.layout.specs.declared.lot_id.LotId.{LotId}
use Rattle.lots.specs.Stores.{lots_of}
use Rattle.runner.specs.declared.env.Env.{Env}
use Rattle.runner.specs.declared.machine.Machine.{Machine}
use Rattle.runner.specs.Names.{val_of, cursors_of, depth_of}
use Rattle.runner.specs.Standing.{Stands, Runs, RunsUnder}
use Rattle.runner.specs.Turns.{index_turn, row_turn, Turned, Walked}
use Rattle.runner.proofs.Fitting.{fits_vendors, fits_each}
use Rattle.runner.proofs.Running.{Begun}

-- a table that the body does not write stays as it was
walk_unwritten : (plan : Plan) (env : Env) (body : Code) (table v : ℕ) → writes table body ≡ false → (rows : List (List ℕ)) (st : State)
    → (walk (row_turn plan env body) rows st).lots table v ≡ st.lots table v
walk_unwritten plan env body table v h [] st = refl
walk_unwritten plan env body table v h (row ∷ rows) st =
    walk_unwritten plan env body table v h rows (row_turn plan env body row st)
    ∙ unwritten plan table body (suc (depth_of env)) (val_of env) (upd (cursors_of env) (depth_of env) row) (count_steps 1 st) h v

module _ (env : Env) (body : Code) where
  pub turned_more : (i : ℕ) (was so one is : Machine) → i < env.vendors → Turned env body i was so → Begun so one
      → (nameable (depth_of env) ≡ true → RunsUnder env (put_index (val_of env) (depth_of env) i) (cursors_of env) body one is)
      → Turned env body (i + 1) was is
  turned_more i was so one is h turned begun r plan room fits st stood = rw rounds_more (search rules)

  pub vendors_run : (rest : Code) (was one two is : Machine) → Begun was one → Turned env body env.vendors one two → Runs env rest two is
      → Runs env (vendors body rest) was is
  unfolding exec
  vendors_run rest was one two is begun turned r plan f st h =
      let p = fits_vendors plan env.vendors (depth_of env) (val_of env) body rest f in
      r plan p.rest_fits _
      (subst (λ k. Stands plan two (rounds (index_turn plan env body) k (count_steps 1 st))) f.count
      (turned plan p.name p.turn_fits (count_steps 1 st) (begun plan st h)))

  pub walked_more : (table v i : ℕ) (row : List ℕ) (was so one is : Machine) → i < length (lots_of was.lots.now table v).rows
      → Walked env table v body i was so → Begun so one → row ≡ get_or (lots_of one.lots.now table v).rows i []
      → (nameable (depth_of env) ≡ true → RunsUnder env (val_of env) (upd (cursors_of env) (depth_of env) row) body one is)
      → Walked env table v body (i + 1) was is
  walked_more table v i row was so one is h walked begun read r plan room still fits st stood =
      let rows = (st.lots table v).rows in
      let so_far = begun plan _ (walked plan room still fits st stood) in
      let within : i < length rows = subst (λ z. i < length (z table v).rows) stood.lots h in
      let row_is : row ≡ get_or rows i [] =
      read ∙ ap (λ z. get_or (z table v).rows i []) so_far.lots ∙ ap (λ z. get_or z.rows i []) (walk_unwritten plan env body table v still (take i rows) st) in
      let after = r room plan fits _ so_far in
      subst (λ z. Stands plan is z)
      (ap (λ x. row_turn plan env body x (walk (row_turn plan env body) (take i rows) st)) row_is ∙ sym (walk_more (row_turn plan env body) rows i [] st within)) after

  pub each_run : (table : ℕ) (i : Index) (lot : LotId ℕ) (rest : Code) (was one two is : Machine)
      → lot ≡ record { table = table; vendor = whom (val_of env) i } → Begun was one
      → Walked env lot.table lot.vendor body (length (lots_of one.lots.now lot.table lot.vendor).rows) one two → Runs env rest two is
      → Runs env (each table i body rest) was is
  unfolding exec
  each_run table i lot rest was one two is meant begun walked r plan f st h =
      let v = whom (val_of env) i in
      let p = fits_each plan env.vendors (depth_of env) (val_of env) table i body rest f in
      let rows = (st.lots table v).rows in
      let through = subst (λ (k : LotId ℕ). Walked env k.table k.vendor body (length (lots_of one.lots.now k.table k.vendor).rows) one two) meant walked in
      let stood = begun plan st h in
      let all : take (length (lots_of one.lots.now table v).rows) rows ≡ rows = take_all _ rows (omega (arith, ap (λ z. length (z table v).rows) stood.lots)) in
      r plan p.rest_fits _
      (subst (λ xs. Stands plan two (walk (row_turn plan env body) xs (count_steps 1 st))) all
      (through plan p.name p.unwritten p.body_fits (count_steps 1 st) stood))
