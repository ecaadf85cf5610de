-- A block is run by its first statement and what follows it.
use Rattle.std.proofs.Common.{◌≡◌, ℕ, suc, Bool, true, false, cond, eqb, List, map, sym, ap, ◌∙◌, subst, rules}
use mathlib.Core.Path.{fun_ext}
use mathlib.Core.List.{map-map}
use Rattle.std.proofs.lemmas.Bool.{cond-true}
use Rattle.rules.specs.Plans.{Plan}
use Rattle.rules.specs.Scripts.{Index, Mark, Code}
use Rattle.rules.specs.Scripts.Code.{stop, var, set, if, when, add, drop, alter}
use Rattle.rules.specs.Lots.{upd}
use Rattle.rules.specs.Evaluation.{Valuation, Cursors, State, eval, exec, whom, count_steps, do_set, do_add, do_drop, do_alter}
use Rattle.rules.specs.Scoping.{nameable}
use Rattle.script.specs.declared.node.Node.{Node}
use Rattle.script.specs.declared.node.Stmt.{Stmt}
use Rattle.script.specs.Nodes.{stmt_of, block_at, code_of}
use Rattle.script.specs.Meaning.{exprs_of, codes_of}
use Rattle.layout.specs.declared.lot_id.LotId.{LotId}
use Rattle.runner.specs.declared.env.Env.{Env}
use Rattle.runner.specs.declared.locals.Locals.{Locals}
use Rattle.runner.specs.declared.machine.Machine.{Machine}
use Rattle.runner.specs.Names.{val_of, cursors_of, depth_of, vars_of, Renamed}
use Rattle.runner.specs.Values.{expr_in, block_in, value_in, row_value}
use Rattle.runner.specs.Standing.{Stands, Does, LotThere, Fits, Runs, RunsUnder}
use Rattle.runner.proofs.Fitting.{fits_var, fits_set, fits_if, fits_when, fits_add, fits_drop, fits_alter}

-- one step
abbrev pub Begun : Machine → Machine → Type 0
Begun was is = Does was is (count_steps 1)

-- a run by the parts of what it is run in
abbrev pub RunsBy : Machine → Machine → ℕ → Code → ℕ → Valuation → Cursors → Type 0
RunsBy was is n code d val cs =
    (plan : Plan) → Fits plan n code d val → (st : State) → Stands plan was st → Stands plan is (exec plan code d val cs st)

pub runs_by : (env : Env) (was is : Machine) (n d : ℕ) (val : Valuation) (cs : Cursors) (code : Code) → env.vendors ≡ n → depth_of env ≡ d → val_of env ≡ val
    → cursors_of env ≡ cs → Runs env code was is → RunsBy was is n code d val cs
runs_by env was is n d val cs code vendors depth val_is cursors_are r =
    subst (λ z. RunsBy was is n code d val z) cursors_are
    (subst (λ z. RunsBy was is n code d z (cursors_of env)) val_is
    (subst (λ z. RunsBy was is n code z (val_of env) (cursors_of env)) depth
    (subst (λ z. RunsBy was is z code (depth_of env) (val_of env) (cursors_of env)) vendors r)))

-- by what a block is
pub as_read : (env : Env) (was is : Machine) (code whole : Code) → whole ≡ code → Runs env code was is → Runs env whole was is
as_read env was is code whole e r = subst (λ z. Runs env z was is) (sym e) r

module _ (env : Env) where
  -- under one name more
  pub renamed_runs : (inner : Env) (val : Valuation) (cs : Cursors) (body : ℕ) (was is : Machine) → inner.script.now ≡ env.script.now
      → Renamed env inner val cs → Runs inner (block_in inner body) was is → nameable (depth_of env) ≡ true → RunsUnder env val cs (block_in env body) was is
  renamed_runs inner val cs body was is script e r room =
      runs_by inner was is _ _ _ _ (block_in env body) e.vendors (e.depth ∙ cond-true (nameable (depth_of env)) (suc (depth_of env)) (depth_of env) room)
      (e.val_is ∙ cond-true (nameable (depth_of env)) val (val_of env) room) (e.cursors_are ∙ cond-true (nameable (depth_of env)) cs (cursors_of env) room)
      (as_read inner was is _ _ (sym (ap (λ z. block_at (codes_of z) body) script)) r)

  -- by what the block begins with
  pub begins_with : (was is : Machine) (block : ℕ) (read : Node) (stmt : Stmt)
      → block_in env block ≡ code_of (exprs_of env.script.now) (codes_of env.script.now) read → read.stmt ≡ stmt
      → Runs env (stmt_of (exprs_of env.script.now) (codes_of env.script.now) stmt (block_at (codes_of env.script.now) read.rest)) was is → Runs env (block_in env block) was is
  begins_with was is block read stmt meaning same r = search rules

  pub stop_runs : (was : Machine) → Runs env stop was was
  unfolding exec
  stop_runs was plan f st h = h

  module _ (was one is : Machine) where
    pub var_runs : (level : ℕ) (mark : Mark Index) (rest : Code) → level ≡ depth_of env → (nameable level ≡ true → Does was one (do_set level 0))
        → (nameable (depth_of env) ≡ true → RunsUnder env (val_of env) (cursors_of env) rest one is) → Runs env (var mark rest) was is
    unfolding exec
    var_runs level mark rest e a r plan f st h =
        let p = fits_var plan env.vendors (depth_of env) (val_of env) mark rest f in
        r p.name plan p.rest_fits _ (subst (λ k. nameable k ≡ true → Does was one (do_set k 0)) e a p.name plan st h)

    pub set_runs : (place level at x : ℕ) (rest : Code) → x ≡ value_in env was.locals at → (nameable level ≡ true → Does was one (do_set level x))
        → Runs env rest one is → Runs env (set place level (expr_in env at) rest) was is
    unfolding exec
    set_runs place level at x rest value a r plan f st h =
        let e = expr_in env at in
        let p = fits_set plan env.vendors (depth_of env) (val_of env) place level e rest f in
        let same : x ≡ eval (val_of env) (cursors_of env) st.vars e = value ∙ ap (λ vs. eval (val_of env) (cursors_of env) vs e) h.vars in
        r plan p.rest_fits _ (subst (λ y. Stands plan one (do_set level y st)) same (a p.name plan st h))

  -- one of two blocks, picked by its number
  branch : (plan : Plan) (first second taken : ℕ) (b : Bool) (was is : Machine) (st : State) → Fits plan env.vendors (block_in env first) (depth_of env) (val_of env)
      → Fits plan env.vendors (block_in env second) (depth_of env) (val_of env) → taken ≡ cond b first second
      → Runs env (block_in env taken) was is → Stands plan was st
      → Stands plan is (cond b (exec plan (block_in env first) (depth_of env) (val_of env) (cursors_of env) st) (exec plan (block_in env second) (depth_of env) (val_of env) (cursors_of env) st))
  branch plan first second taken true was is st f g e r h = as_read env was is _ _ (sym (ap (block_in env) e)) r plan f st h
  branch plan first second taken false was is st f g e r h = as_read env was is _ _ (sym (ap (block_in env) e)) r plan g st h

  module _ (was one two is : Machine) (first second rest taken : ℕ) where
    pub if_runs : (at x : ℕ) → x ≡ value_in env was.locals at → taken ≡ cond (eqb x 0) second first → Begun was one → Runs env (block_in env taken) one two
        → Runs env (block_in env rest) two is → Runs env (if (expr_in env at) (block_in env first) (block_in env second) (block_in env rest)) was is
    unfolding exec
    if_runs at x value chosen begun r q plan f st h =
        let e = expr_in env at in
        let p = fits_if plan env.vendors (depth_of env) (val_of env) e (block_in env first) (block_in env second) (block_in env rest) f in
        let same : x ≡ eval (val_of env) (cursors_of env) st.vars e = value ∙ ap (λ vs. eval (val_of env) (cursors_of env) vs e) h.vars in
        let picked : taken ≡ cond (eqb (eval (val_of env) (cursors_of env) st.vars e) 0) second first = chosen ∙ ap (λ y. cond (eqb y 0) second first) same in
        search (rules, branch)

    pub when_runs : (i j : Index) → taken ≡ cond (eqb (whom (val_of env) i) (whom (val_of env) j)) first second → Begun was one
        → Runs env (block_in env taken) one two → Runs env (block_in env rest) two is
        → Runs env (when i j (block_in env first) (block_in env second) (block_in env rest)) was is
    unfolding exec
    when_runs i j chosen begun r q plan f st h =
        let p = fits_when plan env.vendors (depth_of env) (val_of env) i j (block_in env first) (block_in env second) (block_in env rest) f in
        search (rules, branch)

  -- what a row is asked for, in the rules' words
  row_value_is : (locals : Locals) (at : ℕ) (vars : ℕ → ℕ) → nameable (depth_of env) ≡ true → vars_of locals ≡ vars
      → row_value env locals at ≡ (λ row. eval (val_of env) (upd (cursors_of env) (depth_of env) row) vars (expr_in env at))
  unfolding row_value
  row_value_is locals at vars room e =
      fun_ext (λ row. cc)

  module _ (was one is : Machine) (place table : ℕ) (i : Index) (lot : LotId ℕ) (meant : lot ≡ record { table = table; vendor = whom (val_of env) i }) (rest : Code) where
    pub add_runs : (ats row : List ℕ) → row ≡ map (value_in env was.locals) ats
        → ((plan : Plan) (st : State) → LotThere plan lot.table lot.vendor → Stands plan was st → Stands plan one (do_add plan lot.table lot.vendor row st))
        → Runs env rest one is → Runs env (add place table i (map (expr_in env) ats) rest) was is
    unfolding exec
    add_runs ats row values a r plan f st h =
        let es = map (expr_in env) ats in
        let p = fits_add plan env.vendors (depth_of env) (val_of env) place table i es rest f in
        let row_is : row ≡ map (eval (val_of env) (cursors_of env) st.vars) es =
        values ∙ sym (map-map (eval (val_of env) (cursors_of env) (vars_of was.locals)) (expr_in env) ats) ∙ ap (λ vs. map (eval (val_of env) (cursors_of env) vs) es) h.vars in
        let there = subst (λ (k : LotId ℕ). LotThere plan k.table k.vendor) (sym meant) p.there in
        r plan p.rest_fits _
        (subst (λ (k : LotId ℕ). Stands plan one (do_add plan k.table k.vendor (map (eval (val_of env) (cursors_of env) st.vars) es) st)) meant
        (subst (λ xs. Stands plan one (do_add plan lot.table lot.vendor xs st)) row_is (a plan st there h)))

    pub drop_runs : (at : ℕ) → Does was one (do_drop lot.table lot.vendor (row_value env was.locals at)) → Runs env rest one is
        → Runs env (drop place table i (expr_in env at) rest) was is
    unfolding exec
    drop_runs at a r plan f st h =
        let p = fits_drop plan env.vendors (depth_of env) (val_of env) place table i (expr_in env at) rest f in
        let under = λ (row : List ℕ). eval (val_of env) (upd (cursors_of env) (depth_of env) row) st.vars (expr_in env at) in
        r plan p.rest_fits _
        (subst (λ (k : LotId ℕ). Stands plan one (do_drop k.table k.vendor under st)) meant
        (subst (λ g. Stands plan one (do_drop lot.table lot.vendor g st)) (row_value_is was.locals at st.vars p.name h.vars) (a plan st h)))

    pub alter_runs : (column value at : ℕ) → Does was one (do_alter lot.table lot.vendor column (row_value env was.locals value) (row_value env was.locals at)) → Runs env rest one is
        → Runs env (alter place table i column (expr_in env value) (expr_in env at) rest) was is
    unfolding exec
    alter_runs column value at a r plan f st h =
        let p = fits_alter plan env.vendors (depth_of env) (val_of env) place table i column (expr_in env value) (expr_in env at) rest f in
        let under = λ (k : ℕ) (row : List ℕ). eval (val_of env) (upd (cursors_of env) (depth_of env) row) st.vars (expr_in env k) in
        r plan p.rest_fits _
        (subst (λ (k : LotId ℕ). Stands plan one (do_alter k.table k.vendor column (under value) (under at) st)) meant
        (subst (λ g. Stands plan one (do_alter lot.table lot.vendor column (under value) g st)) (row_value_is was.locals at st.vars p.name h.vars)
        (subst (λ g. Stands plan one (do_alter lot.table lot.vendor column g (row_value env was.locals at) st)) (row_value_is was.locals value st.vars p.name h.vars) (a plan st h))))
