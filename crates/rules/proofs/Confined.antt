-- Confinement: an allowed block in a context that is not seen changes nothing that is seen.
use Rattle.std.proofs.Common.{◌≡◌, ℕ, zero, suc, ◌<◌, Bool, true, false, cond, ◌&&◌, eqb, List, [], ◌∷◌, map, get_or, set as set_at, sym, refl, ap, arith}
use Rattle.std.proofs.lemmas.List.{length-set, get_or-set_other}
use Rattle.std.proofs.lemmas.Bool.{both_ways, and_parts, cond_both}
use Rattle.std.proofs.lemmas.Bool.Decides.{nat_tests}
use Rattle.lattice.specs.Order.{Order, Laws}
use Rattle.rules.specs.Plans.{Plan}
use Rattle.rules.specs.Scripts.{Code, Expr}
use Rattle.rules.specs.Scripts.Code.{stop, var, set, if, when, vendors, each, add, drop, alter}
use Rattle.rules.specs.Lots.{Lot, Lots, upd, put_lot}
use Rattle.rules.specs.Evaluation.{Valuation, Cursors, State, eval, exec, whom, put_index, count_steps, set_var, set_lot, walk, rounds, alter_rows}
use Rattle.rules.specs.Labels.{Scope, enter, held, turn, cursor, mark_at, row_label, cell_label, var_label}
use Rattle.rules.specs.Flows.{Allowed, if_context, each_context}
use Rattle.rules.specs.Sight.{SameRow, SameRows, SameLot, SameLots, Same}
use Rattle.rules.specs.Sight.SameRows.{none, more}
use Rattle.rules.specs.Promises.{Confinement}
use Rattle.rules.proofs.Seen.{name_past, row_is_label, expr_is_label, hidden_left, hidden_above, hidden_top, row_refl, lot_refl, lots_refl, same_refl, same_trans, leave}

module _ (o : Order) (laws : Laws o) (plan : Plan) (s : ℕ) where
  -- a lot that is not seen may change
  pub put_unseen : (lots : Lots) (t v : ℕ) (lot : Lot) → (o.below (row_label o plan t v) s ≡ true → SameLot o plan s t v (lots t v) lot)
      → SameLots o plan s lots (put_lot lots t v lot)
  put_unseen lots t v lot h u w seen = go (eqb u t && eqb w v) refl
    where
      go : (b : Bool) → (eqb u t && eqb w v) ≡ b → SameLot o plan s u w (lots u w) (cond b lot (lots u w))
      go true e =
          let t_is : u ≡ t = grind (arith, nat_tests) in
          let v_is : w ≡ v = grind (arith, nat_tests) in
          rw (t_is, v_is) (h (rw (t_is, v_is) at seen))
      go false e = lot_refl o laws plan s u w (lots u w)

  -- a row changed in a column that is not seen
  pub set_unseen : (t v column x : ℕ) (row : List ℕ) → o.below (cell_label o plan t v column) s ≡ false → SameRow o plan s t v row (set_at row column x)
  set_unseen t v column x row hidden = record { size = sym (length-set row column x); cells = cells }
    where
      cells : (k : ℕ) → o.below (cell_label o plan t v k) s ≡ true → get_or row k 0 ≡ get_or (set_at row column x) k 0
      cells k seen = sym (get_or-set_other row column k x 0
          (λ e. both_ways _ hidden (rw (ap (cell_label o plan t v) e) at seen)))

  pub alter_unseen : (t v column : ℕ) (value condition : List ℕ → ℕ) (lot : Lot) → o.below (cell_label o plan t v column) s ≡ false
      → SameLot o plan s t v lot (alter_rows column value condition lot)
  alter_unseen t v column value condition lot hidden = record { rows = go lot.rows; lost = refl }
    where
      one : (row : List ℕ) (b : Bool) → SameRow o plan s t v row (cond b row (set_at row column (value row)))
      one row true = row_refl o laws plan s t v row
      one row false = set_unseen t v column (value row) row hidden

      go : (rows : List (List ℕ)) → SameRows o plan s t v rows (map (λ row. cond (eqb (condition row) 0) row (set_at row column (value row))) rows)
      go [] = none
      go (row ∷ rows) = more (one row (eqb (condition row) 0)) (go rows)

  module _ (context : ℕ) (is_label : o.label context ≡ true) (hidden : o.below context s ≡ false) where
    top_hidden : o.below o.top s ≡ false
    top_hidden = hidden_top o laws plan s context is_label hidden

    -- steps are not seen
    pub counted : (scope : Scope) (n : ℕ) (st : State) → Same o plan s scope st (count_steps n st)
    counted scope n st = record { vars = λ level seen. refl; lots = lots_refl o laws plan s st.lots; steps = λ seen. absurd (both_ways _ top_hidden seen) }

    -- a variable that is not seen may change
    assigned : (scope : Scope) (level x n : ℕ) (st : State) → o.below (var_label o scope level) s ≡ false
        → Same o plan s scope st (set_var level x (count_steps n st))
    assigned scope level x n st unseen = record {
      vars = vars;
      lots = lots_refl o laws plan s st.lots;
      steps = λ seen. absurd (both_ways _ top_hidden seen);
    }
      where
        vars : (j : ℕ) → o.below (var_label o scope j) s ≡ true → st.vars j ≡ upd st.vars level x j
        vars j seen = go (eqb j level) refl
          where
            go : (b : Bool) → eqb j level ≡ b → st.vars j ≡ cond b x (st.vars j)
            go true e =
                let j_is : j ≡ level = grind (arith, nat_tests) in
                absurd (both_ways _ unseen (rw j_is at seen))
            go false e = refl

    stored : (scope : Scope) (t v n : ℕ) (lot : Lot) (st : State)
        → (o.below (row_label o plan t v) s ≡ true → SameLot o plan s t v (st.lots t v) lot)
        → Same o plan s scope st (set_lot t v lot (count_steps n st))
    stored scope t v n lot st h = record {
      vars = λ level seen. refl;
      lots = put_unseen st.lots t v lot h;
      steps = λ seen. absurd (both_ways _ top_hidden seen);
    }

  -- turns that each leave what is seen leave it together
  pub walked : {A : Type 0} (scope : Scope) (f : A → State → State) → ((x : A) (st : State) → Same o plan s scope st (f x st))
      → (xs : List A) (st : State) → Same o plan s scope st (walk f xs st)
  walked scope f h [] st = same_refl o laws plan s scope st
  walked scope f h (x ∷ xs) st = same_trans o laws plan s (h x st) (walked scope f h xs (f x st))

  pub rounded : (scope : Scope) (f : ℕ → State → State) (n : ℕ) → ((v : ℕ) → v < n → (st : State) → Same o plan s scope st (f v st))
      → (st : State) → Same o plan s scope st (rounds f n st)
  rounded scope f zero h st = same_refl o laws plan s scope st
  rounded scope f (suc n) h st =
      same_trans o laws plan s (rounded scope f n (λ v l. h v (omega arith)) st) (h n (omega arith) (rounds f n st))

  -- the context of the blocks of `if`
  raised : (scope : Scope) (context : ℕ) (e : Expr) → o.label context ≡ true → o.label (if_context o plan scope context e) ≡ true
  raised scope context e l = laws.join_label _ _ l (expr_is_label o laws plan s scope e)

  still : (scope : Scope) (context : ℕ) (e : Expr) → o.label context ≡ true → o.below context s ≡ false → o.below (if_context o plan scope context e) s ≡ false
  still scope context e l h = hidden_left o laws plan s context _ l (expr_is_label o laws plan s scope e) h

  pub confined : (code : Code) (scope : Scope) (val : Valuation) (context : ℕ) (cursors : Cursors) (st : State)
      → o.label context ≡ true → o.below context s ≡ false → Allowed o plan code scope val context
      → Same o plan s scope st (exec plan code scope.depth val cursors st)
  unfolding exec Allowed
  confined stop scope val context cursors st l h ok = same_refl o laws plan s scope st
  confined (var mark rest) scope val context cursors st l h ok =
      same_trans o laws plan s
      (assigned context l h scope scope.depth 0 1 st (rw (name_past scope) (top_hidden context l h)))
      (leave o laws plan s scope (held (mark_at val mark)) _ _
      (confined rest (enter scope (held (mark_at val mark))) val context cursors _ l h ok))
  confined (set place level e rest) scope val context cursors st l h ok =
      same_trans o laws plan s
      (assigned context l h scope level _ 1 st
      (hidden_above o laws plan s _ _ ok.0 (hidden_left o laws plan s context _ l (expr_is_label o laws plan s scope e) h)))
      (confined rest scope val context cursors _ l h ok.1)
  confined (if e first second rest) scope val context cursors st l h ok =
      same_trans o laws plan s (counted context l h scope 1 st)
      (same_trans o laws plan s
      (cond_both (eqb (eval val cursors st.vars e) 0) _ _ (λ z. Same o plan s scope (count_steps 1 st) z)
      (λ b. confined second scope val (if_context o plan scope context e) cursors (count_steps 1 st) (raised scope context e l) (still scope context e l h) ok.1)
      (λ b. confined first scope val (if_context o plan scope context e) cursors (count_steps 1 st) (raised scope context e l) (still scope context e l h) ok.0))
      (confined rest scope val context cursors _ l h ok.2))
  confined (when i j first second rest) scope val context cursors st l h ok =
      same_trans o laws plan s (counted context l h scope 1 st)
      (same_trans o laws plan s
      (cond_both (eqb (whom val i) (whom val j)) _ _ (λ z. Same o plan s scope (count_steps 1 st) z)
      (λ b. confined first scope val context cursors (count_steps 1 st) l h (ok.0 b))
      (λ b. confined second scope val context cursors (count_steps 1 st) l h (ok.1 b)))
      (confined rest scope val context cursors _ l h ok.2))
  confined (vendors body rest) scope val context cursors st l h ok =
      same_trans o laws plan s (counted context l h scope 1 st)
      (same_trans o laws plan s
      (rounded scope _ plan.vendors
      (λ v k z. same_trans o laws plan s (counted context l h scope 1 z)
      (leave o laws plan s scope turn _ _
      (confined body (enter scope turn) (put_index val scope.depth v) context cursors (count_steps 1 z) l h (ok.0 v k))))
      (count_steps 1 st))
      (confined rest scope val context cursors _ l h ok.1))
  confined (each t i body rest) scope val context cursors st l h ok =
      same_trans o laws plan s (counted context l h scope 1 st)
      (same_trans o laws plan s
      (walked scope _
      (λ row z. same_trans o laws plan s (counted context l h scope 1 z)
      (leave o laws plan s scope (cursor t (whom val i)) _ _
      (confined body (enter scope (cursor t (whom val i))) val (each_context o plan context t (whom val i)) (upd cursors scope.depth row) (count_steps 1 z)
      (laws.join_label _ _ l (row_is_label o laws plan s t (whom val i)))
      (hidden_left o laws plan s context _ l (row_is_label o laws plan s t (whom val i)) h)
      ok.0)))
      (st.lots t (whom val i)).rows (count_steps 1 st))
      (confined rest scope val context cursors _ l h ok.1))
  confined (add place t i es rest) scope val context cursors st l h ok =
      same_trans o laws plan s
      (stored context l h scope t (whom val i) 1 _ st
      (λ seen. absurd (both_ways _ (hidden_above o laws plan s _ _ (and_parts _ _ ok.0).0 h) seen)))
      (confined rest scope val context cursors _ l h ok.1)
  confined (drop place t i condition rest) scope val context cursors st l h ok =
      same_trans o laws plan s
      (stored context l h scope t (whom val i) _ _ st
      (λ seen. absurd (both_ways _ (hidden_above o laws plan s _ _ ok.0
      (hidden_left o laws plan s context _ l (expr_is_label o laws plan s (enter scope (cursor t (whom val i))) condition) h)) seen)))
      (confined rest scope val context cursors _ l h ok.1)
  confined (alter place t i column value condition rest) scope val context cursors st l h ok =
      same_trans o laws plan s
      (stored context l h scope t (whom val i) _ _ st
      (λ seen. alter_unseen t (whom val i) column _ _ (st.lots t (whom val i))
      (hidden_above o laws plan s _ _ ok.0
      (hidden_left o laws plan s _ _ (laws.join_label _ _ l (expr_is_label o laws plan s (enter scope (cursor t (whom val i))) value))
      (expr_is_label o laws plan s (enter scope (cursor t (whom val i))) condition)
      (hidden_left o laws plan s context _ l (expr_is_label o laws plan s (enter scope (cursor t (whom val i))) value) h)))))
      (confined rest scope val context cursors _ l h ok.1)

pub confinement : Confinement
confinement o laws plan s code scope val context cursors st l h ok = confined o laws plan s code scope val context cursors st l h ok
