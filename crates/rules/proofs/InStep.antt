-- Lockstep: an allowed block from two states that look the same ends in two that do.
use Rattle.std.proofs.Common.{◌≡◌, ℕ, zero, suc, ◌+◌, ◌<◌, min, Bool, true, false, cond, ◌&&◌, eqb, ltb, List, [], ◌∷◌, map, length, get_or, set as set_at, filter, sym, refl, ap, ◌∙◌, arith}
use Rattle.std.proofs.lemmas.List.{length-map, length-set}
use Rattle.std.proofs.lemmas.Bool.{and_parts, cond_both, false≢true, true≢false}
use Rattle.std.proofs.lemmas.Bool.Decides.{nat_tests}
use Rattle.lattice.specs.Order.{Order, Laws}
use Rattle.rules.specs.Plans.{Plan}
use Rattle.rules.specs.Scripts.{Expr, Code}
use Rattle.rules.specs.Scripts.Expr.{literal, mine, of_index, variable, cell, apply}
use Rattle.rules.specs.Scripts.Code.{stop, var, set, if, when, vendors, each, add, drop, alter}
use Rattle.rules.specs.Lots.{Lot, Lots, upd, put_lot, room, enter_row}
use Rattle.rules.specs.Evaluation.{Valuation, Cursors, State, operate, eval, exec, whom, put_index, count_steps, set_var, set_lot, walk, rounds}
use Rattle.rules.specs.Labels.{Name, Scope, enter, name_at, held, turn, cursor, mark_at, column_label, row_label, cell_label, var_label, expr_label}
use Rattle.rules.specs.Flows.{Allowed, cells_flow, if_context, each_context}
use Rattle.rules.specs.Sight.{SameRow, SameRows, SameLot, SameLots, Same, SameCursors}
use Rattle.rules.specs.Sight.SameRows.{none, more}
use Rattle.rules.specs.Promises.{Lockstep}
use Rattle.rules.proofs.Seen.{name_made, name_before, row_is_label, column_is_label, expr_is_label, seen_left, seen_right, seen_all, hidden_right, row_refl, row_sym, row_trans, rows_length, same_sym, same_trans, leave, enter_same}
use Rattle.rules.proofs.Confined.{confined, walked, counted, set_unseen}

-- two choices by equal tests
pub both : {A : Type 0} (b c : Bool) (R : A → A → Type 0) (x y z w : A) → b ≡ c → (b ≡ true → R x z) → (b ≡ false → R y w) → R (cond b x y) (cond c z w)
both true true R x y z w e h k = h refl
both true false R x y z w e h k = absurd (true≢false e)
both false true R x y z w e h k = absurd (false≢true e)
both false false R x y z w e h k = k refl

pub split : {X : Type 0} (t : Bool) → (t ≡ true → X) → (t ≡ false → X) → X
split true h k = h refl
split false h k = k refl

-- one cell written in two rows
set_cells : (xs ys : List ℕ) (column n m k : ℕ) → length xs ≡ length ys → n ≡ m → get_or xs k 0 ≡ get_or ys k 0
    → get_or (set_at xs column n) k 0 ≡ get_or (set_at ys column m) k 0
set_cells [] [] column n m k size is h = refl
set_cells [] (y ∷ ys) column n m k size is h = absurd (omega arith)
set_cells (x ∷ xs) [] column n m k size is h = absurd (omega arith)
set_cells (x ∷ xs) (y ∷ ys) zero n m zero size is h = is
set_cells (x ∷ xs) (y ∷ ys) zero n m (suc k) size is h = h
set_cells (x ∷ xs) (y ∷ ys) (suc column) n m zero size is h = h
set_cells (x ∷ xs) (y ∷ ys) (suc column) n m (suc k) size is h = set_cells xs ys column n m k (omega arith) is h

module _ (o : Order) (laws : Laws o) (plan : Plan) (s : ℕ) where
  -- an expression that is seen has one value
  pub eval_same : (scope : Scope) (val : Valuation) (left right : Cursors) (a b : ℕ → ℕ)
      → ((level : ℕ) → o.below (var_label o scope level) s ≡ true → a level ≡ b level) → SameCursors o plan s scope left right
      → (e : Expr) → o.below (expr_label o plan scope e) s ≡ true → eval val left a e ≡ eval val right b e
  unfolding eval expr_label
  eval_same scope val left right a b vars rows (literal n) seen = refl
  eval_same scope val left right a b vars rows mine seen = refl
  eval_same scope val left right a b vars rows (of_index level) seen = refl
  eval_same scope val left right a b vars rows (variable level) seen = vars level seen
  eval_same scope val left right a b vars rows (cell level column) seen = rows level column seen
  eval_same scope val left right a b vars rows (apply op x y) seen =
      ap (λ n. operate op n (eval val left a y))
      (eval_same scope val left right a b vars rows x (seen_left o laws plan s _ _ (expr_is_label o laws plan s scope x) (expr_is_label o laws plan s scope y) seen))
      ∙ ap (operate op (eval val right b x))
      (eval_same scope val left right a b vars rows y (seen_right o laws plan s _ _ (expr_is_label o laws plan s scope x) (expr_is_label o laws plan s scope y) seen))

  -- cursors under one name more: a cursor, whose rows look the same, or any other
  pub cursor_entered : (scope : Scope) (t v : ℕ) (left right : Cursors) (x y : List ℕ) → SameRow o plan s t v x y → SameCursors o plan s scope left right
      → SameCursors o plan s (enter scope (cursor t v)) (upd left scope.depth x) (upd right scope.depth y)
  cursor_entered scope t v left right x y row h level column seen = go (eqb level scope.depth) refl
    where
      go : (b : Bool) → eqb level scope.depth ≡ b → get_or (cond b x (left level)) column 0 ≡ get_or (cond b y (right level)) column 0
      go true e =
          let here : level ≡ scope.depth = grind (arith, nat_tests) in
          row.cells column (rw (here, name_made scope (cursor t v)) at seen)
      go false e =
          let other : level ≡ scope.depth → ⊥ = grind (arith, nat_tests) in
          h level column (rw (name_before scope (cursor t v) level other) at seen)

  pub name_entered : (scope : Scope) (name : Name) (left right : Cursors) → ((column : ℕ) → column_label o plan name column ≡ o.top)
      → SameCursors o plan s scope left right → SameCursors o plan s (enter scope name) left right
  name_entered scope name left right is_top h level column seen = go (eqb level scope.depth) refl
    where
      go : (b : Bool) → eqb level scope.depth ≡ b → get_or (left level) column 0 ≡ get_or (right level) column 0
      go true e =
          let here : level ≡ scope.depth = grind (arith, nat_tests) in
          let top : o.below o.top s ≡ true = rw (here, name_made scope name, is_top column) at seen in
          h level column (seen_all o laws plan s _ (column_is_label o laws plan s (name_at scope level) column) top)
      go false e =
          let other : level ≡ scope.depth → ⊥ = grind (arith, nat_tests) in
          h level column (rw (name_before scope name level other) at seen)

  pub counted_both : (scope : Scope) (n : ℕ) (a b : State) → Same o plan s scope a b → Same o plan s scope (count_steps n a) (count_steps n b)
  counted_both scope n a b h = record { vars = h.vars; lots = h.lots; steps = λ seen. ap (λ k. k + n) (h.steps seen) }

  assigned_both : (scope : Scope) (level x y : ℕ) (a b : State) → (o.below (var_label o scope level) s ≡ true → x ≡ y) → Same o plan s scope a b
      → Same o plan s scope (set_var level x (count_steps 1 a)) (set_var level y (count_steps 1 b))
  assigned_both scope level x y a b is h = record { vars = vars; lots = h.lots; steps = λ seen. ap (λ k. k + 1) (h.steps seen) }
    where
      vars : (j : ℕ) → o.below (var_label o scope j) s ≡ true → upd a.vars level x j ≡ upd b.vars level y j
      vars j seen = go (eqb j level) refl
        where
          go : (t : Bool) → eqb j level ≡ t → cond t x (a.vars j) ≡ cond t y (b.vars j)
          go true e =
              let here : j ≡ level = grind (arith, nat_tests) in
              is (rw here at seen)
          go false e = h.vars j seen

  declared_both : (scope : Scope) (name : Name) (a b : State) → Same o plan s scope a b
      → Same o plan s (enter scope name) (set_var scope.depth 0 (count_steps 1 a)) (set_var scope.depth 0 (count_steps 1 b))
  declared_both scope name a b h = record { vars = vars; lots = h.lots; steps = λ seen. ap (λ k. k + 1) (h.steps seen) }
    where
      vars : (j : ℕ) → o.below (var_label o (enter scope name) j) s ≡ true → upd a.vars scope.depth 0 j ≡ upd b.vars scope.depth 0 j
      vars j seen = go (eqb j scope.depth) refl
        where
          go : (t : Bool) → eqb j scope.depth ≡ t → cond t 0 (a.vars j) ≡ cond t 0 (b.vars j)
          go true e = refl
          go false e =
              let other : j ≡ scope.depth → ⊥ = grind (arith, nat_tests) in
              h.vars j (rw (name_before scope name j other) at seen)

  pub put_both : (a b : Lots) (t v : ℕ) (x y : Lot) → (o.below (row_label o plan t v) s ≡ true → SameLot o plan s t v x y) → SameLots o plan s a b
      → SameLots o plan s (put_lot a t v x) (put_lot b t v y)
  put_both a b t v x y is h u w seen = go (eqb u t && eqb w v) refl
    where
      go : (c : Bool) → (eqb u t && eqb w v) ≡ c → SameLot o plan s u w (cond c x (a u w)) (cond c y (b u w))
      go true e =
          let t_is : u ≡ t = grind (arith, nat_tests) in
          let v_is : w ≡ v = grind (arith, nat_tests) in
          rw (t_is, v_is) (is (rw (t_is, v_is) at seen))
      go false e = h u w seen

  stored_both : (scope : Scope) (t v n m : ℕ) (x y : Lot) (a b : State) → (o.below (row_label o plan t v) s ≡ true → SameLot o plan s t v x y)
      → (o.below (row_label o plan t v) s ≡ true → n ≡ m) → Same o plan s scope a b
      → Same o plan s scope (set_lot t v x (count_steps n a)) (set_lot t v y (count_steps m b))
  stored_both scope t v n m x y a b is count h = record {
    vars = h.vars;
    lots = put_both a.lots b.lots t v x y is h.lots;
    steps = λ seen. ap (λ k. k + n) (h.steps seen) ∙ ap (λ k. b.steps + k) (count (seen_all o laws plan s _ (row_is_label o laws plan s t v) seen));
  }

  -- rows that enter, are dropped and altered
  pub entered_both : (t v room : ℕ) (r q : List ℕ) (a b : Lot) → SameRow o plan s t v r q → SameLot o plan s t v a b
      → SameLot o plan s t v (enter_row room r a) (enter_row room q b)
  entered_both t v room r q a b row h =
      both (ltb (length a.rows) room) (ltb (length b.rows) room) (SameLot o plan s t v) _ _ _ _
      (ap (λ n. ltb n room) (rows_length o laws plan s h.rows))
      (λ e. record { rows = more row h.rows; lost = h.lost })
      (λ e. record { rows = h.rows; lost = ap (λ n. min (n + 1) 4294967295) h.lost })

  dropped_both : (t v : ℕ) (f g : List ℕ → ℕ) → ((x y : List ℕ) → SameRow o plan s t v x y → f x ≡ g y)
      → {xs ys : List (List ℕ)} → SameRows o plan s t v xs ys
      → SameRows o plan s t v (filter (λ row. eqb (f row) 0) xs) (filter (λ row. eqb (g row) 0) ys)
  dropped_both t v f g is none = none
  dropped_both t v f g is (more {a = x} {b = y} h r) =
      both (eqb (f x) 0) (eqb (g y) 0) (SameRows o plan s t v) _ _ _ _ (ap (λ n. eqb n 0) (is x y h))
      (λ e. more h (dropped_both t v f g is r)) (λ e. dropped_both t v f g is r)

  altered_both : (t v column : ℕ) (f g p q : List ℕ → ℕ)
      → ((x y : List ℕ) → SameRow o plan s t v x y → o.below (cell_label o plan t v column) s ≡ true → (f x ≡ g y) × (p x ≡ q y))
      → {xs ys : List (List ℕ)} → SameRows o plan s t v xs ys
      → SameRows o plan s t v (map (λ row. cond (eqb (p row) 0) row (set_at row column (f row))) xs) (map (λ row. cond (eqb (q row) 0) row (set_at row column (g row))) ys)
  altered_both t v column f g p q is none = none
  altered_both t v column f g p q is (more {a = x} {b = y} h r) = more (split (o.below (cell_label o plan t v column) s) open_to closed_to) (altered_both t v column f g p q is r)
    where
      -- the column is seen, and both change alike
      written : o.below (cell_label o plan t v column) s ≡ true → SameRow o plan s t v (set_at x column (f x)) (set_at y column (g y))
      written seen = record {
        size = length-set x column (f x) ∙ h.size ∙ sym (length-set y column (g y));
        cells = λ k sees. set_cells x y column (f x) (g y) k h.size (is x y h seen).0 (h.cells k sees);
      }

      open_to : o.below (cell_label o plan t v column) s ≡ true
          → SameRow o plan s t v (cond (eqb (p x) 0) x (set_at x column (f x))) (cond (eqb (q y) 0) y (set_at y column (g y)))
      open_to seen =
          both (eqb (p x) 0) (eqb (q y) 0) (SameRow o plan s t v) _ _ _ _ (ap (λ n. eqb n 0) (is x y h seen).1) (λ e. h) (λ e. written seen)

      one : o.below (cell_label o plan t v column) s ≡ false → (row : List ℕ) (b : Bool) (n : ℕ) → SameRow o plan s t v row (cond b row (set_at row column n))
      one hidden row true n = row_refl o laws plan s t v row
      one hidden row false n = set_unseen o laws plan s t v column n row hidden

      closed_to : o.below (cell_label o plan t v column) s ≡ false
          → SameRow o plan s t v (cond (eqb (p x) 0) x (set_at x column (f x))) (cond (eqb (q y) 0) y (set_at y column (g y)))
      closed_to hidden =
          row_trans o laws plan s (row_sym o laws plan s (one hidden x (eqb (p x) 0) (f x)))
          (row_trans o laws plan s h (one hidden y (eqb (q y) 0) (g y)))

  -- the values of an `add`
  cells_both : (scope : Scope) (t v column : ℕ) (f g : Expr → ℕ) → ((e : Expr) → o.below (expr_label o plan scope e) s ≡ true → f e ≡ g e)
      → (es : List Expr) → cells_flow o plan scope t v column es ≡ true
      → (k : ℕ) → o.below (cell_label o plan t v (column + k)) s ≡ true → get_or (map f es) k 0 ≡ get_or (map g es) k 0
  cells_both scope t v column f g is [] ok k seen = refl
  cells_both scope t v column f g is (e ∷ es) ok zero seen =
      is e (laws.transitive _ _ s (and_parts _ _ ok).0 (rw (ap (cell_label o plan t v) (let z : column + 0 ≡ column = omega arith in z)) at seen))
  cells_both scope t v column f g is (e ∷ es) ok (suc k) seen =
      cells_both scope t v (suc column) f g is es (and_parts _ _ ok).1 k
      (rw (ap (cell_label o plan t v) (let z : column + suc k ≡ suc column + k = omega arith in z)) at seen)

  walked_both : (scope : Scope) (t v : ℕ) (f g : List ℕ → State → State)
      → ((x y : List ℕ) → SameRow o plan s t v x y → (a b : State) → Same o plan s scope a b → Same o plan s scope (f x a) (g y b))
      → {xs ys : List (List ℕ)} → SameRows o plan s t v xs ys → (a b : State) → Same o plan s scope a b → Same o plan s scope (walk f xs a) (walk g ys b)
  walked_both scope t v f g is none a b h = h
  walked_both scope t v f g is (more {a = x} {b = y} row r) a b h = walked_both scope t v f g is r (f x a) (g y b) (is x y row a b h)

  rounded_both : (scope : Scope) (f g : ℕ → State → State) (n : ℕ)
      → ((v : ℕ) → v < n → (a b : State) → Same o plan s scope a b → Same o plan s scope (f v a) (g v b))
      → (a b : State) → Same o plan s scope a b → Same o plan s scope (rounds f n a) (rounds g n b)
  rounded_both scope f g zero is a b h = h
  rounded_both scope f g (suc n) is a b h = is n (omega arith) _ _ (rounded_both scope f g n (λ v l. is v (omega arith)) a b h)

  -- contexts that a block raises
  raised : (scope : Scope) (context : ℕ) (e : Expr) → o.label context ≡ true → o.label (if_context o plan scope context e) ≡ true
  raised scope context e l = laws.join_label _ _ l (expr_is_label o laws plan s scope e)

  shut : (scope : Scope) (context : ℕ) (e : Expr) → o.label context ≡ true → o.below (expr_label o plan scope e) s ≡ false
      → o.below (if_context o plan scope context e) s ≡ false
  shut scope context e l hidden = hidden_right o laws plan s context _ l (expr_is_label o laws plan s scope e) hidden

  deeper : (context t v : ℕ) → o.label context ≡ true → o.label (each_context o plan context t v) ≡ true
  deeper context t v l = laws.join_label _ _ l (row_is_label o laws plan s t v)

  dark : (context t v : ℕ) → o.label context ≡ true → o.below (row_label o plan t v) s ≡ false → o.below (each_context o plan context t v) s ≡ false
  dark context t v l hidden = hidden_right o laws plan s context _ l (row_is_label o laws plan s t v) hidden

  -- an expression of `drop` or `alter`, at two rows that look the same
  under : (scope : Scope) (t v : ℕ) (val : Valuation) (left right : Cursors) (a b : State) (x y : List ℕ) → SameRow o plan s t v x y
      → SameCursors o plan s scope left right → Same o plan s scope a b
      → (e : Expr) → o.below (expr_label o plan (enter scope (cursor t v)) e) s ≡ true
      → eval val (upd left scope.depth x) a.vars e ≡ eval val (upd right scope.depth y) b.vars e
  under scope t v val left right a b x y row rows h e seen =
      eval_same (enter scope (cursor t v)) val (upd left scope.depth x) (upd right scope.depth y) a.vars b.vars
      (enter_same o laws plan s scope (cursor t v) a b refl h).vars (cursor_entered scope t v left right x y row rows) e seen

  -- a block of a hidden choice leaves two states as they looked
  apart : {scope : Scope} {a b x y : State} → Same o plan s scope a b → Same o plan s scope a x → Same o plan s scope b y → Same o plan s scope x y
  apart h k l = same_trans o laws plan s (same_sym o laws plan s k) (same_trans o laws plan s h l)

  pub in_step : (code : Code) (scope : Scope) (val : Valuation) (context : ℕ) (left right : Cursors) (a b : State)
      → o.label context ≡ true → Allowed o plan code scope val context → SameCursors o plan s scope left right → Same o plan s scope a b
      → Same o plan s scope (exec plan code scope.depth val left a) (exec plan code scope.depth val right b)
  unfolding exec Allowed
  in_step stop scope val context left right a b l ok rows h = h
  in_step (var mark rest) scope val context left right a b l ok rows h =
      leave o laws plan s scope (held (mark_at val mark)) _ _
      (in_step rest (enter scope (held (mark_at val mark))) val context left right _ _ l ok
      (name_entered scope (held (mark_at val mark)) left right (λ column. refl) rows)
      (declared_both scope (held (mark_at val mark)) a b h))
  in_step (set place level e rest) scope val context left right a b l ok rows h =
      in_step rest scope val context left right _ _ l ok.1 rows
      (assigned_both scope level _ _ a b
      (λ seen. eval_same scope val left right a.vars b.vars h.vars rows e
      (seen_right o laws plan s context _ l (expr_is_label o laws plan s scope e) (laws.transitive _ _ s ok.0 seen)))
      h)
  in_step (if e first second rest) scope val context left right a b l ok rows h =
      in_step rest scope val context left right _ _ l ok.2 rows
      (split (o.below (expr_label o plan scope e) s)
      (λ seen. both (eqb (eval val left a.vars e) 0) (eqb (eval val right b.vars e) 0) (Same o plan s scope) _ _ _ _
      (ap (λ n. eqb n 0) (eval_same scope val left right a.vars b.vars h.vars rows e seen))
      (λ t. in_step second scope val (if_context o plan scope context e) left right _ _ (raised scope context e l) ok.1 rows (counted_both scope 1 a b h))
      (λ t. in_step first scope val (if_context o plan scope context e) left right _ _ (raised scope context e l) ok.0 rows (counted_both scope 1 a b h)))
      (λ hidden. apart (counted_both scope 1 a b h)
      (cond_both (eqb (eval val left a.vars e) 0) _ _ (λ z. Same o plan s scope (count_steps 1 a) z)
      (λ t. confined o laws plan s second scope val (if_context o plan scope context e) left _ (raised scope context e l) (shut scope context e l hidden) ok.1)
      (λ t. confined o laws plan s first scope val (if_context o plan scope context e) left _ (raised scope context e l) (shut scope context e l hidden) ok.0))
      (cond_both (eqb (eval val right b.vars e) 0) _ _ (λ z. Same o plan s scope (count_steps 1 b) z)
      (λ t. confined o laws plan s second scope val (if_context o plan scope context e) right _ (raised scope context e l) (shut scope context e l hidden) ok.1)
      (λ t. confined o laws plan s first scope val (if_context o plan scope context e) right _ (raised scope context e l) (shut scope context e l hidden) ok.0))))
  in_step (when i j first second rest) scope val context left right a b l ok rows h =
      in_step rest scope val context left right _ _ l ok.2 rows
      (both (eqb (whom val i) (whom val j)) (eqb (whom val i) (whom val j)) (Same o plan s scope) _ _ _ _ refl
      (λ t. in_step first scope val context left right _ _ l (ok.0 t) rows (counted_both scope 1 a b h))
      (λ t. in_step second scope val context left right _ _ l (ok.1 t) rows (counted_both scope 1 a b h)))
  in_step (vendors body rest) scope val context left right a b l ok rows h =
      in_step rest scope val context left right _ _ l ok.1 rows
      (rounded_both scope _ _ plan.vendors
      (λ v k x y z. leave o laws plan s scope turn _ _
      (in_step body (enter scope turn) (put_index val scope.depth v) context left right _ _ l (ok.0 v k)
      (name_entered scope turn left right (λ column. refl) rows)
      (enter_same o laws plan s scope turn _ _ refl (counted_both scope 1 x y z))))
      _ _ (counted_both scope 1 a b h))
  in_step (each t i body rest) scope val context left right a b l ok rows h =
      in_step rest scope val context left right _ _ l ok.1 rows
      (split (o.below (row_label o plan t (whom val i)) s)
      (λ seen. walked_both scope t (whom val i) _ _
      (λ x y row p q z. leave o laws plan s scope (cursor t (whom val i)) _ _
      (in_step body (enter scope (cursor t (whom val i))) val (each_context o plan context t (whom val i)) (upd left scope.depth x) (upd right scope.depth y) _ _
      (deeper context t (whom val i) l) ok.0
      (cursor_entered scope t (whom val i) left right x y row rows)
      (enter_same o laws plan s scope (cursor t (whom val i)) _ _ refl (counted_both scope 1 p q z))))
      (h.lots t (whom val i) seen).rows _ _ (counted_both scope 1 a b h))
      (λ hidden. apart (counted_both scope 1 a b h)
      (walked o laws plan s scope _
      (λ row z. same_trans o laws plan s (counted o laws plan s _ (deeper context t (whom val i) l) (dark context t (whom val i) l hidden) scope 1 z)
      (leave o laws plan s scope (cursor t (whom val i)) _ _
      (confined o laws plan s body (enter scope (cursor t (whom val i))) val (each_context o plan context t (whom val i)) (upd left scope.depth row) _
      (deeper context t (whom val i) l) (dark context t (whom val i) l hidden) ok.0)))
      (a.lots t (whom val i)).rows (count_steps 1 a))
      (walked o laws plan s scope _
      (λ row z. same_trans o laws plan s (counted o laws plan s _ (deeper context t (whom val i) l) (dark context t (whom val i) l hidden) scope 1 z)
      (leave o laws plan s scope (cursor t (whom val i)) _ _
      (confined o laws plan s body (enter scope (cursor t (whom val i))) val (each_context o plan context t (whom val i)) (upd right scope.depth row) _
      (deeper context t (whom val i) l) (dark context t (whom val i) l hidden) ok.0)))
      (b.lots t (whom val i)).rows (count_steps 1 b))))
  in_step (add place t i es rest) scope val context left right a b l ok rows h =
      in_step rest scope val context left right _ _ l ok.1 rows
      (stored_both scope t (whom val i) 1 1 _ _ a b
      (λ seen. entered_both t (whom val i) (room plan t (whom val i)) _ _ _ _
      (record {
        size = length-map es _ ∙ sym (length-map es _);
        cells = λ k sees. cells_both scope t (whom val i) 0 (eval val left a.vars) (eval val right b.vars)
            (λ e. eval_same scope val left right a.vars b.vars h.vars rows e) es (and_parts _ _ ok.0).1 k
            (rw (ap (cell_label o plan t (whom val i)) (let z : k ≡ 0 + k = omega arith in z)) at sees);
      })
      (h.lots t (whom val i) seen))
      (λ seen. refl) h)
  in_step (drop place t i condition rest) scope val context left right a b l ok rows h =
      in_step rest scope val context left right _ _ l ok.1 rows
      (stored_both scope t (whom val i) _ _ _ _ a b
      (λ seen. record {
        rows = dropped_both t (whom val i) _ _
            (λ x y row. under scope t (whom val i) val left right a b x y row rows h condition
            (seen_right o laws plan s context _ l (expr_is_label o laws plan s (enter scope (cursor t (whom val i))) condition) (laws.transitive _ _ s ok.0 seen)))
            (h.lots t (whom val i) seen).rows;
        lost = (h.lots t (whom val i) seen).lost;
      })
      (λ seen. ap (λ n. 1 + n) (rows_length o laws plan s (h.lots t (whom val i) seen).rows)) h)
  in_step (alter place t i column value condition rest) scope val context left right a b l ok rows h =
      in_step rest scope val context left right _ _ l ok.1 rows
      (stored_both scope t (whom val i) _ _ _ _ a b
      (λ seen. record {
        rows = altered_both t (whom val i) column _ _ _ _
            (λ x y row sees. (
              under scope t (whom val i) val left right a b x y row rows h value
                  (seen_right o laws plan s context _ l (expr_is_label o laws plan s (enter scope (cursor t (whom val i))) value)
                  (seen_left o laws plan s _ _ (laws.join_label _ _ l (expr_is_label o laws plan s (enter scope (cursor t (whom val i))) value))
                  (expr_is_label o laws plan s (enter scope (cursor t (whom val i))) condition) (laws.transitive _ _ s ok.0 sees))),
              under scope t (whom val i) val left right a b x y row rows h condition
                  (seen_right o laws plan s _ _ (laws.join_label _ _ l (expr_is_label o laws plan s (enter scope (cursor t (whom val i))) value))
                  (expr_is_label o laws plan s (enter scope (cursor t (whom val i))) condition) (laws.transitive _ _ s ok.0 sees)),
            ))
            (h.lots t (whom val i) seen).rows;
        lost = (h.lots t (whom val i) seen).lost;
      })
      (λ seen. ap (λ n. 1 + n) (rows_length o laws plan s (h.lots t (whom val i) seen).rows)) h)

pub lockstep : Lockstep
lockstep o laws plan s code scope val context left right a b l ok rows h = in_step o laws plan s code scope val context left right a b l ok rows h
