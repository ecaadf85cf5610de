-- A block takes no more steps than its figure, and no lot outgrows its room.
use Rattle.std.proofs.Common.{◌≡◌, ℕ, zero, suc, ◌+◌, ◌*◌, ◌≤◌, Bool, true, false, cond, not, ◌&&◌, eqb, ltb, List, [], ◌∷◌, map, length, filter, refl, mul-le-mul_right, suc-mul, arith}
use Rattle.std.proofs.lemmas.List.Filters.{length-filter_both}
use Rattle.std.proofs.lemmas.List.{length-map}
use Rattle.std.proofs.lemmas.Bool.{cond_both, ltb-true}
use Rattle.std.proofs.lemmas.Bool.Decides.{nat_tests}
use Rattle.rules.specs.Pairs.{Pair, pair_at}
use Rattle.rules.specs.Plans.{Plan}
use Rattle.rules.specs.Scripts.{Code}
use Rattle.rules.specs.Scripts.Code.{stop, var, set, if, when, vendors, each, add, drop, alter}
use Rattle.rules.specs.Lots.{Lot, Lots, InRoom, table_at, room, longest, longest_of, upd, put_lot, enter_row}
use Rattle.rules.specs.Evaluation.{Valuation, Cursors, State, eval, exec, whom, put_index, count_steps, set_var, set_lot, walk, rounds, drop_rows, alter_rows}
use Rattle.rules.specs.Figures.{figure}

room_of_list : (ps : List Pair) (v : ℕ) → (pair_at ps v).length ≤ longest_of ps
room_of_list [] v = omega arith
room_of_list (p ∷ ps) zero = omega arith
room_of_list (p ∷ ps) (suc v) = omega (arith, room_of_list ps v)

pub room_longest : (plan : Plan) (t v : ℕ) → room plan t v ≤ longest plan t
room_longest plan t v = room_of_list (table_at plan t).lots v

pub put_in_room : (plan : Plan) (lots : Lots) (t v : ℕ) (lot : Lot) → InRoom plan lots → length lot.rows ≤ room plan t v → InRoom plan (put_lot lots t v lot)
put_in_room plan lots t v lot h k u w = go (eqb u t && eqb w v) refl
  where
    go : (b : Bool) → (eqb u t && eqb w v) ≡ b → length (cond b lot (lots u w)).rows ≤ room plan u w
    go true e =
        let t_is : u ≡ t = grind (arith, nat_tests) in
        let v_is : w ≡ v = grind (arith, nat_tests) in
        rw (t_is, v_is) k
    go false e = h u w

pub entered_room : (n : ℕ) (row : List ℕ) (lot : Lot) → length lot.rows ≤ n → length (enter_row n row lot).rows ≤ n
entered_room n row lot h =
    cond_both {A = Lot} (ltb (length lot.rows) n) _ _ (λ x. length x.rows ≤ n)
    (λ e. omega (arith, ltb-true (length lot.rows) n e)) (λ e. h)

pub kept_length : {X : Type 0} (p : X → Bool) (xs : List X) → length (filter p xs) ≤ length xs
kept_length p xs = omega (arith, length-filter_both p (λ x. not (p x)) (λ x. refl) xs)

-- the state after a block that takes at most n steps
pub record Within (plan : Plan) (n : ℕ) (a b : State) : Type 0 where
  pub rooms : InRoom plan b.lots
  pub bound : b.steps ≤ a.steps + n

module _ (plan : Plan) where
  within_more : {n m : ℕ} {a b c : State} → Within plan n a b → Within plan m b c → Within plan (n + m) a c
  within_more h k = let x = h.bound in let y = k.bound in record { rooms = k.rooms; bound = omega arith }

  within_weaker : {n m : ℕ} {a b : State} → n ≤ m → Within plan n a b → Within plan m a b
  within_weaker l h = let x = h.bound in record { rooms = h.rooms; bound = omega arith }

  walk_within : {A : Type 0} (k : ℕ) (f : A → State → State) → ((x : A) (st : State) → InRoom plan st.lots → Within plan k st (f x st))
      → (xs : List A) (st : State) → InRoom plan st.lots → Within plan (length xs * k) st (walk f xs st)
  walk_within k f h [] st r = record { rooms = r; bound = omega arith }
  walk_within k f h (x ∷ xs) st r =
      let one = h x st r in
      within_weaker (omega (arith, suc-mul (length xs) k)) (within_more one (walk_within k f h xs (f x st) one.rooms))

  rounds_within : (k : ℕ) (f : ℕ → State → State) → ((v : ℕ) (st : State) → InRoom plan st.lots → Within plan k st (f v st))
      → (n : ℕ) (st : State) → InRoom plan st.lots → Within plan (n * k) st (rounds f n st)
  rounds_within k f h zero st r = record { rooms = r; bound = omega arith }
  rounds_within k f h (suc n) st r =
      let so_far = rounds_within k f h n st r in
      within_weaker (omega (arith, suc-mul n k)) (within_more so_far (h n (rounds f n st) so_far.rooms))

  stepped : (n : ℕ) (st : State) → InRoom plan st.lots → Within plan n st (count_steps n st)
  stepped n st r = record { rooms = r; bound = omega arith }

  -- a lot that `drop` or `alter` went through
  written : (t v : ℕ) (lot : Lot) (st : State) → InRoom plan st.lots → length lot.rows ≤ length (st.lots t v).rows
      → Within plan (1 + longest plan t) st (set_lot t v lot (count_steps (1 + length (st.lots t v).rows) st))
  written t v lot st r h = record {
    rooms = put_in_room plan st.lots t v lot r (omega (arith, r t v));
    bound = omega (arith, r t v, room_longest plan t v);
  }

  -- steps within the figure
  pub within_figure : (code : Code) (depth : ℕ) (val : Valuation) (cursors : Cursors) (st : State) → InRoom plan st.lots
      → Within plan (figure plan code) st (exec plan code depth val cursors st)
  unfolding exec figure
  within_figure stop depth val cursors st r = record { rooms = r; bound = omega arith }
  within_figure (var mark rest) depth val cursors st r =
      let a : Within plan 1 st (set_var depth 0 (count_steps 1 st)) = record { rooms = r; bound = omega arith } in
      within_more a (within_figure rest (suc depth) val cursors _ r)
  within_figure (set place level e rest) depth val cursors st r =
      let a : Within plan 1 st (set_var level (eval val cursors st.vars e) (count_steps 1 st)) = record { rooms = r; bound = omega arith } in
      within_more a (within_figure rest depth val cursors _ r)
  within_figure (if e first second rest) depth val cursors st r =
      let a = within_more (stepped 1 st r)
      (cond_both (eqb (eval val cursors st.vars e) 0) _ _ (λ z. Within plan (figure plan first + figure plan second) (count_steps 1 st) z)
      (λ t. within_weaker (omega arith) (within_figure second depth val cursors (count_steps 1 st) r))
      (λ t. within_weaker (omega arith) (within_figure first depth val cursors (count_steps 1 st) r))) in
      within_more a (within_figure rest depth val cursors _ a.rooms)
  within_figure (when i j first second rest) depth val cursors st r =
      let a = within_more (stepped 1 st r)
      (cond_both (eqb (whom val i) (whom val j)) _ _ (λ z. Within plan (figure plan first + figure plan second) (count_steps 1 st) z)
      (λ t. within_weaker (omega arith) (within_figure first depth val cursors (count_steps 1 st) r))
      (λ t. within_weaker (omega arith) (within_figure second depth val cursors (count_steps 1 st) r))) in
      within_more a (within_figure rest depth val cursors _ a.rooms)
  within_figure (vendors body rest) depth val cursors st r =
      let a = within_more (stepped 1 st r)
      (rounds_within (1 + figure plan body) _
      (λ v z q. within_more (stepped 1 z q) (within_figure body (suc depth) (put_index val depth v) cursors (count_steps 1 z) q))
      plan.vendors (count_steps 1 st) r) in
      within_more a (within_figure rest depth val cursors _ a.rooms)
  within_figure (each t i body rest) depth val cursors st r =
      let a = within_more (stepped 1 st r)
      (within_weaker (mul-le-mul_right (1 + figure plan body) (let z : length (st.lots t (whom val i)).rows ≤ longest plan t = omega (arith, r t (whom val i), room_longest plan t (whom val i)) in z))
      (walk_within (1 + figure plan body) _
      (λ row z q. within_more (stepped 1 z q) (within_figure body (suc depth) val (upd cursors depth row) (count_steps 1 z) q))
      (st.lots t (whom val i)).rows (count_steps 1 st) r)) in
      within_more a (within_figure rest depth val cursors _ a.rooms)
  within_figure (add place t i es rest) depth val cursors st r =
      let a : Within plan 1 st (set_lot t (whom val i) (enter_row (room plan t (whom val i)) (map (eval val cursors st.vars) es) (st.lots t (whom val i))) (count_steps 1 st)) =
      record { rooms = put_in_room plan st.lots t (whom val i) _ r (entered_room (room plan t (whom val i)) _ (st.lots t (whom val i)) (r t (whom val i))); bound = omega arith } in
      within_more a (within_figure rest depth val cursors _ a.rooms)
  within_figure (drop place t i condition rest) depth val cursors st r =
      let a = written t (whom val i) (drop_rows (λ row. eval val (upd cursors depth row) st.vars condition) (st.lots t (whom val i))) st r (kept_length _ (st.lots t (whom val i)).rows) in
      within_more a (within_figure rest depth val cursors _ a.rooms)
  within_figure (alter place t i column value condition rest) depth val cursors st r =
      let a = written t (whom val i)
      (alter_rows column (λ row. eval val (upd cursors depth row) st.vars value) (λ row. eval val (upd cursors depth row) st.vars condition) (st.lots t (whom val i)))
      st r (simp length-map (omega arith)) in
      within_more a (within_figure rest depth val cursors _ a.rooms)
