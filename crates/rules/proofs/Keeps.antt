-- Every lot is kept: by a block, by a call, after any list of calls.
use Rattle.std.proofs.Common.{◌≡◌, ℕ, zero, suc, ◌<◌, ◌≤◌, Bool, true, false, cond, ◌&&◌, eqb, ltb, leb, List, [], ◌∷◌, map, length, get_or, set as set_at, Some, None, Ok, Err, Option, Result, refl, ◌∙◌, arith}
use Rattle.std.specs.List.{AllByRecursion}
use Rattle.std.proofs.ByRecursion.{all_kept_by, All-map, All-weaker, All-set}
use Rattle.std.proofs.lemmas.List.{length-map, length-set}
use Rattle.std.proofs.lemmas.Bool.{cond_both, and_parts, leb-true, leb-false, eqb-true, ltb-true, not-false}
use Rattle.std.proofs.lemmas.Bool.Decides.{nat_tests}
use Rattle.rules.specs.declared.refusal.Refusal.{Refusal}
use Rattle.lattice.specs.Order.{Order}
use Rattle.rules.specs.Guards.{and_then}
use Rattle.rules.specs.Plans.{Plan}
use Rattle.rules.specs.Scripts.{Op, Expr, Code}
use Rattle.rules.specs.Scripts.Op.{plus, minus, least, largest, equal, less}
use Rattle.rules.specs.Scripts.Expr.{literal, mine, of_index, variable, cell, apply}
use Rattle.rules.specs.Scripts.Code.{stop, var, set, if, when, vendors, each, add, drop, alter}
use Rattle.rules.specs.Lots.{Lot, Lots, last_word, width, room, upd, put_lot, enter_row}
use Rattle.rules.specs.Evaluation.{Valuation, Cursors, State, bit, operate, eval, exec, ran, whom, put_index, run_for, count_steps, set_var, set_lot, walk, rounds, drop_rows, alter_rows}
use Rattle.rules.specs.Admission.{Script, Reading, admission}
use Rattle.rules.specs.Calls.{Bench, new_bench, Call, checks, effect, outcome, step, bench_of, after_calls, hold, script_in, script_of}
use Rattle.rules.specs.Calls.Call.{post, admit, run, look, count, meter}
use Rattle.rules.specs.Keeping.{Words, KeptLot, expr_fits, exprs_fit, code_fits, Fitting, CallWords}
use Rattle.rules.specs.Promises.{Kept}
use Rattle.rules.proofs.StepBound.{kept_length}
use Rattle.rules.proofs.Benches.{sifted, admitted, Held, held_upd}

word_at : (xs : List ℕ) (k : ℕ) → Words xs → get_or xs k 0 ≤ last_word
word_at [] k h = omega arith
word_at (x ∷ xs) zero h = h.0
word_at (x ∷ xs) (suc k) h = word_at xs k h.1

bit_word : (b : Bool) → bit b ≤ last_word
bit_word true = omega arith
bit_word false = omega arith

operate_word : (op : Op) (a b : ℕ) → a ≤ last_word → b ≤ last_word → operate op a b ≤ last_word
operate_word plus a b h k = omega arith
operate_word minus a b h k = omega arith
operate_word least a b h k = omega arith
operate_word largest a b h k = omega arith
operate_word equal a b h k = bit_word (eqb a b)
operate_word less a b h k = bit_word (ltb a b)

-- the numbers that an expression is made from
record Numbers (val : Valuation) (cursors : Cursors) : Type 0 where
  own : val.mine ≤ last_word
  turns : (level : ℕ) → val.indexes level ≤ last_word
  rows : (level : ℕ) → Words (cursors level)

abbrev VarWords : (ℕ → ℕ) → Type 0
VarWords vars = (level : ℕ) → vars level ≤ last_word

eval_word : (val : Valuation) (cursors : Cursors) (vars : ℕ → ℕ) → Numbers val cursors → VarWords vars → (e : Expr) → expr_fits e ≡ true → eval val cursors vars e ≤ last_word
unfolding eval
eval_word val cursors vars n v (literal x) f = leb-true x last_word f
eval_word val cursors vars n v mine f = n.own
eval_word val cursors vars n v (of_index level) f = n.turns level
eval_word val cursors vars n v (variable level) f = v level
eval_word val cursors vars n v (cell level column) f = word_at (cursors level) column (n.rows level)
eval_word val cursors vars n v (apply op a b) f =
    let p = and_parts (expr_fits a) (expr_fits b) f in
    operate_word op _ _ (eval_word val cursors vars n v a p.0) (eval_word val cursors vars n v b p.1)

evals_words : (val : Valuation) (cursors : Cursors) (vars : ℕ → ℕ) → Numbers val cursors → VarWords vars → (es : List Expr) → exprs_fit es ≡ true
    → Words (map (eval val cursors vars) es)
evals_words val cursors vars n v [] f = tt
evals_words val cursors vars n v (e ∷ es) f =
    let p = and_parts (expr_fits e) (exprs_fit es) f in
    (eval_word val cursors vars n v e p.0, evals_words val cursors vars n v es p.1)

upd_words : (vars : ℕ → ℕ) (level x : ℕ) → VarWords vars → x ≤ last_word → VarWords (upd vars level x)
upd_words vars level x h l j = cond_both (eqb j level) x (vars j) (λ n. n ≤ last_word) (λ e. l) (λ e. h j)

at_row : (val : Valuation) (cursors : Cursors) (depth : ℕ) (row : List ℕ) → Numbers val cursors → Words row → Numbers val (upd cursors depth row)
at_row val cursors depth row n w = record {
  own = n.own;
  turns = n.turns;
  rows = λ level. cond_both (eqb level depth) row (cursors level) Words (λ e. w) (λ e. n.rows level);
}

at_turn : (val : Valuation) (cursors : Cursors) (depth v : ℕ) → Numbers val cursors → v ≤ last_word → Numbers (put_index val depth v) cursors
at_turn val cursors depth v n l = record { own = n.own; turns = upd_words val.indexes depth v n.turns l; rows = n.rows }

module _ (plan : Plan) where
  abbrev KeptLots : Lots → Type 0
  KeptLots lots = (t v : ℕ) → KeptLot plan t v (lots t v)

  put_kept : (lots : Lots) (t v : ℕ) (lot : Lot) → KeptLots lots → KeptLot plan t v lot → KeptLots (put_lot lots t v lot)
  put_kept lots t v lot h k u w = go (eqb u t && eqb w v) refl
    where
      go : (b : Bool) → (eqb u t && eqb w v) ≡ b → KeptLot plan u w (cond b lot (lots u w))
      go true e =
          let t_is : u ≡ t = grind (arith, nat_tests) in
          let v_is : w ≡ v = grind (arith, nat_tests) in
          rw (t_is, v_is) k
      go false e = h u w

  entered_kept : (t v : ℕ) (row : List ℕ) (lot : Lot) → KeptLot plan t v lot → length row ≡ width plan t → Words row → KeptLot plan t v (enter_row (room plan t v) row lot)
  entered_kept t v row lot h size words =
      cond_both {A = Lot} (ltb (length lot.rows) (room plan t v)) _ _ (KeptLot plan t v)
      (λ e. record { count = omega (arith, ltb-true (length lot.rows) (room plan t v) e); wide = (size, h.wide); words = (words, h.words); lost = h.lost })
      (λ e. record { count = h.count; wide = h.wide; words = h.words; lost = omega arith })

  dropped_kept : (t v : ℕ) (condition : List ℕ → ℕ) (lot : Lot) → KeptLot plan t v lot → KeptLot plan t v (drop_rows condition lot)
  dropped_kept t v condition lot h = record {
    count = omega (arith, kept_length (λ row. eqb (condition row) 0) lot.rows, h.count);
    wide = all_kept_by _ (λ row. length row ≡ width plan t) lot.rows h.wide;
    words = all_kept_by _ Words lot.rows h.words;
    lost = h.lost;
  }

  altered_kept : (t v column : ℕ) (value condition : List ℕ → ℕ) (lot : Lot) → KeptLot plan t v lot → ((row : List ℕ) → Words row → value row ≤ last_word)
      → KeptLot plan t v (alter_rows column value condition lot)
  altered_kept t v column value condition lot h is = record {
    count = simp length-map h.count;
    wide = All-map (λ row. length row ≡ width plan t) change lot.rows
        (All-weaker (λ row. length row ≡ width plan t) (λ row. length (change row) ≡ width plan t)
        (λ row e. cond_both {A = List ℕ} (eqb (condition row) 0) _ _ (λ z. length z ≡ width plan t) (λ t. e) (λ t. length-set row column (value row) ∙ e))
        lot.rows h.wide);
    words = All-map Words change lot.rows
        (All-weaker Words (λ row. Words (change row))
        (λ row w. cond_both {A = List ℕ} (eqb (condition row) 0) _ _ Words (λ t. w) (λ t. All-set (λ x. x ≤ last_word) row column (value row) (is row w) w))
        lot.rows h.words);
    lost = h.lost;
  }
    where
      change : List ℕ → List ℕ
      change row = cond (eqb (condition row) 0) row (set_at row column (value row))

  record KeptState (st : State) : Type 0 where
    vars : VarWords st.vars
    lots : KeptLots st.lots

  set_kept : (level x n : ℕ) (st : State) → KeptState st → x ≤ last_word → KeptState (set_var level x (count_steps n st))
  set_kept level x n st h l = record { vars = upd_words st.vars level x h.vars l; lots = h.lots }

  stored_kept : (t v n : ℕ) (lot : Lot) (st : State) → KeptState st → KeptLot plan t v lot → KeptState (set_lot t v lot (count_steps n st))
  stored_kept t v n lot st h k = record { vars = h.vars; lots = put_kept st.lots t v lot h.lots k }

  counted_kept : (n : ℕ) (st : State) → KeptState st → KeptState (count_steps n st)
  counted_kept n st h = record { vars = h.vars; lots = h.lots }

  walk_kept : (f : List ℕ → State → State) → ((row : List ℕ) → Words row → (st : State) → KeptState st → KeptState (f row st))
      → (rows : List (List ℕ)) → AllByRecursion Words rows → (st : State) → KeptState st → KeptState (walk f rows st)
  walk_kept f is [] w st h = h
  walk_kept f is (row ∷ rows) w st h = walk_kept f is rows w.1 (f row st) (is row w.0 st h)

  rounds_kept : (f : ℕ → State → State) (n : ℕ) → ((v : ℕ) → v < n → (st : State) → KeptState st → KeptState (f v st))
      → (st : State) → KeptState st → KeptState (rounds f n st)
  rounds_kept f zero is st h = h
  rounds_kept f (suc n) is st h = is n (omega arith) (rounds f n st) (rounds_kept f n (λ v l. is v (omega arith)) st h)

  kept_exec : plan.vendors ≤ last_word → (code : Code) (depth : ℕ) (val : Valuation) (cursors : Cursors) (st : State)
      → code_fits plan code ≡ true → Numbers val cursors → KeptState st → KeptState (exec plan code depth val cursors st)
  unfolding exec code_fits
  kept_exec few stop depth val cursors st f n h = h
  kept_exec few (var mark rest) depth val cursors st f n h = kept_exec few rest (suc depth) val cursors _ f n (set_kept depth 0 1 st h (omega arith))
  kept_exec few (set place level e rest) depth val cursors st f n h =
      let p = and_parts (expr_fits e) _ f in
      kept_exec few rest depth val cursors _ p.1 n (set_kept level _ 1 st h (eval_word val cursors st.vars n h.vars e p.0))
  kept_exec few (if e first second rest) depth val cursors st f n h =
      let p = and_parts (code_fits plan first) _ f in
      let q = and_parts (code_fits plan second) _ p.1 in
      kept_exec few rest depth val cursors _ q.1 n
      (cond_both (eqb (eval val cursors st.vars e) 0) _ _ KeptState
      (λ t. kept_exec few second depth val cursors (count_steps 1 st) q.0 n (counted_kept 1 st h))
      (λ t. kept_exec few first depth val cursors (count_steps 1 st) p.0 n (counted_kept 1 st h)))
  kept_exec few (when i j first second rest) depth val cursors st f n h =
      let p = and_parts (code_fits plan first) _ f in
      let q = and_parts (code_fits plan second) _ p.1 in
      kept_exec few rest depth val cursors _ q.1 n
      (cond_both (eqb (whom val i) (whom val j)) _ _ KeptState
      (λ t. kept_exec few first depth val cursors (count_steps 1 st) p.0 n (counted_kept 1 st h))
      (λ t. kept_exec few second depth val cursors (count_steps 1 st) q.0 n (counted_kept 1 st h)))
  kept_exec few (vendors body rest) depth val cursors st f n h =
      let p = and_parts (code_fits plan body) _ f in
      kept_exec few rest depth val cursors _ p.1 n
      (rounds_kept (λ v s. exec plan body (suc depth) (put_index val depth v) cursors (count_steps 1 s)) plan.vendors
      (λ v l z k. kept_exec few body (suc depth) (put_index val depth v) cursors (count_steps 1 z) p.0
      (at_turn val cursors depth v n (omega arith)) (counted_kept 1 z k))
      (count_steps 1 st) (counted_kept 1 st h))
  kept_exec few (each t i body rest) depth val cursors st f n h =
      let p = and_parts (code_fits plan body) _ f in
      kept_exec few rest depth val cursors _ p.1 n
      (walk_kept (λ row s. exec plan body (suc depth) val (upd cursors depth row) (count_steps 1 s))
      (λ row w z k. kept_exec few body (suc depth) val (upd cursors depth row) (count_steps 1 z) p.0 (at_row val cursors depth row n w) (counted_kept 1 z k))
      (st.lots t (whom val i)).rows (h.lots t (whom val i)).words (count_steps 1 st) (counted_kept 1 st h))
  kept_exec few (add place t i es rest) depth val cursors st f n h =
      let p = and_parts (eqb (length es) (width plan t) && exprs_fit es) _ f in
      let q = and_parts (eqb (length es) (width plan t)) (exprs_fit es) p.0 in
      kept_exec few rest depth val cursors _ p.1 n
      (stored_kept t (whom val i) 1 _ st h
      (entered_kept t (whom val i) _ (st.lots t (whom val i)) (h.lots t (whom val i))
      (length-map es _ ∙ eqb-true _ _ q.0) (evals_words val cursors st.vars n h.vars es q.1)))
  kept_exec few (drop place t i condition rest) depth val cursors st f n h =
      kept_exec few rest depth val cursors _ f n
      (stored_kept t (whom val i) _ _ st h (dropped_kept t (whom val i) _ (st.lots t (whom val i)) (h.lots t (whom val i))))
  kept_exec few (alter place t i column value condition rest) depth val cursors st f n h =
      let p = and_parts (expr_fits value) _ f in
      kept_exec few rest depth val cursors _ p.1 n
      (stored_kept t (whom val i) _ _ st h
      (altered_kept t (whom val i) column _ _ (st.lots t (whom val i)) (h.lots t (whom val i))
      (λ row w. eval_word val (upd cursors depth row) st.vars (at_row val cursors depth row n w) h.vars value p.0)))

  -- a bench whose lots are kept, and whose scripts keep them
  record KeptBench (bench : Bench) : Type 0 where
    lots : KeptLots bench.lots
    scripts : (slot : ℕ) → Held (λ script. code_fits plan script.code ≡ true) (bench.slots slot)

  slot_fits : (x : Option Script) → Held (λ script. code_fits plan script.code ≡ true) x → code_fits plan (script_of x).code ≡ true
  unfolding code_fits
  slot_fits (Some script) h = h
  slot_fits None h = refl

  ran_kept : plan.vendors ≤ last_word → (code : Code) (v : ℕ) (lots : Lots) → code_fits plan code ≡ true → v ≤ last_word → KeptLots lots → KeptLots (ran plan code v lots).lots
  unfolding ran
  ran_kept few code v lots f l h =
      (kept_exec few code 0 (run_for v) (λ _. []) (record { vars = λ _. 0; lots = lots; steps = 0 }) f
      (record { own = l; turns = λ level. omega arith; rows = λ level. tt }) (record { vars = λ level. omega arith; lots = h })).lots

  module _ (o : Order) (read : Reading) (few : plan.vendors ≤ last_word) (fits : Fitting plan read) where
    kept_step : (bench : Bench) (call : Call) → CallWords call → KeptBench bench → KeptBench (step o (admission o read plan) plan bench call)
    unfolding outcome
    kept_step bench call words h =
        sifted (λ r. KeptBench (bench_of bench r)) (checks o plan bench call) (effect (admission o read plan) plan bench call) (λ why. h) (go call words)
      where
        go : (c : Call) → CallWords c → AllByRecursion (λ k. k.holds ≡ false) (checks o plan bench c) → KeptBench (bench_of bench (effect (admission o read plan) plan bench c))
        go (post t v values) w p = record {
          lots = put_kept bench.lots t v _ h.lots (record {
            count = omega (arith, leb-false (room plan t v) (length (bench.lots t v).rows) p.1.1.1.0);
            wide = (eqb-true _ _ (not-false _ p.1.1.0), (h.lots t v).wide);
            words = (w, (h.lots t v).words);
            lost = (h.lots t v).lost;
          });
          scripts = h.scripts;
        }
        go (admit slot text) w p = taken (admission o read plan text) refl
          where
            taken : (r : Result Script Refusal) → admission o read plan text ≡ r → KeptBench (bench_of bench (and_then r (hold bench slot)))
            taken (Err why) e = h
            taken (Ok script) e = record {
              lots = h.lots;
              scripts = held_upd (λ x. code_fits plan x.code ≡ true) bench.slots slot script h.scripts
                  (fits text script.code (admitted o read plan text script e).is_read);
            }
        go (run slot v) w p = record {
          lots = ran_kept few (script_in bench slot).code v bench.lots (slot_fits (bench.slots slot) (h.scripts slot)) (omega (arith, leb-false plan.vendors v p.0)) h.lots;
          scripts = h.scripts;
        }
        go (look clearance t v place column) w p = h
        go (count clearance t v) w p = h
        go (meter clearance) w p = h

    kept_after : (calls : List Call) → AllByRecursion CallWords calls → (bench : Bench) → KeptBench bench → KeptBench (after_calls o (admission o read plan) plan bench calls)
    kept_after [] w bench h = h
    kept_after (c ∷ cs) w bench h = kept_after cs w.1 (step o (admission o read plan) plan bench c) (kept_step bench c w.0 h)

pub kept : Kept
kept o read plan is_sound fits calls words =
    let few : plan.vendors ≤ last_word =
    omega (arith, leb-true plan.vendors 32 (and_parts (leb plan.vendors 32) _ (and_parts (leb 1 plan.vendors) _ is_sound).1).0) in
    (kept_after plan o read few fits calls words new_bench
    (record {
      lots = λ t v. record { count = omega arith; wide = tt; words = tt; lost = omega arith };
      scripts = λ slot. tt;
    })).lots
