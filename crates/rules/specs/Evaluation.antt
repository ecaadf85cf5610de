-- What a block does: the values of expressions, the nine statements, and the steps that they take.
use Rattle.std.specs.Prelude.{ℕ, zero, suc, ◌+◌, ◌-◌, min, max, Bool, cond, List, [], ◌∷◌, map, length, set as set_at, filter, ◌==◌, nat_eq, nat_lt, slice_index}
use Rattle.rules.specs.Plans.{Plan}
use Rattle.rules.specs.Scripts.{Index, Op, Expr, Code}
use Rattle.rules.specs.Scripts.Index.{number, me, index}
use Rattle.rules.specs.Scripts.Op.{plus, minus, least, largest, equal, less}
use Rattle.rules.specs.Scripts.Expr.{literal, mine, of_index, variable, cell, apply}
use Rattle.rules.specs.Scripts.Code.{stop, var, set, if, when, vendors, each, add, drop, alter}
use Rattle.rules.specs.Lots.{Lot, Lots, last_word, room, upd, put_lot, enter_row}

-- A valuation: the vendor that the script runs for, and the vendor that each index in scope stands for.
pub record Valuation : Type 0 where
  pub mine : ℕ
  pub indexes : ℕ → ℕ

abbrev pub put_index : Valuation → ℕ → ℕ → Valuation
put_index val level v = record { mine = val.mine; indexes = upd val.indexes level v }

-- The vendor that is meant.
abbrev pub whom : Valuation → Index → ℕ
whom val (number n) = n
whom val me = val.mine
whom val (index level) = val.indexes level

-- The row that each cursor in scope stands at.
abbrev pub Cursors : Type 0
Cursors = ℕ → List ℕ

-- What a run changes: the variables, the lots, and the steps counted so far.
pub record State : Type 0 where
  pub vars : ℕ → ℕ
  pub lots : Lots
  pub steps : ℕ

abbrev pub bit : Bool → ℕ
bit b = cond b 1 0

-- Sums stop at the largest number, differences at 0; a comparison gives 1 or 0.
abbrev pub operate : Op → ℕ → ℕ → ℕ
operate plus a b = min (a + b) last_word
operate minus a b = a - b
operate least a b = min a b
operate largest a b = max a b
operate equal a b = bit (a == b)
operate less a b = bit (nat_lt a b)

unfoldable pub eval : Valuation → Cursors → (ℕ → ℕ) → Expr → ℕ
eval val cursors vars (literal n) = n
eval val cursors vars mine = val.mine
eval val cursors vars (of_index level) = val.indexes level
eval val cursors vars (variable level) = vars level
eval val cursors vars (cell level column) = slice_index (cursors level) column
eval val cursors vars (apply op a b) = operate op (eval val cursors vars a) (eval val cursors vars b)

-- some more steps
abbrev pub count_steps : ℕ → State → State
count_steps n st = record { vars = st.vars; lots = st.lots; steps = st.steps + n }

abbrev pub set_var : ℕ → ℕ → State → State
set_var level x st = record { vars = upd st.vars level x; lots = st.lots; steps = st.steps }

abbrev pub set_lot : ℕ → ℕ → Lot → State → State
set_lot t v lot st = record { vars = st.vars; lots = put_lot st.lots t v lot; steps = st.steps }

-- one turn for each row, in the order given
abbrev pub walk : {A : Type 0} → (A → State → State) → List A → State → State
walk turn [] st = st
walk turn (row ∷ rows) st = walk turn rows (turn row st)

-- one turn for each number below n, from 0 up
abbrev pub rounds : (ℕ → State → State) → ℕ → State → State
rounds turn zero st = st
rounds turn (suc n) st = turn n (rounds turn n st)

-- the rows without those whose condition is not 0, in their order
abbrev pub drop_rows : (List ℕ → ℕ) → Lot → Lot
drop_rows condition lot = record { rows = filter (λ row. nat_eq (condition row) 0) lot.rows; lost = lot.lost }

-- the rows, with the column set from the old cells where the condition is not 0
abbrev pub alter_rows : ℕ → (List ℕ → ℕ) → (List ℕ → ℕ) → Lot → Lot
alter_rows column value condition lot = record {
  rows = map (λ row. cond (condition row == 0) row (set_at row column (value row))) lot.rows;
  lost = lot.lost;
}

-- What the flat statements do, each with its steps.
abbrev pub do_set : ℕ → ℕ → State → State
do_set level x st = set_var level x (count_steps 1 st)

abbrev pub do_add : Plan → ℕ → ℕ → List ℕ → State → State
do_add plan t v row st = set_lot t v (enter_row (room plan t v) row (st.lots t v)) (count_steps 1 st)

abbrev pub do_drop : ℕ → ℕ → (List ℕ → ℕ) → State → State
do_drop t v condition st = set_lot t v (drop_rows condition (st.lots t v)) (count_steps (1 + length (st.lots t v).rows) st)

abbrev pub do_alter : ℕ → ℕ → ℕ → (List ℕ → ℕ) → (List ℕ → ℕ) → State → State
do_alter t v column value condition st =
    set_lot t v (alter_rows column value condition (st.lots t v)) (count_steps (1 + length (st.lots t v).rows) st)

-- What is left when a block has run: `depth` is the number of names in scope. A statement begun is a step, and so is each
-- row that `each`, `drop` or `alter` visits and each turn of `vendors`.
unfoldable pub exec : Plan → Code → ℕ → Valuation → Cursors → State → State
exec plan stop depth val cursors st = st
exec plan (var mark rest) depth val cursors st = exec plan rest (suc depth) val cursors (do_set depth 0 st)
exec plan (set place level e rest) depth val cursors st = exec plan rest depth val cursors (do_set level (eval val cursors st.vars e) st)
exec plan (if e first second rest) depth val cursors st =
    exec plan rest depth val cursors
    (cond (eval val cursors st.vars e == 0) (exec plan second depth val cursors (count_steps 1 st)) (exec plan first depth val cursors (count_steps 1 st)))
exec plan (when i j first second rest) depth val cursors st =
    exec plan rest depth val cursors
    (cond (whom val i == whom val j) (exec plan first depth val cursors (count_steps 1 st)) (exec plan second depth val cursors (count_steps 1 st)))
exec plan (vendors body rest) depth val cursors st =
    exec plan rest depth val cursors
    (rounds (λ v s. exec plan body (suc depth) (put_index val depth v) cursors (count_steps 1 s)) plan.vendors (count_steps 1 st))
exec plan (each t i body rest) depth val cursors st =
    exec plan rest depth val cursors
    (walk (λ row s. exec plan body (suc depth) val (upd cursors depth row) (count_steps 1 s)) (st.lots t (whom val i)).rows (count_steps 1 st))
exec plan (add place t i es rest) depth val cursors st =
    exec plan rest depth val cursors (do_add plan t (whom val i) (map (eval val cursors st.vars) es) st)
exec plan (drop place t i condition rest) depth val cursors st =
    exec plan rest depth val cursors (do_drop t (whom val i) (λ row. eval val (upd cursors depth row) st.vars condition) st)
exec plan (alter place t i column value condition rest) depth val cursors st =
    exec plan rest depth val cursors
    (do_alter t (whom val i) column (λ row. eval val (upd cursors depth row) st.vars value) (λ row. eval val (upd cursors depth row) st.vars condition) st)

abbrev pub run_for : ℕ → Valuation
run_for v = record { mine = v; indexes = λ _. 0 }

-- A whole script run for a vendor on some lots: what it leaves, and its steps.
unfoldable pub ran : Plan → Code → ℕ → Lots → State
ran plan code v lots = exec plan code 0 (run_for v) (λ _. []) (record { vars = λ _. 0; lots = lots; steps = 0 })
