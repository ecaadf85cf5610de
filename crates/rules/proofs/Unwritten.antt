-- A table that a block does not write stays as it was.
use Rattle.std.proofs.Common.{◌≡◌, ℕ, zero, suc, false, eqb, List, [], ◌∷◌, refl, ◌∙◌, arith}
use Rattle.std.proofs.lemmas.Bool.{cond_both, or_parts}
use Rattle.std.proofs.lemmas.Bool.Decides.{nat_tests}
use Rattle.rules.specs.Plans.{Plan}
use Rattle.rules.specs.Scripts.{Code}
use Rattle.rules.specs.Scripts.Code.{stop, var, set, if, when, vendors, each, add, drop, alter}
use Rattle.rules.specs.Lots.{Lot, Lots, upd, put_lot}
use Rattle.rules.specs.Evaluation.{Valuation, Cursors, State, eval, exec, whom, put_index, count_steps, walk, rounds}
use Rattle.rules.specs.Writes.{writes}

-- a lot of another table
put_other : (lots : Lots) (t v : ℕ) (lot : Lot) (u w : ℕ) → eqb t u ≡ false → put_lot lots t v lot u w ≡ lots u w
put_other lots t v lot u w h = grind (arith, nat_tests)

-- the lots of one table are as they were
abbrev Stays : ℕ → State → State → Type 0
Stays u a b = (w : ℕ) → b.lots u w ≡ a.lots u w

stays_walk : {A : Type 0} (u : ℕ) (f : A → State → State) → ((x : A) (st : State) → Stays u st (f x st)) → (xs : List A) (st : State) → Stays u st (walk f xs st)
stays_walk u f h [] st w = refl
stays_walk u f h (x ∷ xs) st w = stays_walk u f h xs (f x st) w ∙ h x st w

stays_rounds : (u : ℕ) (f : ℕ → State → State) → ((v : ℕ) (st : State) → Stays u st (f v st)) → (n : ℕ) (st : State) → Stays u st (rounds f n st)
stays_rounds u f h zero st w = refl
stays_rounds u f h (suc n) st w = h n (rounds f n st) w ∙ stays_rounds u f h n st w

pub unwritten : (plan : Plan) (u : ℕ) (code : Code) (depth : ℕ) (val : Valuation) (cursors : Cursors) (st : State) → writes u code ≡ false
    → (w : ℕ) → (exec plan code depth val cursors st).lots u w ≡ st.lots u w
unfolding exec writes
unwritten plan u stop depth val cursors st h w = refl
unwritten plan u (var mark rest) depth val cursors st h w = unwritten plan u rest (suc depth) val cursors _ h w
unwritten plan u (set place level e rest) depth val cursors st h w = unwritten plan u rest depth val cursors _ h w
unwritten plan u (if e first second rest) depth val cursors st h w =
    let p = or_parts (writes u first) _ h in
    let q = or_parts (writes u second) _ p.1 in
    unwritten plan u rest depth val cursors _ q.1 w
    ∙ cond_both {A = State} (eqb (eval val cursors st.vars e) 0) _ _ (λ z. z.lots u w ≡ st.lots u w)
    (λ t. unwritten plan u second depth val cursors (count_steps 1 st) q.0 w)
    (λ t. unwritten plan u first depth val cursors (count_steps 1 st) p.0 w)
unwritten plan u (when i j first second rest) depth val cursors st h w =
    let p = or_parts (writes u first) _ h in
    let q = or_parts (writes u second) _ p.1 in
    unwritten plan u rest depth val cursors _ q.1 w
    ∙ cond_both {A = State} (eqb (whom val i) (whom val j)) _ _ (λ z. z.lots u w ≡ st.lots u w)
    (λ t. unwritten plan u first depth val cursors (count_steps 1 st) p.0 w)
    (λ t. unwritten plan u second depth val cursors (count_steps 1 st) q.0 w)
unwritten plan u (vendors body rest) depth val cursors st h w =
    let p = or_parts (writes u body) _ h in
    unwritten plan u rest depth val cursors _ p.1 w
    ∙ stays_rounds u (λ v s. exec plan body (suc depth) (put_index val depth v) cursors (count_steps 1 s)) (λ v z k. unwritten plan u body (suc depth) (put_index val depth v) cursors (count_steps 1 z) p.0 k) plan.vendors (count_steps 1 st) w
unwritten plan u (each t i body rest) depth val cursors st h w =
    let p = or_parts (writes u body) _ h in
    unwritten plan u rest depth val cursors _ p.1 w
    ∙ stays_walk u (λ row s. exec plan body (suc depth) val (upd cursors depth row) (count_steps 1 s)) (λ row z k. unwritten plan u body (suc depth) val (upd cursors depth row) (count_steps 1 z) p.0 k) (st.lots t (whom val i)).rows (count_steps 1 st) w
unwritten plan u (add place t i es rest) depth val cursors st h w =
    let p = or_parts (eqb t u) _ h in
    unwritten plan u rest depth val cursors _ p.1 w ∙ put_other st.lots t (whom val i) _ u w p.0
unwritten plan u (drop place t i condition rest) depth val cursors st h w =
    let p = or_parts (eqb t u) _ h in
    unwritten plan u rest depth val cursors _ p.1 w ∙ put_other st.lots t (whom val i) _ u w p.0
unwritten plan u (alter place t i column value condition rest) depth val cursors st h w =
    let p = or_parts (eqb t u) _ h in
    unwritten plan u rest depth val cursors _ p.1 w ∙ put_other st.lots t (whom val i) _ u w p.0
