-- The expressions of an `add`, one after the other.
use Rattle.std.proofs.Common.{◌≡◌, ℕ, zero, suc, ◌+◌, ◌-◌, ◌<◌, ◌≤◌, Bool, true, false, cond, ◌&&◌, ltb, List, [], ◌∷◌, ◌++◌, map, length, Ok, Err, Result, refl, ap, ap₂, ◌∙◌, sub-one, arith, length-append}
use Rattle.std.proofs.lemmas.Bool.Decides.{nat_tests}
use Rattle.rules.specs.Scripts as rules
use Rattle.rules.specs.declared.refusal.Refusal.TheVariants.{Unexpected}
use Rattle.rules.specs.Guards.{and_then}
use Rattle.rules.specs.Plans.{Plan}
use Rattle.grammar.specs.declared.marks.Mark.TheVariants.{Comma, CloseParen}
use Rattle.grammar.specs.Tokens.{Refusal, Found, token_at, is_mark}
use Rattle.grammar.specs.Scopes.{Scope}
use Rattle.grammar.specs.Steps.{unexpected}
use Rattle.grammar.specs.Expressions.{Term, most_parens, read_expr}
use Rattle.grammar.specs.Statements.{Values, Behind, last_value, more_values, behind, behind_if, read_values}
use Rattle.script.specs.Nodes.{expr_at}
use Rattle.script.specs.Ordered.{all_below}
use Rattle.reading.specs.Terms.{Kept}

-- The last of them, and one with more to come.
pub values_last : (text : List ℕ) (plan : Plan) (scope : Scope) (more : ℕ) (es : List rules.Expr) (place atoms : ℕ) → more ≡ 0
    → read_values text plan scope more es place atoms
    ≡ and_then (read_expr text plan scope most_parens place atoms) (λ e. and_then (token_at text e.after) (λ f. last_value es e f (behind f.token)))
unfolding read_values
values_last text plan scope zero es place atoms e = refl
values_last text plan scope (suc more) es place atoms e = absurd (let b : ⊥ = omega (arith, e) in b)

pub values_more : (text : List ℕ) (plan : Plan) (scope : Scope) (more : ℕ) (es : List rules.Expr) (place atoms : ℕ) → (more ≡ 0 → ⊥)
    → read_values text plan scope more es place atoms
    ≡ and_then (read_expr text plan scope most_parens place atoms) (λ e. and_then (token_at text e.after) (λ f. more_values es e f (read_values text plan scope (more - 1)) (behind f.token)))
unfolding read_values
values_more text plan scope zero es place atoms e = absurd (e refl)
values_more text plan scope (suc more) es place atoms e = rw sub-one refl

-- What follows an expression with so many more to come.
unfoldable pub value_behind : List ℕ → Plan → Scope → ℕ → List rules.Expr → Term → Found → Behind → Result Values Refusal
value_behind text plan scope zero es e f b = last_value es e f b
value_behind text plan scope (suc more) es e f b = more_values es e f (read_values text plan scope more) b

pub values_are : (text : List ℕ) (plan : Plan) (scope : Scope) (more : ℕ) (es : List rules.Expr) (place atoms : ℕ)
    → read_values text plan scope more es place atoms
    ≡ and_then (read_expr text plan scope most_parens place atoms) (λ e. and_then (token_at text e.after) (λ f. value_behind text plan scope more es e f (behind f.token)))
unfolding read_values value_behind
values_are text plan scope zero es place atoms = refl
values_are text plan scope (suc more) es place atoms = refl

other_behind : (text : List ℕ) (plan : Plan) (scope : Scope) (more : ℕ) (es : List rules.Expr) (e : Term) (f : Found)
    → value_behind text plan scope more es e f Behind.other ≡ unexpected f
unfolding value_behind
other_behind text plan scope zero es e f = refl
other_behind text plan scope (suc more) es e f = refl

comma_behind : (text : List ℕ) (plan : Plan) (scope : Scope) (more : ℕ) (es : List rules.Expr) (e : Term) (f : Found) → (more ≡ 0 → ⊥)
    → value_behind text plan scope more es e f Behind.comma ≡ read_values text plan scope (more - 1) (es ++ e.value ∷ []) f.after e.atoms
unfolding value_behind
comma_behind text plan scope zero es e f some = absurd (some refl)
comma_behind text plan scope (suc more) es e f some = rw sub-one refl

close_behind : (text : List ℕ) (plan : Plan) (scope : Scope) (more : ℕ) (es : List rules.Expr) (e : Term) (f : Found) → more ≡ 0
    → value_behind text plan scope more es e f Behind.close ≡ Ok (record { values = es ++ e.value ∷ []; after = f.after; atoms = e.atoms })
unfolding value_behind
close_behind text plan scope zero es e f none = refl
close_behind text plan scope (suc more) es e f none = absurd (let b : ⊥ = omega (arith, none) in b)

module _ (text : List ℕ) (plan : Plan) (scope : Scope) (more : ℕ) (es : List rules.Expr) (place atoms : ℕ) (e : Term) (f : Found)
    (term : read_expr text plan scope most_parens place atoms ≡ Ok e) (token : token_at text e.after ≡ Ok f) where
  got : (b : Behind) → behind f.token ≡ b → read_values text plan scope more es place atoms ≡ value_behind text plan scope more es e f b
  got b is =
      values_are text plan scope more es place atoms
      ∙ ap (λ r. and_then r (λ e. and_then (token_at text e.after) (λ f. value_behind text plan scope more es e f (behind f.token)))) term
      ∙ ap (λ r. and_then r (λ f. value_behind text plan scope more es e f (behind f.token))) token
      ∙ ap (value_behind text plan scope more es e f) is

  -- Something else stands there, or a comma with more to come, or the closing parenthesis behind the last.
  pub values_other : is_mark Comma f.token ≡ false → is_mark CloseParen f.token ≡ false → read_values text plan scope more es place atoms ≡ Err (Unexpected f.place)
  values_other comma close = got Behind.other (ap₂ behind_if comma close) ∙ other_behind text plan scope more es e f

  pub values_on : is_mark Comma f.token ≡ true → (more ≡ 0 → ⊥)
      → read_values text plan scope more es place atoms ≡ read_values text plan scope (more - 1) (es ++ e.value ∷ []) f.after e.atoms
  values_on comma some = got Behind.comma (ap (λ b. behind_if b (is_mark CloseParen f.token)) comma) ∙ comma_behind text plan scope more es e f some

  pub values_end : is_mark Comma f.token ≡ false → is_mark CloseParen f.token ≡ true → more ≡ 0
      → read_values text plan scope more es place atoms ≡ Ok (record { values = es ++ e.value ∷ []; after = f.after; atoms = e.atoms })
  values_end comma close none = got Behind.close (ap₂ behind_if comma close) ∙ close_behind text plan scope more es e f none

-- Places that stood still stand.
pub kept_values : (was is : List rules.Expr) (ats : List ℕ) → Kept was is → all_below (length was) ats ≡ true → map (expr_at is) ats ≡ map (expr_at was) ats
kept_values was is [] k b = refl
kept_values was is (a ∷ ats) k b =
    let h : a < length was = grind (arith, nat_tests, b) in
    let t : all_below (length was) ats ≡ true = grind (arith, nat_tests, b) in
    ap (λ x. x ∷ map (expr_at is) ats) (k.same a h) ∙ ap (λ xs. expr_at was a ∷ xs) (kept_values was is ats k t)

pub below_kept : (m n : ℕ) (ats : List ℕ) → m ≤ n → all_below m ats ≡ true → all_below n ats ≡ true
below_kept m n [] h b = refl
below_kept m n (a ∷ ats) h b =
    let t : all_below m ats ≡ true = grind (arith, nat_tests, b) in
    let r = below_kept m n ats h t in
    let l : ltb a n ≡ true = grind (arith, nat_tests, b, h) in
    ap (λ x. x && all_below n ats) l ∙ r

pub below_one : (n : ℕ) (ats : List ℕ) (at : ℕ) → all_below n ats ≡ true → at < n → all_below n (ats ++ at ∷ []) ≡ true
below_one n [] at b h = let l : ltb at n ≡ true = grind (arith, nat_tests, h) in ap (λ x. x && true) l
below_one n (a ∷ ats) at b h =
    let t : all_below n ats ≡ true = grind (arith, nat_tests, b) in
    let l : ltb a n ≡ true = grind (arith, nat_tests, b) in
    ap (λ x. x && all_below n (ats ++ at ∷ [])) l ∙ below_one n ats at t h

pub map_one : (es : List rules.Expr) (ats : List ℕ) (at : ℕ) → map (expr_at es) (ats ++ at ∷ []) ≡ map (expr_at es) ats ++ expr_at es at ∷ []
map_one es [] at = refl
map_one es (a ∷ ats) at = ap (λ xs. expr_at es a ∷ xs) (map_one es ats at)

-- One place more in the list, where there is room.
pub one_pushed : (ats is : List ℕ) (at : ℕ) (r : Bool) → r ≡ ltb (length ats) 4 → is ≡ cond r (ats ++ at ∷ []) ats → length ats < 4 → is ≡ ats ++ at ∷ []
one_pushed ats is at true e i h = i
one_pushed ats is at false e i h = let z : ◌≡◌ {A = ℕ} 0 1 = grind (arith, nat_tests, e, h) in absurd (let b : ⊥ = omega (arith, z) in b)

pub record Pushed (was is : List rules.Expr) (ats now : List ℕ) (at : ℕ) : Type 0 where
  pub size : length now ≡ length ats + 1
  pub inside : all_below (length is) now ≡ true
  pub values : map (expr_at is) now ≡ map (expr_at was) ats ++ expr_at is at ∷ []

pub value_pushed : (was is : List rules.Expr) (ats now : List ℕ) (at : ℕ) → Kept was is → all_below (length was) ats ≡ true → at < length is
    → now ≡ ats ++ at ∷ [] → Pushed was is ats now at
value_pushed was is ats now at k b h e = record {
  size = ap length e ∙ length-append ats (at ∷ []);
  inside = ap (all_below (length is)) e ∙ below_one (length is) ats at (below_kept (length was) (length is) ats k.longer b) h;
  values = ap (map (expr_at is)) e ∙ map_one is ats at ∙ ap (λ xs. xs ++ expr_at is at ∷ []) (kept_values was is ats k b);
}
