-- An expression by its first token, at any depth.
use Rattle.std.proofs.Common.{◌≡◌, ℕ, zero, suc, ◌-◌, List, Result, refl, sub-one, arith}
use Rattle.rules.specs.Plans.{Plan}
use Rattle.grammar.specs.Tokens.{Refusal, Found}
use Rattle.grammar.specs.Scopes.{Scope}
use Rattle.grammar.specs.Expressions.{Term, term_with, one_deeper, too_deep, read_expr}

-- What follows an opening parenthesis where so many may still nest.
unfoldable pub deep : List ℕ → Plan → Scope → ℕ → Found → ℕ → Result Term Refusal
deep text plan scope zero = too_deep
deep text plan scope (suc depth) = one_deeper text (read_expr text plan scope depth)

pub expr_is : (text : List ℕ) (plan : Plan) (scope : Scope) (depth place atoms : ℕ)
    → read_expr text plan scope depth place atoms ≡ term_with text plan scope (deep text plan scope depth) place atoms
unfolding read_expr deep
expr_is text plan scope zero place atoms = refl
expr_is text plan scope (suc depth) place atoms = refl

pub expr_flat : (text : List ℕ) (plan : Plan) (scope : Scope) (depth place atoms : ℕ) → depth ≡ 0
    → read_expr text plan scope depth place atoms ≡ term_with text plan scope too_deep place atoms
unfolding read_expr
expr_flat text plan scope zero place atoms e = refl
expr_flat text plan scope (suc depth) place atoms e = absurd (let b : ⊥ = omega (arith, e) in b)

pub expr_deeper : (text : List ℕ) (plan : Plan) (scope : Scope) (depth place atoms : ℕ) → (depth ≡ 0 → ⊥)
    → read_expr text plan scope depth place atoms ≡ term_with text plan scope (one_deeper text (read_expr text plan scope (depth - 1))) place atoms
unfolding read_expr
expr_deeper text plan scope zero place atoms e = absurd (e refl)
expr_deeper text plan scope (suc depth) place atoms e = rw sub-one refl
