-- What somebody at a label sees: when two states look the same there.
use Rattle.std.specs.Prelude.{◌≡◌, ℕ, true, List, [], ◌∷◌, length, slice_index}
use Rattle.lattice.specs.Order.{Order}
use Rattle.rules.specs.Plans.{Plan}
use Rattle.rules.specs.Lots.{Lot, Lots}
use Rattle.rules.specs.Evaluation.{State, Cursors}
use Rattle.rules.specs.Labels.{Scope, row_label, cell_label, var_label, cursor_label}

-- Two rows of a lot look the same: they have as many cells, and the cells that are seen are equal.
pub record SameRow (o : Order) (plan : Plan) (s t v : ℕ) (a b : List ℕ) : Type 0 where
  pub size : length a ≡ length b
  pub cells : (column : ℕ) → o.below (cell_label o plan t v column) s ≡ true → slice_index a column ≡ slice_index b column

pub data SameRows (o : Order) (plan : Plan) (s t v : ℕ) : List (List ℕ) → List (List ℕ) → Type 0 where
  none : SameRows o plan s t v [] []
  more : {a b : List ℕ} {xs ys : List (List ℕ)} → SameRow o plan s t v a b → SameRows o plan s t v xs ys → SameRows o plan s t v (a ∷ xs) (b ∷ ys)

pub record SameLot (o : Order) (plan : Plan) (s t v : ℕ) (a b : Lot) : Type 0 where
  pub rows : SameRows o plan s t v a.rows b.rows
  pub lost : a.lost ≡ b.lost

-- Every lot whose rows are seen looks the same.
abbrev pub SameLots : Order → Plan → ℕ → Lots → Lots → Type 0
SameLots o plan s a b = (t v : ℕ) → o.below (row_label o plan t v) s ≡ true → SameLot o plan s t v (a t v) (b t v)

-- Two states look the same at s: in the variables and the lots that are seen, and in the steps where even the top is.
pub record Same (o : Order) (plan : Plan) (s : ℕ) (scope : Scope) (a b : State) : Type 0 where
  pub vars : (level : ℕ) → o.below (var_label o scope level) s ≡ true → a.vars level ≡ b.vars level
  pub lots : SameLots o plan s a.lots b.lots
  pub steps : o.below o.top s ≡ true → a.steps ≡ b.steps

-- The rows that the cursors stand at look the same.
abbrev pub SameCursors : Order → Plan → ℕ → Scope → Cursors → Cursors → Type 0
SameCursors o plan s scope a b =
    (level column : ℕ) → o.below (cursor_label o plan scope level column) s ≡ true → slice_index (a level) column ≡ slice_index (b level) column
