-- What is seen at a label: labels in play, and that looking the same is an equivalence.
use Rattle.std.proofs.Common.{◌≡◌, ℕ, suc, Bool, true, false, eqb, List, [], ◌∷◌, length, sym, refl, ap, ◌∙◌, arith}
use Rattle.std.proofs.lemmas.Bool.{both_ways}
use Rattle.std.proofs.lemmas.Bool.Decides.{nat_tests}
use Rattle.lattice.specs.Order.{Order, Laws}
use Rattle.rules.specs.Plans.{Plan}
use Rattle.rules.specs.Scripts.{Expr}
use Rattle.rules.specs.Scripts.Mark.{opened, tag_of}
use Rattle.rules.specs.Scripts.Expr.{literal, mine, of_index, variable, cell, apply}
use Rattle.rules.specs.Lots.{Lot, Lots}
use Rattle.rules.specs.Evaluation.{State}
use Rattle.rules.specs.Labels.{Name, Scope, enter, name_at, row_label, cell_label, held_label, var_label, column_label, expr_label}
use Rattle.rules.specs.Labels.Name.{unknown, held, turn, cursor}
use Rattle.rules.specs.Sight.{SameRow, SameRows, SameLot, SameLots, Same}
use Rattle.rules.specs.Sight.SameRows.{none, more}

-- a test that is not true is false
pub refuted : (t : Bool) → (t ≡ true → ⊥) → t ≡ false
refuted true h = absurd (h refl)
refuted false h = refl

-- the name just made, and the ones before it
pub name_made : (scope : Scope) (name : Name) → name_at (enter scope name) scope.depth ≡ name
name_made scope name = grind (arith, nat_tests)

pub name_before : (scope : Scope) (name : Name) (level : ℕ) → (level ≡ scope.depth → ⊥) → name_at (enter scope name) level ≡ name_at scope level
name_before scope name level h = grind (arith, nat_tests)

pub name_past : (scope : Scope) → name_at scope scope.depth ≡ unknown
name_past scope = grind (arith, nat_tests)

module _ (o : Order) (laws : Laws o) (plan : Plan) (s : ℕ) where
  -- every label in play is one
  pub row_is_label : (t v : ℕ) → o.label (row_label o plan t v) ≡ true
  row_is_label t v = laws.tag_label _ v

  pub cell_is_label : (t v column : ℕ) → o.label (cell_label o plan t v column) ≡ true
  cell_is_label t v column = laws.join_label _ _ (laws.tag_label _ v) (laws.tag_label _ v)

  pub held_is_label : (name : Name) → o.label (held_label o name) ≡ true
  held_is_label unknown = laws.top_label
  held_is_label (held opened) = laws.bottom_label
  held_is_label (held (tag_of f v)) = laws.tag_label f v
  held_is_label turn = laws.top_label
  held_is_label (cursor t v) = laws.top_label

  pub column_is_label : (name : Name) (column : ℕ) → o.label (column_label o plan name column) ≡ true
  column_is_label unknown column = laws.top_label
  column_is_label (held mark) column = laws.top_label
  column_is_label turn column = laws.top_label
  column_is_label (cursor t v) column = cell_is_label t v column

  pub expr_is_label : (scope : Scope) (e : Expr) → o.label (expr_label o plan scope e) ≡ true
  unfolding expr_label
  expr_is_label scope (literal n) = laws.bottom_label
  expr_is_label scope mine = laws.bottom_label
  expr_is_label scope (of_index level) = laws.bottom_label
  expr_is_label scope (variable level) = held_is_label (name_at scope level)
  expr_is_label scope (cell level column) = column_is_label (name_at scope level) column
  expr_is_label scope (apply op a b) = laws.join_label _ _ (expr_is_label scope a) (expr_is_label scope b)

  -- both parts of a join that is seen are seen
  pub seen_left : (a b : ℕ) → o.label a ≡ true → o.label b ≡ true → o.below (o.join a b) s ≡ true → o.below a s ≡ true
  seen_left a b h k seen = laws.transitive a (o.join a b) s (laws.join_left a b h k) seen

  pub seen_right : (a b : ℕ) → o.label a ≡ true → o.label b ≡ true → o.below (o.join a b) s ≡ true → o.below b s ≡ true
  seen_right a b h k seen = laws.transitive b (o.join a b) s (laws.join_right a b h k) seen

  -- and a join with a part that is not seen is not seen
  pub hidden_left : (a b : ℕ) → o.label a ≡ true → o.label b ≡ true → o.below a s ≡ false → o.below (o.join a b) s ≡ false
  hidden_left a b h k hidden = refuted _ (λ seen. both_ways _ hidden (seen_left a b h k seen))

  pub hidden_right : (a b : ℕ) → o.label a ≡ true → o.label b ≡ true → o.below b s ≡ false → o.below (o.join a b) s ≡ false
  hidden_right a b h k hidden = refuted _ (λ seen. both_ways _ hidden (seen_right a b h k seen))

  -- what is at or above something that is not seen is not seen
  pub hidden_above : (a b : ℕ) → o.below a b ≡ true → o.below a s ≡ false → o.below b s ≡ false
  hidden_above a b under hidden = refuted _ (λ seen. both_ways _ hidden (laws.transitive a b s under seen))

  pub hidden_top : (a : ℕ) → o.label a ≡ true → o.below a s ≡ false → o.below o.top s ≡ false
  hidden_top a h hidden = hidden_above a o.top (laws.top_largest a h) hidden

  -- where the top is seen, all is
  pub seen_all : (a : ℕ) → o.label a ≡ true → o.below o.top s ≡ true → o.below a s ≡ true
  seen_all a h seen = laws.transitive a o.top s (laws.top_largest a h) seen

  pub cell_seen_row : (t v column : ℕ) → o.below (cell_label o plan t v column) s ≡ true → o.below (row_label o plan t v) s ≡ true
  cell_seen_row t v column seen = seen_left _ _ (laws.tag_label _ v) (laws.tag_label _ v) seen

  -- looking the same is an equivalence
  pub row_refl : (t v : ℕ) (a : List ℕ) → SameRow o plan s t v a a
  row_refl t v a = record { size = refl; cells = λ column seen. refl }

  pub row_sym : {t v : ℕ} {a b : List ℕ} → SameRow o plan s t v a b → SameRow o plan s t v b a
  row_sym h = record { size = sym h.size; cells = λ column seen. sym (h.cells column seen) }

  pub row_trans : {t v : ℕ} {a b c : List ℕ} → SameRow o plan s t v a b → SameRow o plan s t v b c → SameRow o plan s t v a c
  row_trans h k = record { size = h.size ∙ k.size; cells = λ column seen. h.cells column seen ∙ k.cells column seen }

  pub rows_refl : (t v : ℕ) (xs : List (List ℕ)) → SameRows o plan s t v xs xs
  rows_refl t v [] = none
  rows_refl t v (x ∷ xs) = more (row_refl t v x) (rows_refl t v xs)

  pub rows_sym : {t v : ℕ} {xs ys : List (List ℕ)} → SameRows o plan s t v xs ys → SameRows o plan s t v ys xs
  rows_sym none = none
  rows_sym (more h r) = more (row_sym h) (rows_sym r)

  pub rows_trans : {t v : ℕ} {xs ys zs : List (List ℕ)} → SameRows o plan s t v xs ys → SameRows o plan s t v ys zs → SameRows o plan s t v xs zs
  rows_trans none none = none
  rows_trans (more h r) (more k q) = more (row_trans h k) (rows_trans r q)

  pub rows_length : {t v : ℕ} {xs ys : List (List ℕ)} → SameRows o plan s t v xs ys → length xs ≡ length ys
  rows_length none = refl
  rows_length (more h r) = ap suc (rows_length r)

  pub lot_refl : (t v : ℕ) (a : Lot) → SameLot o plan s t v a a
  lot_refl t v a = record { rows = rows_refl t v a.rows; lost = refl }

  pub lot_sym : {t v : ℕ} {a b : Lot} → SameLot o plan s t v a b → SameLot o plan s t v b a
  lot_sym h = record { rows = rows_sym h.rows; lost = sym h.lost }

  pub lot_trans : {t v : ℕ} {a b c : Lot} → SameLot o plan s t v a b → SameLot o plan s t v b c → SameLot o plan s t v a c
  lot_trans h k = record { rows = rows_trans h.rows k.rows; lost = h.lost ∙ k.lost }

  pub lots_refl : (a : Lots) → SameLots o plan s a a
  lots_refl a t v seen = lot_refl t v (a t v)

  pub same_refl : (scope : Scope) (a : State) → Same o plan s scope a a
  same_refl scope a = record { vars = λ level seen. refl; lots = lots_refl a.lots; steps = λ seen. refl }

  pub same_sym : {scope : Scope} {a b : State} → Same o plan s scope a b → Same o plan s scope b a
  same_sym h = record {
    vars = λ level seen. sym (h.vars level seen);
    lots = λ t v seen. lot_sym (h.lots t v seen);
    steps = λ seen. sym (h.steps seen);
  }

  pub same_trans : {scope : Scope} {a b c : State} → Same o plan s scope a b → Same o plan s scope b c → Same o plan s scope a c
  same_trans h k = record {
    vars = λ level seen. h.vars level seen ∙ k.vars level seen;
    lots = λ t v seen. lot_trans (h.lots t v seen) (k.lots t v seen);
    steps = λ seen. h.steps seen ∙ k.steps seen;
  }

  -- what looks the same with one name more looks the same without it
  pub leave : (scope : Scope) (name : Name) (a b : State) → Same o plan s (enter scope name) a b → Same o plan s scope a b
  leave scope name a b h = record { vars = vars; lots = h.lots; steps = h.steps }
    where
      vars : (level : ℕ) → o.below (var_label o scope level) s ≡ true → a.vars level ≡ b.vars level
      vars level seen = go (eqb level scope.depth) refl
        where
          go : (t : Bool) → eqb level scope.depth ≡ t → a.vars level ≡ b.vars level
          go true e =
              let here : level ≡ scope.depth = grind (arith, nat_tests) in
              let top : o.below o.top s ≡ true = rw (here, name_past scope) at seen in
              h.vars level (seen_all _ (held_is_label (name_at (enter scope name) level)) top)
          go false e =
              let other : level ≡ scope.depth → ⊥ = grind (arith, nat_tests) in
              h.vars level (rw (name_before scope name level other) seen)

  -- a name that is no variable changes nothing about the variables
  pub enter_same : (scope : Scope) (name : Name) (a b : State) → held_label o name ≡ o.top → Same o plan s scope a b → Same o plan s (enter scope name) a b
  enter_same scope name a b is_top h = record { vars = vars; lots = h.lots; steps = h.steps }
    where
      vars : (level : ℕ) → o.below (var_label o (enter scope name) level) s ≡ true → a.vars level ≡ b.vars level
      vars level seen = go (eqb level scope.depth) refl
        where
          go : (t : Bool) → eqb level scope.depth ≡ t → a.vars level ≡ b.vars level
          go true e =
              let here : level ≡ scope.depth = grind (arith, nat_tests) in
              let top : o.below o.top s ≡ true = rw (here, name_made scope name, is_top) at seen in
              h.vars level (seen_all _ (held_is_label (name_at scope level)) top)
          go false e =
              let other : level ≡ scope.depth → ⊥ = grind (arith, nat_tests) in
              h.vars level (rw (name_before scope name level other) at seen)
