-- Two lists of posted values, compared column by column.
use Rattle.std.proofs.Common.{◌≡◌, ℕ, suc, Bool, not, ◌&&◌, ◌||◌, eqb, List, [], ◌∷◌, length, false, refl, ap, ◌∙◌, add-one, arith}
use Rattle.std.specs.List.{list_all, enumerate_from, zip}
use Rattle.std.proofs.lemmas.Bool.{and_right}
use Rattle.lattice.specs.Order.{Order}
use Rattle.rules.specs.Plans.{Plan}
use Rattle.rules.specs.Deciding.{seen_cell, same_values}

module _ (o : Order) (plan : Plan) (s t v : ℕ) where
  -- the test of a column and the two values in it
  abbrev pub passes : ℕ × (ℕ × ℕ) → Bool
  passes p = eqb p.1.0 p.1.1 || not (seen_cell o plan s t v p.0)

  pub unequal_lengths : (n : ℕ) (xs ys : List ℕ) → (length xs ≡ length ys → ⊥) → same_values o plan s t v n xs ys ≡ false
  unequal_lengths n [] [] h = absurd (h refl)
  unequal_lengths n [] (y ∷ ys) h = refl
  unequal_lengths n (x ∷ xs) [] h = refl
  unequal_lengths n (x ∷ xs) (y ∷ ys) h =
      and_right (passes (n, (x, y))) (same_values o plan s t v (suc n) xs ys) (unequal_lengths (suc n) xs ys (λ e. h (ap suc e)))

  pub values_pass : (n : ℕ) (xs ys : List ℕ) → length xs ≡ length ys → list_all passes (enumerate_from n (zip xs ys)) ≡ same_values o plan s t v n xs ys
  values_pass n [] [] e = refl
  values_pass n [] (y ∷ ys) e = absurd (omega (arith, e))
  values_pass n (x ∷ xs) [] e = absurd (omega (arith, e))
  values_pass n (x ∷ xs) (y ∷ ys) e =
      ap (λ b. passes (n, (x, y)) && b) (ap (λ k. list_all passes (enumerate_from k (zip xs ys))) (add-one n) ∙ values_pass (suc n) xs ys (omega (arith, e)))
