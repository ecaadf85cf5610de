-- The laws of the compartments.
use Rattle.std.specs.Prelude.{◌≡◌, ℕ, ◌+◌, ◌*◌, ◌%◌, ◌<◌, ◌≤◌, Bool, true, false, cond, ◌&&◌, ◌||◌, ◌==◌, refl}
use Rattle.std.proofs.Common.{arith}
use Rattle.std.proofs.lemmas.Bool.Decides.{nat_tests}
use Rattle.lattice.specs.Order.{Laws}
use Rattle.lattice.specs.Built.{compartments, compartment_label, tagged}

tag_labels : (f v : ℕ) → compartments.label (compartments.tag f v) ≡ true
tag_labels f v = go (tagged f v) refl
  where
    go : (t : Bool) → tagged f v ≡ t → compartment_label (cond t (64 * f + v) 0) ≡ true
    go true e =
        let l : 1 ≤ f = grind (arith, nat_tests) in
        let h : f ≤ 3 = grind (arith, nat_tests) in
        let w : v < 32 = grind (arith, nat_tests) in
        let low : 64 ≤ 64 * f + v = omega arith in
        let high : 64 * f + v < 256 = omega arith in
        let rest : (64 * f + v) % 64 < 32 = omega arith in
        grind (arith, nat_tests)
    go false e = refl

-- The order and the join over any label test that holds of 0 and 256: what a compartment is does not matter.
module _ (is : ℕ → Bool) (zero_is : is 0 ≡ true) (top_is : is 256 ≡ true) where
  abbrev order : ℕ → ℕ → Bool
  order a b = is a && (is b && (a == 0 || (b == 256 || a == b)))

  abbrev join_of : ℕ → ℕ → ℕ
  join_of a b = cond (order a b) b (cond (order b a) a 256)

  pub reflexive : (a : ℕ) → is a ≡ true → order a a ≡ true
  reflexive a h = grind (arith, nat_tests)

  pub antisymmetric : (a b : ℕ) → order a b ≡ true → order b a ≡ true → a ≡ b
  antisymmetric a b h k = grind (arith, nat_tests)

  pub transitive : (a b c : ℕ) → order a b ≡ true → order b c ≡ true → order a c ≡ true
  transitive a b c h k = grind (arith, nat_tests)

  pub bottom_least : (a : ℕ) → is a ≡ true → order 0 a ≡ true
  bottom_least a h = grind (arith, nat_tests)

  pub top_largest : (a : ℕ) → is a ≡ true → order a 256 ≡ true
  top_largest a h = grind (arith, nat_tests)

  pub join_left : (a b : ℕ) → is a ≡ true → is b ≡ true → order a (join_of a b) ≡ true
  join_left a b h k = grind (arith, nat_tests)

  pub join_right : (a b : ℕ) → is a ≡ true → is b ≡ true → order b (join_of a b) ≡ true
  join_right a b h k = grind (arith, nat_tests)

  pub join_least : (a b c : ℕ) → order a c ≡ true → order b c ≡ true → order (join_of a b) c ≡ true
  join_least a b c h k = grind (arith, nat_tests)

  pub join_label : (a b : ℕ) → is a ≡ true → is b ≡ true → is (join_of a b) ≡ true
  join_label a b h k = grind (arith, nat_tests)

  pub stranger_below : (a b : ℕ) → is a ≡ false → order a b ≡ false
  stranger_below a b h = grind (arith, nat_tests)

  pub stranger_above : (a b : ℕ) → is b ≡ false → order a b ≡ false
  stranger_above a b h = grind (arith, nat_tests)

  pub stranger_join_left : (a b : ℕ) → is a ≡ false → join_of a b ≡ 256
  stranger_join_left a b h = grind (arith, nat_tests)

  pub stranger_join_right : (a b : ℕ) → is b ≡ false → join_of a b ≡ 256
  stranger_join_right a b h = grind (arith, nat_tests)

pub compartments_lawful : Laws compartments
compartments_lawful = record {
  stranger_below = stranger_below compartment_label refl refl;
  stranger_above = stranger_above compartment_label refl refl;
  stranger_join_left = stranger_join_left compartment_label refl refl;
  stranger_join_right = stranger_join_right compartment_label refl refl;
  reflexive = reflexive compartment_label refl refl;
  antisymmetric = antisymmetric compartment_label refl refl;
  transitive = transitive compartment_label refl refl;
  bottom_least = bottom_least compartment_label refl refl;
  top_largest = top_largest compartment_label refl refl;
  join_left = join_left compartment_label refl refl;
  join_right = join_right compartment_label refl refl;
  join_least = join_least compartment_label refl refl;
  bottom_label = refl;
  top_label = refl;
  join_label = join_label compartment_label refl refl;
  tag_label = tag_labels;
}
