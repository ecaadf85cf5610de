-- What a lattice of labels answers, and the laws that its answers keep.
use Rattle.std.specs.Prelude.{◌≡◌, ℕ, Bool, true, false}

-- The answers of a lattice, each a fixed function of the question alone.
pub record Order : Type 0 where
  -- is this number a label?
  pub label : ℕ → Bool
  -- is the first at or below the second?
  pub below : ℕ → ℕ → Bool
  -- the least label at or above both
  pub join : ℕ → ℕ → ℕ
  pub bottom : ℕ
  pub top : ℕ
  -- the label of what a vendor keeps under a family: first the family, then the vendor
  pub tag : ℕ → ℕ → ℕ

-- What every lattice shows of its answers. Nothing else is asked of one.
pub record Laws (o : Order) : Type 0 where
  -- a number that is no label is below nothing and above nothing, and joins to the top
  pub stranger_below : (a b : ℕ) → o.label a ≡ false → o.below a b ≡ false
  pub stranger_above : (a b : ℕ) → o.label b ≡ false → o.below a b ≡ false
  pub stranger_join_left : (a b : ℕ) → o.label a ≡ false → o.join a b ≡ o.top
  pub stranger_join_right : (a b : ℕ) → o.label b ≡ false → o.join a b ≡ o.top
  -- the order on labels
  pub reflexive : (a : ℕ) → o.label a ≡ true → o.below a a ≡ true
  pub antisymmetric : (a b : ℕ) → o.below a b ≡ true → o.below b a ≡ true → a ≡ b
  pub transitive : (a b c : ℕ) → o.below a b ≡ true → o.below b c ≡ true → o.below a c ≡ true
  -- its two ends
  pub bottom_least : (a : ℕ) → o.label a ≡ true → o.below o.bottom a ≡ true
  pub top_largest : (a : ℕ) → o.label a ≡ true → o.below a o.top ≡ true
  -- the join of two labels is their least upper bound
  pub join_left : (a b : ℕ) → o.label a ≡ true → o.label b ≡ true → o.below a (o.join a b) ≡ true
  pub join_right : (a b : ℕ) → o.label a ≡ true → o.label b ≡ true → o.below b (o.join a b) ≡ true
  pub join_least : (a b c : ℕ) → o.below a c ≡ true → o.below b c ≡ true → o.below (o.join a b) c ≡ true
  -- what is a label
  pub bottom_label : o.label o.bottom ≡ true
  pub top_label : o.label o.top ≡ true
  pub join_label : (a b : ℕ) → o.label a ≡ true → o.label b ≡ true → o.label (o.join a b) ≡ true
  pub tag_label : (f v : ℕ) → o.label (o.tag f v) ≡ true
