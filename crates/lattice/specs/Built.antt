-- The three lattices that are built. In each the tag is 0 for family 0, a family above 3 or a vendor above 31.
use Rattle.std.specs.Prelude.{ℕ, ◌+◌, ◌*◌, ◌%◌, ◌^◌, max, Bool, cond, ◌&&◌, ◌||◌, ◌==◌, bit_or, nat_le, nat_lt}
use Rattle.lattice.specs.Order.{Order}

-- The families and vendors that have a tag of their own.
abbrev pub tagged : ℕ → ℕ → Bool
tagged f v = nat_le 1 f && (nat_le f 3 && nat_le v 31)

-- One compartment for each family and vendor: 0 at the bottom, 256 at the top, and between them 64 × f + v for a
-- family f from 1 to 3 and a vendor v from 0 to 31, no two of which are ordered.
abbrev pub compartment : ℕ → Bool
compartment a = nat_le 64 a && (nat_lt a 256 && nat_lt (a % 64) 32)

abbrev pub compartment_label : ℕ → Bool
compartment_label a = a == 0 || (a == 256 || compartment a)

abbrev pub compartment_below : ℕ → ℕ → Bool
compartment_below a b = compartment_label a && (compartment_label b && (a == 0 || (b == 256 || a == b)))

abbrev pub compartments : Order
compartments = record {
  label = compartment_label;
  below = compartment_below;
  join = λ a b. cond (compartment_below a b) b (cond (compartment_below b a) a 256);
  bottom = 0;
  top = 256;
  tag = λ f v. cond (tagged f v) (64 * f + v) 0;
}

-- The set of vendors that had a part in a value: bit v stands for vendor v.
abbrev pub contributor_label : ℕ → Bool
contributor_label a = nat_lt a (2 ^ 32)

abbrev pub contributors : Order
contributors = record {
  label = contributor_label;
  below = λ a b. contributor_label a && (contributor_label b && bit_or a b == b);
  join = λ a b. cond (contributor_label a && contributor_label b) (bit_or a b) 4294967295;
  bottom = 0;
  top = 4294967295;
  tag = λ f v. cond (tagged f v) (2 ^ v) 0;
}

-- Sixteen grades in the usual order; a tag is the same for all vendors.
abbrev pub grade_label : ℕ → Bool
grade_label a = nat_lt a 16

abbrev pub grades : Order
grades = record {
  label = grade_label;
  below = λ a b. grade_label a && (grade_label b && nat_le a b);
  join = λ a b. cond (grade_label a && grade_label b) (max a b) 15;
  bottom = 0;
  top = 15;
  tag = λ f v. cond (tagged f v) (5 * f) 0;
}
