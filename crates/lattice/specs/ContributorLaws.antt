-- The laws of the contributors: inclusion and union of sets of 32 bits.
use Rattle.std.specs.Prelude.{◌≡◌, ℕ, ◌^◌, ◌<◌, Bool, true, false, cond, bit_or, refl}
use Rattle.std.proofs.Common.{sym, ap, ◌∙◌, arith}
use Rattle.std.specs.Int.Bits.{or_self, or_zero_l}
use Rattle.std.proofs.lemmas.Bool.Decides.{nat_tests}
use Rattle.std.proofs.lemmas.Nat.{pow_below, or_lt, or_comm}
use Rattle.lattice.specs.Order.{Laws}
use Rattle.lattice.specs.Built.{contributors, tagged}
use Rattle.lattice.specs.Unions.{or_assoc, or_absorbs, or_absorbs_right, or_all}

-- a set lies in another
record Within (a b : ℕ) : Type 0 where
  left : a < 4294967296
  right : b < 4294967296
  union : bit_or a b ≡ b

within : (a b : ℕ) → contributors.below a b ≡ true → Within a b
within a b h = record { left = grind (arith, nat_tests); right = grind (arith, nat_tests); union = grind (arith, nat_tests) }

below : (a b : ℕ) → Within a b → contributors.below a b ≡ true
below a b w = let l = w.left in let r = w.right in let u = w.union in grind (arith, nat_tests)

is_label : (a : ℕ) → contributors.label a ≡ true → a < 4294967296
is_label a h = grind (arith, nat_tests)

label : (a : ℕ) → a < 4294967296 → contributors.label a ≡ true
label a h = grind (arith, nat_tests)

joined : (a b : ℕ) → a < 4294967296 → b < 4294967296 → contributors.join a b ≡ bit_or a b
joined a b h k = grind (arith, nat_tests)

tag_fits : (f v : ℕ) → contributors.tag f v < 4294967296
tag_fits f v = go (tagged f v) refl
  where
    go : (t : Bool) → tagged f v ≡ t → cond t (2 ^ v) 0 < 4294967296
    go true e = let h : v < 32 = grind (arith, nat_tests) in pow_below v 32 h
    go false e = omega arith

pub contributors_lawful : Laws contributors
contributors_lawful = record {
  stranger_below = λ a b h. grind (arith, nat_tests);
  stranger_above = λ a b h. grind (arith, nat_tests);
  stranger_join_left = λ a b h. grind (arith, nat_tests);
  stranger_join_right = λ a b h. grind (arith, nat_tests);
  reflexive = λ a h. below a a (record { left = is_label a h; right = is_label a h; union = or_self a });
  antisymmetric = λ a b h k. sym (within b a k).union ∙ or_comm b a ∙ (within a b h).union;
  transitive = λ a b c h k. below a c (record {
    left = (within a b h).left;
    right = (within b c k).right;
    union = ap (bit_or a) (sym (within b c k).union) ∙ sym (or_assoc a b c) ∙ ap (λ (x : ℕ). bit_or x c) (within a b h).union ∙ (within b c k).union;
  });
  bottom_least = λ a h. below 0 a (record { left = omega arith; right = is_label a h; union = or_zero_l a });
  top_largest = λ a h. below a 4294967295 (record { left = is_label a h; right = omega arith; union = or_all 32 a (is_label a h) });
  join_left = λ a b h k. rw (joined a b (is_label a h) (is_label b k)) (below a (bit_or a b) (record {
    left = is_label a h;
    right = or_lt 32 a b (is_label a h) (is_label b k);
    union = or_absorbs a b;
  }));
  join_right = λ a b h k. rw (joined a b (is_label a h) (is_label b k)) (below b (bit_or a b) (record {
    left = is_label b k;
    right = or_lt 32 a b (is_label a h) (is_label b k);
    union = or_absorbs_right a b;
  }));
  join_least = λ a b c h k. rw (joined a b (within a c h).left (within b c k).left) (below (bit_or a b) c (record {
    left = or_lt 32 a b (within a c h).left (within b c k).left;
    right = (within a c h).right;
    union = or_assoc a b c ∙ ap (bit_or a) (within b c k).union ∙ (within a c h).union;
  }));
  bottom_label = refl;
  top_label = refl;
  join_label = λ a b h k. rw (joined a b (is_label a h) (is_label b k)) (label (bit_or a b) (or_lt 32 a b (is_label a h) (is_label b k)));
  tag_label = λ f v. label (contributors.tag f v) (tag_fits f v);
}
