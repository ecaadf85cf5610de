-- Union of sets of bits: what the library's laws of `bit_or` leave out.
use Rattle.std.specs.Prelude.{◌≡◌, ℕ, ◌-◌, ◌/◌, ◌%◌, ◌^◌, ◌<◌, max, bit_or}
use Rattle.std.proofs.Common.{sym, ap, ◌∙◌, mod-eq_of_lt, arith}
use Rattle.std.proofs.Math.Arith.{bin_ind}
use Rattle.std.specs.Int.Bits.{or_step, or_self, or_zero_l, or_add_and}
use Rattle.std.proofs.lemmas.Nat.{or_comm, and_mask}

or_half : (a b : ℕ) → bit_or a b / 2 ≡ bit_or (a / 2) (b / 2)
or_half a b = omega (arith, or_step a b)

or_odd : (a b : ℕ) → bit_or a b % 2 ≡ max (a % 2) (b % 2)
or_odd a b = omega (arith, or_step a b)

pub or_assoc : (a b c : ℕ) → bit_or (bit_or a b) c ≡ bit_or a (bit_or b c)
or_assoc =
    bin_ind (λ (n : ℕ). (b c : ℕ) → bit_or (bit_or n b) c ≡ bit_or n (bit_or b c))
    (λ b c. ap (λ (x : ℕ). bit_or x c) (or_zero_l b) ∙ sym (or_zero_l (bit_or b c)))
    (λ n ih b c. omega (
      arith,
      or_step (bit_or n b) c,
      or_step n (bit_or b c),
      ap (λ (x : ℕ). bit_or x (c / 2)) (or_half n b),
      ap (bit_or (n / 2)) (or_half b c),
      ih (b / 2) (c / 2),
      or_odd n b,
      or_odd b c,
    ))

-- a set lies in its union with another, on either side
pub or_absorbs : (a b : ℕ) → bit_or a (bit_or a b) ≡ bit_or a b
or_absorbs a b = sym (or_assoc a a b) ∙ ap (λ (x : ℕ). bit_or x b) (or_self a)

pub or_absorbs_right : (a b : ℕ) → bit_or b (bit_or a b) ≡ bit_or a b
or_absorbs_right a b = ap (bit_or b) (or_comm a b) ∙ or_absorbs b a ∙ or_comm b a

-- the set of all k bits holds every set of k bits
pub or_all : (k a : ℕ) → a < 2 ^ k → bit_or a (2 ^ k - 1) ≡ 2 ^ k - 1
or_all k a h = omega (arith, or_add_and a (2 ^ k - 1), and_mask a k, mod-eq_of_lt h)
