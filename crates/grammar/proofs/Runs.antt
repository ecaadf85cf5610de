-- The longest run at the front of a text: how long it is, what it holds, and where it ends.
use Rattle.std.proofs.Common.{◌≡◌, ℕ, ◌+◌, ◌-◌, ◌≤◌, Bool, true, false, List, [], ◌∷◌, length, take, drop, refl, one-add, arith, length-drop}
use Rattle.std.proofs.lemmas.Grind.{common_steps}
use Rattle.std.proofs.lemmas.Bool.Decides.{nat_tests}
use Rattle.std.specs.List.{prefix_len, AllByRecursion}
use Rattle.std.proofs.lemmas.List.{length-take-le}
use Rattle.std.proofs.lemmas.List.Sums.{prefix_len-le-length}
use Rattle.grammar.specs.Tokens.{run}

pub length_run : (such : ℕ → Bool) (text : List ℕ) → length (run such text) ≡ prefix_len such text
length_run such text = length-take-le (prefix_len such text) text (prefix_len-le-length such text)

-- each byte of the run is such a byte
pub all_run : (such : ℕ → Bool) (text : List ℕ) → AllByRecursion (λ b. such b ≡ true) (run such text)
all_run such [] = tt
all_run such (b ∷ text) = go (such b) refl (all_run such text)
  where
    go : (t : Bool) → such b ≡ t → AllByRecursion (λ x. such x ≡ true) (run such text) → AllByRecursion (λ x. such x ≡ true) (run such (b ∷ text))
    go true e rest = rw (e, one-add) (e, rest)
    go false e rest = rw e tt

-- a run that begins within a text ends within it
pub run_within : (such : ℕ → Bool) (text : List ℕ) (place : ℕ) → place ≤ length text → place + prefix_len such (drop place text) ≤ length text
run_within such text place h = omega (arith, prefix_len-le-length such (drop place text), length-drop place text)

-- the part of a text from a place to the end of the run there is the run
pub part_is_run : (such : ℕ → Bool) (text : List ℕ) (place after : ℕ) → after ≡ place + prefix_len such (drop place text)
    → take (after - place) (drop place text) ≡ run such (drop place text)
part_is_run such text place after e = grind (arith, common_steps, nat_tests)
