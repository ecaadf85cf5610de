-- A line's next word: one cut at a space further.
use Rattle.std.proofs.Common.{◌≡◌, ℕ, ◌<◌, ◌≤◌, true, false, eqb, List, [], ◌∷◌, length, Some, refl, arith}
use Rattle.std.proofs.lemmas.Bool.{eqb-false}
use Rattle.std.proofs.lemmas.Grind.{common_steps}
use Rattle.words.specs.Cuts.{before, behind, first_word, after_word}

behind_fits : (bs : List ℕ) → length (behind 32 bs) ≤ length bs
behind_fits [] = omega arith
behind_fits (b ∷ bs) = grind (arith, common_steps, behind_fits bs)

pub behind_shorter : (bs : List ℕ) → eqb (length bs) 0 ≡ false → length (behind 32 bs) < length bs
behind_shorter [] h = absurd (eqb-false 0 0 h refl)
behind_shorter (b ∷ bs) h = grind (arith, common_steps, behind_fits bs)

-- a space in front: both definitions pass over it, as the cut does
pub word_further : (bs : List ℕ) → eqb (length (before 32 bs)) 0 ≡ true → first_word (behind 32 bs) ≡ first_word bs
word_further [] h = refl
word_further (b ∷ bs) h = grind (arith, common_steps, h)

pub rest_further : (bs : List ℕ) → eqb (length (before 32 bs)) 0 ≡ true → after_word (behind 32 bs) ≡ after_word bs
rest_further [] h = refl
rest_further (b ∷ bs) h = grind (arith, common_steps, h)

pub word_found : (bs : List ℕ) → eqb (length (before 32 bs)) 0 ≡ false → Some (before 32 bs) ≡ first_word bs
word_found [] h = absurd (eqb-false 0 0 h refl)
word_found (b ∷ bs) h = grind (arith, common_steps, h)

pub word_behind : (bs : List ℕ) → eqb (length (before 32 bs)) 0 ≡ false → behind 32 bs ≡ after_word bs
word_behind [] h = refl
word_behind (b ∷ bs) h = grind (arith, common_steps, h)

pub ruleset passing = (behind_shorter, word_further, rest_further, word_found, word_behind)
