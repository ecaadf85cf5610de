-- A text cut at a byte.
use Rattle.std.specs.List.{list_any}
use Rattle.std.specs.Prelude.{ℕ, Bool, false, cond, not, ◌||◌, List, [], ◌∷◌, is_some, Some, None, Option, ◌==◌}

-- The part before the first such byte: all of it where there is none.
abbrev pub before : ℕ → List ℕ → List ℕ
before mark [] = []
before mark (b ∷ bs) = cond (b == mark) [] (b ∷ before mark bs)

-- The part behind the first such byte: nothing where there is none.
abbrev pub behind : ℕ → List ℕ → List ℕ
behind mark [] = []
behind mark (b ∷ bs) = cond (b == mark) bs (behind mark bs)

-- Both parts, where there is such a byte.
abbrev pub parts : ℕ → List ℕ → Option (List ℕ × List ℕ)
parts mark bs = cond (list_any (λ b. b == mark) bs) (Some (before mark bs, behind mark bs)) None

-- The first word of a line: what stands before a space, once the spaces in front are passed over.
abbrev pub first_word : List ℕ → Option (List ℕ)
first_word [] = None
first_word (b ∷ bs) = cond (b == 32) (first_word bs) (Some (before 32 (b ∷ bs)))

-- What is left of a line behind its first word.
abbrev pub after_word : List ℕ → List ℕ
after_word [] = []
after_word (b ∷ bs) = cond (b == 32) (after_word bs) (behind 32 (b ∷ bs))

-- A line that is passed over: it begins with '#', or has no word.
abbrev pub note : List ℕ → Bool
note [] = false
note (b ∷ bs) = b == 35

abbrev pub passed_over : List ℕ → Bool
passed_over line = note line || not (is_some (first_word line))
