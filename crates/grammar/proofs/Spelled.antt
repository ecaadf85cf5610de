-- Keywords and marks are told apart by how they are written.
use Rattle.std.proofs.Common.{◌≡◌, ℕ, ◌≤◌, Bool, true, false, ◌&&◌, ◌||◌, eqb, leb, List, [], ◌∷◌, length, Some, None, Decides, Option, sym, refl, ap, ◌∙◌, rules, arith}
use Rattle.std.proofs.lemmas.Grind.{common_steps}
use Rattle.std.proofs.lemmas.Bool.Decides.{nat_tests, Decides-eqb, Decides-like}
use Rattle.std.specs.List.{AllByRecursion}
use Rattle.std.specs.Str.{bytes_eq}
use Rattle.std.proofs.lemmas.Slice.Eq.{bytes_eq-Decides}
use Rattle.std.proofs.lemmas.Bool.{and_parts, leb-true, eqb-true}
use Rattle.grammar.specs.declared.keywords.Keyword.{Keyword}
use Rattle.grammar.specs.declared.marks.Mark.{Mark}
use Rattle.grammar.specs.Spelling.{letters, byte, keywords, marks, ToldApart, first_that, keyword_of, mark_of}
use Rattle.grammar.specs.Tokens.{blank, letter, digit, Letter}

pub keyword_of_letters : (k : Keyword) → keyword_of (letters k) ≡ Some k
unfolding keyword_of
keyword_of_letters k = search rules

pub mark_of_byte : (m : Mark) → mark_of (byte m) ≡ Some m
mark_of_byte m = search rules

pub told_apart : ToldApart
told_apart = record { by_letters = keyword_of_letters; by_byte = mark_of_byte }

abbrev all_letters : List ℕ → Bool
all_letters [] = true
all_letters (b ∷ bs) = letter b && all_letters bs

each_letter : (bs : List ℕ) → all_letters bs ≡ true → AllByRecursion Letter bs
each_letter [] h = tt
each_letter (b ∷ bs) h = let parts = and_parts (letter b) (all_letters bs) h in (parts.0, each_letter bs parts.1)

spelled : (k : Keyword) → all_letters (letters k) ≡ true
spelled k = grind arith

-- keywords are written in letters
pub letters_are_letters : (k : Keyword) → AllByRecursion Letter (letters k)
letters_are_letters k = each_letter (letters k) (spelled k)

short : (k : Keyword) → leb (length (letters k)) 8 ≡ true
short k = grind arith

pub letters_are_short : (k : Keyword) → length (letters k) ≤ 8
letters_are_short k = leb-true (length (letters k)) 8 (short k)

-- the byte of a mark begins nothing else
abbrev pub plain : ℕ → Bool
plain b = blank b || (letter b || digit b)

pub mark_is_plain : (m : Mark) → plain (byte m) ≡ false
mark_is_plain m = grind arith

-- what is looked up passes
first_passes : {X : Type 0} (passes : X → Bool) (xs : List X) (x : X) → first_that passes xs ≡ Some x → passes x ≡ true
first_passes passes [] x e = cc
first_passes passes (y ∷ ys) x e = grind (arith, common_steps, nat_tests, first_passes passes ys x)

pub keyword_is_written : (word : List ℕ) (k : Keyword) → keyword_of word ≡ Some k → word ≡ letters k
unfolding keyword_of
keyword_is_written word k e = (bytes_eq-Decides word (letters k)).0 (first_passes (λ j. bytes_eq word (letters j)) keywords k e)

pub mark_is_written : (b : ℕ) (m : Mark) → mark_of b ≡ Some m → b ≡ byte m
mark_is_written b m e = eqb-true b (byte m) (first_passes (λ n. eqb b (byte n)) marks m e)

-- keywords that are written alike are the same, and so are marks
pub keyword_tells : (k j : Keyword) → Decides (bytes_eq (letters k) (letters j)) (k ≡ j)
keyword_tells k j =
    Decides-like (bytes_eq (letters k) (letters j))
    (λ e. let both : Some k ≡ Some j = sym (keyword_of_letters k) ∙ ap keyword_of e ∙ keyword_of_letters j in let same : k ≡ j = cc in same)
    (ap letters) (bytes_eq-Decides (letters k) (letters j))

pub mark_tells : (m n : Mark) → Decides (eqb (byte m) (byte n)) (m ≡ n)
mark_tells m n =
    Decides-like (eqb (byte m) (byte n))
    (λ e. let both : Some m ≡ Some n = sym (mark_of_byte m) ∙ ap mark_of e ∙ mark_of_byte n in let same : m ≡ n = cc in same)
    (ap byte) (Decides-eqb (byte m) (byte n))

-- a word that is no keyword's
pub keyword_of_none : (word : List ℕ) → ((k : Keyword) → word ≡ letters k → ⊥) → keyword_of word ≡ None
keyword_of_none word free = go (keyword_of word) refl
  where
    go : (o : Option Keyword) → keyword_of word ≡ o → keyword_of word ≡ None
    go None e = e
    go (Some k) e = absurd (free k (keyword_is_written word k e))
