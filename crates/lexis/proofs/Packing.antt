-- Packing letters into one number: it fits, and different words have different codes.
use Rattle.std.proofs.Common.{◌≡◌, ℕ, ◌+◌, ◌-◌, ◌*◌, ◌^◌, ◌<◌, ◌≤◌, Bool, eqb, List, [], ◌∷◌, ◌++◌, length, take, drop, sym, refl, ap, ◌∙◌, ⊎_elim, arith, length-drop, take-append-drop}
use native.Mathlib.Nat.{pow-le-pow_right}
use Rattle.std.specs.Int.Digits.{number_from_digits, number_from_digits_after}
use Rattle.std.specs.List.{AllByRecursion}
use Rattle.std.specs.Str.{bytes_eq}
use Rattle.std.proofs.lemmas.Int.Digits.{number_after_append, number_after_ge}
use Rattle.std.proofs.ByRecursion.{All-take, All-drop}
use Rattle.std.proofs.lemmas.Slice.Eq.{bytes_eq-Decides}
use Rattle.std.proofs.lemmas.Bool.{cases_lt}
use Rattle.std.proofs.lemmas.Bool.Decides.{nat_tests, Decides-eqb, Decides-like, same_from_decides}
use Rattle.grammar.specs.declared.keywords.Keyword.{Keyword}
use Rattle.grammar.specs.Spelling.{letters, keywords, keyword_of, first_that, this_or}
use Rattle.grammar.specs.Tokens.{Letter}
use Rattle.grammar.proofs.Spelled.{letters_are_letters}
use Rattle.lexis.specs.Codes.{packed, keyword_with}

-- one byte more fits
pub shift_fits : (code i : ℕ) → code < 256 ^ i → i < 8 → code * 256 < 2 ^ 64
shift_fits code i h l =
    let room : 256 ^ i ≤ 256 ^ 7 = pow-le-pow_right {n = 256} (omega arith) {i = i} {j = 7} (omega arith) in
    omega arith

letter_range : (b : ℕ) → Letter b → (0 < b) × (b < 256)
letter_range b h = grind (arith, nat_tests)

-- of words of one length
same_words : (m n : ℕ) (xs ys : List ℕ) → length xs ≡ length ys → AllByRecursion Letter xs → AllByRecursion Letter ys → number_from_digits_after 256 m xs ≡ number_from_digits_after 256 n ys
    → (m ≡ n) × (xs ≡ ys)
same_words m n [] [] l p q e = (e, refl)
same_words m n [] (y ∷ ys) l p q e = absurd (omega arith)
same_words m n (x ∷ xs) [] l p q e = absurd (omega arith)
same_words m n (x ∷ xs) (y ∷ ys) l p q e =
    let rest = same_words (m * 256 + x) (n * 256 + y) xs ys (omega arith) p.1 q.1 e in
    let here = letter_range x p.0 in
    let there = letter_range y q.0 in
    let both = rest.1 in
    let front : m ≡ n = omega (arith, rest.0) in
    let head : x ≡ y = omega (arith, rest.0) in
    (front, cc)

-- what packs to 0 has no letter
none_packed : (xs : List ℕ) → AllByRecursion Letter xs → 0 ≡ number_from_digits 256 xs → xs ≡ []
none_packed [] p e = refl
none_packed (x ∷ xs) p e = let more = number_after_ge 256 (0 * 256 + x) xs (omega arith) in absurd (omega (arith, letter_range x p.0))

shorter : (xs ys : List ℕ) → length xs ≤ length ys → AllByRecursion Letter xs → AllByRecursion Letter ys → packed xs ≡ packed ys → xs ≡ ys
shorter xs ys l p q e =
    let n : ℕ = length ys - length xs in
    let split = take-append-drop n ys in
    let long : length xs ≡ length (drop n ys) = omega (arith, length-drop n ys) in
    let parts = same_words 0 (number_from_digits 256 (take n ys)) xs (drop n ys) long p (All-drop Letter n ys q)
    (e ∙ ap (number_from_digits 256) (sym split) ∙ number_after_append 256 0 (take n ys) (drop n ys)) in
    let none = none_packed (take n ys) (All-take Letter n ys q) parts.0 in
    parts.1 ∙ sym (ap (λ front. front ++ drop n ys) none) ∙ split

pub packed_injective : (xs ys : List ℕ) → AllByRecursion Letter xs → AllByRecursion Letter ys → packed xs ≡ packed ys → xs ≡ ys
packed_injective xs ys p q e =
    ⊎_elim (λ h. shorter xs ys (omega arith) p q e) (λ h. sym (shorter ys xs h q p (sym e))) (cases_lt (length xs) (length ys))

-- a word has a keyword's code exactly when it is that keyword
code_tells : (word : List ℕ) → AllByRecursion Letter word → (k : Keyword) → eqb (packed word) (packed (letters k)) ≡ bytes_eq word (letters k)
code_tells word p k =
    same_from_decides (eqb (packed word) (packed (letters k))) (bytes_eq word (letters k))
    (Decides-like (eqb (packed word) (packed (letters k))) (packed_injective word (letters k) p (letters_are_letters k)) (ap packed) (Decides-eqb (packed word) (packed (letters k))))
    (bytes_eq-Decides word (letters k))

first_alike : {X : Type 0} (p q : X → Bool) → ((x : X) → p x ≡ q x) → (xs : List X) → first_that p xs ≡ first_that q xs
first_alike p q same [] = refl
first_alike p q same (x ∷ xs) = (λ i. this_or (same x i) x (first_alike p q same xs i))

pub with_code_is_keyword : (word : List ℕ) → AllByRecursion Letter word → keyword_with (packed word) ≡ keyword_of word
unfolding keyword_of
with_code_is_keyword word p = first_alike (λ k. eqb (packed word) (packed (letters k))) (λ k. bytes_eq word (letters k)) (code_tells word p) keywords
