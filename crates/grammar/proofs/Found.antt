-- Every token that stands next is found.
use Rattle.std.proofs.Common.{◌≡◌, ℕ, ◌+◌, ◌^◌, ◌<◌, ◌≤◌, Bool, true, false, ◌||◌, List, length, get_or, drop, Some, None, Ok, sym, refl, ap, ◌∙◌, subst, arith}
use Rattle.std.proofs.lemmas.Grind.{common_steps}
use Rattle.std.proofs.lemmas.Bool.Decides.{nat_tests}
use Rattle.std.specs.Str.Parse.{digits_value}
use Rattle.std.specs.List.{prefix_len}
use Rattle.std.proofs.lemmas.Bool.{or_parts}
use Rattle.grammar.specs.Spelling.{keyword_of, mark_of}
use Rattle.grammar.specs.Tokens.{Token, keyword, mark, name, number, end, blank, letter, digit, run, leading_zero, read, read_number, read_mark, token_at}
use Rattle.grammar.specs.TokenRule.{part, Stretch, Longest, Is}
use Rattle.grammar.proofs.Runs.{part_is_run}
use Rattle.grammar.proofs.Stretches.{run_is}
use Rattle.grammar.proofs.Spelled.{keyword_of_letters, keyword_of_none, mark_of_byte, letters_are_short, plain, mark_is_plain}
use Rattle.grammar.proofs.FirstBytes.{read_end, read_letter, read_digit, read_other, read_short, token_at_is}

pub letter_no_blank : (b : ℕ) → letter b ≡ true → blank b ≡ false
letter_no_blank b h = grind (arith, nat_tests)

pub digit_no_blank : (b : ℕ) → digit b ≡ true → blank b ≡ false
digit_no_blank b h = grind (arith, nat_tests)

pub digit_no_letter : (b : ℕ) → digit b ≡ true → letter b ≡ false
digit_no_letter b h = grind (arith, nat_tests)

-- the first byte of a longest run
pub run_first : (such : ℕ → Bool) (text : List ℕ) (at to : ℕ) → Longest such text at to → such (get_or text at 0) ≡ true
run_first such text at to r = r.stretch.all at (omega arith) r.some

pub run_inside : (such : ℕ → Bool) (text : List ℕ) (at to : ℕ) → Longest such text at to → at < length text
run_inside such text at to r = omega (arith, r.some, r.stretch.within)

-- where the blanks before a token end
from_blanks : (text : List ℕ) (place at : ℕ) → Stretch blank text place at → (at < length text → blank (get_or text at 0) ≡ false)
    → token_at text place ≡ read at (drop at text)
from_blanks text place at s dark = token_at_is text place at (run_is blank text place at s dark)

-- a run of digits
pub read_plain : (text : List ℕ) (place after : ℕ) (ds : List ℕ) (v : ℕ) → after ≡ place + prefix_len digit (drop place text) → ds ≡ run digit (drop place text)
    → digits_value 10 ds ≡ v → v < 2 ^ 32 → leading_zero ds ≡ false
    → Ok (record { token = number ds v; place = place; after = after }) ≡ read_number place (run digit (drop place text))
read_plain text place after ds v e is counts fits zero_free = grind (arith, common_steps, nat_tests)

no_leading_zero : (ds : List ℕ) → (1 < length ds → get_or ds 0 0 ≡ 48 → ⊥) → leading_zero ds ≡ false
no_leading_zero ds h = grind (arith, nat_tests, h)

pub next_found : (text : List ℕ) (place at after : ℕ) (t : Token) → Stretch blank text place at → Is text at after t
    → token_at text place ≡ Ok (record { token = t; place = at; after = after })
next_found text place at after (keyword k) s is =
    let first = run_first letter text at after is.run in
    let ends = run_is letter text at after is.run.stretch is.run.stops in
    from_blanks text place at s (λ l. letter_no_blank (get_or text at 0) first)
    ∙ read_letter text at (run_inside letter text at after is.run) first
    ∙ sym (read_short text at after (part text at after) (Some k) (keyword k) ends (part_is_run letter text at after ends)
    (subst (λ ls. length ls ≤ 8) (sym is.written) (letters_are_short k))
    (sym (ap keyword_of is.written ∙ keyword_of_letters k)) refl)
next_found text place at after (mark m) s is =
    let no_plain = subst (λ b. plain b ≡ false) (sym is.written) (mark_is_plain m) in
    let outer = or_parts (blank (get_or text at 0)) (letter (get_or text at 0) || digit (get_or text at 0)) no_plain in
    let inner = or_parts (letter (get_or text at 0)) (digit (get_or text at 0)) outer.1 in
    from_blanks text place at s (λ l. outer.0)
    ∙ read_other text at is.within inner.0 inner.1
    ∙ ap (read_mark at) (ap mark_of is.written ∙ mark_of_byte m)
    ∙ (λ i. Ok (record { token = mark m; place = at; after = sym is.one i }))
next_found text place at after (name ls) s is =
    let first = run_first letter text at after is.run in
    let ends = run_is letter text at after is.run.stretch is.run.stops in
    from_blanks text place at s (λ l. letter_no_blank (get_or text at 0) first)
    ∙ read_letter text at (run_inside letter text at after is.run) first
    ∙ sym (read_short text at after (part text at after) None (name ls) ends (part_is_run letter text at after ends)
    (subst (λ xs. length xs ≤ 8) (sym is.written) is.short)
    (sym (ap keyword_of is.written ∙ keyword_of_none ls is.no_keyword)) (ap name (sym is.written)))
next_found text place at after (number ds v) s is =
    let first = run_first digit text at after is.run in
    let ends = run_is digit text at after is.run.stretch is.run.stops in
    from_blanks text place at s (λ l. digit_no_blank (get_or text at 0) first)
    ∙ read_digit text at (run_inside digit text at after is.run) (digit_no_letter (get_or text at 0) first) first
    ∙ sym (read_plain text at after ds v ends (sym is.written ∙ part_is_run digit text at after ends) is.counts is.fits
    (no_leading_zero ds is.no_leading_zero))
next_found text place at after end s is =
    from_blanks text place at s (λ l. absurd (omega (arith, is.here)))
    ∙ read_end text at (omega (arith, is.here))
    ∙ (λ i. Ok (record { token = end; place = at; after = sym is.none i }))
