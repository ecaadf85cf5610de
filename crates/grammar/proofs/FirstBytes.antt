-- What is read where the blanks end, by the byte that stands there.
use Rattle.std.proofs.Common.{◌≡◌, ℕ, ◌+◌, ◌<◌, ◌≤◌, true, false, cond, List, ◌∷◌, length, get_or, drop, Ok, Option, sym, ap, ◌∙◌, arith}
use Rattle.std.proofs.lemmas.Grind.{common_steps}
use Rattle.std.proofs.lemmas.Bool.Decides.{nat_tests}
use Rattle.std.proofs.lemmas.List.{at_drop_more, drop_more}
use Rattle.std.specs.List.{prefix_len}
use Rattle.grammar.specs.declared.keywords.Keyword.{Keyword}
use Rattle.grammar.specs.Spelling.{keyword_of, mark_of}
use Rattle.grammar.specs.Tokens.{Token, letter, digit, run, word, read, read_word, read_number, read_mark, past_blanks, token_at}

pub read_end : (text : List ℕ) (at : ℕ) → length text ≤ at → read at (drop at text) ≡ Ok (record { token = Token.end; place = at; after = at })
read_end text at h = grind (arith, common_steps, nat_tests)

-- by the first byte, tested in this order
read_first : (text : List ℕ) (at : ℕ) → at < length text
    → read at (drop at text)
    ≡ cond (letter (get_or text at 0)) (read_word at (run letter (drop at text)))
    (cond (digit (get_or text at 0)) (read_number at (run digit (drop at text)))
    (read_mark at (mark_of (get_or text at 0))))
read_first text at h =
    let back = sym (drop_more text at 0 h) in
    let step : read at (drop at text)
    ≡ cond (letter (get_or text at 0)) (read_word at (run letter (get_or text at 0 ∷ drop (at + 1) text)))
    (cond (digit (get_or text at 0)) (read_number at (run digit (get_or text at 0 ∷ drop (at + 1) text)))
    (read_mark at (mark_of (get_or text at 0))))
    = at_drop_more (read at) text at 0 h in
    step ∙ ap (λ rest. cond (letter (get_or text at 0)) (read_word at (run letter rest))
    (cond (digit (get_or text at 0)) (read_number at (run digit rest)) (read_mark at (mark_of (get_or text at 0))))) back

pub read_letter : (text : List ℕ) (at : ℕ) → at < length text → letter (get_or text at 0) ≡ true
    → read at (drop at text) ≡ read_word at (run letter (drop at text))
read_letter text at h is = rw is at (read_first text at h)

pub read_digit : (text : List ℕ) (at : ℕ) → at < length text → letter (get_or text at 0) ≡ false → digit (get_or text at 0) ≡ true
    → read at (drop at text) ≡ read_number at (run digit (drop at text))
read_digit text at h no_letter is = rw (no_letter, is) at (read_first text at h)

pub read_other : (text : List ℕ) (at : ℕ) → at < length text → letter (get_or text at 0) ≡ false → digit (get_or text at 0) ≡ false
    → read at (drop at text) ≡ read_mark at (mark_of (get_or text at 0))
read_other text at h no_letter no_digit = rw (no_letter, no_digit) at (read_first text at h)

pub token_at_is : (text : List ℕ) (place at : ℕ) → at ≡ past_blanks text place → token_at text place ≡ read at (drop at text)
unfolding token_at
token_at_is text place at e = ap (λ n. read n (drop n text)) (sym e)

-- a run of at most 8 letters
pub read_short : (text : List ℕ) (place after : ℕ) (part : List ℕ) (k : Option Keyword) (t : Token)
    → after ≡ place + prefix_len letter (drop place text) → part ≡ run letter (drop place text) → length part ≤ 8 → k ≡ keyword_of part → t ≡ word part k
    → Ok (record { token = t; place = place; after = after }) ≡ read_word place (run letter (drop place text))
read_short text place after part k t e is short which what = grind (arith, common_steps, nat_tests)
