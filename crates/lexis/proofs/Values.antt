-- A loop over the digits of a number.
use Rattle.std.proofs.Common.{◌≡◌, ℕ, ◌+◌, ◌-◌, ◌*◌, ◌^◌, ◌<◌, ◌≤◌, leb, List, [], ◌∷◌, length, get_or, drop, Some, None, sym, ap, ◌∙◌, arith}
use Rattle.std.specs.Str.Parse.{digits_value_after}
use Rattle.std.specs.Char.{digit_value}
use Rattle.std.proofs.lemmas.List.{at_drop_more}
use Rattle.std.proofs.lemmas.Bool.{cond-true, le-leb}
use Rattle.std.proofs.lemmas.Bool.Decides.{nat_tests}
use Rattle.grammar.specs.Tokens.{Digit}
use Rattle.lexis.specs.Values.{fitting}

pub record DigitFacts (b : ℕ) : Type 0 where
  pub low : 48 ≤ b
  pub high : b ≤ 57
  pub means : digit_value b ≡ b - 48

pub digit_facts : (b : ℕ) → Digit b → DigitFacts b
digit_facts b h = record { low = grind (arith, nat_tests); high = grind (arith, nat_tests); means = grind (arith, nat_tests) }

pub value_step : (v : ℕ) (ds : List ℕ) (i : ℕ) → i < length ds → Digit (get_or ds i 0)
    → digits_value_after 10 v (drop i ds) ≡ digits_value_after 10 (v * 10 + (get_or ds i 0 - 48)) (drop (i + 1) ds)
value_step v ds i h d =
    let step : digits_value_after 10 v (drop i ds) ≡ digits_value_after 10 (v * 10 + digit_value (get_or ds i 0)) (drop (i + 1) ds) = at_drop_more (digits_value_after 10 v) ds i 0 h in
    step ∙ ap (λ n. digits_value_after 10 (v * 10 + n) (drop (i + 1) ds)) (digit_facts (get_or ds i 0) d).means

value_grows : (v : ℕ) (ds : List ℕ) → v ≤ digits_value_after 10 v ds
value_grows v [] = omega arith
value_grows v (d ∷ ds) = omega (arith, value_grows (v * 10 + digit_value d) ds)

-- the next digit makes the value pass 32 bits
pub too_large : (v whole : ℕ) (ds : List ℕ) (i : ℕ) → i < length ds → Digit (get_or ds i 0) → digits_value_after 10 v (drop i ds) ≡ whole
    → 2 ^ 32 ≤ v * 10 + (get_or ds i 0 - 48) → None ≡ fitting whole
too_large v whole ds i h d e over =
    let grows = value_grows (v * 10 + (get_or ds i 0 - 48)) (drop (i + 1) ds) in
    let large : 2 ^ 32 ≤ whole = omega (arith, value_step v ds i h d) in
    sym (cond-true (leb (2 ^ 32) whole) None (Some whole) (le-leb (2 ^ 32) whole large))
