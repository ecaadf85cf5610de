-- Keywords by their codes.
use Rattle.std.specs.Prelude.{ℕ, List, Option, nat_eq}
use Rattle.std.specs.Int.Digits.{number_from_digits}
use Rattle.grammar.specs.declared.keywords.Keyword.{Keyword}
use Rattle.grammar.specs.Spelling.{letters, keywords, first_that}

-- The code of a word: its letters packed into one number, a byte each, the first the highest.
abbrev pub packed : List ℕ → ℕ
packed word = number_from_digits 256 word

-- The keyword of a code, if there is one.
abbrev pub keyword_with : ℕ → Option Keyword
keyword_with code = first_that (λ k. nat_eq code (packed (letters k))) keywords
