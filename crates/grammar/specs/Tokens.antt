-- The tokens of a text. A text is a list of bytes, and a place counts its bytes from 0.
use Rattle.std.specs.Prelude.{◌≡◌, ℕ, ◌+◌, ◌^◌, Bool, true, false, cond, ◌&&◌, ◌||◌, List, [], ◌∷◌, length, take, drop, Some, None, Ok, Err, Option, Result, ◌==◌, nat_le, nat_lt, slice_index}
use Rattle.std.specs.Str.Parse.{digits_value}
use Rattle.std.specs.List.{prefix_len}
use Rattle.std.specs.Str.{bytes_eq}
pub use Rattle.rules.specs.declared.refusal.Refusal.{Refusal}
use Rattle.rules.specs.declared.refusal.Refusal.TheVariants.{NoToken}
use Rattle.rules.specs.Guards.{guard}
use Rattle.grammar.specs.declared.keywords.Keyword.{Keyword}
use Rattle.grammar.specs.declared.marks.Mark.{Mark}
use Rattle.grammar.specs.Spelling.{letters, byte, keyword_of, mark_of}

-- What is read at a place: a token, or the end of the text, which is none. A number has its digits and its value.
pub data Token : Type 0 where
  keyword : Keyword → Token
  mark : Mark → Token
  name : List ℕ → Token
  number : List ℕ → ℕ → Token
  end : Token

-- A token where it stands: its place is that of its first byte, and reading goes on at `after`. The end of the text
-- stands at the text's length, and reading goes on there.
pub record Found : Type 0 where
  pub token : Token
  pub place : ℕ
  pub after : ℕ

-- Only the space and the line's end separate tokens.
abbrev pub blank : ℕ → Bool
blank b = b == 32 || b == 10

abbrev pub letter : ℕ → Bool
letter b = nat_le 97 b && nat_le b 122

abbrev pub digit : ℕ → Bool
digit b = nat_le 48 b && nat_le b 57

abbrev pub Letter : ℕ → Type 0
Letter b = letter b ≡ true

abbrev pub Digit : ℕ → Type 0
Digit b = digit b ≡ true

-- The longest run of such bytes that a text begins with.
abbrev pub run : (ℕ → Bool) → List ℕ → List ℕ
run such text = take (prefix_len such text) text

-- The token of so many bytes at a place.
abbrev pub found : Token → ℕ → ℕ → Result Found Refusal
found t place size = Ok (record { token = t; place = place; after = place + size })

-- A run of letters is a keyword, or else a name.
abbrev pub word : List ℕ → Option Keyword → Token
word ls (Some k) = keyword k
word ls None = name ls

-- A run of 1 to 8 letters is a token.
abbrev pub read_word : ℕ → List ℕ → Result Found Refusal
read_word place ls = guard (nat_lt 8 (length ls)) (NoToken place) (found (word ls (keyword_of ls)) place (length ls))

-- A number has no leading zero, unless it is 0 itself, and fits 32 bits.
abbrev pub leading_zero : List ℕ → Bool
leading_zero ds = slice_index ds 0 == 48 && nat_lt 1 (length ds)

abbrev pub read_number : ℕ → List ℕ → Result Found Refusal
read_number place ds =
    guard (leading_zero ds || nat_le (2 ^ 32) (digits_value 10 ds)) (NoToken place) (found (number ds (digits_value 10 ds)) place (length ds))

abbrev pub read_mark : ℕ → Option Mark → Result Found Refusal
read_mark place (Some m) = found (mark m) place 1
read_mark place None = Err (NoToken place)

-- What a text begins with, the text's first byte being at this place: its first byte says what kind it is of.
abbrev pub read : ℕ → List ℕ → Result Found Refusal
read place [] = found end place 0
read place (b ∷ text) =
    cond (letter b) (read_word place (run letter (b ∷ text)))
    (cond (digit b) (read_number place (run digit (b ∷ text)))
    (read_mark place (mark_of b)))

-- Where the blanks from a place on end.
abbrev pub past_blanks : List ℕ → ℕ → ℕ
past_blanks text place = place + prefix_len blank (drop place text)

-- The next token from a place on, or where none can be read.
unfoldable pub token_at : List ℕ → ℕ → Result Found Refusal
unfolding keyword_of
token_at text place = read (past_blanks text place) (drop (past_blanks text place) text)

-- Whether a token is this mark, or this keyword.
abbrev pub is_mark : Mark → Token → Bool
is_mark m (keyword k) = false
is_mark m (mark n) = byte m == byte n
is_mark m (name ls) = false
is_mark m (number ds v) = false
is_mark m end = false

abbrev pub is_keyword : Keyword → Token → Bool
is_keyword k (keyword j) = bytes_eq (letters k) (letters j)
is_keyword k (mark m) = false
is_keyword k (name ls) = false
is_keyword k (number ds v) = false
is_keyword k end = false

-- Whether the next token from a place on can be read and passes.
abbrev pub passes : (Token → Bool) → Result Found Refusal → Bool
passes asked (Ok f) = asked f.token
passes asked (Err why) = false

abbrev pub next_is : List ℕ → ℕ → (Token → Bool) → Bool
next_is text place asked = passes asked (token_at text place)

-- Where reading goes on: behind the token, or where it was if there is none to read.
abbrev pub goes_on : ℕ → Result Found Refusal → ℕ
goes_on place (Ok f) = f.after
goes_on place (Err why) = place
