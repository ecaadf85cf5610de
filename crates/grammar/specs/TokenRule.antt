-- What the next token of a text is, in the grammar's own words, without saying how it is read.
use Rattle.std.specs.Prelude.{◌≡◌, ℕ, ◌+◌, ◌^◌, ◌<◌, ◌≤◌, Bool, true, false, List, length, take, Ok, Err, Result, ◌≢◌, slice_index, slice_index_or, slice_range}
use Rattle.std.specs.Str.Parse.{digits_value}
use Rattle.rules.specs.declared.refusal.Refusal.TheVariants.{NoToken}
use Rattle.grammar.specs.declared.keywords.Keyword.{Keyword}
use Rattle.grammar.specs.declared.marks.Mark.{Mark}
use Rattle.grammar.specs.Spelling.{letters, byte}
use Rattle.grammar.specs.Tokens.{Refusal, Token, keyword, mark, name, number, end, Found, blank, letter, digit, token_at}

-- The bytes of a text from one place up to another.
abbrev pub part : List ℕ → ℕ → ℕ → List ℕ
part text from to = slice_range text from to

-- From one place up to another a text has such bytes only.
pub record Stretch (such : ℕ → Bool) (text : List ℕ) (from to : ℕ) : Type 0 where
  pub order : from ≤ to
  pub within : to ≤ length text
  pub all : (i : ℕ) → from ≤ i → i < to → such (slice_index text i) ≡ true

-- A longest run: one such byte or more, and no such byte behind them.
pub record Longest (such : ℕ → Bool) (text : List ℕ) (from to : ℕ) : Type 0 where
  pub stretch : Stretch such text from to
  pub some : from < to
  pub stops : to < length text → such (slice_index text to) ≡ false

pub record IsKeyword (text : List ℕ) (from to : ℕ) (k : Keyword) : Type 0 where
  pub run : Longest letter text from to
  pub written : part text from to ≡ letters k

pub record IsName (text : List ℕ) (from to : ℕ) (ls : List ℕ) : Type 0 where
  pub run : Longest letter text from to
  pub written : part text from to ≡ ls
  pub short : length ls ≤ 8
  pub no_keyword : (k : Keyword) → ls ≢ letters k

pub record IsNumber (text : List ℕ) (from to : ℕ) (ds : List ℕ) (v : ℕ) : Type 0 where
  pub run : Longest digit text from to
  pub written : part text from to ≡ ds
  pub counts : digits_value 10 ds ≡ v
  pub fits : v < 2 ^ 32
  pub no_leading_zero : 1 < length ds → slice_index ds 0 ≢ 48

pub record IsMark (text : List ℕ) (from to : ℕ) (m : Mark) : Type 0 where
  pub within : from < length text
  pub written : slice_index_or text from 0 ≡ byte m
  pub one : to ≡ from + 1

pub record IsEnd (text : List ℕ) (from to : ℕ) : Type 0 where
  pub here : from ≡ length text
  pub none : to ≡ from

-- This token stands from one place up to another.
abbrev pub Is : List ℕ → ℕ → ℕ → Token → Type 0
Is text from to (keyword k) = IsKeyword text from to k
Is text from to (mark m) = IsMark text from to m
Is text from to (name ls) = IsName text from to ls
Is text from to (number ds v) = IsNumber text from to ds v
Is text from to end = IsEnd text from to

-- This token is the next one from a place on: only blanks stand before it.
pub record Next (text : List ℕ) (place : ℕ) (f : Found) : Type 0 where
  pub blanks : Stretch blank text place f.place
  pub is : Is text f.place f.after f.token

-- No token can be read at this place, before the text's end, where the blanks end.
pub record NoNext (text : List ℕ) (place at : ℕ) : Type 0 where
  pub blanks : Stretch blank text place at
  pub inside : at < length text
  pub no_blank : blank (slice_index text at) ≡ false
  pub none : (after : ℕ) (t : Token) → Is text at after t → ⊥

-- An answer is right: the next token, or the place where none can be read.
abbrev pub Right : List ℕ → ℕ → Result Found Refusal → Type 0
Right text place (Ok f) = Next text place f
Right text place (Err why) = (at : ℕ) × (why ≡ NoToken at) × NoNext text place at

-- Reading answers rightly, and finds every token that stands next.
pub record ReadsByTheRule (text : List ℕ) (place : ℕ) : Type 0 where
  pub right : Right text place (token_at text place)
  pub all : (f : Found) → Next text place f → token_at text place ≡ Ok f

abbrev pub ReadingIsTheRule : Type 0
ReadingIsTheRule = (text : List ℕ) (place : ℕ) → place ≤ length text → ReadsByTheRule text place

-- At most one token stands next: so no keyword is a name, and no token is cut short.
abbrev pub OneNextToken : Type 0
OneNextToken = (text : List ℕ) (place : ℕ) → place ≤ length text → (f g : Found) → Next text place f → Next text place g → f ≡ g

-- What is found lies behind the place asked and within the text; a token has one byte or more.
pub record Lies (text : List ℕ) (place : ℕ) (f : Found) : Type 0 where
  pub from : place ≤ f.place
  pub order : f.place ≤ f.after
  pub within : f.after ≤ length text
  pub some : (f.token ≢ end) → f.place < f.after

abbrev pub TokensLieWithin : Type 0
TokensLieWithin = (text : List ℕ) (place : ℕ) → place ≤ length text → (f : Found) → token_at text place ≡ Ok f → Lies text place f

-- Blanks before a token do not matter.
abbrev pub BlanksDoNotMatter : Type 0
BlanksDoNotMatter =
    (text : List ℕ) (place : ℕ) → place < length text → blank (slice_index text place) ≡ true → token_at text place ≡ token_at text (place + 1)

-- Reading a token looks at no byte behind the one that ends it.
abbrev pub ReadingLooksNoFurther : Type 0
ReadingLooksNoFurther =
    (text other : List ℕ) (place : ℕ) → place ≤ length text → (f : Found) → token_at text place ≡ Ok f
    → take (f.after + 1) text ≡ take (f.after + 1) other → token_at other place ≡ Ok f
