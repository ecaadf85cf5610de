-- All tokens of a text, one after the other.
use Rattle.std.specs.Prelude.{◌≡◌, ℕ, zero, suc, ◌<◌, ◌≤◌, Bool, true, false, List, [], ◌∷◌, length, Ok, Err, Result}
use Rattle.grammar.specs.Tokens.{Refusal, Token, keyword, mark, name, number, end, Found, token_at}

abbrev pub is_end : Token → Bool
is_end (keyword k) = false
is_end (mark m) = false
is_end (name ls) = false
is_end (number ds v) = false
is_end end = true

-- A token and those behind it; none at the end of the text.
abbrev pub listed : Bool → Found → (ℕ → List Found) → List Found
listed true f behind = []
listed false f behind = f ∷ behind f.after

abbrev pub list_on : Result Found Refusal → (ℕ → List Found) → List Found
list_on (Ok f) behind = listed (is_end f.token) f behind
list_on (Err why) behind = []

-- The first tokens from a place on, at most so many: up to the end of the text, or to where none can be read.
abbrev pub tokens_from : ℕ → List ℕ → ℕ → List Found
tokens_from zero text place = []
tokens_from (suc n) text place = list_on (token_at text place) (tokens_from n text)

-- All tokens of a text: each has a byte, so there are no more of them than bytes.
abbrev pub tokens : List ℕ → List Found
tokens text = tokens_from (length text) text 0

-- Tokens that lie one behind the other, from a place on, within so many bytes.
abbrev pub Rising : ℕ → ℕ → List Found → Type 0
Rising place size [] = place ≤ size
Rising place size (f ∷ fs) = (place ≤ f.place) × ((f.place < f.after) × Rising f.after size fs)

-- The place behind the last of these tokens, which are read from a place on.
abbrev pub behind_all : ℕ → List Found → ℕ
behind_all place [] = place
behind_all place (f ∷ fs) = behind_all f.after fs

-- No token is left: the end of the text, or a place where none can be read.
abbrev pub over : Result Found Refusal → Bool
over (Ok f) = is_end f.token
over (Err why) = true

pub record AllInOrder (text : List ℕ) : Type 0 where
  pub rising : Rising 0 (length text) (tokens text)
  pub whole : over (token_at text (behind_all 0 (tokens text))) ≡ true

abbrev pub TokensAreInOrder : Type 0
TokensAreInOrder = (text : List ℕ) → AllInOrder text
