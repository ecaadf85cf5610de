-- What calls and answers tell: each case has a number and the values that it brings, and no two are taken for each other.
use Rattle.std.specs.Prelude.{◌≡◌, ℕ, List, [], ◌∷◌, Some, None, Option}
use Rattle.std.specs.Borrow.{Bor}
use Rattle.layout.specs.declared.lot_id.LotId.{LotId}
use Rattle.rules.specs.declared.refusal.Refusal.{Refusal}
use Rattle.rules.specs.declared.answer.Answer.{Answer}
use Rattle.rules.specs.declared.answer.Answer.TheVariants.{Done, Figure, Cell, Rows, Steps, Refused}
use Rattle.rules.specs.Refusals.{number, place}
use Rattle.calls.specs.declared.call.Call.{Call}
use Rattle.calls.specs.declared.call.Call.TheVariants.{Post, Admit, Run, Look, Count, Meter}
use Rattle.calls.specs.Meaning.{call_of}

-- All that an answer tells: which of the six kinds it is, and the values that come with it.
pub record Told : Type 0 where
  pub kind : ℕ
  pub values : List ℕ

-- The place of a refusal, as a list: it comes from number 18 on.
abbrev pub place_told : Option ℕ → List ℕ
place_told (Some at) = at ∷ []
place_told None = []

abbrev pub told : Answer → Told
told Done = record { kind = 0; values = [] }
told (Figure figure) = record { kind = 1; values = figure ∷ [] }
told (Cell cell) = record { kind = 2; values = cell ∷ [] }
told (Rows rows lost) = record { kind = 3; values = rows ∷ lost ∷ [] }
told (Steps steps) = record { kind = 4; values = steps ∷ [] }
told (Refused why) = record { kind = 5; values = number why ∷ place_told (place why) }

-- A refusal is known by its number and its place.
abbrev pub RefusalsToldApart : Type 0
RefusalsToldApart = (a b : Refusal) → number a ≡ number b → place a ≡ place b → a ≡ b

-- An answer is known by its kind and its values.
abbrev pub AnswersToldApart : Type 0
AnswersToldApart = (a b : Answer) → told a ≡ told b → a ≡ b

-- Two calls of the code with the same fields, slices by what they hold.
pub data SameCall : Call → Call → Type 0 where
  posts : (lot : LotId ℕ) (xs ys : Bor (List ℕ)) → xs.now ≡ ys.now → SameCall (Post lot xs) (Post lot ys)
  admits : (slot : ℕ) (xs ys : Bor (List ℕ)) → xs.now ≡ ys.now → SameCall (Admit slot xs) (Admit slot ys)
  runs : (slot vendor : ℕ) → SameCall (Run slot vendor) (Run slot vendor)
  looks : (clearance : ℕ) (lot : LotId ℕ) (place column : ℕ) → SameCall (Look clearance lot place column) (Look clearance lot place column)
  counts : (clearance : ℕ) (lot : LotId ℕ) → SameCall (Count clearance lot) (Count clearance lot)
  meters : (clearance : ℕ) → SameCall (Meter clearance) (Meter clearance)

-- Calls of the code that stand for one call are the same.
abbrev pub CallsToldApart : Type 0
CallsToldApart = (a b : Call) → call_of a ≡ call_of b → SameCall a b
