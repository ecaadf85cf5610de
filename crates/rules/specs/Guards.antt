-- A call's checks, one after the other: the first whose condition holds sends the call back.
use Rattle.std.specs.Prelude.{Bool, true, false, List, [], ◌∷◌, Ok, Err, Result}
use Rattle.rules.specs.declared.refusal.Refusal.{Refusal}

-- Refused where the condition holds, else the rest of the call.
abbrev pub guard : {A : Type 0} → Bool → Refusal → Result A Refusal → Result A Refusal
guard true why rest = Err why
guard false why rest = rest

-- What a call leaves: a refused one leaves what there was.
abbrev pub after : {A : Type 0} → A → Result A Refusal → A
after was (Ok new) = new
after was (Err why) = was

-- What a call answers that brings nothing but its success.
abbrev pub answer : {A : Type 0} → Result A Refusal → Result (Unit {0}) Refusal
answer (Ok new) = Ok tt
answer (Err why) = Err why

-- One check of a call: its condition, and why the call is sent back where that holds.
pub record Check : Type 0 where
  pub holds : Bool
  pub why : Refusal

-- The checks in their order, then the rest of the call.
abbrev pub sift : {A : Type 0} → List Check → Result A Refusal → Result A Refusal
sift [] rest = rest
sift (c ∷ cs) rest = guard c.holds c.why (sift cs rest)

-- What goes on where nothing was refused.
abbrev pub and_then : {A B : Type 0} → Result A Refusal → (A → Result B Refusal) → Result B Refusal
and_then (Ok x) next = next x
and_then (Err why) next = Err why
