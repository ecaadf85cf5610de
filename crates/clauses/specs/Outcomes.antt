-- What the results of the code stand for, given where the reader then stands.
use denote.Ref.{Bor}
use Rattle.std.specs.Prelude.{ℕ, Bool, true, false, List, Ok, Err, Result}
use Rattle.grammar.specs.Tokens.{Refusal}
use Rattle.grammar.specs.Steps.{Part, Seen}
use Rattle.grammar.specs.Clauses as clauses
use Rattle.script.specs.Nodes.{index_of}
use Rattle.clauses.specs.declared.steps.Placed.{Placed}
use Rattle.script.specs.declared.node.Lot.{Lot}
use Rattle.clauses.specs.declared.parts.Access.{Access}
use Rattle.clauses.specs.declared.parts.Access.TheVariants.{Read, Write}

abbrev pub parted : {T X : Type 0} → (T → X) → ℕ → Result T Refusal → Result (Part X) Refusal
parted meaning after (Ok t) = Ok (record { value = meaning t; after = after })
parted meaning after (Err why) = Err why

-- A name or a number, with its place.
abbrev pub seen : {T X : Type 0} → (T → X) → ℕ → Result (Placed T) Refusal → Result (Seen X) Refusal
seen meaning after (Ok p) = Ok (record { value = meaning p.value; place = p.place; after = after })
seen meaning after (Err why) = Err why

abbrev pub letters : Bor (List ℕ) → List ℕ
letters w = w.now

abbrev pub itself : ℕ → ℕ
itself n = n

abbrev pub lot_of : Lot → clauses.Lot
lot_of l = record { table = l.table; owner = index_of l.owner }

abbrev pub is_written : Access → Bool
is_written Read = false
is_written Write = true
