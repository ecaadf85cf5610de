-- The live bench and its six calls.
use Rattle.std.specs.Prelude.{ℕ, not, List, [], ◌∷◌, length, is_some, Some, None, Ok, Err, Option, Result, ◌==◌, nat_le, nat_lt, slice_index, slice_index_or}
use Rattle.rules.specs.declared.refusal.Refusal.{Refusal}
use Rattle.rules.specs.declared.refusal.Refusal.TheVariants.{ClearanceNoLabel, NoSuchTable, NoSuchVendor, NoSuchColumn, ValueCount, NotCleared, NoSuchRow, LotFull, NoSuchSlot, SlotEmpty}
use Rattle.rules.specs.declared.answer.Answer.{Answer}
use Rattle.rules.specs.declared.answer.Answer.TheVariants.{Done, Figure, Cell, Rows, Steps, Refused}
use Rattle.lattice.specs.Order.{Order}
use Rattle.rules.specs.Guards.{Check, sift, and_then}
use Rattle.rules.specs.Plans.{Plan}
use Rattle.rules.specs.Scripts.Code.{stop}
use Rattle.rules.specs.Lots.{Lots, no_rows, width, room, upd, put_lot}
use Rattle.rules.specs.Evaluation.{ran}
use Rattle.rules.specs.Labels.{row_label, cell_label}
use Rattle.rules.specs.Admission.{Script, Admission}

-- A live bench over its plan: the lots, the four slots for scripts, and the steps of the newest run.
pub record Bench : Type 0 where
  pub lots : Lots
  pub slots : ℕ → Option Script
  pub meter : ℕ

abbrev pub new_bench : Bench
new_bench = record { lots = λ _ _. no_rows; slots = λ _. None; meter = 0 }

pub data Call : Type 0 where
  -- table, vendor, values
  post : ℕ → ℕ → List ℕ → Call
  -- slot, text
  admit : ℕ → List ℕ → Call
  -- slot, vendor
  run : ℕ → ℕ → Call
  -- clearance, table, vendor, place with 0 for the newest row, column
  look : ℕ → ℕ → ℕ → ℕ → ℕ → Call
  -- clearance, table, vendor
  count : ℕ → ℕ → ℕ → Call
  -- clearance
  meter : ℕ → Call

abbrev pub no_label : Order → ℕ → Check
no_label o clearance = record { holds = not (o.label clearance); why = ClearanceNoLabel }

abbrev pub no_table : Plan → ℕ → Check
no_table plan t = record { holds = nat_le (length plan.tables) t; why = NoSuchTable }

abbrev pub no_vendor : Plan → ℕ → Check
no_vendor plan v = record { holds = nat_le plan.vendors v; why = NoSuchVendor }

abbrev pub no_slot : ℕ → Check
no_slot slot = record { holds = nat_lt 3 slot; why = NoSuchSlot }

-- not cleared: the label is not at or below the clearance
abbrev pub not_cleared : Order → ℕ → ℕ → Check
not_cleared o label clearance = record { holds = not (o.below label clearance); why = NotCleared }

-- What a call is checked for, in this order.
abbrev pub checks : Order → Plan → Bench → Call → List Check
checks o plan bench (post t v values) =
    no_table plan t ∷ no_vendor plan v
    ∷ record { holds = not (length values == width plan t); why = ValueCount }
    ∷ record { holds = nat_le (room plan t v) (length (bench.lots t v).rows); why = LotFull } ∷ []
checks o plan bench (admit slot text) = no_slot slot ∷ []
checks o plan bench (run slot v) =
    no_vendor plan v ∷ no_slot slot ∷ record { holds = not (is_some (bench.slots slot)); why = SlotEmpty } ∷ []
checks o plan bench (look clearance t v place column) =
    no_label o clearance ∷ no_table plan t ∷ no_vendor plan v
    ∷ record { holds = nat_le (width plan t) column; why = NoSuchColumn }
    ∷ not_cleared o (cell_label o plan t v column) clearance
    ∷ record { holds = nat_le (length (bench.lots t v).rows) place; why = NoSuchRow } ∷ []
checks o plan bench (count clearance t v) =
    no_label o clearance ∷ no_table plan t ∷ no_vendor plan v ∷ not_cleared o (row_label o plan t v) clearance ∷ []
checks o plan bench (meter clearance) = no_label o clearance ∷ not_cleared o o.top clearance ∷ []

-- What a call that is not sent back answers, and the bench that it leaves.
pub record Move : Type 0 where
  pub answer : Answer
  pub bench : Bench

abbrev pub with_row : Bench → ℕ → ℕ → List ℕ → Bench
with_row bench t v values = record {
  lots = put_lot bench.lots t v (record { rows = values ∷ (bench.lots t v).rows; lost = (bench.lots t v).lost });
  slots = bench.slots;
  meter = bench.meter;
}

abbrev pub with_script : Bench → ℕ → Script → Bench
with_script bench slot script = record { lots = bench.lots; slots = upd bench.slots slot (Some script); meter = bench.meter }

abbrev pub script_of : Option Script → Script
script_of (Some script) = script
script_of None = record { code = stop; figure = 0 }

-- The script that a slot holds; the empty one where it holds none.
abbrev pub script_in : Bench → ℕ → Script
script_in bench slot = script_of (bench.slots slot)

abbrev pub after_run : Plan → Bench → ℕ → ℕ → Bench
after_run plan bench slot v = record {
  lots = (ran plan (script_in bench slot).code v bench.lots).lots;
  slots = bench.slots;
  meter = (ran plan (script_in bench slot).code v bench.lots).steps;
}

abbrev pub hold : Bench → ℕ → Script → Result Move Refusal
hold bench slot script = Ok (record { answer = Figure script.figure; bench = with_script bench slot script })

-- What a call does once it passed its checks. A text can still be sent back by its admission.
abbrev pub effect : Admission → Plan → Bench → Call → Result Move Refusal
effect admits plan bench (post t v values) = Ok (record { answer = Done; bench = with_row bench t v values })
effect admits plan bench (admit slot text) =
    and_then (admits text) (hold bench slot)
effect admits plan bench (run slot v) = Ok (record { answer = Figure (script_in bench slot).figure; bench = after_run plan bench slot v })
effect admits plan bench (look clearance t v place column) =
    Ok (record { answer = Cell (slice_index (slice_index_or (bench.lots t v).rows place []) column); bench = bench })
effect admits plan bench (count clearance t v) =
    Ok (record { answer = Rows (length (bench.lots t v).rows) (bench.lots t v).lost; bench = bench })
effect admits plan bench (meter clearance) = Ok (record { answer = Steps bench.meter; bench = bench })

unfoldable pub outcome : Order → Admission → Plan → Bench → Call → Result Move Refusal
outcome o admits plan bench call = sift (checks o plan bench call) (effect admits plan bench call)

abbrev pub reply_of : Result Move Refusal → Answer
reply_of (Ok move) = move.answer
reply_of (Err why) = Refused why

abbrev pub bench_of : Bench → Result Move Refusal → Bench
bench_of bench (Ok move) = move.bench
bench_of bench (Err why) = bench

-- A call's answer, and the bench after it: what it was where the call is sent back.
abbrev pub reply : Order → Admission → Plan → Bench → Call → Answer
reply o admits plan bench call = reply_of (outcome o admits plan bench call)

abbrev pub step : Order → Admission → Plan → Bench → Call → Bench
step o admits plan bench call = bench_of bench (outcome o admits plan bench call)

-- A list of calls, one after the other: the bench after them, and their answers.
abbrev pub after_calls : Order → Admission → Plan → Bench → List Call → Bench
after_calls o admits plan bench [] = bench
after_calls o admits plan bench (c ∷ cs) = after_calls o admits plan (step o admits plan bench c) cs

abbrev pub answers : Order → Admission → Plan → Bench → List Call → List Answer
answers o admits plan bench [] = []
answers o admits plan bench (c ∷ cs) = reply o admits plan bench c ∷ answers o admits plan (step o admits plan bench c) cs
