-- Each call over plain values, one equation a call: its checks in their order, then what it does.
use Rattle.std.proofs.Common.{◌≡◌, ℕ, not, eqb, ltb, leb, List, [], length, get_or, is_some, Ok, refl}
use Rattle.rules.specs.declared.refusal.Refusal.TheVariants.{ClearanceNoLabel, NoSuchTable, NoSuchVendor, NoSuchColumn, ValueCount, NotCleared, NoSuchRow, LotFull, NoSuchSlot, SlotEmpty, FlowNotAllowed, FigureTooHigh}
use Rattle.rules.specs.declared.answer.Answer.TheVariants.{Done, Figure, Cell, Rows, Steps}
use Rattle.lattice.specs.Order.{Order}
use Rattle.rules.specs.Guards.{guard, and_then}
use Rattle.rules.specs.Plans.{Plan}
use Rattle.rules.specs.Scripts.{Code}
use Rattle.rules.specs.Lots.{room, width}
use Rattle.rules.specs.Labels.{row_label, cell_label}
use Rattle.rules.specs.Figures.{figure}
use Rattle.rules.specs.Judging.{judge}
use Rattle.rules.specs.Admission.{Reading, Admission, place_of, admit_code, admission}
use Rattle.rules.specs.Calls.{Bench, outcome, with_row, hold, after_run, script_in}
use Rattle.rules.specs.Calls.Call.{post, admit, run, look, count, meter}

module _ (o : Order) (admits : Admission) (plan : Plan) (bench : Bench) where
  pub post_is : (t v : ℕ) (values : List ℕ) → outcome o admits plan bench (post t v values)
      ≡ guard (leb (length plan.tables) t) NoSuchTable
      (guard (leb plan.vendors v) NoSuchVendor
      (guard (not (eqb (length values) (width plan t))) ValueCount
      (guard (leb (room plan t v) (length (bench.lots t v).rows)) LotFull
      (Ok (record { answer = Done; bench = with_row bench t v values })))))
  unfolding outcome
  post_is t v values = refl

  pub admit_is : (slot : ℕ) (text : List ℕ) → outcome o admits plan bench (admit slot text)
      ≡ guard (ltb 3 slot) NoSuchSlot (and_then (admits text) (hold bench slot))
  unfolding outcome
  admit_is slot text = refl

  pub run_is : (slot v : ℕ) → outcome o admits plan bench (run slot v)
      ≡ guard (leb plan.vendors v) NoSuchVendor
      (guard (ltb 3 slot) NoSuchSlot
      (guard (not (is_some (bench.slots slot))) SlotEmpty
      (Ok (record { answer = Figure (script_in bench slot).figure; bench = after_run plan bench slot v }))))
  unfolding outcome
  run_is slot v = refl

  pub look_is : (clearance t v place column : ℕ) → outcome o admits plan bench (look clearance t v place column)
      ≡ guard (not (o.label clearance)) ClearanceNoLabel
      (guard (leb (length plan.tables) t) NoSuchTable
      (guard (leb plan.vendors v) NoSuchVendor
      (guard (leb (width plan t) column) NoSuchColumn
      (guard (not (o.below (cell_label o plan t v column) clearance)) NotCleared
      (guard (leb (length (bench.lots t v).rows) place) NoSuchRow
      (Ok (record { answer = Cell (get_or (get_or (bench.lots t v).rows place []) column 0); bench = bench })))))))
  unfolding outcome
  look_is clearance t v place column = refl

  pub count_is : (clearance t v : ℕ) → outcome o admits plan bench (count clearance t v)
      ≡ guard (not (o.label clearance)) ClearanceNoLabel
      (guard (leb (length plan.tables) t) NoSuchTable
      (guard (leb plan.vendors v) NoSuchVendor
      (guard (not (o.below (row_label o plan t v) clearance)) NotCleared
      (Ok (record { answer = Rows (length (bench.lots t v).rows) (bench.lots t v).lost; bench = bench })))))
  unfolding outcome
  count_is clearance t v = refl

  pub meter_is : (clearance : ℕ) → outcome o admits plan bench (meter clearance)
      ≡ guard (not (o.label clearance)) ClearanceNoLabel
      (guard (not (o.below o.top clearance)) NotCleared (Ok (record { answer = Steps bench.meter; bench = bench })))
  unfolding outcome
  meter_is clearance = refl

pub admission_is : (o : Order) (read : Reading) (plan : Plan) (text : List ℕ)
    → admission o read plan text ≡ and_then (read plan text) (admit_code o plan (length text))
unfolding admission
admission_is o read plan text = refl

pub admit_code_is : (o : Order) (plan : Plan) (size : ℕ) (code : Code) → admit_code o plan size code
    ≡ guard (is_some (judge o plan code)) (FlowNotAllowed (place_of (judge o plan code)))
    (guard (ltb 1000000 (figure plan code)) (FigureTooHigh size) (Ok (record { code = code; figure = figure plan code })))
admit_code_is o plan size code = refl
