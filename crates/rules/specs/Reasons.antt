-- Why a call is sent back: the condition of each number, in words of the bench, in the order in which they count.
use Rattle.std.specs.Prelude.{◌≡◌, ℕ, ◌<◌, ◌≤◌, false, ◌⊎◌, List, [], ◌∷◌, length, Some, None, Ok, Err, ◌≢◌}
use Rattle.rules.specs.declared.refusal.Refusal.{Refusal}
use Rattle.rules.specs.declared.refusal.Refusal.TheVariants.{ClearanceNoLabel, NoSuchTable, NoSuchVendor, NoSuchColumn, ValueCount, NotCleared, NoSuchRow, LotFull, NoSuchSlot, SlotEmpty, FlowNotAllowed, FigureTooHigh}
use Rattle.lattice.specs.Order.{Order}
use Rattle.rules.specs.Plans.{Plan}
use Rattle.rules.specs.Scripts.{Code}
use Rattle.rules.specs.Lots.{width, room}
use Rattle.rules.specs.Labels.{row_label, cell_label}
use Rattle.rules.specs.Figures.{figure}
use Rattle.rules.specs.Judging.{judge}
use Rattle.rules.specs.Admission.{Reading}
use Rattle.rules.specs.Calls.{Bench, Call}
use Rattle.rules.specs.Calls.Call.{post, admit, run, look, count, meter}

-- A condition, and the refusal that it is the reason of.
pub record Ground : Type 1 where
  pub when : Type 0
  pub why : Refusal

abbrev pub on : Refusal → Type 0 → Ground
on why when = record { when = when; why = why }

-- The conditions of a call, but for what is wrong with a script's text.
abbrev pub grounds : Order → Plan → Bench → Call → List Ground
grounds o plan bench (post t v values) =
    on NoSuchTable (length plan.tables ≤ t)
    ∷ on NoSuchVendor (plan.vendors ≤ v)
    ∷ on ValueCount (length values ≢ width plan t)
    ∷ on LotFull (room plan t v ≤ length (bench.lots t v).rows) ∷ []
grounds o plan bench (admit slot text) = on NoSuchSlot (3 < slot) ∷ []
grounds o plan bench (run slot v) =
    on NoSuchVendor (plan.vendors ≤ v) ∷ on NoSuchSlot (3 < slot) ∷ on SlotEmpty (bench.slots slot ≡ None) ∷ []
grounds o plan bench (look clearance t v place column) =
    on ClearanceNoLabel (o.label clearance ≡ false)
    ∷ on NoSuchTable (length plan.tables ≤ t)
    ∷ on NoSuchVendor (plan.vendors ≤ v)
    ∷ on NoSuchColumn (width plan t ≤ column)
    ∷ on NotCleared (o.below (cell_label o plan t v column) clearance ≡ false)
    ∷ on NoSuchRow (length (bench.lots t v).rows ≤ place) ∷ []
grounds o plan bench (count clearance t v) =
    on ClearanceNoLabel (o.label clearance ≡ false)
    ∷ on NoSuchTable (length plan.tables ≤ t)
    ∷ on NoSuchVendor (plan.vendors ≤ v)
    ∷ on NotCleared (o.below (row_label o plan t v) clearance ≡ false) ∷ []
grounds o plan bench (meter clearance) =
    on ClearanceNoLabel (o.label clearance ≡ false) ∷ on NotCleared (o.below o.top clearance ≡ false) ∷ []

-- This refusal's condition holds, and no earlier one does.
abbrev pub Due : List Ground → Refusal → Type 0
Due [] why = ⊥
Due (g ∷ gs) why = (g.when × (g.why ≡ why)) ⊎ ((g.when → ⊥) × Due gs why)

-- No condition holds.
abbrev pub NoGround : List Ground → Type 0
NoGround [] = Unit {0}
NoGround (g ∷ gs) = (g.when → ⊥) × NoGround gs

-- What is wrong with a text: its reading refuses it; or what was read has a fault, which the judge finds at a place; or it
-- has none, and its figure is too high.
abbrev pub Unadmitted : Order → Reading → Plan → List ℕ → Refusal → Type 0
Unadmitted o read plan text why =
    (read plan text ≡ Err why)
    ⊎ ((code : Code) × (read plan text ≡ Ok code)
    × (((p : ℕ) × (judge o plan code ≡ Some p) × (FlowNotAllowed p ≡ why))
    ⊎ ((judge o plan code ≡ None) × (1000000 < figure plan code) × (FigureTooHigh (length text) ≡ why))))

-- A text counts only for an admission.
abbrev pub TextWrong : Order → Reading → Plan → Call → Refusal → Type 0
TextWrong o read plan (post t v values) why = ⊥
TextWrong o read plan (admit slot text) why = Unadmitted o read plan text why
TextWrong o read plan (run slot v) why = ⊥
TextWrong o read plan (look clearance t v place column) why = ⊥
TextWrong o read plan (count clearance t v) why = ⊥
TextWrong o read plan (meter clearance) why = ⊥

-- Why a call is sent back: the first of its conditions that holds; or none does, and its text is wrong.
abbrev pub Reason : Order → Reading → Plan → Bench → Call → Refusal → Type 0
Reason o read plan bench call why =
    Due (grounds o plan bench call) why ⊎ (NoGround (grounds o plan bench call) × TextWrong o read plan call why)
