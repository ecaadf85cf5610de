-- The admission of a text: it is read, judged, and its figure taken.
use Rattle.std.specs.Prelude.{ℕ, List, [], ◌∷◌, length, is_some, Some, None, Ok, Option, Result, nat_lt}
use Rattle.rules.specs.declared.refusal.Refusal.{Refusal}
use Rattle.rules.specs.declared.refusal.Refusal.TheVariants.{FlowNotAllowed, FigureTooHigh}
use Rattle.lattice.specs.Order.{Order}
use Rattle.rules.specs.Guards.{Check, sift, and_then}
use Rattle.rules.specs.Plans.{Plan}
use Rattle.rules.specs.Scripts.{Code}
use Rattle.rules.specs.Figures.{figure}
use Rattle.rules.specs.Judging.{judge}

-- A script that was admitted, with its figure.
pub record Script : Type 0 where
  pub code : Code
  pub figure : ℕ

-- How a text, a list of bytes, is read over a plan: to a script, or to a refusal from 18 to 26.
abbrev pub Reading : Type 0
Reading = Plan → List ℕ → Result Code Refusal

-- What becomes of a text on one bench.
abbrev pub Admission : Type 0
Admission = List ℕ → Result Script Refusal

abbrev pub place_of : Option ℕ → ℕ
place_of (Some place) = place
place_of None = 0

-- What is checked of a script that was read from a text of `size` bytes: its flows, then its figure.
abbrev pub script_checks : Order → Plan → ℕ → Code → List Check
script_checks o plan size code =
    record { holds = is_some (judge o plan code); why = FlowNotAllowed (place_of (judge o plan code)) }
    ∷ record { holds = nat_lt 1000000 (figure plan code); why = FigureTooHigh size } ∷ []

-- A script that was read is admitted with its figure, where these checks find nothing.
abbrev pub admit_code : Order → Plan → ℕ → Code → Result Script Refusal
admit_code o plan size code = sift (script_checks o plan size code) (Ok (record { code = code; figure = figure plan code }))

unfoldable pub admission : Order → Reading → Plan → Admission
admission o read plan text = and_then (read plan text) (admit_code o plan (length text))
