-- What every lot keeps, and what it asks of the scripts that are read and of the values that are posted.
use Rattle.std.specs.Prelude.{◌≡◌, ℕ, ◌≤◌, Bool, true, ◌&&◌, List, [], ◌∷◌, length, Ok, ◌==◌, nat_le}
use Rattle.std.specs.List.{AllByRecursion}
use Rattle.rules.specs.Plans.{Plan}
use Rattle.rules.specs.Scripts.{Expr, Code}
use Rattle.rules.specs.Scripts.Expr.{literal, mine, of_index, variable, cell, apply}
use Rattle.rules.specs.Scripts.Code.{stop, var, set, if, when, vendors, each, add, drop, alter}
use Rattle.rules.specs.Lots.{Lot, last_word, width, room}
use Rattle.rules.specs.Admission.{Reading}
use Rattle.rules.specs.Calls.{Call}
use Rattle.rules.specs.Calls.Call.{post, admit, run, look, count, meter}

-- A list of numbers of 32 bits.
abbrev pub Words : List ℕ → Type 0
Words xs = AllByRecursion (λ x. x ≤ last_word) xs

-- A lot has at most its length of rows, each as wide as its table; every cell and the lost count fit 32 bits.
pub record KeptLot (plan : Plan) (t v : ℕ) (lot : Lot) : Type 0 where
  pub count : length lot.rows ≤ room plan t v
  pub wide : AllByRecursion (λ row. length row ≡ width plan t) lot.rows
  pub words : AllByRecursion Words lot.rows
  pub lost : lot.lost ≤ last_word

-- The numbers in an expression fit 32 bits.
abbrev pub expr_fits : Expr → Bool
expr_fits (literal n) = nat_le n last_word
expr_fits mine = true
expr_fits (of_index level) = true
expr_fits (variable level) = true
expr_fits (cell level column) = true
expr_fits (apply op a b) = expr_fits a && expr_fits b

abbrev pub exprs_fit : List Expr → Bool
exprs_fit [] = true
exprs_fit (e ∷ es) = expr_fits e && exprs_fit es

-- A block as the grammar has it: its numbers fit 32 bits, and each `add` has one expression for each column.
unfoldable pub code_fits : Plan → Code → Bool
code_fits plan stop = true
code_fits plan (var mark rest) = code_fits plan rest
code_fits plan (set place level e rest) = expr_fits e && code_fits plan rest
code_fits plan (if e first second rest) = code_fits plan first && (code_fits plan second && code_fits plan rest)
code_fits plan (when i j first second rest) = code_fits plan first && (code_fits plan second && code_fits plan rest)
code_fits plan (vendors body rest) = code_fits plan body && code_fits plan rest
code_fits plan (each t i body rest) = code_fits plan body && code_fits plan rest
code_fits plan (add place t i es rest) = (length es == width plan t && exprs_fit es) && code_fits plan rest
code_fits plan (drop place t i condition rest) = code_fits plan rest
code_fits plan (alter place t i column value condition rest) = expr_fits value && code_fits plan rest

-- A reading that gives such scripts only.
abbrev pub Fitting : Plan → Reading → Type 0
Fitting plan read = (text : List ℕ) (code : Code) → read plan text ≡ Ok code → code_fits plan code ≡ true

-- The values of a post are numbers of 32 bits.
abbrev pub CallWords : Call → Type 0
CallWords (post t v values) = Words values
CallWords (admit slot text) = Unit {0}
CallWords (run slot v) = Unit {0}
CallWords (look clearance t v place column) = Unit {0}
CallWords (count clearance t v) = Unit {0}
CallWords (meter clearance) = Unit {0}
