-- What every script that is read has.
use Rattle.std.specs.Prelude.{◌≡◌, ℕ, true, List, Ok}
use Rattle.rules.specs.Plans.{Plan, sound}
use Rattle.rules.specs.Scripts.{Code}
use Rattle.rules.specs.Scoping.{scoped}
use Rattle.rules.specs.Inside.{inside}
use Rattle.rules.specs.Writes.{steady}
use Rattle.rules.specs.Keeping.{code_fits}
use Rattle.rules.specs.Judging.{places, Rising}
use Rattle.grammar.specs.Reading.{reading}

pub record WellMade (plan : Plan) (code : Code) : Type 0 where
  -- no name is used where it is not in scope, and at most 16 are in scope at a time
  pub names : scoped 0 code ≡ true
  -- no table and no vendor outside the plan
  pub within : inside plan code ≡ true
  -- numbers fit 32 bits, and each `add` has one expression for each column
  pub fits : code_fits plan code ≡ true
  -- no table is written inside an `each` over it
  pub still : steady code ≡ true
  -- the places of the statements rise
  pub rising : Rising (places code)

abbrev pub ReadScriptsAreWellMade : Type 0
ReadScriptsAreWellMade = (plan : Plan) → sound plan ≡ true → (text : List ℕ) (code : Code) → reading plan text ≡ Ok code → WellMade plan code
