use Rattle.std.proofs.Common.{◌≡◌, drop}
use Rattle.rules.specs.Plans.{families_above}
use Rattle.layout.proofs.declare.any_above.Given as goal

-- What is left decides as the whole list does.
abbrev pub invariant-loop-family : goal.invariant-loop-family
invariant-loop-family l = families_above (drop l.family-index l.families) ≡ families_above l.families
