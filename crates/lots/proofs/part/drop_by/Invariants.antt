use Rattle.std.proofs.Common.{eqb}
use Rattle.std.proofs.lemmas.List.Filters.{FiltersInPlace}
use Rattle.inplace.specs.Held.{held}
use Rattle.lots.proofs.part.drop_by.Given as goal

-- Of the rows passed, those that are kept stand in front.
abbrev pub invariant-loop-i : goal.invariant-loop-i
invariant-loop-i g l = FiltersInPlace (λ r. eqb (g.R.Reading.reads l.condition (held r)) 0) l.initial.rows l.rows l.left l.i
