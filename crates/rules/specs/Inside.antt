-- Scripts that name no table and no vendor outside the plan, as those that are read.
use Rattle.std.specs.Prelude.{ℕ, Bool, true, ◌&&◌, length, nat_lt}
use Rattle.rules.specs.Plans.{Plan}
use Rattle.rules.specs.Scripts.{Index, Code}
use Rattle.rules.specs.Scripts.Index.{number, me, index}
use Rattle.rules.specs.Scripts.Code.{stop, var, set, if, when, vendors, each, add, drop, alter}

abbrev pub index_inside : Plan → Index → Bool
index_inside plan (number n) = nat_lt n plan.vendors
index_inside plan me = true
index_inside plan (index level) = true

-- A lot of the plan.
abbrev pub lot_inside : Plan → ℕ → Index → Bool
lot_inside plan t i = nat_lt t (length plan.tables) && index_inside plan i

unfoldable pub inside : Plan → Code → Bool
inside plan stop = true
inside plan (var mark rest) = inside plan rest
inside plan (set place level e rest) = inside plan rest
inside plan (if e first second rest) = inside plan first && (inside plan second && inside plan rest)
inside plan (when i j first second rest) = inside plan first && (inside plan second && inside plan rest)
inside plan (vendors body rest) = inside plan body && inside plan rest
inside plan (each t i body rest) = lot_inside plan t i && (inside plan body && inside plan rest)
inside plan (add place t i es rest) = lot_inside plan t i && inside plan rest
inside plan (drop place t i condition rest) = lot_inside plan t i && inside plan rest
inside plan (alter place t i column value condition rest) = lot_inside plan t i && inside plan rest
