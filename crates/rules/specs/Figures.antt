-- The figure of a block: a number of steps that no run of it passes, from the text and the plan alone.
use Rattle.std.specs.Prelude.{ℕ, ◌+◌, ◌*◌}
use Rattle.rules.specs.Plans.{Plan}
use Rattle.rules.specs.Scripts.{Code}
use Rattle.rules.specs.Scripts.Code.{stop, var, set, if, when, vendors, each, add, drop, alter}
use Rattle.rules.specs.Lots.{longest}

unfoldable pub figure : Plan → Code → ℕ
figure plan stop = 0
figure plan (var mark rest) = 1 + figure plan rest
figure plan (set place level e rest) = 1 + figure plan rest
figure plan (if e first second rest) = 1 + (figure plan first + figure plan second) + figure plan rest
figure plan (when i j first second rest) = 1 + (figure plan first + figure plan second) + figure plan rest
figure plan (vendors body rest) = 1 + plan.vendors * (1 + figure plan body) + figure plan rest
figure plan (each t i body rest) = 1 + longest plan t * (1 + figure plan body) + figure plan rest
figure plan (add place t i es rest) = 1 + figure plan rest
figure plan (drop place t i condition rest) = 1 + longest plan t + figure plan rest
figure plan (alter place t i column value condition rest) = 1 + longest plan t + figure plan rest
