use Rattle.std.proofs.Common.{◌≡◌, drop}
use Rattle.script.specs.Ordered.{all_below}
use Rattle.script.proofs.build.all_are_below.Given as goal

-- What is left decides as the whole list does.
abbrev pub invariant-loop-number : goal.invariant-loop-number
invariant-loop-number l = all_below l.bound (drop l.number-index l.numbers) ≡ all_below l.bound l.numbers
