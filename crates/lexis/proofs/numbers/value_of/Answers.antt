use Rattle.std.proofs.Common.{arith}
use Rattle.std.proofs.ByRecursion.{All-get_or}
use Rattle.grammar.specs.Tokens.{Digit}
use Rattle.lexis.proofs.Values.{too_large}
use Rattle.lexis.proofs.numbers.value_of.Goals as goal

pub returns-in_err-checked_mul : goal.returns-in_err-checked_mul
returns-in_err-checked_mul c =
    let here = All-get_or Digit c.args.digits.now c.loop-digit.digit-index 0 c.loop-digit-test.true c.requires in
    rw c.from_residual.ensures (too_large c.loop-digit.sum _ c.args.digits.now c.loop-digit.digit-index c.loop-digit-test.true here c.loop-digit.invariant.1 (omega (arith, c.in_err-checked_mul.ensures)))

pub returns-in_err-sum : goal.returns-in_err-sum
returns-in_err-sum c =
    let here = All-get_or Digit c.args.digits.now c.loop-digit.digit-index 0 c.loop-digit-test.true c.requires in
    rw c.from_residual-in_err-sum.ensures (too_large c.loop-digit.sum _ c.args.digits.now c.loop-digit.digit-index c.loop-digit-test.true here c.loop-digit.invariant.1 (omega (arith, c.in_err-sum.ensures, c.from.ensures, c.in_ok-checked_mul.ensures)))
