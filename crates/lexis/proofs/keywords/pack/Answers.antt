use Rattle.std.proofs.Common.{arith}
use Rattle.lexis.proofs.Packing.{shift_fits}
use Rattle.lexis.proofs.keywords.pack.Goals as goal

pub overflow_mul-code : goal.overflow_mul-code
overflow_mul-code c = omega (arith, shift_fits c.loop-letter.code c.loop-letter.letter-index c.loop-letter.invariant.0 (omega arith))
