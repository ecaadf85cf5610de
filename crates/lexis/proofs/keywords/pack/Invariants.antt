use Rattle.std.proofs.Common.{◌≡◌, ◌^◌, ◌<◌, drop}
use Rattle.std.specs.Int.Digits.{number_from_digits_after, number_from_digits}
use Rattle.lexis.proofs.keywords.pack.Given as goal

abbrev pub invariant-loop-letter : goal.invariant-loop-letter
invariant-loop-letter l = (l.code < 256 ^ l.letter-index) × (number_from_digits_after 256 l.code (drop l.letter-index l.word) ≡ number_from_digits 256 l.word)
