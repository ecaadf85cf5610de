use Rattle.std.proofs.Common.{◌≡◌, drop}
use Rattle.words.specs.Numbers.{digits}
use Rattle.words.proofs.numbers.number.Given as goal

-- What is left of the word, read behind the value so far, is the word.
abbrev pub invariant-loop-byte : goal.invariant-loop-byte
invariant-loop-byte l = digits l.value (drop l.byte-index l.word) ≡ digits 0 l.word
