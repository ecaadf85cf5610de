-- What a pair of the code stands for.
use Rattle.rules.specs.Pairs.{Pair}
use Rattle.layout.specs.declared.pair.Pair as coded

abbrev pub pair_of : coded.Pair → Pair
pair_of p = record { offset = p.offset; length = p.length }
