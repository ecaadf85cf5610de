-- The small texts read as they should, by computing.
use Rattle.std.proofs.Common.{refl}
use Rattle.grammar.specs.Tokens.{token_at}
use Rattle.grammar.specs.TokenCases.{SmallTexts}

pub small_texts : SmallTexts
unfolding token_at
small_texts = record {
  touching = refl;
  apart = refl;
  stops_short = refl;
  empty = refl;
  blanks = refl;
  a_zero = refl;
  two_zeros = refl;
  zero_one = refl;
  largest = refl;
  too_large = refl;
  eight_letters = refl;
  nine_letters = refl;
  a_keyword = refl;
  no_keyword = refl;
  a_tab = refl;
  a_capital = refl;
}
