-- What is read in some small texts.
use Rattle.std.specs.Prelude.{◌≡◌, ℕ, [], ◌∷◌, ◌++◌, Ok, Err, codes}
use Rattle.rules.specs.declared.refusal.Refusal.TheVariants.{NoToken}
use Rattle.grammar.specs.declared.keywords.Keyword.TheVariants.{At, Me, Vendors}
use Rattle.grammar.specs.declared.marks.Mark.TheVariants.{OpenBracket, CloseBracket, Minus, AtSign}
use Rattle.grammar.specs.Tokens.{Token, keyword, mark, name, number, end, Found, token_at}
use Rattle.grammar.specs.TokenList.{tokens}

abbrev pub at : Token → ℕ → ℕ → Found
at t place after = record { token = t; place = place; after = after }

pub record SmallTexts : Type 0 where
  pub touching : tokens (codes "at1[me]")
      ≡ at (keyword At) 0 2 ∷ at (number (codes "1") 1) 2 3 ∷ at (mark OpenBracket) 3 4 ∷ at (keyword Me) 4 6 ∷ at (mark CloseBracket) 6 7 ∷ []
  pub apart : tokens (codes "a  b" ++ 10 ∷ codes "-@") ≡ at (name (codes "a")) 0 1 ∷ at (name (codes "b")) 3 4 ∷ at (mark Minus) 5 6 ∷ at (mark AtSign) 6 7 ∷ []
  pub stops_short : tokens (codes "a b?c") ≡ at (name (codes "a")) 0 1 ∷ at (name (codes "b")) 2 3 ∷ []
  pub empty : token_at [] 0 ≡ Ok (at end 0 0)
  pub blanks : token_at (codes "   ") 1 ≡ Ok (at end 3 3)
  pub a_zero : token_at (codes "0") 0 ≡ Ok (at (number (codes "0") 0) 0 1)
  pub two_zeros : token_at (codes "00") 0 ≡ Err (NoToken 0)
  pub zero_one : token_at (codes " 01") 0 ≡ Err (NoToken 1)
  pub largest : token_at (codes "4294967295") 0 ≡ Ok (at (number (codes "4294967295") 4294967295) 0 10)
  pub too_large : token_at (codes "4294967296") 0 ≡ Err (NoToken 0)
  pub eight_letters : token_at (codes "abcdefgh") 0 ≡ Ok (at (name (codes "abcdefgh")) 0 8)
  pub nine_letters : token_at (codes "abcdefghi") 0 ≡ Err (NoToken 0)
  pub a_keyword : token_at (codes "vendors") 0 ≡ Ok (at (keyword Vendors) 0 7)
  pub no_keyword : token_at (codes "vendorsx") 0 ≡ Ok (at (name (codes "vendorsx")) 0 8)
  pub a_tab : token_at (32 ∷ 9 ∷ codes "a") 0 ≡ Err (NoToken 1)
  pub a_capital : token_at (codes "Me") 0 ≡ Err (NoToken 0)
