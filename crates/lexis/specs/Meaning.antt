-- What the reader and its tokens stand for.
use Rattle.std.specs.Prelude.{ℕ, List, Ok, Err, Result}
use Rattle.grammar.specs.Tokens as grammar
use Rattle.grammar.specs.Tokens.{Refusal}
use Rattle.lexis.specs.declared.reader.Reader.{Reader}
use Rattle.lexis.specs.declared.token.Found.{Found}
use Rattle.lexis.specs.declared.token.Token.{Token}
use Rattle.lexis.specs.declared.token.Token.TheVariants.{Keyword, Mark, Name, Number, End}

-- A token of the code is one of the grammar: the parts of the text that it holds are their bytes.
abbrev pub meaning : Token → grammar.Token
meaning (Keyword k) = grammar.Token.keyword k
meaning (Mark m) = grammar.Token.mark m
meaning (Name letters) = grammar.Token.name letters.now
meaning (Number digits value) = grammar.Token.number digits.now value
meaning End = grammar.Token.end

abbrev pub reading : Result Found Refusal → Result grammar.Found Refusal
reading (Ok f) = Ok (record { token = meaning f.token; place = f.place; after = f.after })
reading (Err why) = Err why

-- The text that a reader reads, and where it goes on.
abbrev pub text_of : Reader → List ℕ
text_of r = r.text.now

abbrev pub place_of : Reader → ℕ
place_of r = r.place
