-- How keywords and marks are written.
use Rattle.std.specs.Prelude.{◌≡◌, ℕ, Bool, true, false, List, [], ◌∷◌, Some, None, codes, Option, nat_eq}
use Rattle.std.specs.Str.{bytes_eq}
use Rattle.grammar.specs.declared.keywords.Keyword.{Keyword}
use Rattle.grammar.specs.declared.keywords.Keyword.TheVariants.{Var, At, Set, If, Else, When, Vendors, Each, In, Add, Drop, Where, Alter, Open, Me, Min, Max}
use Rattle.grammar.specs.declared.marks.Mark.{Mark}
use Rattle.grammar.specs.declared.marks.Mark.TheVariants.{OpenBrace, CloseBrace, OpenBracket, CloseBracket, OpenParen, CloseParen, Semicolon, Comma, Dot, Equals, LessThan, Plus, Minus, AtSign}

-- The letters of a keyword.
abbrev pub letters : Keyword → List ℕ
letters Var = codes "var"
letters At = codes "at"
letters Set = codes "set"
letters If = codes "if"
letters Else = codes "else"
letters When = codes "when"
letters Vendors = codes "vendors"
letters Each = codes "each"
letters In = codes "in"
letters Add = codes "add"
letters Drop = codes "drop"
letters Where = codes "where"
letters Alter = codes "alter"
letters Open = codes "open"
letters Me = codes "me"
letters Min = codes "min"
letters Max = codes "max"

abbrev pub keywords : List Keyword
keywords = Var ∷ At ∷ Set ∷ If ∷ Else ∷ When ∷ Vendors ∷ Each ∷ In ∷ Add ∷ Drop ∷ Where ∷ Alter ∷ Open ∷ Me ∷ Min ∷ Max ∷ []

-- The byte of a mark.
abbrev pub byte : Mark → ℕ
byte OpenBrace = 123
byte CloseBrace = 125
byte OpenBracket = 91
byte CloseBracket = 93
byte OpenParen = 40
byte CloseParen = 41
byte Semicolon = 59
byte Comma = 44
byte Dot = 46
byte Equals = 61
byte LessThan = 60
byte Plus = 43
byte Minus = 45
byte AtSign = 64

abbrev pub marks : List Mark
marks = OpenBrace ∷ CloseBrace ∷ OpenBracket ∷ CloseBracket ∷ OpenParen ∷ CloseParen ∷ Semicolon ∷ Comma ∷ Dot ∷ Equals ∷ LessThan ∷ Plus ∷ Minus ∷ AtSign ∷ []

-- `x` where the condition holds, else what the rest gives.
abbrev pub this_or : {X : Type 0} → Bool → X → Option X → Option X
this_or true x rest = Some x
this_or false x rest = rest

-- The first of a list that passes.
abbrev pub first_that : {X : Type 0} → (X → Bool) → List X → Option X
first_that passes [] = None
first_that passes (x ∷ xs) = this_or (passes x) x (first_that passes xs)

-- The keyword that is written so, and the mark of this byte, if there is one.
unfoldable pub keyword_of : List ℕ → Option Keyword
keyword_of word = first_that (λ k. bytes_eq word (letters k)) keywords

abbrev pub mark_of : ℕ → Option Mark
mark_of b = first_that (λ m. nat_eq b (byte m)) marks

-- No two keywords are written alike, and no two marks; none is left out of the look-up.
pub record ToldApart : Type 0 where
  pub by_letters : (k : Keyword) → keyword_of (letters k) ≡ Some k
  pub by_byte : (m : Mark) → mark_of (byte m) ≡ Some m
