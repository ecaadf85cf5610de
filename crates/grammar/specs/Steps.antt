-- The small steps of reading: the next token has to be a certain one, a name or a number.
use Rattle.std.specs.Prelude.{ℕ, Bool, not, List, Some, None, Ok, Err, Option, Result}
use Rattle.rules.specs.declared.refusal.Refusal.TheVariants.{Unexpected}
use Rattle.rules.specs.Guards.{guard, and_then}
use Rattle.grammar.specs.declared.keywords.Keyword.{Keyword}
use Rattle.grammar.specs.declared.keywords.Keyword.TheVariants.{Var, At, Set, If, Else, When, Vendors, Each, In, Add, Drop, Where, Alter, Open, Me, Min, Max}
use Rattle.grammar.specs.declared.openings.Opening.{Opening}
use Rattle.grammar.specs.declared.openings.Opening.TheVariants as opens
use Rattle.grammar.specs.Tokens.{Refusal, Token, keyword, mark, name, number, end, Found, token_at}

-- What was read, and the place where reading goes on.
pub record Part (X : Type 0) : Type 0 where
  pub value : X
  pub after : ℕ

abbrev pub part : {X : Type 0} → X → ℕ → Result (Part X) Refusal
part x after = Ok (record { value = x; after = after })

-- A name or a number, with the place of its first byte too.
pub record Seen (X : Type 0) : Type 0 where
  pub value : X
  pub place : ℕ
  pub after : ℕ

abbrev pub seen : {X : Type 0} → X → Found → Seen X
seen x f = record { value = x; place = f.place; after = f.after }

-- The token is not one that the grammar has here.
abbrev pub unexpected : {X : Type 0} → Found → Result X Refusal
unexpected f = Err (Unexpected f.place)

-- The next token, which has to pass.
abbrev pub expect : List ℕ → (Token → Bool) → ℕ → Result Found Refusal
expect text asked place = and_then (token_at text place) (λ f. guard (not (asked f.token)) (Unexpected f.place) (Ok f))

-- A name's letters.
abbrev pub name_in : Found → Token → Result (Seen (List ℕ)) Refusal
name_in f (keyword k) = unexpected f
name_in f (mark m) = unexpected f
name_in f (name ls) = Ok (seen ls f)
name_in f (number ds v) = unexpected f
name_in f end = unexpected f

abbrev pub a_name : List ℕ → ℕ → Result (Seen (List ℕ)) Refusal
a_name text place = and_then (token_at text place) (λ f. name_in f f.token)

-- A number's value.
abbrev pub number_in : Found → Token → Result (Seen ℕ) Refusal
number_in f (keyword k) = unexpected f
number_in f (mark m) = unexpected f
number_in f (name ls) = unexpected f
number_in f (number ds v) = Ok (seen v f)
number_in f end = unexpected f

abbrev pub a_number : List ℕ → ℕ → Result (Seen ℕ) Refusal
a_number text place = and_then (token_at text place) (λ f. number_in f f.token)

-- The statement that a keyword begins, if it begins one.
abbrev pub opening_word : Keyword → Option Opening
opening_word Var = Some opens.Var
opening_word At = None
opening_word Set = Some opens.Set
opening_word If = Some opens.If
opening_word Else = None
opening_word When = Some opens.When
opening_word Vendors = Some opens.Vendors
opening_word Each = Some opens.Each
opening_word In = None
opening_word Add = Some opens.Add
opening_word Drop = Some opens.Drop
opening_word Where = None
opening_word Alter = Some opens.Alter
opening_word Open = None
opening_word Me = None
opening_word Min = None
opening_word Max = None

abbrev pub opening : Token → Option Opening
opening (keyword k) = opening_word k
opening (mark m) = None
opening (name ls) = None
opening (number ds v) = None
opening end = None
