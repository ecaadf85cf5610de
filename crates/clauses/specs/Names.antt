-- What the names of the code stand for.
use Rattle.std.specs.Prelude.{ℕ, Bool, cond, List, [], ◌∷◌, length, Ok, Err, Result, nat_lt}
use Rattle.inplace.specs.Held.{held}
use Rattle.grammar.specs.Tokens.{Refusal}
use Rattle.grammar.specs.Scopes as grammar
use Rattle.grammar.specs.Scopes.{Named, Scope, most_names, make, is_variable, is_index, is_cursor, has_value}
use Rattle.grammar.specs.declared.scopes.NameKind.{NameKind}
use Rattle.clauses.specs.declared.names.Name.{Name}
use Rattle.clauses.specs.declared.names.Names as coded
use Rattle.clauses.specs.declared.names.Bound as bound
use Rattle.clauses.specs.declared.names.Asked.{Asked}
use Rattle.clauses.specs.declared.names.Asked.TheVariants.{Variable, Index, Cursor, Value}

abbrev pub named_of : Name → Named
named_of n = record { letters = n.letters.now; kind = n.kind }

-- Names in the order in which they were made, in front of older ones.
abbrev pub newest_first : List Name → Scope → Scope
newest_first [] outer = outer
newest_first (n ∷ ns) outer = newest_first ns (named_of n ∷ outer)

abbrev pub scope_of : coded.Names → Scope
scope_of names = newest_first (held names.list) []

-- One name more, where there is room for it.
abbrev pub with_name : List ℕ → NameKind → Scope → Scope
with_name word kind scope = cond (nat_lt (length scope) most_names) (make word kind scope) scope

abbrev pub bound_of : bound.Bound → grammar.Bound
bound_of b = record { kind = b.kind; level = b.level }

abbrev pub bound_result : Result bound.Bound Refusal → Result grammar.Bound Refusal
bound_result (Ok b) = Ok (bound_of b)
bound_result (Err why) = Err why

-- What each use asks for.
abbrev pub asks : Asked → NameKind → Bool
asks Variable = is_variable
asks Index = is_index
asks Cursor = is_cursor
asks Value = has_value
