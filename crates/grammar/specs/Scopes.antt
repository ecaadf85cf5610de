-- The names in scope.
use Rattle.std.specs.Prelude.{◌≡◌, ℕ, ◌-◌, ◌<◌, Bool, true, false, not, ◌&&◌, List, [], ◌∷◌, ◌++◌, length, drop, is_some, Some, None, Ok, Err, Option, Result, ◌≢◌, nat_le, slice_index_or}
use Rattle.std.specs.Str.{bytes_eq}
use Rattle.rules.specs.declared.refusal.Refusal.{Refusal}
use Rattle.rules.specs.declared.refusal.Refusal.TheVariants.{WrongName, NameTaken, LimitPassed}
use Rattle.rules.specs.Guards.{guard}
use Rattle.grammar.specs.declared.scopes.NameKind.{NameKind}
use Rattle.grammar.specs.declared.scopes.NameKind.TheVariants.{Variable, Index, Cursor}
use Rattle.grammar.specs.Spelling.{this_or}

-- A name: its letters, and what it stands for.
pub record Named : Type 0 where
  pub letters : List ℕ
  pub kind : NameKind

-- The names in scope, the newest first.
abbrev pub Scope : Type 0
Scope = List Named

-- A name's level is the number of names that were in scope where it was made.
pub record Bound : Type 0 where
  pub kind : NameKind
  pub level : ℕ

-- What a name stands for, from the newest on.
abbrev pub look_up : List ℕ → Scope → Option Bound
look_up word [] = None
look_up word (n ∷ scope) = this_or (bytes_eq word n.letters) (record { kind = n.kind; level = length scope }) (look_up word scope)

abbrev pub in_scope : List ℕ → Scope → Bool
in_scope word scope = is_some (look_up word scope)

-- At most so many names are in scope.
abbrev pub most_names : ℕ
most_names = 16

-- Whether a name may be made, at its place in the text: it is not in scope, of whatever kind, and there is room for it.
abbrev pub may_make : ℕ → List ℕ → Scope → Result (Unit {0}) Refusal
may_make place word scope = guard (in_scope word scope) (NameTaken place) (guard (nat_le most_names (length scope)) (LimitPassed place) (Ok tt))

abbrev pub make : List ℕ → NameKind → Scope → Scope
make word kind scope = record { letters = word; kind = kind } ∷ scope

-- A use of a name asks for some kinds. A name that is unknown or of another kind is refused at its place.
abbrev pub of_kind : ℕ → (NameKind → Bool) → Option Bound → Result Bound Refusal
of_kind place asked None = Err (WrongName place)
of_kind place asked (Some b) = guard (not (asked b.kind)) (WrongName place) (Ok b)

abbrev pub use_name : ℕ → (NameKind → Bool) → List ℕ → Scope → Result Bound Refusal
use_name place asked word scope = of_kind place asked (look_up word scope)

-- What `set` asks for.
abbrev pub is_variable : NameKind → Bool
is_variable Variable = true
is_variable Index = false
is_variable (Cursor table) = false

-- What stands for a vendor.
abbrev pub is_index : NameKind → Bool
is_index Variable = false
is_index Index = true
is_index (Cursor table) = false

-- What has columns.
abbrev pub is_cursor : NameKind → Bool
is_cursor Variable = false
is_cursor Index = false
is_cursor (Cursor table) = true

-- What has a value of its own: a name without a dot in an expression.
abbrev pub has_value : NameKind → Bool
has_value Variable = true
has_value Index = true
has_value (Cursor table) = false

-- The names that were in scope when there were so many.
abbrev pub back_to : ℕ → Scope → Scope
back_to count scope = drop (length scope - count) scope

-- The name made at a level.
abbrev pub at_level : ℕ → Scope → Named → Named
at_level level scope none = slice_index_or scope (length scope - 1 - level) none

-- No two names in scope are written alike.
abbrev pub distinct : Scope → Bool
distinct [] = true
distinct (n ∷ scope) = not (in_scope n.letters scope) && distinct scope

-- What every scope keeps.
abbrev pub sound : Scope → Bool
sound scope = nat_le (length scope) most_names && distinct scope

abbrev pub NewestIsFound : Type 0
NewestIsFound = (word : List ℕ) (kind : NameKind) (scope : Scope) → look_up word (make word kind scope) ≡ Some (record { kind = kind; level = length scope })

abbrev pub OthersStay : Type 0
OthersStay = (word other : List ℕ) (kind : NameKind) (scope : Scope) → (other ≢ word) → look_up other (make word kind scope) ≡ look_up other scope

-- A name that is found is the one made at its level.
pub record There (word : List ℕ) (scope : Scope) (b : Bound) : Type 0 where
  pub inside : b.level < length scope
  pub named : (none : Named) → at_level b.level scope none ≡ record { letters = word; kind = b.kind }

abbrev pub FoundNamesAreThere : Type 0
FoundNamesAreThere = (word : List ℕ) (scope : Scope) (b : Bound) → look_up word scope ≡ Some b → There word scope b

abbrev pub FreshNamesKeepScopesSound : Type 0
FreshNamesKeepScopesSound =
    (place : ℕ) (word : List ℕ) (kind : NameKind) (scope : Scope) → sound scope ≡ true → may_make place word scope ≡ Ok tt → sound (make word kind scope) ≡ true

abbrev pub EveryNameIsFound : Type 0
EveryNameIsFound =
    (scope : Scope) → distinct scope ≡ true → (level : ℕ) → level < length scope → (none : Named)
    → look_up (at_level level scope none).letters scope ≡ Some (record { kind = (at_level level scope none).kind; level = level })

abbrev pub LeavingForgets : Type 0
LeavingForgets = (inner outer : Scope) → back_to (length outer) (inner ++ outer) ≡ outer
