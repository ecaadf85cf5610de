-- The parts of a statement that have no parts of their own kind: an index, a lot, a variable's label.
use Rattle.std.specs.Prelude.{ℕ, Bool, false, not, ◌&&◌, ◌||◌, List, [], ◌∷◌, length, Result, ◌==◌, nat_le, nat_lt}
use Rattle.rules.specs.declared.refusal.Refusal.TheVariants.{Unexpected, OutsidePlan, WrittenInEach}
use Rattle.rules.specs.Guards.{guard, and_then}
use Rattle.rules.specs.Plans.{Plan}
use Rattle.rules.specs.Scripts as rules
use Rattle.grammar.specs.declared.keywords.Keyword.TheVariants.{Open, Me}
use Rattle.grammar.specs.declared.marks.Mark.TheVariants.{OpenBracket, CloseBracket, AtSign}
use Rattle.grammar.specs.declared.scopes.NameKind.{NameKind}
use Rattle.grammar.specs.declared.scopes.NameKind.TheVariants.{Variable, Index, Cursor}
use Rattle.grammar.specs.Tokens.{Refusal, Token, keyword, mark, name, number, end, Found, token_at, is_mark, is_keyword}
use Rattle.grammar.specs.Scopes.{Scope, use_name, is_index}
use Rattle.grammar.specs.Steps.{Part, part, unexpected, expect, a_number}

-- An index: a vendor's number below the vendor count, `me`, or a name that stands for a vendor.
abbrev pub index_in : Plan → Scope → Found → Token → Result (Part rules.Index) Refusal
index_in plan scope f (keyword k) = guard (not (is_keyword Me (keyword k))) (Unexpected f.place) (part rules.Index.me f.after)
index_in plan scope f (mark m) = unexpected f
index_in plan scope f (name ls) = and_then (use_name f.place is_index ls scope) (λ b. part (rules.Index.index b.level) f.after)
index_in plan scope f (number ds v) = guard (nat_le plan.vendors v) (OutsidePlan f.place) (part (rules.Index.number v) f.after)
index_in plan scope f end = unexpected f

abbrev pub read_index : List ℕ → Plan → Scope → ℕ → Result (Part rules.Index) Refusal
read_index text plan scope place = and_then (token_at text place) (λ f. index_in plan scope f f.token)

-- An index in brackets.
abbrev pub read_owner : List ℕ → Plan → Scope → ℕ → Result (Part rules.Index) Refusal
read_owner text plan scope place =
    and_then (expect text (is_mark OpenBracket) place) (λ b.
    and_then (read_index text plan scope b.after) (λ i.
    and_then (expect text (is_mark CloseBracket) i.after) (λ c.
    part i.value c.after)))

-- A lot: its table, and whose it is.
pub record Lot : Type 0 where
  pub table : ℕ
  pub owner : rules.Index

abbrev pub walks : ℕ → NameKind → Bool
walks t Variable = false
walks t Index = false
walks t (Cursor u) = t == u

-- A cursor over this table is in scope. Where a lot is read those of `drop` and `alter` are not, so this says that an `each`
-- over the table is around.
abbrev pub walked : ℕ → Scope → Bool
walked t [] = false
walked t (n ∷ scope) = walks t n.kind || walked t scope

-- A table's number. The plan has the table; and where it is to be written, no `each` over it is around.
abbrev pub read_table : List ℕ → Plan → Scope → Bool → ℕ → Result (Part ℕ) Refusal
read_table text plan scope written place =
    and_then (a_number text place) (λ n.
    guard (nat_le (length plan.tables) n.value) (OutsidePlan n.place)
    (guard (written && walked n.value scope) (WrittenInEach n.place)
    (part n.value n.after)))

-- A lot, which may be there to be written.
abbrev pub read_lot : List ℕ → Plan → Scope → Bool → ℕ → Result (Part Lot) Refusal
read_lot text plan scope written place =
    and_then (expect text (is_mark AtSign) place) (λ a.
    and_then (read_table text plan scope written a.after) (λ t.
    and_then (read_owner text plan scope t.after) (λ i.
    part (record { table = t.value; owner = i.value }) i.after)))

-- A variable's label: `open`, or a family up to 3 with an index.
abbrev pub label_in : List ℕ → Plan → Scope → Found → Token → Result (Part (rules.Mark rules.Index)) Refusal
label_in text plan scope f (keyword k) = guard (not (is_keyword Open (keyword k))) (Unexpected f.place) (part rules.Mark.opened f.after)
label_in text plan scope f (mark m) = unexpected f
label_in text plan scope f (name ls) = unexpected f
label_in text plan scope f (number ds v) =
    guard (nat_lt 3 v) (OutsidePlan f.place)
    (and_then (read_owner text plan scope f.after) (λ i.
    part (rules.Mark.tag_of v i.value) i.after))
label_in text plan scope f end = unexpected f

abbrev pub read_label : List ℕ → Plan → Scope → ℕ → Result (Part (rules.Mark rules.Index)) Refusal
read_label text plan scope place = and_then (token_at text place) (λ f. label_in text plan scope f f.token)
