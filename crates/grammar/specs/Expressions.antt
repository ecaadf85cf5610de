-- Expressions, by recursion over the parentheses that may still nest.
use Rattle.std.specs.Prelude.{ℕ, zero, suc, ◌+◌, Bool, true, false, not, List, Some, None, Ok, Err, Option, Result, nat_le}
use Rattle.rules.specs.declared.refusal.Refusal.TheVariants.{Unexpected, OutsidePlan, LimitPassed}
use Rattle.rules.specs.Guards.{guard, and_then}
use Rattle.rules.specs.Plans.{Plan}
use Rattle.rules.specs.Lots.{width}
use Rattle.rules.specs.Scripts as rules
use Rattle.rules.specs.Scripts.{Op, Expr}
use Rattle.grammar.specs.declared.keywords.Keyword.{Keyword}
use Rattle.grammar.specs.declared.keywords.Keyword.TheVariants.{Var, At, Set, If, Else, When, Vendors, Each, In, Add, Drop, Where, Alter, Open, Me, Min, Max}
use Rattle.grammar.specs.declared.marks.Mark.{Mark}
use Rattle.grammar.specs.declared.marks.Mark.TheVariants.{OpenBrace, CloseBrace, OpenBracket, CloseBracket, OpenParen, CloseParen, Semicolon, Comma, Dot, Equals, LessThan, Plus, Minus, AtSign}
use Rattle.grammar.specs.declared.scopes.NameKind.{NameKind}
use Rattle.grammar.specs.declared.scopes.NameKind.TheVariants.{Variable, Index, Cursor}
use Rattle.grammar.specs.Tokens.{Refusal, Token, keyword, mark, name, number, end, Found, token_at, is_mark, is_keyword, next_is}
use Rattle.grammar.specs.Scopes.{Bound, Scope, use_name, is_cursor, has_value}
use Rattle.grammar.specs.Steps.{Part, part, unexpected, expect, a_number}

-- An expression, the place where reading goes on, and the atoms read so far.
pub record Term : Type 0 where
  pub value : Expr
  pub after : ℕ
  pub atoms : ℕ

-- At most so many atoms, and so many parentheses one in the other.
abbrev pub most_atoms : ℕ
most_atoms = 128

abbrev pub most_parens : ℕ
most_parens = 8

-- One atom more, that begins at a place.
abbrev pub count_atom : ℕ → ℕ → Result ℕ Refusal
count_atom place atoms = guard (nat_le most_atoms atoms) (LimitPassed place) (Ok (atoms + 1))

-- An atom that begins at a place, with reading to go on behind it.
abbrev pub atom : Expr → ℕ → ℕ → ℕ → Result Term Refusal
atom e place after atoms = and_then (count_atom place atoms) (λ n. Ok (record { value = e; after = after; atoms = n }))

-- A name with a value of its own, by its level. A cursor has none.
abbrev pub value_of : NameKind → ℕ → Expr
value_of Variable level = rules.Expr.variable level
value_of Index level = rules.Expr.of_index level
value_of (Cursor t) level = rules.Expr.literal 0

abbrev pub valued : Bound → Expr
valued b = value_of b.kind b.level

-- The table whose rows a cursor goes through.
abbrev pub cursor_table : NameKind → ℕ
cursor_table Variable = 0
cursor_table Index = 0
cursor_table (Cursor t) = t

-- A column's number, in a table of the plan.
abbrev pub read_column : List ℕ → Plan → ℕ → ℕ → Result (Part ℕ) Refusal
read_column text plan table place =
    and_then (a_number text place) (λ n. guard (nat_le (width plan table) n.value) (OutsidePlan n.place) (part n.value n.after))

-- A cursor's column, behind the cursor's name.
abbrev pub cell_atom : List ℕ → Plan → Scope → ℕ → List ℕ → ℕ → ℕ → Result Term Refusal
cell_atom text plan scope place ls after atoms =
    and_then (use_name place is_cursor ls scope) (λ b.
    and_then (count_atom place atoms) (λ n.
    and_then (expect text (is_mark Dot) after) (λ d.
    and_then (read_column text plan (cursor_table b.kind) d.after) (λ c.
    Ok (record { value = rules.Expr.cell b.level c.value; after = c.after; atoms = n })))))

-- A variable or an index.
abbrev pub plain_atom : Scope → ℕ → List ℕ → ℕ → ℕ → Result Term Refusal
plain_atom scope place ls after atoms = and_then (use_name place has_value ls scope) (λ b. atom (valued b) place after atoms)

-- A name at a place, with reading to go on behind it: the first where a dot follows, else the second.
abbrev pub name_atom : List ℕ → Plan → Scope → ℕ → List ℕ → ℕ → ℕ → Bool → Result Term Refusal
name_atom text plan scope place ls after atoms true = cell_atom text plan scope place ls after atoms
name_atom text plan scope place ls after atoms false = plain_atom scope place ls after atoms

-- The operator that a token is, if it is one.
abbrev pub op_word : Keyword → Option Op
op_word Var = None
op_word At = None
op_word Set = None
op_word If = None
op_word Else = None
op_word When = None
op_word Vendors = None
op_word Each = None
op_word In = None
op_word Add = None
op_word Drop = None
op_word Where = None
op_word Alter = None
op_word Open = None
op_word Me = None
op_word Min = Some rules.Op.least
op_word Max = Some rules.Op.largest

abbrev pub op_mark : Mark → Option Op
op_mark OpenBrace = None
op_mark CloseBrace = None
op_mark OpenBracket = None
op_mark CloseBracket = None
op_mark OpenParen = None
op_mark CloseParen = None
op_mark Semicolon = None
op_mark Comma = None
op_mark Dot = None
op_mark Equals = Some rules.Op.equal
op_mark LessThan = Some rules.Op.less
op_mark Plus = Some rules.Op.plus
op_mark Minus = Some rules.Op.minus
op_mark AtSign = None

abbrev pub op_in : Token → Option Op
op_in (keyword k) = op_word k
op_in (mark m) = op_mark m
op_in (name ls) = None
op_in (number ds v) = None
op_in end = None

abbrev pub op_found : Found → Option Op → Result (Part Op) Refusal
op_found f None = unexpected f
op_found f (Some op) = part op f.after

abbrev pub read_op : List ℕ → ℕ → Result (Part Op) Refusal
read_op text place = and_then (token_at text place) (λ f. op_found f (op_in f.token))

-- How an expression is read from a place on, with so many atoms before it.
abbrev pub Terms : Type 0
Terms = ℕ → ℕ → Result Term Refusal

-- What follows an opening parenthesis: two expressions with an operator between them, and the closing one.
abbrev pub pair_with : List ℕ → Terms → Terms
pair_with text inner place atoms =
    and_then (inner place atoms) (λ l.
    and_then (read_op text l.after) (λ op.
    and_then (inner op.after l.atoms) (λ r.
    and_then (expect text (is_mark CloseParen) r.after) (λ c.
    Ok (record { value = rules.Expr.apply op.value l.value r.value; after = c.after; atoms = r.atoms })))))

-- An expression by its first token, given what follows an opening parenthesis.
abbrev pub term_in : List ℕ → Plan → Scope → (Found → ℕ → Result Term Refusal) → ℕ → Found → Token → Result Term Refusal
term_in text plan scope pair atoms f (keyword k) = guard (not (is_keyword Me (keyword k))) (Unexpected f.place) (atom rules.Expr.mine f.place f.after atoms)
term_in text plan scope pair atoms f (mark m) = guard (not (is_mark OpenParen (mark m))) (Unexpected f.place) (pair f atoms)
term_in text plan scope pair atoms f (name ls) = name_atom text plan scope f.place ls f.after atoms (next_is text f.after (is_mark Dot))
term_in text plan scope pair atoms f (number ds v) = atom (rules.Expr.literal v) f.place f.after atoms
term_in text plan scope pair atoms f end = unexpected f

abbrev pub term_with : List ℕ → Plan → Scope → (Found → ℕ → Result Term Refusal) → Terms
term_with text plan scope pair place atoms = and_then (token_at text place) (λ f. term_in text plan scope pair atoms f f.token)

-- What follows an opening parenthesis, where one may stand, and where none may.
abbrev pub one_deeper : List ℕ → Terms → Found → ℕ → Result Term Refusal
one_deeper text inner f atoms = pair_with text inner f.after atoms

abbrev pub too_deep : Found → ℕ → Result Term Refusal
too_deep f atoms = Err (LimitPassed f.place)

-- An expression with at most so many parentheses one in the other.
unfoldable pub read_expr : List ℕ → Plan → Scope → ℕ → Terms
read_expr text plan scope zero = term_with text plan scope too_deep
read_expr text plan scope (suc depth) = term_with text plan scope (one_deeper text (read_expr text plan scope depth))
