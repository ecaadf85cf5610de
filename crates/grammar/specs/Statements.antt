-- The nine statements, each read but for its blocks, whose reader is handed to it.
use Rattle.std.specs.Prelude.{ℕ, zero, suc, ◌-◌, Bool, true, false, List, [], ◌∷◌, ◌++◌, Ok, Err, Result, ◌==◌}
use Rattle.rules.specs.declared.refusal.Refusal.TheVariants.{ExpressionCount, LimitPassed}
use Rattle.rules.specs.Guards.{guard, and_then}
use Rattle.rules.specs.Plans.{Plan}
use Rattle.rules.specs.Lots.{width}
use Rattle.rules.specs.Scripts as rules
use Rattle.rules.specs.Scripts.{Expr, Code}
use Rattle.grammar.specs.declared.keywords.Keyword.TheVariants.{At, Else, In, Where}
use Rattle.grammar.specs.declared.marks.Mark.TheVariants.{OpenBrace, OpenParen, CloseParen, Semicolon, Comma, Dot, Equals}
use Rattle.grammar.specs.declared.scopes.NameKind.TheVariants.{Variable, Index, Cursor}
use Rattle.grammar.specs.declared.openings.Opening.{Opening}
use Rattle.grammar.specs.declared.openings.Opening.TheVariants as opens
pub use Rattle.grammar.specs.declared.counts.Counts.{Counts}
use Rattle.grammar.specs.Tokens.{Refusal, Token, Found, token_at, is_mark, is_keyword, next_is}
use Rattle.grammar.specs.Scopes as scopes
use Rattle.grammar.specs.Scopes.{Scope, may_make, use_name, is_variable}
use Rattle.grammar.specs.Steps.{Seen, unexpected, expect, a_name}
use Rattle.grammar.specs.Clauses.{read_index, Lot, read_lot, read_label}
use Rattle.grammar.specs.Expressions.{Term, most_parens, read_column, read_expr}

-- What a statement is read in: the plan, the names in scope, and how many blocks and how many `vendors` may still nest.
pub record Env : Type 0 where
  pub plan : Plan
  pub scope : Scope
  pub blocks : ℕ
  pub turns : ℕ

abbrev pub with_atoms : Counts → ℕ → Counts
with_atoms counts atoms = record { begun = counts.begun; atoms = atoms }

-- With these names in scope.
abbrev pub naming : Env → Scope → Env
naming env scope = record { plan = env.plan; scope = scope; blocks = env.blocks; turns = env.turns }

-- A block, or what is left of one.
pub record Block : Type 0 where
  pub code : Code
  pub after : ℕ
  pub counts : Counts

-- A statement: what it makes of the rest of its block, and the names in scope there.
pub record Statement : Type 0 where
  pub before : Code → Code
  pub scope : Scope
  pub after : ℕ
  pub counts : Counts

-- How the statements of a block are read, up to its closing brace.
abbrev pub Blocks : Type 0
Blocks = Env → ℕ → Counts → Result Block Refusal

-- One block deeper.
abbrev pub deeper : Env → Env
deeper env = record { plan = env.plan; scope = env.scope; blocks = env.blocks - 1; turns = env.turns }

abbrev pub read_block : Blocks → List ℕ → Env → ℕ → Counts → Result Block Refusal
read_block inner text env place counts =
    and_then (expect text (is_mark OpenBrace) place) (λ f.
    guard (env.blocks == 0) (LimitPassed f.place)
    (inner (deeper env) f.after counts))

-- The block behind `else`, or the empty one where there is no `else`.
abbrev pub else_if : Blocks → List ℕ → Env → ℕ → Counts → Bool → Result Block Refusal
else_if inner text env place counts true =
    and_then (expect text (is_keyword Else) place) (λ f. read_block inner text env f.after counts)
else_if inner text env place counts false = Ok (record { code = rules.Code.stop; after = place; counts = counts })

abbrev pub read_else : Blocks → List ℕ → Env → ℕ → Counts → Result Block Refusal
read_else inner text env place counts = else_if inner text env place counts (next_is text place (is_keyword Else))

-- A new name, which may be made.
abbrev pub new_name : List ℕ → Env → ℕ → Result (Seen (List ℕ)) Refusal
new_name text env place =
    and_then (a_name text place) (λ n. and_then (may_make n.place n.value env.scope) (λ _. Ok n))

-- An expression of a statement.
abbrev pub read_value : List ℕ → Env → ℕ → Counts → Result Term Refusal
read_value text env place counts = read_expr text env.plan env.scope most_parens place counts.atoms

-- A flat statement ends with a semicolon.
abbrev pub ending : List ℕ → (Code → Code) → Scope → ℕ → Counts → Result Statement Refusal
ending text before scope place counts =
    and_then (expect text (is_mark Semicolon) place) (λ s. Ok (record { before = before; scope = scope; after = s.after; counts = counts }))

-- The variable is in scope from the semicolon on.
abbrev pub read_var : List ℕ → Env → ℕ → ℕ → Counts → Result Statement Refusal
read_var text env place after counts =
    and_then (new_name text env after) (λ n.
    and_then (expect text (is_keyword At) n.after) (λ a.
    and_then (read_label text env.plan env.scope a.after) (λ l.
    ending text (rules.Code.var l.value) (scopes.make n.value Variable env.scope) l.after counts)))

abbrev pub read_set : List ℕ → Env → ℕ → ℕ → Counts → Result Statement Refusal
read_set text env place after counts =
    and_then (a_name text after) (λ n.
    and_then (use_name n.place is_variable n.value env.scope) (λ b.
    and_then (expect text (is_mark Equals) n.after) (λ q.
    and_then (read_value text env q.after counts) (λ e.
    ending text (rules.Code.set place b.level e.value) env.scope e.after (with_atoms counts e.atoms)))))

-- Two blocks, of which the second may be left out.
abbrev pub two_blocks : Blocks → List ℕ → Env → (Code → Code → Code → Code) → ℕ → Counts → Result Statement Refusal
two_blocks inner text env before place counts =
    and_then (read_block inner text env place counts) (λ first.
    and_then (read_else inner text env first.after first.counts) (λ second.
    Ok (record { before = before first.code second.code; scope = env.scope; after = second.after; counts = second.counts })))

abbrev pub read_if : Blocks → List ℕ → Env → ℕ → ℕ → Counts → Result Statement Refusal
read_if inner text env place after counts =
    and_then (read_value text env after counts) (λ e.
    two_blocks inner text env (rules.Code.if e.value) e.after (with_atoms counts e.atoms))

abbrev pub read_when : Blocks → List ℕ → Env → ℕ → ℕ → Counts → Result Statement Refusal
read_when inner text env place after counts =
    and_then (read_index text env.plan env.scope after) (λ i.
    and_then (expect text (is_mark Equals) i.after) (λ q.
    and_then (read_index text env.plan env.scope q.after) (λ j.
    two_blocks inner text env (rules.Code.when i.value j.value) j.after counts)))

-- The environment inside a `vendors`.
abbrev pub turning : Env → List ℕ → Env
turning env word =
    record { plan = env.plan; scope = scopes.make word Index env.scope; blocks = env.blocks; turns = env.turns - 1 }

abbrev pub read_vendors : Blocks → List ℕ → Env → ℕ → ℕ → Counts → Result Statement Refusal
read_vendors inner text env place after counts =
    guard (env.turns == 0) (LimitPassed place)
    (and_then (new_name text env after) (λ n.
    and_then (read_block inner text (turning env n.value) n.after counts) (λ body.
    Ok (record { before = rules.Code.vendors body.code; scope = env.scope; after = body.after; counts = body.counts }))))

-- The environment inside an `each`.
abbrev pub visiting : Env → List ℕ → ℕ → Env
visiting env word t =
    record { plan = env.plan; scope = scopes.make word (Cursor t) env.scope; blocks = env.blocks; turns = env.turns }

-- A new name and a lot, with `in` between them.
pub record Over : Type 0 where
  pub word : List ℕ
  pub lot : Lot
  pub after : ℕ

abbrev pub read_over : List ℕ → Env → Bool → ℕ → Result Over Refusal
read_over text env written place =
    and_then (new_name text env place) (λ n.
    and_then (expect text (is_keyword In) n.after) (λ i.
    and_then (read_lot text env.plan env.scope written i.after) (λ l.
    Ok (record { word = n.value; lot = l.value; after = l.after }))))

abbrev pub read_each : Blocks → List ℕ → Env → ℕ → ℕ → Counts → Result Statement Refusal
read_each inner text env place after counts =
    and_then (read_over text env false after) (λ o.
    and_then (read_block inner text (visiting env o.word o.lot.table) o.after counts) (λ body.
    Ok (record { before = rules.Code.each o.lot.table o.lot.owner body.code; scope = env.scope; after = body.after; counts = body.counts })))

-- The expressions of an `add`.
pub record Values : Type 0 where
  pub values : List Expr
  pub after : ℕ
  pub atoms : ℕ

-- Behind an expression with so many still due stands a comma or the closing parenthesis: which, if either.
pub data Behind : Type 0 where
  comma close other : Behind

abbrev pub behind_if : Bool → Bool → Behind
behind_if true c = comma
behind_if false true = close
behind_if false false = other

abbrev pub behind : Token → Behind
behind t = behind_if (is_mark Comma t) (is_mark CloseParen t)

-- The last expression that a table has a column for, behind those read before.
abbrev pub last_value : List Expr → Term → Found → Behind → Result Values Refusal
last_value es e f comma = Err (ExpressionCount f.place)
last_value es e f close = Ok (record { values = es ++ e.value ∷ []; after = f.after; atoms = e.atoms })
last_value es e f other = unexpected f

-- An expression with more to come.
abbrev pub more_values : List Expr → Term → Found → (List Expr → ℕ → ℕ → Result Values Refusal) → Behind → Result Values Refusal
more_values es e f next comma = next (es ++ e.value ∷ []) f.after e.atoms
more_values es e f next close = Err (ExpressionCount f.place)
more_values es e f next other = unexpected f

-- One expression and so many more, up to the closing parenthesis, behind those read before.
unfoldable pub read_values : List ℕ → Plan → Scope → ℕ → List Expr → ℕ → ℕ → Result Values Refusal
read_values text plan scope zero es place atoms =
    and_then (read_expr text plan scope most_parens place atoms) (λ e.
    and_then (token_at text e.after) (λ f. last_value es e f (behind f.token)))
read_values text plan scope (suc more) es place atoms =
    and_then (read_expr text plan scope most_parens place atoms) (λ e.
    and_then (token_at text e.after) (λ f. more_values es e f (read_values text plan scope more) (behind f.token)))

abbrev pub read_add : List ℕ → Env → ℕ → ℕ → Counts → Result Statement Refusal
read_add text env place after counts =
    and_then (read_lot text env.plan env.scope true after) (λ l.
    and_then (expect text (is_mark OpenParen) l.after) (λ p.
    and_then (read_values text env.plan env.scope (width env.plan l.value.table - 1) [] p.after counts.atoms) (λ vs.
    ending text (rules.Code.add place l.value.table l.value.owner vs.values) env.scope vs.after (with_atoms counts vs.atoms))))

-- With the cursor of a `drop` or an `alter` in scope.
abbrev pub visited : Env → List ℕ → ℕ → Env
visited env word t = naming env (scopes.make word (Cursor t) env.scope)

-- A condition behind `where`.
abbrev pub read_where : List ℕ → Env → ℕ → Counts → Result Term Refusal
read_where text env place counts =
    and_then (expect text (is_keyword Where) place) (λ w. read_value text env w.after counts)

abbrev pub read_drop : List ℕ → Env → ℕ → ℕ → Counts → Result Statement Refusal
read_drop text env place after counts =
    and_then (read_over text env true after) (λ o.
    and_then (read_where text (visited env o.word o.lot.table) o.after counts) (λ e.
    ending text (rules.Code.drop place o.lot.table o.lot.owner e.value) env.scope e.after (with_atoms counts e.atoms)))

-- What an `alter` changes: the rows of a lot, under a name, and their column.
pub record Target : Type 0 where
  pub word : List ℕ
  pub lot : Lot
  pub column : ℕ
  pub after : ℕ

abbrev pub read_target : List ℕ → Env → ℕ → Result Target Refusal
read_target text env place =
    and_then (read_over text env true place) (λ o.
    and_then (expect text (is_mark Dot) o.after) (λ d.
    and_then (read_column text env.plan o.lot.table d.after) (λ c.
    and_then (expect text (is_mark Equals) c.after) (λ q.
    Ok (record { word = o.word; lot = o.lot; column = c.value; after = q.after })))))

-- Its value and its condition.
pub record Change : Type 0 where
  pub value : Expr
  pub condition : Expr
  pub after : ℕ
  pub atoms : ℕ

abbrev pub read_change : List ℕ → Env → ℕ → Counts → Result Change Refusal
read_change text env place counts =
    and_then (read_value text env place counts) (λ v.
    and_then (read_where text env v.after (with_atoms counts v.atoms)) (λ e.
    Ok (record { value = v.value; condition = e.value; after = e.after; atoms = e.atoms })))

abbrev pub read_alter : List ℕ → Env → ℕ → ℕ → Counts → Result Statement Refusal
read_alter text env place after counts =
    and_then (read_target text env after) (λ g.
    and_then (read_change text (visited env g.word g.lot.table) g.after counts) (λ e.
    ending text (rules.Code.alter place g.lot.table g.lot.owner g.column e.value e.condition) env.scope e.after (with_atoms counts e.atoms)))

-- The statement that its keyword begins, which stands at a place, with reading to go on behind it.
abbrev pub read_statement : Blocks → List ℕ → Env → ℕ → ℕ → Counts → Opening → Result Statement Refusal
read_statement inner text env place after counts opens.Var = read_var text env place after counts
read_statement inner text env place after counts opens.Set = read_set text env place after counts
read_statement inner text env place after counts opens.If = read_if inner text env place after counts
read_statement inner text env place after counts opens.When = read_when inner text env place after counts
read_statement inner text env place after counts opens.Vendors = read_vendors inner text env place after counts
read_statement inner text env place after counts opens.Each = read_each inner text env place after counts
read_statement inner text env place after counts opens.Add = read_add text env place after counts
read_statement inner text env place after counts opens.Drop = read_drop text env place after counts
read_statement inner text env place after counts opens.Alter = read_alter text env place after counts
