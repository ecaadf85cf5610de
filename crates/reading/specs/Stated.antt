-- What a read statement of the code stands for, and what reading it leaves of the script's nodes.
use Rattle.std.specs.Prelude.{◌≡◌, ℕ, ◌<◌, true, List, length, Ok, Err, Result}
use Rattle.rules.specs.Scripts as rules
use Rattle.grammar.specs.Tokens.{Refusal}
use Rattle.grammar.specs.Scopes.{Scope}
use Rattle.grammar.specs.Statements as grammar
use Rattle.grammar.specs.declared.counts.Counts.{Counts}
use Rattle.layout.specs.Plans.{plan_of}
use Rattle.lexis.specs.Meaning.{place_of}
use Rattle.script.specs.declared.node.Stmt.{Stmt}
use Rattle.script.specs.Nodes.{expr_at, stmt_of}
use Rattle.script.specs.Ordered.{names_below}
use Rattle.script.specs.Meaning.{exprs_of, codes_of}
use Rattle.reading.specs.declared.parser.Parser.{Parser}
use Rattle.reading.specs.declared.env.Env as coded
use Rattle.reading.specs.declared.statements.Over.{Over}
use Rattle.reading.specs.declared.statements.Target.{Target}
use Rattle.reading.specs.declared.statements.Change.{Change}
use Rattle.clauses.specs.Names.{scope_of}
use Rattle.clauses.specs.Outcomes.{lot_of}
use Rattle.reading.specs.Terms.{Larger}

abbrev pub env_of : coded.Env → grammar.Env
env_of e = record { plan = plan_of e.scope.plan.now; scope = scope_of e.scope.names; blocks = e.blocks; turns = e.turns }

-- A name with its lot.
abbrev pub over_of : ℕ → Result Over Refusal → Result grammar.Over Refusal
over_of after (Ok o) = Ok (record { word = o.word.now; lot = lot_of o.lot; after = after })
over_of after (Err why) = Err why

-- What an `alter` changes.
abbrev pub target_of : ℕ → Result Target Refusal → Result grammar.Target Refusal
target_of after (Ok g) = Ok (record { word = g.word.now; lot = lot_of g.lot; column = g.column; after = after })
target_of after (Err why) = Err why

abbrev pub changed : Parser → Result Change Refusal → Result grammar.Change Refusal
changed p (Ok c) =
    Ok (record { value = expr_at (exprs_of p.script) c.value; condition = expr_at (exprs_of p.script) c.condition; after = place_of p.reader; atoms = p.counts.atoms })
changed p (Err why) = Err why

pub record ChangedTo (es is : List rules.Expr) (cs ds : List rules.Code) (was now : Counts) (c : Change) : Type 0 where
  pub value : c.value < length is
  pub condition : c.condition < length is
  pub begun : now.begun ≡ was.begun
  pub larger : Larger es is cs ds was now

abbrev pub Changed : Parser → Parser → Result Change Refusal → Type 0
Changed old new (Ok c) = ChangedTo (exprs_of old.script) (exprs_of new.script) (codes_of old.script) (codes_of new.script) old.counts new.counts c
Changed old new (Err why) = Unit {0}

abbrev pub stated : Parser → Scope → Result Stmt Refusal → Result grammar.Statement Refusal
stated p scope (Ok stmt) =
    Ok (record { before = stmt_of (exprs_of p.script) (codes_of p.script) stmt; scope = scope; after = place_of p.reader; counts = p.counts })
stated p scope (Err why) = Err why

-- The statement names what stands.
pub record ToldTo (es is : List rules.Expr) (cs ds : List rules.Code) (was now : Counts) (stmt : Stmt) : Type 0 where
  pub fits : names_below (length is) (length ds) stmt ≡ true
  pub larger : Larger es is cs ds was now

abbrev pub Told : Parser → Parser → Result Stmt Refusal → Type 0
Told old new (Ok stmt) = ToldTo (exprs_of old.script) (exprs_of new.script) (codes_of old.script) (codes_of new.script) old.counts new.counts stmt
Told old new (Err why) = Unit {0}
