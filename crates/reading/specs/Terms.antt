-- What a read expression of the code stands for, and what reading it leaves of the script's nodes.
use Rattle.std.specs.Prelude.{◌≡◌, ℕ, ◌+◌, ◌*◌, ◌<◌, ◌≤◌, List, length, Ok, Err, Result, slice_index_or}
use Rattle.rules.specs.Scripts as rules
use Rattle.grammar.specs.declared.counts.Counts.{Counts}
use Rattle.grammar.specs.Tokens.{Refusal}
use Rattle.grammar.specs.Expressions as grammar
use Rattle.lexis.specs.Meaning.{place_of}
use Rattle.script.specs.Nodes.{expr_at}
use Rattle.script.specs.Meaning.{exprs_of, codes_of}
use Rattle.reading.specs.declared.parser.Parser.{Parser}

abbrev pub termed : Parser → Result ℕ Refusal → Result grammar.Term Refusal
termed p (Ok at) = Ok (record { value = expr_at (exprs_of p.script) at; after = place_of p.reader; atoms = p.counts.atoms })
termed p (Err why) = Err why

-- What stood at a place still stands there.
pub record Kept (was is : List rules.Expr) : Type 0 where
  pub longer : length was ≤ length is
  pub same : (k : ℕ) → k < length was → expr_at is k ≡ expr_at was k

-- The same of any list, with what is read where nothing stands.
pub record Stay {A : Type 0} (none : A) (was is : List A) : Type 0 where
  pub longer : length was ≤ length is
  pub same : (k : ℕ) → k < length was → slice_index_or is k none ≡ slice_index_or was k none

abbrev pub KeptBlocks : List rules.Code → List rules.Code → Type 0
KeptBlocks was is = Stay rules.Code.stop was is

-- What stood still stands, and the counts rose with the nodes.
pub record Larger (es is : List rules.Expr) (cs ds : List rules.Code) (was now : Counts) : Type 0 where
  pub nodes : length is + 2 * was.atoms ≤ length es + 2 * now.atoms
  pub exprs : Kept es is
  pub stays : KeptBlocks cs ds
  pub begun : length ds + was.begun ≤ length cs + now.begun

-- An expression takes one node less than twice its atoms.
pub record GrownTo (es is : List rules.Expr) (cs ds : List rules.Code) (was now : Counts) (at : ℕ) : Type 0 where
  pub inside : at < length is
  pub nodes : length is + (2 * was.atoms + 1) ≤ length es + 2 * now.atoms
  pub begun : now.begun ≡ was.begun
  pub larger : Larger es is cs ds was now

abbrev pub Grown : Parser → Parser → Result ℕ Refusal → Type 0
Grown old new (Ok at) = GrownTo (exprs_of old.script) (exprs_of new.script) (codes_of old.script) (codes_of new.script) old.counts new.counts at
Grown old new (Err why) = Unit {0}
