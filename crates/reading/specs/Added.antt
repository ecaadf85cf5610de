-- What the expressions of an `add` stand for.
use Rattle.std.specs.Prelude.{◌≡◌, ℕ, true, List, map, length, Ok, Err, Result}
use Rattle.rules.specs.Scripts as rules
use Rattle.grammar.specs.declared.counts.Counts.{Counts}
use Rattle.grammar.specs.Tokens.{Refusal}
use Rattle.grammar.specs.Statements.{Values}
use Rattle.lexis.specs.Meaning.{place_of}
use Rattle.script.specs.Nodes.{expr_at}
use Rattle.script.specs.Ordered.{all_below}
use Rattle.script.specs.Meaning.{exprs_of, codes_of}
use Rattle.reading.specs.declared.parser.Parser.{Parser}
use Rattle.reading.specs.Terms.{Larger}

-- The expressions at these places.
abbrev pub valued : Parser → List ℕ → Result (Unit {0}) Refusal → Result Values Refusal
valued p ats (Ok done) = Ok (record { values = map (expr_at (exprs_of p.script)) ats; after = place_of p.reader; atoms = p.counts.atoms })
valued p ats (Err why) = Err why

pub record AddedTo (es is : List rules.Expr) (cs ds : List rules.Code) (was now : Counts) (ats : List ℕ) : Type 0 where
  pub inside : all_below (length is) ats ≡ true
  pub begun : now.begun ≡ was.begun
  pub larger : Larger es is cs ds was now

abbrev pub Added : Parser → Parser → List ℕ → Result (Unit {0}) Refusal → Type 0
Added old new ats (Ok done) = AddedTo (exprs_of old.script) (exprs_of new.script) (codes_of old.script) (codes_of new.script) old.counts new.counts ats
Added old new ats (Err why) = Unit {0}
