-- What a read block of the code stands for, and what reading it leaves of the script's nodes.
use Rattle.std.specs.Prelude.{ℕ, ◌<◌, Bool, List, length, Ok, Err, Result}
use Rattle.rules.specs.Guards.{and_then}
use Rattle.rules.specs.Scripts as rules
use Rattle.grammar.specs.declared.counts.Counts.{Counts}
use Rattle.grammar.specs.declared.marks.Mark.TheVariants.{CloseBrace}
use Rattle.grammar.specs.declared.openings.Opening.{Opening}
use Rattle.grammar.specs.Tokens.{Refusal, Token, is_mark}
use Rattle.grammar.specs.TokenList.{is_end}
use Rattle.grammar.specs.Scopes.{Scope}
use Rattle.grammar.specs.Statements as grammar
use Rattle.grammar.specs.Statements.{Blocks, naming, read_statement}
use Rattle.grammar.specs.Reading.{read_rest, in_front}
use Rattle.lexis.specs.Meaning.{place_of}
use Rattle.script.specs.Nodes.{block_at}
use Rattle.script.specs.Meaning.{exprs_of, codes_of}
use Rattle.reading.specs.declared.parser.Parser.{Parser}
use Rattle.reading.specs.declared.blocks.Close.{Close}
use Rattle.reading.specs.declared.blocks.Close.TheVariants.{Brace, End}
use Rattle.reading.specs.declared.blocks.Two.{Two}
use Rattle.reading.specs.Terms.{Larger}

abbrev pub closes : Close → Token → Bool
closes Brace = is_mark CloseBrace
closes End = is_end

-- How the blocks of a statement are read where so many statements are left.
abbrev pub within : List ℕ → ℕ → Blocks
within text left = read_rest text left (is_mark CloseBrace)

-- A statement that was begun, in front of the rest of its block.
abbrev pub going : List ℕ → ℕ → (Token → Bool) → grammar.Env → ℕ → ℕ → Counts → Opening → Result grammar.Block Refusal
going text left closed env place after counts start =
    and_then (read_statement (within text left) text env place after counts start) (λ s.
    and_then (read_rest text left closed (naming env s.scope) s.after s.counts) (λ rest.
    Ok (in_front s rest)))

abbrev pub built : Parser → Result ℕ Refusal → Result grammar.Block Refusal
built p (Ok block) = Ok (record { code = block_at (codes_of p.script) block; after = place_of p.reader; counts = p.counts })
built p (Err why) = Err why

-- Two blocks, in a statement that makes something of both.
abbrev pub paired : Parser → Scope → (rules.Code → rules.Code → rules.Code → rules.Code) → Result Two Refusal → Result grammar.Statement Refusal
paired p scope before (Ok t) =
    Ok (record { before = before (block_at (codes_of p.script) t.first) (block_at (codes_of p.script) t.second); scope = scope; after = place_of p.reader; counts = p.counts })
paired p scope before (Err why) = Err why

pub record BuiltTo (es is : List rules.Expr) (cs ds : List rules.Code) (was now : Counts) (block : ℕ) : Type 0 where
  pub inside : block < length ds
  pub larger : Larger es is cs ds was now

abbrev pub Grew : Parser → Parser → Result ℕ Refusal → Type 0
Grew old new (Ok block) = BuiltTo (exprs_of old.script) (exprs_of new.script) (codes_of old.script) (codes_of new.script) old.counts new.counts block
Grew old new (Err why) = Unit {0}

pub record PairedTo (es is : List rules.Expr) (cs ds : List rules.Code) (was now : Counts) (t : Two) : Type 0 where
  pub first : t.first < length ds
  pub second : t.second < length ds
  pub larger : Larger es is cs ds was now

abbrev pub Paired : Parser → Parser → Result Two Refusal → Type 0
Paired old new (Ok t) = PairedTo (exprs_of old.script) (exprs_of new.script) (codes_of old.script) (codes_of new.script) old.counts new.counts t
Paired old new (Err why) = Unit {0}
