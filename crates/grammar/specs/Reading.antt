-- Reading a whole text over a plan: to a script, or to the refusal of the first thing in it that is wrong.
use Rattle.std.specs.Prelude.{ℕ, zero, suc, ◌+◌, Bool, true, false, List, [], length, Some, None, Ok, Err, Option, Result, nat_le, nat_lt}
use Rattle.rules.specs.declared.refusal.Refusal.TheVariants.{TextTooLong, LimitPassed}
use Rattle.rules.specs.Guards.{guard, and_then}
use Rattle.rules.specs.Plans.{Plan}
use Rattle.rules.specs.Scripts as rules
use Rattle.rules.specs.Scripts.{Code}
use Rattle.rules.specs.Admission.{Reading}
use Rattle.grammar.specs.declared.marks.Mark.TheVariants.{CloseBrace}
use Rattle.grammar.specs.declared.openings.Opening.{Opening}
use Rattle.grammar.specs.Tokens.{Refusal, Token, Found, token_at, is_mark}
use Rattle.grammar.specs.TokenList.{is_end}
use Rattle.grammar.specs.Steps.{unexpected, opening}
use Rattle.grammar.specs.Statements.{Env, Counts, Block, Statement, naming, read_statement}

-- A text has at most so many bytes, and a script so many statements. Blocks nest at most so deep, and so do `vendors`.
abbrev pub most_bytes : ℕ
most_bytes = 2048

abbrev pub most_statements : ℕ
most_statements = 64

abbrev pub most_blocks : ℕ
most_blocks = 8

abbrev pub most_turns : ℕ
most_turns = 2

-- How reading goes on with a statement whose keyword was found.
abbrev pub Going : Type 0
Going = Found → Counts → Opening → Result Block Refusal

-- One statement more is begun.
abbrev pub begin : Counts → Counts
begin counts = record { begun = counts.begun + 1; atoms = counts.atoms }

-- The next token closes the block, or begins a statement, or does not belong here.
abbrev pub at_token : Going → Found → Counts → Bool → Option Opening → Result Block Refusal
at_token going f counts true start = Ok (record { code = rules.Code.stop; after = f.after; counts = counts })
at_token going f counts false None = unexpected f
at_token going f counts false (Some start) =
    guard (nat_le most_statements counts.begun) (LimitPassed f.place) (going f (begin counts) start)

abbrev pub rest_with : Going → List ℕ → (Token → Bool) → ℕ → Counts → Result Block Refusal
rest_with going text closes place counts =
    and_then (token_at text place) (λ f. at_token going f counts (closes f.token) (opening f.token))

-- A statement in front of the rest of its block.
abbrev pub in_front : Statement → Block → Block
in_front s rest = record { code = s.before rest.code; after = rest.after; counts = rest.counts }

-- What is left of a block, up to the token that closes it: its next statement, then the rest. It goes at most so many
-- statements deep or far, which is never less than the statements that may still be begun.
unfoldable pub read_rest : List ℕ → ℕ → (Token → Bool) → Env → ℕ → Counts → Result Block Refusal
read_rest text zero closes env place counts = rest_with (λ f c start. Err (LimitPassed f.place)) text closes place counts
read_rest text (suc left) closes env place counts =
    rest_with (λ f c start.
    and_then (read_statement (read_rest text left (is_mark CloseBrace)) text env f.place f.after c start) (λ s.
    and_then (read_rest text left closes (naming env s.scope) s.after s.counts) (λ rest.
    Ok (in_front s rest))))
    text closes place counts

-- The start of a script: no name is in scope.
abbrev pub outside : Plan → Env
outside plan = record { plan = plan; scope = []; blocks = most_blocks; turns = most_turns }

abbrev pub read_script : Plan → List ℕ → Result Block Refusal
read_script plan text = read_rest text most_statements is_end (outside plan) 0 (record { begun = 0; atoms = 0 })

-- What a text is read to. Only a text that is not too long is read.
unfoldable pub reading : Reading
reading plan text = guard (nat_lt most_bytes (length text)) (TextTooLong most_bytes) (and_then (read_script plan text) (λ b. Ok b.code))
