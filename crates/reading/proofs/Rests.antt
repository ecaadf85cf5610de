-- What is left of a block, by its next token.
use Rattle.std.proofs.Common.{◌≡◌, ℕ, zero, suc, ◌-◌, ◌<◌, ◌≤◌, Bool, true, false, List, Some, None, Ok, Err, Option, refl, ap, ◌∙◌, ap₂, sub-one, arith}
use Rattle.rules.specs.declared.refusal.Refusal.TheVariants.{Unexpected, LimitPassed}
use Rattle.std.proofs.lemmas.Bool.{le-leb, lt-leb}
use Rattle.rules.specs.Guards.{guard, and_then}
use Rattle.rules.specs.Scripts as rules
use Rattle.grammar.specs.declared.counts.Counts.{Counts}
use Rattle.grammar.specs.declared.openings.Opening.{Opening}
use Rattle.grammar.specs.Tokens.{Token, Found, token_at}
use Rattle.grammar.specs.Steps.{opening}
use Rattle.grammar.specs.Statements.{Env, Block, Statement, naming, read_statement}
use Rattle.grammar.specs.Reading.{Going, begin, at_token, rest_with, in_front, read_rest}
use Rattle.reading.specs.Blocks.{within, going}

-- How reading goes on with a statement where so many are left.
unfoldable pub going_on : List ℕ → ℕ → (Token → Bool) → Env → Going
going_on text zero closed env f counts start = Err (LimitPassed f.place)
going_on text (suc left) closed env f counts start = going text left closed env f.place f.after counts start

pub rest_is : (text : List ℕ) (left : ℕ) (closed : Token → Bool) (env : Env) (place : ℕ) (counts : Counts)
    → read_rest text left closed env place counts ≡ rest_with (going_on text left closed env) text closed place counts
unfolding read_rest going_on
rest_is text zero closed env place counts = refl
rest_is text (suc left) closed env place counts = refl

rest_none : (text : List ℕ) (left : ℕ) (closed : Token → Bool) (env : Env) (place : ℕ) (counts : Counts) → left ≡ 0
    → read_rest text left closed env place counts ≡ rest_with (λ f c start. Err (LimitPassed f.place)) text closed place counts
unfolding read_rest
rest_none text zero closed env place counts e = refl
rest_none text (suc left) closed env place counts e = absurd (let b : ⊥ = omega (arith, e) in b)

rest_more : (text : List ℕ) (left : ℕ) (closed : Token → Bool) (env : Env) (place : ℕ) (counts : Counts) → (left ≡ 0 → ⊥)
    → read_rest text left closed env place counts
    ≡ rest_with (λ f c start. going text (left - 1) closed env f.place f.after c start) text closed place counts
unfolding read_rest
rest_more text zero closed env place counts e = absurd (e refl)
rest_more text (suc left) closed env place counts e = rw sub-one refl

-- A statement and the rest of its block, both read.
pub going_is : (text : List ℕ) (left : ℕ) (closed : Token → Bool) (env : Env) (place after : ℕ) (counts : Counts) (start : Opening) (s : Statement) (rest : Block)
    → read_statement (within text left) text env place after counts start ≡ Ok s
    → read_rest text left closed (naming env s.scope) s.after s.counts ≡ Ok rest
    → going text left closed env place after counts start ≡ Ok (in_front s rest)
going_is text left closed env place after counts start s rest a b =
    ap (λ r. and_then r (λ s. and_then (read_rest text left closed (naming env s.scope) s.after s.counts) (λ rest. Ok (in_front s rest)))) a
    ∙ ap (λ r. and_then r (λ rest. Ok (in_front s rest))) b

-- The next token closes the block, or does not belong here, or begins a statement that may not be begun, or one that may.
module _ (text : List ℕ) (left : ℕ) (closed : Token → Bool) (env : Env) (place : ℕ) (counts : Counts) (f : Found) (read : token_at text place ≡ Ok f) where
  told : (next : Going) (b : Bool) (start : Option Opening) → closed f.token ≡ b → opening f.token ≡ start
      → rest_with next text closed place counts ≡ at_token next f counts b start
  told next b start c o =
      ap (λ r. and_then r (λ f. at_token next f counts (closed f.token) (opening f.token))) read
      ∙ ap₂ (λ b start. at_token next f counts b start) c o

  begun : (next : Going) (start : Opening) → closed f.token ≡ false → opening f.token ≡ Some start → counts.begun < 64
      → rest_with next text closed place counts ≡ next f (begin counts) start
  begun next start c o h =
      told next false (Some start) c o ∙ ap (λ b. guard b (LimitPassed f.place) (next f (begin counts) start)) (lt-leb 64 counts.begun h)

  pub rest_closed : closed f.token ≡ true → read_rest text left closed env place counts ≡ Ok (record { code = rules.Code.stop; after = f.after; counts = counts })
  rest_closed c = rest_is text left closed env place counts ∙ told (going_on text left closed env) true (opening f.token) c refl

  pub rest_strange : closed f.token ≡ false → opening f.token ≡ None → read_rest text left closed env place counts ≡ Err (Unexpected f.place)
  rest_strange c o = rest_is text left closed env place counts ∙ told (going_on text left closed env) false None c o

  pub rest_passed : (start : Opening) → closed f.token ≡ false → opening f.token ≡ Some start → 64 ≤ counts.begun
      → read_rest text left closed env place counts ≡ Err (LimitPassed f.place)
  rest_passed start c o h =
      rest_is text left closed env place counts
      ∙ told (going_on text left closed env) false (Some start) c o
      ∙ ap (λ b. guard b (LimitPassed f.place) (going_on text left closed env f (begin counts) start)) (le-leb 64 counts.begun h)

  pub rest_spent : (start : Opening) → closed f.token ≡ false → opening f.token ≡ Some start → counts.begun < 64 → left ≡ 0
      → read_rest text left closed env place counts ≡ Err (LimitPassed f.place)
  rest_spent start c o h e = rest_none text left closed env place counts e ∙ begun (λ f c start. Err (LimitPassed f.place)) start c o h

  pub rest_begun : (start : Opening) → closed f.token ≡ false → opening f.token ≡ Some start → counts.begun < 64 → (left ≡ 0 → ⊥)
      → read_rest text left closed env place counts ≡ going text (left - 1) closed env f.place f.after (begin counts) start
  rest_begun start c o h e =
      rest_more text left closed env place counts e ∙ begun (λ f c start. going text (left - 1) closed env f.place f.after c start) start c o h
