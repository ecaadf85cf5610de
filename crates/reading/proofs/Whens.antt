-- A `when`, up to its blocks.
use Rattle.std.proofs.Common.{◌≡◌, ℕ, List, Ok, sym, ap, ◌∙◌}
use Rattle.rules.specs.Guards.{and_then}
use Rattle.rules.specs.Scripts as rules
use Rattle.grammar.specs.declared.counts.Counts.{Counts}
use Rattle.grammar.specs.declared.marks.Mark.TheVariants.{Equals}
use Rattle.grammar.specs.Tokens.{Found, is_mark}
use Rattle.grammar.specs.Steps.{Part, expect}
use Rattle.grammar.specs.Clauses.{read_index}
use Rattle.grammar.specs.Statements.{Env, Blocks, two_blocks, read_when}

pub when_is : (inner : Blocks) (text : List ℕ) (env : Env) (after : ℕ) (counts : Counts) (i j : Part rules.Index) (q : Found) (to : ℕ)
    → read_index text env.plan env.scope after ≡ Ok i → expect text (is_mark Equals) i.after ≡ Ok q → to ≡ q.after
    → read_index text env.plan env.scope to ≡ Ok j
    → read_when inner text env 0 after counts ≡ two_blocks inner text env (rules.Code.when i.value j.value) j.after counts
when_is inner text env after counts i j q to a b d e =
    ap (λ r. and_then r (λ i. and_then (expect text (is_mark Equals) i.after) (λ q. and_then (read_index text env.plan env.scope q.after) (λ j.
    two_blocks inner text env (rules.Code.when i.value j.value) j.after counts)))) a
    ∙ ap (λ r. and_then r (λ q. and_then (read_index text env.plan env.scope q.after) (λ j.
    two_blocks inner text env (rules.Code.when i.value j.value) j.after counts))) b
    ∙ ap (λ n. and_then (read_index text env.plan env.scope n) (λ j. two_blocks inner text env (rules.Code.when i.value j.value) j.after counts)) (sym d)
    ∙ ap (λ r. and_then r (λ j. two_blocks inner text env (rules.Code.when i.value j.value) j.after counts)) e
