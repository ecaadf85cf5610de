-- An `if`, up to its blocks.
use Rattle.std.proofs.Common.{◌≡◌, ℕ, List, Ok, sym, ap, ◌∙◌}
use Rattle.rules.specs.Guards.{and_then}
use Rattle.rules.specs.Scripts as rules
use Rattle.grammar.specs.declared.counts.Counts.{Counts}
use Rattle.grammar.specs.Expressions.{Term}
use Rattle.grammar.specs.Statements.{Env, Blocks, with_atoms, read_value, two_blocks, read_if}

pub if_is : (inner : Blocks) (text : List ℕ) (env : Env) (after : ℕ) (counts : Counts) (e : Term) (counted : Counts)
    → read_value text env after counts ≡ Ok e → counted ≡ with_atoms counts e.atoms
    → read_if inner text env 0 after counts ≡ two_blocks inner text env (rules.Code.if e.value) e.after counted
if_is inner text env after counts e counted a b =
    ap (λ r. and_then r (λ e. two_blocks inner text env (rules.Code.if e.value) e.after (with_atoms counts e.atoms))) a
    ∙ ap (two_blocks inner text env (rules.Code.if e.value) e.after) (sym b)
