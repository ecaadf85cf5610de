-- An `alter`, by its parts.
use Rattle.std.proofs.Common.{◌≡◌, ℕ, List, Ok, sym, ap, ◌∙◌}
use Rattle.rules.specs.Guards.{and_then}
use Rattle.rules.specs.Scripts as rules
use Rattle.grammar.specs.declared.counts.Counts.{Counts}
use Rattle.grammar.specs.declared.marks.Mark.TheVariants.{Semicolon}
use Rattle.grammar.specs.Tokens.{Found, is_mark}
use Rattle.grammar.specs.Steps.{expect}
use Rattle.grammar.specs.Statements.{Env, Target, Change, visited, with_atoms, ending, read_target, read_change, read_alter}

pub alter_is : (text : List ℕ) (env : Env) (place after : ℕ) (counts : Counts) (g : Target) (e : Change) (s : Found) (to : ℕ) (counted : Counts)
    → read_target text env after ≡ Ok g → read_change text (visited env g.word g.lot.table) g.after counts ≡ Ok e
    → expect text (is_mark Semicolon) e.after ≡ Ok s → to ≡ s.after → counted ≡ with_atoms counts e.atoms
    → read_alter text env place after counts
    ≡ Ok (record { before = rules.Code.alter place g.lot.table g.lot.owner g.column e.value e.condition; scope = env.scope; after = to; counts = counted })
alter_is text env place after counts g e s to counted a b c d f =
    ap (λ r. and_then r (λ g. and_then (read_change text (visited env g.word g.lot.table) g.after counts) (λ e.
    ending text (rules.Code.alter place g.lot.table g.lot.owner g.column e.value e.condition) env.scope e.after (with_atoms counts e.atoms)))) a
    ∙ ap (λ r. and_then r (λ e.
    ending text (rules.Code.alter place g.lot.table g.lot.owner g.column e.value e.condition) env.scope e.after (with_atoms counts e.atoms))) b
    ∙ ap (λ r. and_then r (λ s. Ok (record { before = rules.Code.alter place g.lot.table g.lot.owner g.column e.value e.condition; scope = env.scope; after = s.after; counts = with_atoms counts e.atoms }))) c
    ∙ ap (λ n. Ok (record { before = rules.Code.alter place g.lot.table g.lot.owner g.column e.value e.condition; scope = env.scope; after = n; counts = with_atoms counts e.atoms })) (sym d)
    ∙ ap (λ m. Ok (record { before = rules.Code.alter place g.lot.table g.lot.owner g.column e.value e.condition; scope = env.scope; after = to; counts = m })) (sym f)
