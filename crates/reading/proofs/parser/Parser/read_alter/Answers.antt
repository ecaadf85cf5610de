use Rattle.std.proofs.Common.{sym, ap, ◌∙◌}
use Rattle.grammar.specs.declared.marks.Mark.TheVariants.{Semicolon}
use Rattle.grammar.specs.Tokens.{is_mark}
use Rattle.grammar.specs.Steps.{expect}
use Rattle.grammar.specs.Statements.{visited, read_change}
use Rattle.lexis.specs.Meaning.{text_of, place_of}
use Rattle.reading.specs.Stated.{env_of}
use Rattle.reading.proofs.Grows.{counted}
use Rattle.reading.proofs.Altered.{alter_is}
use Rattle.reading.proofs.parser.Parser.read_alter.Goals as goal

pub returns-clause-value : goal.returns-clause-value
returns-clause-value c =
    let now = c.args.self.now in
    let env = env_of c.args.env.now in
    let target = c.in_ok-target.target in
    let to = c.read_target.new.reader in
    let was = c.in_ok-target.ensures.text in
    let then = c.in_ok-change.ensures.text in
    sym (alter_is (text_of now.reader) env c.args.place (place_of now.reader) now.counts _ _ _ _ c.read_change.new.self.counts
    (sym c.in_ok-target.ensures.value)
    (ap (λ t. read_change t (visited env target.word.now target.lot.table) (place_of to) now.counts) (sym was)
    ∙ ap (λ v. read_change (text_of to) v (place_of to) now.counts) (sym c.visit-inner.ensures)
    ∙ sym c.in_ok-change.ensures.value)
    (ap (λ t. expect t (is_mark Semicolon) (place_of c.read_change.new.self.reader)) (sym (then ∙ was)) ∙ sym c.in_ok-expect.ensures.value)
    c.in_ok-expect.ensures.place
    (counted now.counts c.read_change.new.self.counts c.in_ok-change.ensures.grown.begun))
