use Rattle.std.proofs.Common.{◌≡◌, ℕ, ◌<◌, [], length, get_or, sym, ap, ◌∙◌, rules}
use Rattle.std.specs.Option.{option_map}
use Rattle.grammar.specs.Scopes.{look_up}
use Rattle.grammar.specs.declared.scopes.NameKind.TheVariants.{Variable}
use Rattle.clauses.specs.declared.names.Name.{Name}
use Rattle.clauses.specs.Names.{newest_first, bound_of}
use Rattle.clauses.proofs.Scoped.{passed_over, newest_found}
use Rattle.clauses.proofs.names.Names.look_up.Goals as goal

abbrev none : Name
none = record { letters = record { ref_ptr = (0, 0); now = [] }; kind = Variable }

pub returns-in_err-level : goal.returns-in_err-level
returns-in_err-level c =
    let ns = c.as_slice-names.result.now in
    let others : (k : ℕ) → k < length ns → c.args.word.now ≡ (get_or ns k none).letters.now → ⊥ = search rules in
    ap (option_map bound_of) c.from_residual.ensures
    ∙ sym (passed_over c.args.word.now ns [] none others)
    ∙ ap (λ xs. look_up c.args.word.now (newest_first xs [])) c.as_slice-names.ensures

pub returns : goal.returns
returns c =
    let ns = c.as_slice-names.result.now in
    let i = c.in_ok-level.level in
    let inside : i < length ns = search rules in
    let same : c.args.word.now ≡ (get_or ns i none).letters.now = search rules in
    let others : (k : ℕ) → i < k → k < length ns → c.args.word.now ≡ (get_or ns k none).letters.now → ⊥ = search rules in
    sym (newest_found c.args.word.now ns i none inside same others)
    ∙ ap (λ xs. look_up c.args.word.now (newest_first xs [])) c.as_slice-names.ensures
