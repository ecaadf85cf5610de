use Rattle.std.proofs.Common.{drop, ap, ◌∙◌, subst, sym, arith}
use Rattle.std.specs.List.{AllByRecursion}
use Rattle.grammar.specs.Tokens.{letter, Letter}
use Rattle.grammar.proofs.Runs.{run_within, part_is_run, all_run}
use Rattle.lexis.proofs.reader.read_word.Goals as goal

pub slice_bounds-letters-count : goal.slice_bounds-letters-count
slice_bounds-letters-count c = omega (arith, c.run_end-after.ensures letter (λ b r k. k.says.met ∙ ap letter k.shows))

pub slice_bounds-letters-start : goal.slice_bounds-letters-start
slice_bounds-letters-start c = omega (arith, c.run_end-after.ensures letter (λ b r k. k.says.met ∙ ap letter k.shows))

pub slice_bounds-letters-end : goal.slice_bounds-letters-end
slice_bounds-letters-end c = omega (arith, c.run_end-after.ensures letter (λ b r k. k.says.met ∙ ap letter k.shows), run_within letter c.args.text.now c.args.place c.requires)

pub keyword_of-requires-clause-letters : goal.keyword_of-requires-clause-letters
keyword_of-requires-clause-letters c =
    subst (AllByRecursion Letter) (sym (part_is_run letter c.args.text.now c.args.place c.run_end-after.result (c.run_end-after.ensures letter (λ b r k. k.says.met ∙ ap letter k.shows))))
    (all_run letter (drop c.args.place c.args.text.now))
