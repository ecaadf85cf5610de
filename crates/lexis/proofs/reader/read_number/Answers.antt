use Rattle.std.proofs.Common.{drop, ap, ◌∙◌, subst, sym, arith}
use Rattle.std.specs.List.{AllByRecursion}
use Rattle.grammar.specs.Tokens.{digit, Digit}
use Rattle.grammar.proofs.Runs.{run_within, part_is_run, all_run}
use Rattle.lexis.proofs.reader.read_number.Goals as goal

pub slice_bounds-digits-count : goal.slice_bounds-digits-count
slice_bounds-digits-count c = omega (arith, c.run_end-after.ensures digit (λ b r k. k.says.met ∙ ap digit k.shows))

pub slice_bounds-digits-start : goal.slice_bounds-digits-start
slice_bounds-digits-start c = omega (arith, c.run_end-after.ensures digit (λ b r k. k.says.met ∙ ap digit k.shows))

pub slice_bounds-digits-end : goal.slice_bounds-digits-end
slice_bounds-digits-end c = omega (arith, c.run_end-after.ensures digit (λ b r k. k.says.met ∙ ap digit k.shows), run_within digit c.args.text.now c.args.place c.requires)

pub value_of-requires : goal.value_of-requires
value_of-requires c =
    subst (AllByRecursion Digit) (sym (part_is_run digit c.args.text.now c.args.place c.run_end-after.result (c.run_end-after.ensures digit (λ b r k. k.says.met ∙ ap digit k.shows))))
    (all_run digit (drop c.args.place c.args.text.now))
