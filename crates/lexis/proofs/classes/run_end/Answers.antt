use Rattle.std.proofs.Common.{◌+◌, drop, ap, ◌∙◌, rules}
use Rattle.std.proofs.lemmas.List.{take_rest}
use Rattle.std.proofs.lemmas.Iterator.{YieldsList-from_slice}
use Rattle.std.proofs.lemmas.Iterator.Consumers.{count_from_yields_List, YieldsList-at, YieldsList-from_copied}
use Rattle.std.proofs.lemmas.Iterator.Search.{YieldsList-from_take_while}
use Rattle.std.proofs.lemmas.List.Folds.{length-prefix_len}
use Rattle.lexis.proofs.classes.run_end.Goals as goal

pub returns : goal.returns
returns g c test says =
    let rest = drop c.args.from c.args.text.now in
    let copied = YieldsList-from_copied (YieldsList-at c.copied.ensures.source (YieldsList-from_slice rest (search (rules, take_rest, c.iter.ensures.rest)))) in
    let taken = YieldsList-from_take_while _ test (YieldsList-at c.take_while.ensures.source copied) c.take_while.ensures.closure c.take_while.ensures.done
    (λ x b q k. (
      g.met.P.Fn.1.step_stays c.args.such (k.shown, tt) b q (record { met = k.called.met }),
      says x b (record { shown = k.shown; shows = k.shows; says = record { met = (g.met.P.FnMut.1.post_iff c.args.such (k.shown, tt) b).1 (q, record { met = k.called.met }) } }),
    )) in
    ap (λ n. c.args.from + n) (count_from_yields_List c.take_while.result _ c.count.ensures.ran taken ∙ length-prefix_len test rest)
