use Rattle.std.proofs.Common.{◌≡◌, ◌<◌, ◌≤◌, eqb, length, take, filter, sym, ap, ◌∙◌, arith}
use Rattle.std.proofs.lemmas.Bool.{eq-eqb, ne_eqb}
use Rattle.std.proofs.lemmas.List.{take_all}
use Rattle.std.proofs.lemmas.List.Filters.{FiltersInPlace-more_set, FiltersInPlace-more_no}
use Rattle.inplace.specs.Held.{held}
use Rattle.lots.proofs.RowLists.{newest_kept}
use Rattle.lots.proofs.part.drop_by.Goals as goal
use Rattle.lots.proofs.part.drop_by.Goals.{then-value-eq0, else-value-eq0}

pub loop-i-preserved : goal.loop-i-preserved
loop-i-preserved g c =
    let reads = g.R.Reading.reads c.args.condition.now in
    let row = c.index-rows-i.result in
    let within : c.loop-i.i < length c.loop-i.rows = omega arith in
    let is : c.value.result ≡ reads (held row) = c.value.ensures in
    elim c.if-value-eq0.branch [
      | then-value-eq0 w ↦
          rw (w.rows-is, w.left-is)
          (FiltersInPlace-more_set c.loop-i.invariant within (eq-eqb (reads (held row)) 0 (sym is ∙ w.if-value-eq0.true)) c.index-rows-i.is)
      | else-value-eq0 w ↦
          rw (w.rows-is, w.left-is)
          (FiltersInPlace-more_no c.loop-i.invariant within (ne_eqb (reads (held row)) 0 (λ e. w.if-value-eq0.false (is ∙ e))) c.index-rows-i.is)
    ]

pub returns : goal.returns
returns g c =
    let reads = g.R.Reading.reads c.args.condition.now in
    let end : length c.args.rows.now ≤ c.loop-i.i = omega arith in
    record {
      rows = newest_kept (λ row. eqb (reads row) 0) c.args.rows.now (take c.loop-i.left c.loop-i.rows)
          (c.loop-i.invariant.front ∙ ap (filter (λ r. eqb (reads (held r)) 0)) (take_all c.loop-i.i c.args.rows.now end));
      few = omega (arith, c.loop-i.invariant.behind);
    }
