use Rattle.std.proofs.Common.{◌≡◌, map, length, take, sym, ap, ◌∙◌, arith, length-take}
use mathlib.Core.Path.{fun_ext}
use lib.ListN.{length-map}
use Rattle.inplace.specs.Held.{held}
use Rattle.rules.specs.Pairs.{laid}
use Rattle.layout.specs.Pairs.{pair_of}
use Rattle.layout.specs.Tables.{table_of}
use Rattle.layout.specs.Plans.{plan_of}
use Rattle.lots.specs.Tables.{pairs_in}
use Rattle.lots.specs.Stores.{lots_of, pairs_of}
use Rattle.lots.proofs.Opened.{pushed, more}
use Rattle.lots.proofs.Planned.{few_tables, table_keeps, none_more, pairs_all}
use Rattle.lots.proofs.store.Store.new.Goals as goal

pub new-requires : goal.new-requires
new-requires c =
    let p = c.args.plan.now in
    let kept = table_keeps (plan_of p) p.kept c.tables-declared.result.now c.tables-declared.ensures c.loop-table.table-index c.table-item.result
    c.loop-table-test.true c.table-item.is in
    let long : length c.lots.result.now ≡ length (map pair_of c.lots.result.now) = sym (length-map c.lots.result.now pair_of) in
    (ap (laid 0 256) c.lots.ensures ∙ kept.1, omega (arith, long, ap length c.lots.ensures, kept.0))

pub loop-table-preserved : goal.loop-table-preserved
loop-table-preserved c =
    let p = c.args.plan.now in
    let ts = c.tables-declared.result.now in
    let i = c.loop-table.table-index in
    let low = c.loop-table-test.true in
    let was = held c.loop-table.tables in
    let is = held c.push.new.self in
    let few = few_tables (plan_of p) p.kept ts c.tables-declared.ensures in
    let as_many : length was ≡ i = sym (length-map was pairs_in) ∙ ap length c.loop-table.invariant.0 ∙ length-map (take i ts) (λ t. (table_of t).lots) ∙ length-take i ts ∙ omega arith in
    let grown = pushed was is c.new.result c.push.result c.push.ensures.value c.push.ensures.after (omega (arith, as_many, low, few)) in (
      more pairs_in (λ t. (table_of t).lots) was is c.new.result ts i c.table-item.result low grown c.loop-table.invariant.0
          (c.new.ensures.pairs ∙ c.lots.ensures ∙ ap (λ t. (table_of t).lots) c.table-item.is),
      none_more was is c.new.result c.lots.result.now grown c.loop-table.invariant.1 c.new.ensures.lots,
    )

pub returns : goal.returns
unfolding lots_of pairs_of
returns c =
    let p = c.args.plan.now in
    record {
      lots = fun_ext (λ t. fun_ext (λ v. c.loop-table.invariant.1 t v));
      pairs = c.loop-table.invariant.0
          ∙ pairs_all (plan_of p) c.tables-declared.result.now c.loop-table.table-index c.tables-declared.ensures c.loop-table-test.false;
    }
