use Rattle.std.proofs.Common.{◌≤◌, eqb, map, set, filter, sym, refl, ap, ◌∙◌, arith}
use Rattle.rules.specs.Pairs.{laid}
use Rattle.rules.specs.Evaluation.{drop_rows}
use Rattle.rules.specs.Lots.{Lot}
use Rattle.lots.specs.Lots.{span_of, lot_in}
use Rattle.lots.specs.Tables.{lots_in}
use Rattle.lots.proofs.SlotWrites.{lot_here, pairs_with, kept_with, lots_with, outside, lent_back}
use Rattle.lots.proofs.table.Table.drop_rows.Goals as goal

pub invariant_of-self : goal.invariant_of-self
invariant_of-self g c =
    let s = c.args.self.now in
    let v = c.args.vendor in
    let l = c.in-Some.lot in
    let k = c.in-Some.ensures in
    let back = lent_back s v l k.0 k.1 _ _ c.in_use.ensures.start c.in_use.ensures.end c.drop_by.new.rows c.drop_by.auto.rows in
    record { whole = back.whole; kept = ap (λ ls. laid 0 256 (map span_of ls)) c.set.ensures ∙ kept_with s v l k.0 k.1 _ refl }

pub returns-clause-lots : goal.returns-clause-lots
returns-clause-lots g c =
    let s = c.args.self.now in
    let v = c.args.vendor in
    let l = c.in-Some.lot in
    let k = c.in-Some.ensures in
    let reads = g.R.Reading.reads c.args.condition.now in
    let back = lent_back s v l k.0 k.1 _ _ c.in_use.ensures.start c.in_use.ensures.end c.drop_by.new.rows c.drop_by.auto.rows in
    let left : c.drop_by.result ≤ l.count = omega (arith, c.drop_by.ensures.few, back.few) in
    ap (map (lot_in _)) c.set.ensures ∙ lots_with s v l k.0 k.1 _ _ back.only
    ∙ ap (λ rs. set (lots_in s) v (record { rows = rs; lost = l.lost }))
    (back.after c.drop_by.result left ∙ c.drop_by.ensures.rows ∙ ap (filter (λ row. eqb (reads row) 0)) back.before)
    ∙ ap (λ (x : Lot). set (lots_in s) v (drop_rows reads x)) (sym (lot_here s v l k.0 k.1))

pub returns-clause-pairs : goal.returns-clause-pairs
returns-clause-pairs g c =
    let k = c.in-Some.ensures in
    ap (map span_of) c.set.ensures ∙ pairs_with c.args.self.now c.args.vendor c.in-Some.lot k.0 k.1 _ refl

pub returns-clause-outside : goal.returns-clause-outside
returns-clause-outside g c =
    let s = c.args.self.now in
    let v = c.args.vendor in
    let l = c.in-Some.lot in
    let k = c.in-Some.ensures in
    let back = lent_back s v l k.0 k.1 _ _ c.in_use.ensures.start c.in_use.ensures.end c.drop_by.new.rows c.drop_by.auto.rows in
    outside s v l k.0 k.1 _ back.only
