use Rattle.std.proofs.Common.{map, set, sym, ap, ◌∙◌}
use Rattle.rules.specs.Evaluation.{alter_rows}
use Rattle.rules.specs.Lots.{Lot}
use Rattle.lots.specs.Rows.{changed}
use Rattle.lots.specs.Tables.{lots_in}
use Rattle.lots.proofs.SlotWrites.{lot_here, lots_rewritten, outside, lent_back}
use Rattle.lots.proofs.table.Table.alter_rows.Goals as goal

pub returns-in-Some-clause-lots : goal.returns-in-Some-clause-lots
returns-in-Some-clause-lots g c =
    let s = c.args.self.now in
    let v = c.args.vendor in
    let l = c.in-Some.lot in
    let k = c.in-Some.ensures in
    let reads = g.V.Reading.reads c.args.value.now in
    let holds = g.C.Reading.reads c.args.condition.now in
    let back = lent_back s v l k.0 k.1 _ _ c.in_use.ensures.start c.in_use.ensures.end c.alter_by.new.rows c.alter_by.auto.rows in
    lots_rewritten s v l k.0 k.1 _ back.only
    ∙ ap (λ rs. set (lots_in s) v (record { rows = rs; lost = l.lost }))
    (back.all ∙ c.alter_by.ensures ∙ ap (map (changed c.args.column reads holds)) back.before)
    ∙ ap (λ (x : Lot). set (lots_in s) v (alter_rows c.args.column reads holds x)) (sym (lot_here s v l k.0 k.1))

pub returns-in-Some-clause-outside : goal.returns-in-Some-clause-outside
returns-in-Some-clause-outside g c =
    let s = c.args.self.now in
    let v = c.args.vendor in
    let l = c.in-Some.lot in
    let k = c.in-Some.ensures in
    let back = lent_back s v l k.0 k.1 _ _ c.in_use.ensures.start c.in_use.ensures.end c.alter_by.new.rows c.alter_by.auto.rows in
    outside s v l k.0 k.1 _ back.only
