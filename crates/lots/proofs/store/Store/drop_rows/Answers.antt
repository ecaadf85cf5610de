use Rattle.std.proofs.Common.{refl, rules}
use Rattle.inplace.specs.Held.{held}
use Rattle.rules.specs.Lots.{Lot}
use Rattle.rules.specs.Evaluation.{drop_rows}
use Rattle.lots.specs.Stores.{lots_of, pairs_of, slots_of}
use Rattle.lots.specs.declared.table.Table as stored
use Rattle.lots.specs.Lots.{lot_at}
use Rattle.lots.specs.Tables.{lots_in}
use Rattle.lots.proofs.StoreSteps.{stepped, pairs_stay, only_in_lot, put_there}
use Rattle.lots.proofs.store.Store.drop_rows.Goals as goal

pub returns : goal.returns
unfolding lots_of pairs_of slots_of
returns g c =
    let was = held c.args.self.now.tables in
    let is = held c.modify.new.self in
    let t = c.args.lot.table in
    let v = c.args.lot.vendor in
    let drops = drop_rows (g.R.Reading.reads c.args.condition.now) in
    let f : stored.Table → Lot = λ x. drops (lot_at (lots_in x) v) in
    let step = stepped f t v was is c.modify.ensures.past (λ low. let m = c.modify.ensures.changed low in (m.0, m.1, m.2, m.4, search rules)) in
    record { lots = put_there drops t v was is refl step; pairs = pairs_stay f t v was is step; outside = only_in_lot f t v was is step }
