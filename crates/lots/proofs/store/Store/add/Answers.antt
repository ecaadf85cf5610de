use Rattle.std.proofs.Common.{rules}
use Rattle.inplace.specs.Held.{held}
use Rattle.rules.specs.Pairs.{pair_at}
use Rattle.rules.specs.Lots.{Lot, enter_row}
use Rattle.lots.specs.declared.table.Table as stored
use Rattle.lots.specs.Lots.{lot_at}
use Rattle.lots.specs.Tables.{lots_in, pairs_in}
use Rattle.lots.specs.Stores.{lots_of, pairs_of, slots_of}
use Rattle.lots.proofs.StoreSteps.{stepped, pairs_stay, only_in_lot, row_entered_there}
use Rattle.lots.proofs.store.Store.add.Goals as goal

pub returns : goal.returns
unfolding lots_of pairs_of slots_of
returns c =
    let was = held c.args.self.now.tables in
    let is = held c.modify.new.self in
    let t = c.args.lot.table in
    let v = c.args.lot.vendor in
    let f : stored.Table → Lot = λ x. enter_row (pair_at (pairs_in x) v).length (held c.args.row) (lot_at (lots_in x) v) in
    let step = stepped f t v was is c.modify.ensures.past (λ low. let m = c.modify.ensures.changed low in (m.0, m.1, m.2, m.4, search rules)) in
    record { lots = row_entered_there (held c.args.row) t v was is step; pairs = pairs_stay f t v was is step; outside = only_in_lot f t v was is step }
