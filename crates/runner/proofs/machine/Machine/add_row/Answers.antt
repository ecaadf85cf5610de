use Rattle.std.proofs.Common.{rules}
use Rattle.inplace.specs.Held.{held}
use Rattle.lots.proofs.Keeping.{plan_lots}
use Rattle.runner.proofs.machine.Machine.add_row.Goals as goal

pub returns-clause-does : goal.returns-clause-does
returns-clause-does c plan st there h =
    let enters = (plan_lots plan c.args.lot.table c.args.lot.vendor).enters there.planned there.table_there there.vendor_there (held c.args.row) st.lots in
    search rules
