use Rattle.std.proofs.Common.{subst}
use Rattle.std.specs.Slice.{IsItemAt}
use Rattle.lots.proofs.StoreSteps.{table_found}
use Rattle.lots.proofs.store.Store.table.Goals as goal

pub returns : goal.returns
returns c = table_found c.args.self.now c.args.table c.get.result (subst (λ ts. IsItemAt ts c.args.table c.get.result) c.as_slice.ensures c.get.ensures.lookup)
