use Rattle.std.proofs.Common.{arith}
use Rattle.layout.specs.Plans.{plan_of}
use Rattle.reading.proofs.Widths.{few_columns}
use Rattle.reading.proofs.values.further_columns.Goals as goal

pub returns-clause-few : goal.returns-clause-few
returns-clause-few c =
    let few = few_columns (plan_of c.args.plan.now) c.args.plan.now.kept c.args.table in
    omega (arith, few, c.width.ensures, c.saturating_sub.ensures)
