-- What a plan of the code stands for.
use Rattle.rules.specs.Plans.{Plan}
use Rattle.layout.specs.Tables.{laid_out}
use Rattle.layout.specs.declared.plan.Plan as coded

abbrev pub plan_of : coded.Plan → Plan
plan_of p = laid_out p.vendors p.tables
