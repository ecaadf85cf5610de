-- Without the judge two lists that agree are answered differently.
use Rattle.std.proofs.Common.{◌≡◌, ℕ, refl, arith}
use Rattle.lattice.specs.Order.{Laws}
use Rattle.lattice.specs.Built.{compartments}
use Rattle.rules.specs.Evaluation.{eval, exec, ran}
use Rattle.rules.specs.Labels.{expr_label}
use Rattle.rules.specs.Figures.{figure}
use Rattle.rules.specs.Judging.{verdict, judge}
use Rattle.rules.specs.Calls.{outcome}
use Rattle.rules.specs.Agreement.Alike.{equal}
use Rattle.rules.specs.Examples.{RestsOnTheJudge}

pub rests_on_the_judge : Laws compartments → RestsOnTheJudge
unfolding eval exec ran expr_label figure verdict judge outcome
rests_on_the_judge lawful = record {
  lawful = lawful;
  refused = refl;
  agree = (equal _, (equal _, (equal _, tt)));
  differ = λ e. let z : ◌≡◌ {A = ℕ} 0 1 = cc e in omega arith;
}
