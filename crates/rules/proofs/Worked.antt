-- The worked cases, by computing.
use Rattle.std.proofs.Common.{refl}
use Rattle.rules.specs.Evaluation.{eval, exec, ran}
use Rattle.rules.specs.Labels.{expr_label}
use Rattle.rules.specs.Figures.{figure}
use Rattle.rules.specs.Judging.{verdict, judge}
use Rattle.rules.specs.Admission.{admission}
use Rattle.rules.specs.Calls.{outcome}
use Rattle.rules.specs.Examples.{Worked}

pub worked : Worked
unfolding eval exec ran expr_label figure verdict judge admission outcome
worked = record {
  nothing = refl;
  mine = refl;
  mine_runs = refl;
  mine_thrice = refl;
  all = refl;
  all_single = refl;
  all_grades = refl;
  guarded = refl;
  twos = refl;
  twos_contributors = refl;
  behind = refl;
  inside = refl;
  under_if = refl;
  under_when = refl;
  for_others = refl;
  dropping = refl;
  pairs_touch = refl;
  pairs_overlap = refl;
  fifth = refl;
  cleared = refl;
  struck = refl;
  unheard = refl;
}
