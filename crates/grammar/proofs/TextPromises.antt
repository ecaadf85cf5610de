-- The promises of the rules at the reading of texts, and the worked cases by computing.
use Rattle.std.proofs.Common.{refl}
use Rattle.rules.specs.Evaluation.{eval, exec, ran}
use Rattle.rules.specs.Labels.{expr_label}
use Rattle.rules.specs.Figures.{figure}
use Rattle.rules.specs.Judging.{verdict, judge}
use Rattle.rules.specs.Admission.{admission}
use Rattle.rules.specs.Calls.{outcome}
use Rattle.rules.proofs.TwoBenches.{two_benches}
use Rattle.rules.proofs.Meters.{metered}
use Rattle.rules.proofs.Keeps.{kept}
use Rattle.rules.proofs.Judged.{judge_is_exact}
use Rattle.grammar.specs.Tokens.{token_at}
use Rattle.grammar.specs.Expressions.{read_expr}
use Rattle.grammar.specs.Statements.{read_values}
use Rattle.grammar.specs.Reading.{read_rest, reading}
use Rattle.grammar.specs.TextPromises.{TwoBenchesOfTexts, MeterOfTexts, LotsKeptUnderTexts, FirstFaultOfAText, WorkedTexts}
use Rattle.grammar.proofs.ReadScripts.{read_scripts_are_well_made}

pub two_benches_of_texts : TwoBenchesOfTexts
two_benches_of_texts o laws = two_benches o laws reading

pub meter_of_texts : MeterOfTexts
meter_of_texts o plan = metered o reading plan

pub lots_kept_under_texts : LotsKeptUnderTexts
lots_kept_under_texts o plan s = kept o reading plan s (λ text code e. (read_scripts_are_well_made plan s text code e).fits)

pub first_fault_of_a_text : FirstFaultOfAText
first_fault_of_a_text o plan s text code e p f =
    let x = judge_is_exact o plan code in (x.fault p f, x.least (read_scripts_are_well_made plan s text code e).rising p f)

pub worked_texts : WorkedTexts
unfolding eval exec ran expr_label figure verdict judge admission outcome token_at read_expr read_values read_rest reading
worked_texts = record {
  nothing = refl;
  mine = refl;
  mine_thrice = refl;
  all = refl;
  all_single = refl;
  all_grades = refl;
  guarded = refl;
  twos = refl;
  twos_contributors = refl;
  inside = refl;
}
