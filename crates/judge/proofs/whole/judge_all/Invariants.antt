use Rattle.std.proofs.Common.{◌≡◌}
use Rattle.layout.specs.Plans.{plan_of}
use Rattle.rules.specs.Evaluation.{run_for}
use Rattle.rules.specs.Labels.{no_names}
use Rattle.rules.specs.Judging.{over, verdict}
use Rattle.script.specs.Meaning.{script_of}
use Rattle.judge.specs.Verdicts.{told_by, found_by, Of}
use Rattle.judge.specs.Breaking.{Explains}
use Rattle.judge.proofs.whole.judge_all.Given as goal

-- The least fault of the vendors so far, the context at the bottom, and what is said of the fault.
abbrev pub invariant-loop-me : goal.invariant-loop-me
invariant-loop-me g l =
    let o = g.L.Lattice.answers l.lattice in
    let plan = plan_of l.plan in
    let code = script_of l.script in
    record {
      least : found_by g.R.Report.place_of l.least ≡ over (λ v. verdict o plan code no_names (run_for v) o.bottom) l.me;
      bottom : l.context.label ≡ o.bottom;
      why : Of (told_by g.R.Report.whole l.least) (Explains o plan code);
    }
