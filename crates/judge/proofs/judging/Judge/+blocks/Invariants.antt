use Rattle.std.proofs.Common.{◌≡◌, ℕ, ◌+◌, ◌*◌, ◌<◌, max}
use Rattle.layout.specs.Plans.{plan_of}
use Rattle.rules.specs.Evaluation.{put_index}
use Rattle.rules.specs.Labels.{enter, turn}
use Rattle.rules.specs.Judging.{over, verdict}
use Rattle.script.specs.Nodes.{block_at}
use Rattle.script.specs.Meaning.{codes_of}
use Rattle.judge.specs.Names.{Inside, scope_of, val_of}
use Rattle.judge.specs.Blocks.{highest_block}
use Rattle.judge.specs.Verdicts.{told_by, found_by, Of}
use Rattle.judge.specs.Breaking.{Breaks}
use Rattle.judge.proofs.judging.Judge.+blocks.Given as goal

-- Blocks nest by going further back.
abbrev pub decreases-judge_block : goal.decreases-judge_block
decreases-judge_block g l = 3 * l.block

abbrev pub decreases-judge_inner : goal.decreases-judge_inner
decreases-judge_inner g l = 3 * highest_block l.node.now + 2

abbrev pub decreases-judge_rest : goal.decreases-judge_rest
decreases-judge_rest g l = 3 * highest_block l.node.now + 2

abbrev pub decreases-judge_branches : goal.decreases-judge_branches
decreases-judge_branches g l = 3 * max l.first l.second + 1

abbrev pub decreases-judge_rows : goal.decreases-judge_rows
decreases-judge_rows g l = 3 * l.body + 1

abbrev pub decreases-judge_turns : goal.decreases-judge_turns
decreases-judge_turns g l = 3 * l.body + 1

-- The least fault of the turns so far, a standing inside the outer one, the context as it was, and what is said of the fault.
abbrev pub invariant-judge_turns-loop-vendor : goal.invariant-judge_turns-loop-vendor
invariant-judge_turns-loop-vendor g l =
    let o = g.L.Lattice.answers l.self.policy.lattice.now in
    let plan = plan_of l.self.policy.plan.now in
    let code = block_at (codes_of l.self.script.now) l.body in
    let inner = enter (scope_of l.standing) turn in
    let val = λ (v : ℕ). put_index (val_of l.standing) (scope_of l.standing).depth v in
    record {
      least : found_by g.R.Report.place_of l.least ≡ over (λ v. verdict o plan code inner (val v) l.initial.context.label) l.vendor;
      inside : Inside l.inner l.standing;
      same : l.context.label ≡ l.initial.context.label;
      why : Of (told_by g.R.Report.whole l.least) (λ b. (v : ℕ) × (v < plan.vendors) × Breaks o plan b code inner (val v) l.initial.context.label);
    }
