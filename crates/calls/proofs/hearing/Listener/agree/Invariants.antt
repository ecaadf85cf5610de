use Rattle.std.proofs.Common.{◌≡◌, map, length}
use Rattle.std.specs.Slice.Iter.{iter_rest}
use Rattle.layout.specs.Plans.{plan_of}
use Rattle.rules.specs.Deciding.{all_alike, agree}
use Rattle.calls.specs.Meaning.{call_of, seen}
use Rattle.calls.proofs.hearing.Listener.agree.Given as goal

-- What is left of both lists agrees exactly where the lists do.
abbrev pub invariant-loop-call : goal.invariant-loop-call
invariant-loop-call g l =
    let o = g.L.Lattice.answers l.self.policy.lattice.now in
    let p = plan_of l.self.policy.plan.now in
    all_alike o p l.self.label (seen o p l.self.label (iter_rest l.ours)) (seen o p l.self.label (iter_rest l.theirs))
    ≡ agree o p l.self.label (map call_of l.left) (map call_of l.right)

abbrev pub decreases-loop-call : goal.decreases-loop-call
decreases-loop-call g l = length (iter_rest l.ours)
