use Rattle.std.proofs.Common.{◌≡◌, ◌^◌, ◌<◌, map, drop}
use Rattle.rules.specs.Pairs.{laid}
use Rattle.layout.proofs.span.keep_the_rule.Given as goal

-- What is left decides as the whole list does.
abbrev pub invariant-loop-span : goal.invariant-loop-span
invariant-loop-span g l =
    let pairs = map g.S.Span.pair in
    (l.end < 2 ^ 33) × (laid l.end l.limit (pairs (drop l.span-index l.spans)) ≡ laid 0 l.limit (pairs l.spans))
