use Rattle.std.proofs.Common.{rules}
use Rattle.calls.proofs.SameCalls.{posts_same, admits_same, runs_same, looks_same, counts_same, meters_same}
use Rattle.calls.proofs.told.calls_are_told_apart.Goals as goal

pub returns : goal.returns
returns c = search (rules, posts_same, admits_same, runs_same, looks_same, counts_same, meters_same)
