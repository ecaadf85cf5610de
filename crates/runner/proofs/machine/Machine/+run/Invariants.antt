use Rattle.std.proofs.Common.{◌≡◌, ◌+◌, ◌*◌}
use Rattle.runner.specs.Values.{block_in}
use Rattle.runner.specs.Turns.{Turned, Walked}
use Rattle.runner.proofs.machine.Machine.+run.Given as goal

abbrev pub decreases-run_block : goal.decreases-run_block
decreases-run_block l = 2 * l.block

-- The turns of a body come before what the body holds.
abbrev pub decreases-run_vendors : goal.decreases-run_vendors
decreases-run_vendors l = 2 * l.body + 1

abbrev pub decreases-run_each : goal.decreases-run_each
decreases-run_each l = 2 * l.body + 1

-- The turns made so far lead from where the loop began to here.
abbrev pub invariant-run_vendors-loop-vendor : goal.invariant-run_vendors-loop-vendor
invariant-run_vendors-loop-vendor l = record {
  same_reference : l.self.lots.ghost_name ≡ l.initial.self.lots.ghost_name;
  does : Turned l.env (block_in l.env l.body) l.vendor l.initial.self l.self;
}

abbrev pub invariant-run_each-loop-place : goal.invariant-run_each-loop-place
invariant-run_each-loop-place l = record {
  same_reference : l.self.lots.ghost_name ≡ l.initial.self.lots.ghost_name;
  does : Walked l.env l.lot.table l.lot.vendor (block_in l.env l.body) l.place l.initial.self l.self;
}
