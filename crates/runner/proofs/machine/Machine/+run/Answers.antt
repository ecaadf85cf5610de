-- A block is run statement by statement.
use Rattle.std.proofs.Common.{◌≡◌, ◌<◌, cond, eqb, length, subst, arith, rules, tests}
use Rattle.rules.specs.Evaluation.{whom}
use Rattle.script.specs.Nodes.{index_of}
use Rattle.lots.specs.Stores.{lots_of}
use Rattle.runner.specs.Names.{val_of}
use Rattle.runner.specs.Values.{block_in}
use Rattle.runner.specs.Turns.{Turned}
use Rattle.runner.proofs.Running.{as_read, renamed_runs, begins_with, stop_runs, var_runs, set_runs, if_runs, when_runs, add_runs, drop_runs, alter_runs}
use Rattle.runner.proofs.Loops.{turned_more, vendors_run, walked_more, each_run}
use Rattle.runner.proofs.machine.Machine.+run.Goals as goal
use Rattle.runner.proofs.machine.Machine.+run.Goals.{run_block-then-x-eq0, run_block-else-x-eq0, run_block-then-same, run_block-else-same}

pub run_block-returns-in_default-clause-does : goal.run_block-returns-in_default-clause-does
run_block-returns-in_default-clause-does t c = search (rules, as_read, stop_runs)

pub run_block-returns-in-Set-clause-does : goal.run_block-returns-in-Set-clause-does
run_block-returns-in-Set-clause-does t c = begins_with _ _ _ _ _ _ c.in-Some.ensures.meaning c.in-Set.is (search (rules, set_runs))

pub run_block-returns-in-Var-clause-does : goal.run_block-returns-in-Var-clause-does
run_block-returns-in-Var-clause-does t c =
    begins_with _ _ _ _ _ _ c.in-Some.ensures.meaning c.in-Var.is
    (var_runs _ _ _ _ _ _ _ c.len.ensures c.set_var.ensures.does
    (renamed_runs _ _ _ _ _ _ _ c.with-inner.ensures.script c.with-inner.ensures.names c.run_block.ensures.does))

pub run_block-returns-after-x-eq0-clause-does : goal.run_block-returns-after-x-eq0-clause-does
run_block-returns-after-x-eq0-clause-does t c =
    let chosen : c.if-x-eq0.taken ≡ cond (eqb c.evaluate-x-in-If.result 0) c.in-If.second c.in-If.first =
    elim c.if-x-eq0.branch [ run_block-then-x-eq0 w ↦ search (rules, tests) | run_block-else-x-eq0 w ↦ search (rules, tests) ] in
    begins_with _ _ _ _ _ _ c.in-Some.ensures.meaning c.in-If.is (search (rules, if_runs))

pub run_block-returns-after-same-clause-does : goal.run_block-returns-after-same-clause-does
run_block-returns-after-same-clause-does t c =
    let val = val_of c.args.env.now in
    let chosen : c.if-same.taken ≡ cond (eqb (whom val (index_of c.in-When.left)) (whom val (index_of c.in-When.right))) c.in-When.first c.in-When.second =
    elim c.if-same.branch [ run_block-then-same w ↦ search (rules, tests) | run_block-else-same w ↦ search (rules, tests) ] in
    begins_with _ _ _ _ _ _ c.in-Some.ensures.meaning c.in-When.is (search (rules, when_runs))

pub run_block-returns-in-Vendors-clause-does : goal.run_block-returns-in-Vendors-clause-does
run_block-returns-in-Vendors-clause-does t c = begins_with _ _ _ _ _ _ c.in-Some.ensures.meaning c.in-Vendors.is (search (rules, vendors_run))

pub run_block-returns-in-Each-clause-does : goal.run_block-returns-in-Each-clause-does
run_block-returns-in-Each-clause-does t c = begins_with _ _ _ _ _ _ c.in-Some.ensures.meaning c.in-Each.is (search (rules, each_run))

pub run_block-returns-in-Add-clause-does : goal.run_block-returns-in-Add-clause-does
run_block-returns-in-Add-clause-does t c = begins_with _ _ _ _ _ _ c.in-Some.ensures.meaning c.in-Add.is (search (rules, add_runs))

pub run_block-returns-in-Drop-clause-does : goal.run_block-returns-in-Drop-clause-does
run_block-returns-in-Drop-clause-does t c = begins_with _ _ _ _ _ _ c.in-Some.ensures.meaning c.in-Drop.is (search (rules, drop_runs))

pub run_block-returns-in-Alter-clause-does : goal.run_block-returns-in-Alter-clause-does
run_block-returns-in-Alter-clause-does t c = begins_with _ _ _ _ _ _ c.in-Some.ensures.meaning c.in-Alter.is (search (rules, alter_runs))

pub run_vendors-loop-vendor-preserved : goal.run_vendors-loop-vendor-preserved
run_vendors-loop-vendor-preserved t c = search (rules, turned_more, renamed_runs)

pub run_vendors-returns-clause-does : goal.run_vendors-returns-clause-does
run_vendors-returns-clause-does t c =
    let end : c.loop-vendor.vendor ≡ c.args.env.now.vendors = omega arith in
    subst (λ k. Turned c.args.env.now (block_in c.args.env.now c.args.body) k c.args.self.now c.loop-vendor.self) end c.loop-vendor.invariant.does

pub run_each-loop-place-preserved : goal.run_each-loop-place-preserved
run_each-loop-place-preserved t c =
    let lot = c.args.lot in
    let within : c.loop-place.place < length (lots_of c.args.self.now.lots.now lot.table lot.vendor).rows = omega (arith, c.count-count.ensures) in
    search (rules, walked_more, renamed_runs)
