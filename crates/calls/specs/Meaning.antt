-- What a call of the code stands for.
use Rattle.std.specs.Prelude.{ℕ, List, map}
use Rattle.lattice.specs.Order.{Order}
use Rattle.rules.specs.Plans.{Plan}
use Rattle.rules.specs.Calls as rules
use Rattle.rules.specs.Agreement.{strike}
use Rattle.calls.specs.declared.call.Call.{Call}
use Rattle.calls.specs.declared.call.Call.TheVariants.{Post, Admit, Run, Look, Count, Meter}

-- The slices that a call holds are their contents.
abbrev pub call_of : Call → rules.Call
call_of (Post lot values) = rules.Call.post lot.table lot.vendor values.now
call_of (Admit slot text) = rules.Call.admit slot text.now
call_of (Run slot vendor) = rules.Call.run slot vendor
call_of (Look clearance lot place column) = rules.Call.look clearance lot.table lot.vendor place column
call_of (Count clearance lot) = rules.Call.count clearance lot.table lot.vendor
call_of (Meter clearance) = rules.Call.meter clearance

-- What a list of calls of the code stands for without the posts that are unseen at s.
abbrev pub seen : Order → Plan → ℕ → List Call → List rules.Call
seen o plan s calls = strike o plan s (map call_of calls)
