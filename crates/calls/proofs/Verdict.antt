-- The verdict on two lists of calls decides whether they agree.
use Rattle.std.proofs.Common.{◌≡◌, ℕ, Bool, List, Decides}
use Rattle.std.proofs.lemmas.Bool.Decides.{Decides-at}
use Rattle.lattice.specs.Order.{Order}
use Rattle.rules.specs.Plans.{Plan}
use Rattle.rules.specs.Calls.{Call}
use Rattle.rules.specs.Agreement.{Agree}
use Rattle.rules.specs.Deciding.{agree}
use Rattle.rules.proofs.Decided.{agreement_is_decided}

pub decided : (o : Order) (plan : Plan) (s : ℕ) (left right : List Call) (r : Bool) → r ≡ agree o plan s left right → Decides r (Agree o plan s left right)
decided o plan s left right r is = Decides-at r (agree o plan s left right) is (agreement_is_decided o plan s left right)
