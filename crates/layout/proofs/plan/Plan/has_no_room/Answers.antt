use Rattle.std.proofs.Common.{leb, sym, ap, ◌∙◌}
use lib.ListN.{length-map}
use Rattle.layout.proofs.plan.Plan.has_no_room.Goals as goal

pub returns : goal.returns
returns c = ap (leb 4) (c.len.ensures ∙ sym (length-map _ _))
