use Rattle.lots.proofs.Keeping.{rows_fit}
use Rattle.lots.proofs.promises.lots_keep_to_their_room.Goals as goal

pub returns : goal.returns
returns c = rows_fit
