use Rattle.lots.proofs.Keeping.{widths_stay}
use Rattle.lots.proofs.promises.rows_keep_their_width.Goals as goal

pub returns : goal.returns
returns c = widths_stay
