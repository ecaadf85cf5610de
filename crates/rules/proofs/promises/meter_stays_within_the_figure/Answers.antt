use Rattle.rules.proofs.Meters.{metered}
use Rattle.rules.proofs.promises.meter_stays_within_the_figure.Goals as goal

pub returns : goal.returns
returns c = metered
