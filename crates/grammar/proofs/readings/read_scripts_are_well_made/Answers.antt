use Rattle.grammar.proofs.ReadScripts.{read_scripts_are_well_made}
use Rattle.grammar.proofs.readings.read_scripts_are_well_made.Goals as goal

pub returns : goal.returns
returns c = read_scripts_are_well_made
