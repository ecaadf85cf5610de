use Rattle.grammar.proofs.TextPromises.{first_fault_of_a_text}
use Rattle.grammar.proofs.readings.first_fault_counts.Goals as goal

pub returns : goal.returns
returns c = first_fault_of_a_text
