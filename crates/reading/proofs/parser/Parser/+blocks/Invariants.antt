use Rattle.std.proofs.Common.{◌+◌, ◌*◌}
use Rattle.reading.proofs.parser.Parser.+blocks.Given as goal

abbrev pub decreases-read_rest : goal.decreases-read_rest
decreases-read_rest l = 8 * l.left

abbrev pub decreases-read_block : goal.decreases-read_block
decreases-read_block l = 8 * l.left + 1

abbrev pub decreases-read_else : goal.decreases-read_else
decreases-read_else l = 8 * l.left + 2

abbrev pub decreases-read_two : goal.decreases-read_two
decreases-read_two l = 8 * l.left + 3

abbrev pub decreases-read_if : goal.decreases-read_if
decreases-read_if l = 8 * l.left + 4

abbrev pub decreases-read_when : goal.decreases-read_when
decreases-read_when l = 8 * l.left + 4

abbrev pub decreases-read_vendors : goal.decreases-read_vendors
decreases-read_vendors l = 8 * l.left + 4

abbrev pub decreases-read_each : goal.decreases-read_each
decreases-read_each l = 8 * l.left + 4

abbrev pub decreases-read_statement : goal.decreases-read_statement
decreases-read_statement l = 8 * l.left + 5

abbrev pub decreases-read_going : goal.decreases-read_going
decreases-read_going l = 8 * l.left + 6
