use Rattle.std.proofs.Common.{◌+◌, ◌*◌}
use Rattle.reading.proofs.parser.Parser.+expressions.Given as goal

abbrev pub decreases-read_expr : goal.decreases-read_expr
decreases-read_expr l = 2 * l.depth

abbrev pub decreases-read_pair : goal.decreases-read_pair
decreases-read_pair l = 2 * l.depth + 1
