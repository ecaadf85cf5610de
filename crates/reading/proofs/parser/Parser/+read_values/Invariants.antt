use Rattle.reading.proofs.parser.Parser.+read_values.Given as goal

abbrev pub decreases-read_values : goal.decreases-read_values
decreases-read_values l = l.more
