use Rattle.figures.proofs.+block_figure.Given as goal

abbrev pub decreases-block_figure : goal.decreases-block_figure
decreases-block_figure l = l.block
