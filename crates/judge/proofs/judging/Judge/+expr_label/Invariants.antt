use Rattle.judge.proofs.judging.Judge.+expr_label.Given as goal

abbrev pub decreases-expr_label : goal.decreases-expr_label
decreases-expr_label g l = l.at
