use Rattle.std.proofs.Common.{rules}
use Rattle.judge.proofs.Breaches.{inside_told, behind_told}
use Rattle.judge.proofs.judging.Judge.+blocks.Goals as goal

pub judge_block-returns-in_err-judge_inner-clause-why : goal.judge_block-returns-in_err-judge_inner-clause-why
judge_block-returns-in_err-judge_inner-clause-why g t c = search (rules, inside_told)

pub judge_block-returns-clause-why : goal.judge_block-returns-clause-why
judge_block-returns-clause-why g t c = search (rules, behind_told)
