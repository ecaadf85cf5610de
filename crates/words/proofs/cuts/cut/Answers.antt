use Rattle.words.proofs.Cutting.{uncut}
use Rattle.words.proofs.cuts.cut.Goals as goal

pub returns-in-None : goal.returns-in-None
returns-in-None c = let none = uncut c.args.mark c.args.text.now (c.in-None.ensures) in record { front = none.front; back = none.back }
