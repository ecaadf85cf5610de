-- The `==` of answers decides whether two lists of them are the same.
use Rattle.std.proofs.Common.{◌≡◌, Bool, List, Decides, rules}
use Rattle.std.specs.Cmp.Lexicographic.{pointwise}
use Rattle.std.proofs.lemmas.Bool.Decides.{Decides-eqb}
use Rattle.std.proofs.lemmas.Slice.Eq.{slice_eq-Decides}
use Rattle.rules.specs.declared.answer.Answer.{Answer}
use Rattle.rules.specs.contracts.refusal.Refusal as refusal
use Rattle.rules.specs.contracts.answer.Answer as answer
use Rattle.rules.specs.contracts.answer.AnswerPartialEq.TheImpl.{ghosts}
use Rattle.calls.proofs.Derived.{values_decide, none, one, two}

answers_decide : (a b : Answer) → Decides (ghosts.eq a b) (a ≡ b)
answers_decide =
    values_decide answer.enum _ (none, (one Decides-eqb, (one Decides-eqb, (two Decides-eqb Decides-eqb, (one Decides-eqb, (one (values_decide refusal.enum _ (search (rules, none, one Decides-eqb))), tt))))))

pub answers_verdict : (xs ys : List Answer) (r : Bool) → r ≡ pointwise ghosts.eq xs ys → Decides r (xs ≡ ys)
answers_verdict xs ys r is = slice_eq-Decides answers_decide xs ys r is
