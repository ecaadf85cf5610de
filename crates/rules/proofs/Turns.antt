-- One turn more of a loop over rows, over vendors and over their faults.
use Rattle.std.proofs.Common.{◌≡◌, ℕ, ◌+◌, ◌<◌, List, [], ◌∷◌, ◌++◌, length, get_or, take, Option, refl, ap, ◌∙◌, add-one}
use Rattle.std.proofs.lemmas.List.{take_more}
use Rattle.rules.specs.Evaluation.{State, walk, rounds}
use Rattle.rules.specs.Judging.{over, least_of}

pub walk_append : {A : Type 0} (turn : A → State → State) (xs ys : List A) (st : State) → walk turn (xs ++ ys) st ≡ walk turn ys (walk turn xs st)
walk_append turn [] ys st = refl
walk_append turn (x ∷ xs) ys st = walk_append turn xs ys (turn x st)

pub walk_more : {A : Type 0} (turn : A → State → State) (xs : List A) (i : ℕ) (d : A) (st : State) → i < length xs
    → walk turn (take (i + 1) xs) st ≡ turn (get_or xs i d) (walk turn (take i xs) st)
walk_more turn xs i d st h = ap (λ ys. walk turn ys st) (take_more xs i d h) ∙ walk_append turn (take i xs) (get_or xs i d ∷ []) st

pub rounds_more : (turn : ℕ → State → State) (n : ℕ) (st : State) → rounds turn (n + 1) st ≡ turn n (rounds turn n st)
rounds_more turn n st = ap (λ k. rounds turn k st) (add-one n)

pub over_more : (f : ℕ → Option ℕ) (n : ℕ) → over f (n + 1) ≡ least_of (over f n) (f n)
over_more f n = ap (over f) (add-one n)
