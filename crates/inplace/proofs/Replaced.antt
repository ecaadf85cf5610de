-- One item of a list replaced.
use Rattle.std.proofs.Common.{◌≡◌, ℕ, zero, suc, List, [], ◌∷◌, take, set, refl, ap}

pub take_of_set : {X : Type 0} (n : ℕ) (l : List X) (i : ℕ) (a : X) → take n (set l i a) ≡ set (take n l) i a
take_of_set zero l i a = refl
take_of_set (suc n) [] i a = refl
take_of_set (suc n) (x ∷ xs) zero a = refl
take_of_set (suc n) (x ∷ xs) (suc i) a = ap (λ ys. x ∷ ys) (take_of_set n xs i a)
