-- A list that is filled one item for one item of another.
use Rattle.std.proofs.Common.{◌≡◌, ℕ, ◌+◌, ◌<◌, Bool, cond, ltb, List, [], ◌∷◌, ◌++◌, map, length, get_or, take, sym, ap, ◌∙◌}
use Rattle.std.proofs.lemmas.Bool.{lt-ltb, cond-true}
use Rattle.std.proofs.lemmas.List.{map_push, map_more}

-- A push where there is room.
pub pushed : {X : Type 0} {n : ℕ} (was is : List X) (x : X) (taken : Bool) → taken ≡ ltb (length was) n → is ≡ cond taken (was ++ x ∷ []) was → length was < n
    → is ≡ was ++ x ∷ []
pushed was is x taken value after room = after ∙ cond-true taken _ _ (value ∙ lt-ltb _ _ room)

-- What has been filled reads as what has been passed.
pub more : {X Y Z : Type 0} (f : X → Z) (g : Y → Z) (was is : List X) (x : X) (ys : List Y) (i : ℕ) (d : Y) → i < length ys → is ≡ was ++ x ∷ []
    → map f was ≡ map g (take i ys) → f x ≡ g (get_or ys i d) → map f is ≡ map g (take (i + 1) ys)
more f g was is x ys i d low grown before here =
    ap (map f) grown ∙ map_push f was x ∙ ap (λ zs. zs ++ f x ∷ []) before ∙ ap (λ z. map g (take i ys) ++ z ∷ []) here ∙ sym (map_more g ys i d low)
