-- Rows in slots: one more, some kept, all changed.
use Rattle.std.proofs.Common.{◌≡◌, ℕ, Bool, true, false, cond, List, [], ◌∷◌, ◌++◌, map, reverse, filter, sym, refl, ap, ◌∙◌, append-nil}
use mathlib.Core.List.{reverse-cons}
use Rattle.std.proofs.lemmas.List.{map_push}
use Rattle.std.proofs.lemmas.List.Elements.{filter-append}
use Rattle.lots.specs.Rows.{Row}
use Rattle.inplace.specs.Held.{held}
use Rattle.lots.specs.Rows.{newest}

pub kept_map : {X Y : Type 0} (f : X → Y) (p : Y → Bool) (xs : List X) → map f (filter (λ x. p (f x)) xs) ≡ filter p (map f xs)
kept_map f p [] = refl
kept_map {X} {Y} f p (x ∷ xs) = go (p (f x)) (kept_map f p xs)
  where
    go : (b : Bool) → map f (filter (λ z. p (f z)) xs) ≡ filter p (map f xs)
        → map f (cond b (x ∷ filter (λ z. p (f z)) xs) (filter (λ z. p (f z)) xs)) ≡ cond b (f x ∷ filter p (map f xs)) (filter p (map f xs))
    go true rest = ap (λ ys. f x ∷ ys) rest
    go false rest = rest

pub kept_reverse : {X : Type 0} (p : X → Bool) (xs : List X) → reverse (filter p xs) ≡ filter p (reverse xs)
kept_reverse p [] = refl
kept_reverse {X} p (x ∷ xs) =
    go (p x) ∙ ap (λ ys. ys ++ cond (p x) (x ∷ []) []) (kept_reverse p xs) ∙ sym (filter-append p (reverse xs) (x ∷ [])) ∙ ap (filter p) (sym (reverse-cons x xs))
  where
    go : (b : Bool) → reverse (cond b (x ∷ filter p xs) (filter p xs)) ≡ reverse (filter p xs) ++ cond b (x ∷ []) []
    go true = reverse-cons x (filter p xs)
    go false = sym (append-nil (reverse (filter p xs)))

pub map_reverse : {X Y : Type 0} (f : X → Y) (xs : List X) → reverse (map f xs) ≡ map f (reverse xs)
map_reverse f [] = refl
map_reverse f (x ∷ xs) =
    reverse-cons (f x) (map f xs) ∙ ap (λ ys. ys ++ f x ∷ []) (map_reverse f xs) ∙ sym (map_push f (reverse xs) x) ∙ ap (map f) (sym (reverse-cons x xs))

-- Rows that were kept in place are kept of the model.
pub newest_kept : (p : List ℕ → Bool) (rows after : List Row) → after ≡ filter (λ r. p (held r)) rows → newest after ≡ filter p (newest rows)
newest_kept p rows after h = ap newest h ∙ ap reverse (kept_map held p rows) ∙ kept_reverse p (map held rows)

-- Rows that were changed in place are changed in the model.
pub newest_changed : (f : List ℕ → List ℕ) (rows after : List Row) → map held after ≡ map f (map held rows) → newest after ≡ map f (newest rows)
newest_changed f rows after e = ap reverse e ∙ map_reverse f (map held rows)
