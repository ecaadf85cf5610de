-- What a list of nodes stands for, when one more is pushed, and at a place.
use Rattle.std.proofs.Common.{◌≡◌, ℕ, zero, suc, ◌+◌, ◌<◌, List, [], ◌∷◌, ◌++◌, length, get_or, sym, refl, ◌∙◌, arith}
use Rattle.std.proofs.lemmas.List.{get_or_append_left, get_or_push, length_push}
use Rattle.script.specs.Growing.{grow}

-- Two lists with the same items below a place.
abbrev pub Same : {M : Type 0} → ℕ → List M → List M → Type 0
Same {M} k xs ys = (j : ℕ) (d : M) → j < k → get_or xs j d ≡ get_or ys j d

module _ {N M : Type 0} (one : List M → N → M) where
  pub grow_push : (acc : List M) (ns : List N) (n : N) → grow one acc (ns ++ n ∷ []) ≡ grow one acc ns ++ one (grow one acc ns) n ∷ []
  grow_push acc [] n = refl
  grow_push acc (m ∷ ms) n = grow_push (acc ++ one acc m ∷ []) ms n

  pub grow_length : (acc : List M) (ns : List N) → length (grow one acc ns) ≡ length acc + length ns
  grow_length acc [] = omega arith
  grow_length acc (n ∷ ns) = grow_length (acc ++ one acc n ∷ []) ns ∙ omega (arith, length_push acc (one acc n))

  -- what stood there stays
  pub grow_front : (acc : List M) (ns : List N) → Same (length acc) acc (grow one acc ns)
  grow_front acc [] j d h = refl
  grow_front acc (n ∷ ns) j d h =
      sym (get_or_append_left acc (one acc n ∷ []) d j h) ∙ grow_front (acc ++ one acc n ∷ []) ns j d (omega (arith, length_push acc (one acc n)))

  -- a node stands for what it makes of the others, if it looks at none but those before it
  pub grow_at : (acc : List M) (ns : List N) (i k : ℕ) (d : M) (e : N) → i < length ns → k ≡ length acc + i
      → ((xs ys : List M) → Same k xs ys → one xs (get_or ns i e) ≡ one ys (get_or ns i e))
      → get_or (grow one acc ns) k d ≡ one (grow one acc ns) (get_or ns i e)
  grow_at acc [] i k d e h is local = absurd (omega arith)
  grow_at acc (n ∷ ns) zero k d e h is local =
      let more = acc ++ one acc n ∷ [] in
      let long : length more ≡ length acc + 1 = length_push acc (one acc n) in
      sym (grow_front more ns k d (omega arith)) ∙ get_or_push acc (one acc n) d k (omega arith)
      ∙ local acc (grow one more ns) (λ j d' l. sym (get_or_append_left acc (one acc n ∷ []) d' j (omega arith)) ∙ grow_front more ns j d' (omega arith))
  grow_at acc (n ∷ ns) (suc i) k d e h is local =
      grow_at (acc ++ one acc n ∷ []) ns i k d e (omega arith) (omega (arith, length_push acc (one acc n))) local
