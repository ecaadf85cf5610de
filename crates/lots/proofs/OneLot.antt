-- One lot is written: what becomes of it, and why the others stay.
use Rattle.std.proofs.Common.{◌≡◌, ℕ, ◌+◌, ◌-◌, ◌<◌, ◌≤◌, true, ◌⊎◌, List, map, length, get_or, take, drop, set, sym, ap, ◌∙◌, subst, inl, inr, arith, length-set}
use lib.ListN.{length-map}
use Rattle.std.proofs.lemmas.Bool.{cases_order, cases_eq}
use Rattle.std.proofs.lemmas.List.{map-set, set-get_or, get_or-map, take-take, drop-take, drop-drop, same_lists, get_or-set_same, get_or-set_other}
use Rattle.rules.specs.Pairs.{Pair, laid, end, pair_at}
use Rattle.rules.specs.Lots.{Lot}
use Rattle.rules.proofs.PairRule.{laid_apart}
use Rattle.lots.specs.declared.lot.Lot as coded
use Rattle.lots.specs.Rows.{Row, newest}
use Rattle.lots.specs.Lots.{span_of, lot_in, OnlyIn}

-- A list of lots under the rule.
module _ (ls : List coded.Lot) (rule : laid 0 256 (map span_of ls) ≡ true) where
  pub pair_is : (v : ℕ) (d : coded.Lot) → v < length ls → pair_at (map span_of ls) v ≡ span_of (get_or ls v d)
  pair_is v d h = get_or-map span_of ls v d (record { offset = 0; length = 0 }) h

  apart_at : (i j : ℕ) (d : coded.Lot) → i < j → j < length ls → (get_or ls i d).offset + (get_or ls i d).length ≤ (get_or ls j d).offset
  apart_at i j d k h =
      let w = laid_apart 0 256 (map span_of ls) rule i j k (simp length-map h) in
      let first : i < length ls = omega arith in
      subst (λ (p : Pair). end p ≤ (get_or ls j d).offset) (pair_is i d first)
      (subst (λ (p : Pair). end (pair_at (map span_of ls) i) ≤ p.offset) (pair_is j d h) w)

  pub spans_stay : (v : ℕ) (new d : coded.Lot) → v < length ls → span_of new ≡ span_of (get_or ls v d) → map span_of (set ls v new) ≡ map span_of ls
  spans_stay v new d h e =
      map-set span_of ls v new ∙ ap (set (map span_of ls) v) (e ∙ sym (pair_is v d h)) ∙ set-get_or (map span_of ls) v (record { offset = 0; length = 0 })

  -- Only slots of the lot l, at the place v, have changed.
  module _ (was is : List Row) (v : ℕ) (l : coded.Lot) (low : v < length ls) (at : l ≡ get_or ls v l) (only : OnlyIn (span_of l) was is) where
    -- a lot before this one reads the slots before it, and a lot behind it those behind it
    other : (k : ℕ) → k < length ls → (k ≡ v → ⊥) → lot_in is (get_or ls k l) ≡ lot_in was (get_or ls k l)
    other k h ne = go (cases_order k v)
      where
        m : coded.Lot
        m = get_or ls k l

        model : List Row → Lot
        model rows = record { rows = newest rows; lost = m.lost }

        go : (k ≡ v) ⊎ ((k < v) ⊎ (v < k)) → lot_in is m ≡ lot_in was m
        go (inl e) = absurd (ne e)
        go (inr (inl below)) =
            let ends : m.offset + m.length ≤ l.offset = subst (λ (z : coded.Lot). m.offset + m.length ≤ z.offset) (sym at) (apart_at k v l below low) in
            let few : m.offset + m.count ≤ l.offset = omega (arith, ends, m.fits) in
            let same : take (m.offset + m.count) is ≡ take (m.offset + m.count) was =
            sym (take-take (m.offset + m.count) l.offset is few) ∙ ap (take (m.offset + m.count)) only.before ∙ take-take (m.offset + m.count) l.offset was few in
            ap model (sym (drop-take m.offset m.count is) ∙ ap (drop m.offset) same ∙ drop-take m.offset m.count was)
        go (inr (inr above)) =
            let past = l.offset + l.length in
            let starts : past ≤ m.offset = subst (λ (z : coded.Lot). z.offset + z.length ≤ m.offset) (sym at) (apart_at v k l above h) in
            let there : past + (m.offset - past) ≡ m.offset = omega (arith, starts) in
            let same : drop m.offset is ≡ drop m.offset was =
            ap (λ n. drop n is) (sym there) ∙ sym (drop-drop (m.offset - past) past is) ∙ ap (drop (m.offset - past)) only.behind
            ∙ drop-drop (m.offset - past) past was ∙ ap (λ n. drop n was) there in
            ap (λ rows. model (take m.count rows)) same

    pub written : (new : coded.Lot) → map (lot_in is) (set ls v new) ≡ set (map (lot_in was) ls) v (lot_in is new)
    written new = map-set now_in ls v new ∙ same_lists (set (map now_in ls) v x) (set (map was_in ls) v x) sizes each
      where
        now_in : coded.Lot → Lot
        now_in = lot_in is

        was_in : coded.Lot → Lot
        was_in = lot_in was

        x : Lot
        x = lot_in is new

        sizes : length (set (map now_in ls) v x) ≡ length (set (map was_in ls) v x)
        sizes = simp (length-set, length-map)

        within : (i : ℕ) (f : coded.Lot → Lot) → i < length ls → i < length (map f ls)
        within i f h = simp length-map h

        each : (i : ℕ) (d : Lot) → i < length (set (map now_in ls) v x) → get_or (set (map now_in ls) v x) i d ≡ get_or (set (map was_in ls) v x) i d
        each i d h = go (cases_eq i v)
          where
            small : i < length ls
            small = simp (length-set, length-map) at h

            go : (i ≡ v) ⊎ (i ≡ v → ⊥) → get_or (set (map now_in ls) v x) i d ≡ get_or (set (map was_in ls) v x) i d
            go (inl q) =
                ap (λ j. get_or (set (map now_in ls) v x) j d) q ∙ get_or-set_same (map now_in ls) v x d (within v now_in low)
                ∙ sym (get_or-set_same (map was_in ls) v x d (within v was_in low)) ∙ ap (λ j. get_or (set (map was_in ls) v x) j d) (sym q)
            go (inr q) =
                get_or-set_other (map now_in ls) v i x d q ∙ get_or-map now_in ls i l d small ∙ other i small q
                ∙ sym (get_or-map was_in ls i l d small) ∙ sym (get_or-set_other (map was_in ls) v i x d q)
