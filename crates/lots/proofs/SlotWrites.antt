-- What a write to one lot makes of its table.
use Rattle.std.proofs.Common.{◌≡◌, ℕ, ◌+◌, ◌-◌, ◌<◌, ◌≤◌, min, true, ltb, List, [], ◌∷◌, ◌++◌, map, reverse, length, get_or, take, drop, set, sym, refl, ap, ◌∙◌, subst, arith, length-append, length-drop, length-take, take-append-drop}
use borrow.Rule.Slice.PartMut.{put_mid}
use lib.ListN.{length-map}
use Rattle.std.proofs.lemmas.Bool.{lt-ltb, le-ltb, cond-true, cond-false}
use Rattle.std.proofs.lemmas.List.{get_or-map, set-get_or, take_all, take-take, take-set-le, take_more_set, drop-set-lt, drop-set-add, set-append_left, set-append_right, length-reverse, map_push, reverse-append}
use Rattle.std.proofs.lemmas.Slice.{take-put_mid_below, drop-put_mid, between-put_mid}
use Rattle.inplace.specs.Held.{held}
use Rattle.rules.specs.Pairs.{Pair, laid, pair_at}
use Rattle.rules.specs.Lots.{no_rows, enter_row, last_word}
use Rattle.lots.specs.declared.lot.Lot as coded
use Rattle.lots.specs.declared.table.Table as stored
use Rattle.lots.specs.Rows.{Row, newest}
use Rattle.lots.specs.Lots.{span_of, lot_in, lot_at, OnlyIn}
use Rattle.lots.specs.Tables.{lots_in, pairs_in}
use Rattle.lots.proofs.OneLot.{pair_is, spans_stay, written}

pub nothing_written : (p : Pair) (rows : List Row) → OnlyIn p rows rows
nothing_written p rows = record { before = refl; behind = refl }

-- The rows of a lot were lent and came back as `part`: what is known of the slots before and after.
pub record Lent (was is : List Row) (l : coded.Lot) (lent part : List Row) : Type 0 where
  pub whole : length is ≡ 256
  pub only : OnlyIn (span_of l) was is
  pub few : length lent ≡ l.count
  pub before : newest lent ≡ (lot_in was l).rows
  pub after : (n : ℕ) → n ≤ l.count → newest (take n (drop l.offset is)) ≡ newest (take n part)
  pub all : newest (take l.count (drop l.offset is)) ≡ newest part

-- One slot of a lent part is written.
pub put_set : {X : Type 0} (a k : ℕ) (xs : List X) (i : ℕ) (x : X) → i < k → a + k ≤ length xs → put_mid a k xs (set (take k (drop a xs)) i x) ≡ set xs (a + i) x
put_set a k xs i x low high =
    let mid = take k (drop a xs) in
    let behind = drop k (drop a xs) in
    let whole : take a xs ++ (mid ++ behind) ≡ xs = ap (λ ys. take a xs ++ ys) (take-append-drop k (drop a xs)) ∙ take-append-drop a xs in
    let front : length (take a xs) ≡ a = simp length-take (omega arith) in
    let inside : i < length mid = simp (length-take, length-drop) (omega arith) in
    let place : i ≡ a + i - a = omega arith in
    ap (λ ys. take a xs ++ ys) (sym (set-append_left mid behind i x inside) ∙ ap (λ n. set (mid ++ behind) n x) place)
    ∙ sym (set-append_right (take a xs) (mid ++ behind) a (a + i) x front (omega arith))
    ∙ ap (λ ys. set ys (a + i) x) whole

-- A lot of a table.
module _ (s : stored.Table) (v : ℕ) (l : coded.Lot) (low : v < length (held s.lots)) (at : l ≡ get_or (held s.lots) v l) where
  pub pair_here : pair_at (pairs_in s) v ≡ span_of l
  pair_here = pair_is (held s.lots) s.kept v l low ∙ ap span_of (sym at)

  pub lot_here : lot_at (lots_in s) v ≡ lot_in s.slots l
  lot_here = get_or-map (lot_in s.slots) (held s.lots) v l no_rows low ∙ ap (lot_in s.slots) (sym at)

  -- a lot has as many rows as it counts
  pub count_here : length (lot_in s.slots l).rows ≡ l.count
  count_here =
      let whole : length s.slots ≡ 256 = s.whole in
      length-reverse (map held (take l.count (drop l.offset s.slots)))
      ∙ simp (length-map, length-take, length-drop) (omega (arith, l.inside, l.fits))

  pub pairs_with : (new : coded.Lot) → span_of new ≡ span_of l → map span_of (set (held s.lots) v new) ≡ pairs_in s
  pairs_with new e = spans_stay (held s.lots) s.kept v new l low (e ∙ ap span_of at)

  pub kept_with : (new : coded.Lot) → span_of new ≡ span_of l → laid 0 256 (map span_of (set (held s.lots) v new)) ≡ true
  kept_with new e = ap (laid 0 256) (pairs_with new e) ∙ s.kept

  pub lots_with : (is : List Row) (new : coded.Lot) → OnlyIn (span_of l) s.slots is
      → map (lot_in is) (set (held s.lots) v new) ≡ set (lots_in s) v (lot_in is new)
  lots_with is new only = written (held s.lots) s.kept s.slots is v l low at only new

  -- the lot's own record stays
  pub lots_rewritten : (is : List Row) → OnlyIn (span_of l) s.slots is → map (lot_in is) (held s.lots) ≡ set (lots_in s) v (lot_in is l)
  lots_rewritten is only =
      ap (map (lot_in is)) (sym (set-get_or (held s.lots) v l) ∙ ap (set (held s.lots) v) (sym at)) ∙ lots_with is l only

  pub outside : (is : List Row) → OnlyIn (span_of l) s.slots is → OnlyIn (pair_at (pairs_in s) v) s.slots is
  outside is only = subst (λ (p : Pair). OnlyIn p s.slots is) (sym pair_here) only

  pub full : (row : List ℕ) → l.length ≤ l.count
      → enter_row (pair_at (pairs_in s) v).length row (lot_at (lots_in s) v) ≡ record { rows = (lot_in s.slots l).rows; lost = min (l.lost + 1) last_word }
  full row h =
      ap (λ (p : Pair). enter_row p.length row (lot_at (lots_in s) v)) pair_here ∙ ap (enter_row l.length row) lot_here
      ∙ cond-false (ltb (length (lot_in s.slots l).rows) l.length) _ _ (le-ltb _ _ (omega (arith, count_here)))

  pub room_left : (row : List ℕ) → l.count < l.length
      → enter_row (pair_at (pairs_in s) v).length row (lot_at (lots_in s) v) ≡ record { rows = row ∷ (lot_in s.slots l).rows; lost = l.lost }
  room_left row h =
      ap (λ (p : Pair). enter_row p.length row (lot_at (lots_in s) v)) pair_here ∙ ap (enter_row l.length row) lot_here
      ∙ cond-true (ltb (length (lot_in s.slots l).rows) l.length) _ _ (lt-ltb _ _ (omega (arith, count_here)))

  -- A row is put into the first slot that is free.
  module _ (row : Row) (room : l.count < l.length) where
    -- which is among those that are lent, from `start` to `stop`
    pub put_lent : (start stop : ℕ) (part : List Row) → start ≡ l.offset → stop ≡ l.offset + l.length
        → part ≡ set (take (stop - start) (drop start s.slots)) l.count row → put_mid start (stop - start) s.slots part ≡ set s.slots (l.offset + l.count) row
    put_lent start stop part from to e =
        let whole : length s.slots ≡ 256 = s.whole in
        ap (put_mid start (stop - start) s.slots) e
        ∙ put_set start (stop - start) s.slots l.count row (omega (arith, from, to, room)) (omega (arith, from, to, l.inside))
        ∙ ap (λ n. set s.slots (n + l.count) row) from

    pub only_put : OnlyIn (span_of l) s.slots (set s.slots (l.offset + l.count) row)
    only_put = record {
      before = take-set-le l.offset s.slots (l.offset + l.count) row (omega arith);
      behind = drop-set-lt (l.offset + l.length) s.slots (l.offset + l.count) row (omega arith);
    }

    pub newest_put : newest (take (l.count + 1) (drop l.offset (set s.slots (l.offset + l.count) row))) ≡ held row ∷ (lot_in s.slots l).rows
    newest_put =
        let whole : length s.slots ≡ 256 = s.whole in
        let free : l.count < length (drop l.offset s.slots) = simp length-drop (omega (arith, l.inside)) in
        ap (λ rows. newest (take (l.count + 1) rows)) (drop-set-add l.offset s.slots l.count row)
        ∙ ap newest (take_more_set (drop l.offset s.slots) l.count row free)
        ∙ ap reverse (map_push held (take l.count (drop l.offset s.slots)) row)
        ∙ reverse-append (map held (take l.count (drop l.offset s.slots))) (held row ∷ [])

  -- The rows of the lot are lent, from `start` to `stop`, and come back as `part`.
  module _ (start stop : ℕ) (from : start ≡ l.offset) (to : stop ≡ l.offset + l.count) (part : List Row) (long : length part ≡ length (take (stop - start) (drop start s.slots))) where
    size : stop - start ≡ l.count
    size = omega (arith, from, to)

    as_long : length part ≡ stop - start
    as_long = let whole : length s.slots ≡ 256 = s.whole in long ∙ simp (length-take, length-drop) (omega (arith, size, from, l.inside, l.fits))

    starts : start ≤ length s.slots
    starts = let whole : length s.slots ≡ 256 = s.whole in omega (arith, from, l.inside)

    after_is : (n : ℕ) → n ≤ l.count → newest (take n (drop l.offset (put_mid start (stop - start) s.slots part))) ≡ newest (take n part)
    after_is n few =
        let after = put_mid start (stop - start) s.slots part in
        ap (λ o. newest (take n (drop o after))) (sym from)
        ∙ ap newest (sym (take-take n (stop - start) (drop start after) (omega (arith, size, few))))
        ∙ ap (λ rows. newest (take n rows)) (between-put_mid start (stop - start) s.slots part stop starts as_long)

    pub lent_back : Lent s.slots (put_mid start (stop - start) s.slots part) l (take (stop - start) (drop start s.slots)) part
    lent_back =
        let whole : length s.slots ≡ 256 = s.whole in
        record {
          whole = simp (length-append, length-take, length-drop) (omega (arith, from, to, as_long, l.inside, l.fits));
          only = record {
            before = take-put_mid_below start (stop - start) s.slots part l.offset (omega (arith, from)) starts;
            behind = drop-put_mid start (stop - start) s.slots part (l.offset + l.length) (omega (arith, from, size, l.fits)) starts as_long;
          };
          few = sym long ∙ as_long ∙ size;
          before = ap (λ n. newest (take n (drop start s.slots))) size ∙ ap (λ n. newest (take l.count (drop n s.slots))) from;
          after = after_is;
          all = after_is l.count (omega arith) ∙ ap newest (take_all l.count part (omega (arith, as_long, size)));
        }
