-- What a write to one table makes of the lots of all.
use Rattle.std.proofs.Common.{◌≡◌, ℕ, ◌<◌, ◌≤◌, ◌⊎◌, Option, None, Some, List, [], map, length, get_or, set, sym, refl, ap, ◌∙◌, subst, inl, inr, arith}
use lib.ListN.{length-map}
use Rattle.std.specs.Borrow.{Bor}
use Rattle.std.specs.Slice.{IsItemAt}
use Rattle.std.specs.Option.{MatchOption}
use Rattle.std.proofs.lemmas.Bool.{cases_lt, lt-ltb, le-ltb, cond-true, cond-false}
use Rattle.std.proofs.lemmas.List.{map-set, get_or-map, get_or_past, set-get_or, get_or-set_same, get_or-set_other}
use Rattle.inplace.specs.Held.{held}
use Rattle.rules.specs.Pairs.{Pair, pair_at}
use Rattle.rules.specs.Lots.{Lot, no_rows, put_lot, enter_row}
use Rattle.lots.specs.declared.table.Table as stored
use Rattle.lots.specs.declared.store.Store.{Store}
use Rattle.lots.specs.Rows.{Row}
use Rattle.lots.specs.Lots.{lot_at, OnlyIn}
use Rattle.lots.specs.Tables.{lots_in, pairs_in, slots_in}
use Rattle.lots.specs.Stores.{lots_at, lots_of, pairs_of, room_in, has_lot, row_entered, OnlyInLot, TableOf, NoTable}
use Rattle.lots.proofs.Putting.{put_same, put_in, put_out, none_at}

-- A table that is not there.
module _ (tables : List stored.Table) (t : ℕ) (past : length tables ≤ t) where
  pub no_list : {Y : Type 0} (f : stored.Table → List Y) → get_or (map f tables) t [] ≡ []
  no_list f = get_or_past (map f tables) t [] (simp length-map (omega arith))

  pub nothing_entered : (v : ℕ) (row : List ℕ)
      → lots_at (map lots_in tables) ≡ row_entered (map pairs_in tables) t v row (lots_at (map lots_in tables))
  nothing_entered v row =
      let none : length (get_or (map pairs_in tables) t []) ≡ 0 = ap length (no_list pairs_in) in
      sym (cond-false (has_lot (map pairs_in tables) t v) _ _ (le-ltb v (length (get_or (map pairs_in tables) t [])) (omega (arith, none))))

  pub nothing_put : (v : ℕ) (f : Lot → Lot) → f no_rows ≡ no_rows
      → lots_at (map lots_in tables) ≡ put_lot (lots_at (map lots_in tables)) t v (f (lots_at (map lots_in tables) t v))
  nothing_put v f e =
      let none : lots_at (map lots_in tables) t v ≡ no_rows = ap (λ l. lot_at l v) (no_list lots_in) in
      put_same (lots_at (map lots_in tables)) t v _ (ap f none ∙ e ∙ sym none)

-- A table that is written.
module _ (tables : List stored.Table) (t : ℕ) (d : stored.Table) (low : t < length tables) where
  pub list_here : {Y : Type 0} (f : stored.Table → List Y) → get_or (map f tables) t [] ≡ f (get_or tables t d)
  list_here f = get_or-map f tables t d [] low

  list_set : {Y : Type 0} (f : stored.Table → List Y) (new : stored.Table) → map f (set tables t new) ≡ set (map f tables) t (f new)
  list_set f new = map-set f tables t new

  pub pairs_same : (new : stored.Table) → pairs_in new ≡ pairs_in (get_or tables t d) → map pairs_in (set tables t new) ≡ map pairs_in tables
  pairs_same new e =
      list_set pairs_in new ∙ ap (set (map pairs_in tables) t) (e ∙ sym (list_here pairs_in)) ∙ set-get_or (map pairs_in tables) t []

  pub only_here : (new : stored.Table) (v : ℕ) → OnlyIn (pair_at (pairs_in (get_or tables t d)) v) (slots_in (get_or tables t d)) (slots_in new)
      → OnlyInLot (map pairs_in tables) t v (map slots_in tables) (map slots_in (set tables t new))
  only_here new v only = record {
    tables = λ u ne. ap (λ (l : List (List Row)). get_or l u []) (list_set slots_in new) ∙ get_or-set_other (map slots_in tables) t u (slots_in new) [] ne;
    slots = subst (λ (p : List Pair). OnlyIn (pair_at p v) (get_or (map slots_in tables) t []) (get_or (map slots_in (set tables t new)) t []))
        (sym (list_here pairs_in))
        (subst (λ (was : List Row). OnlyIn (pair_at (pairs_in (get_or tables t d)) v) was (get_or (map slots_in (set tables t new)) t [])) (sym (list_here slots_in))
        (subst (λ (is : List Row). OnlyIn (pair_at (pairs_in (get_or tables t d)) v) (slots_in (get_or tables t d)) is) (sym now_here) only));
  }
    where
      now_here : get_or (map slots_in (set tables t new)) t [] ≡ slots_in new
      now_here =
          ap (λ (l : List (List Row)). get_or l t []) (list_set slots_in new)
          ∙ get_or-set_same (map slots_in tables) t (slots_in new) [] (simp length-map low)

  as_many : length (get_or (map lots_in tables) t []) ≡ length (get_or (map pairs_in tables) t [])
  as_many =
      let same : length (lots_in (get_or tables t d)) ≡ length (pairs_in (get_or tables t d)) = simp length-map in
      ap length (list_here lots_in) ∙ same ∙ sym (ap length (list_here pairs_in))

  changed : (new : stored.Table) (v : ℕ) (x : Lot) → lots_in new ≡ set (lots_in (get_or tables t d)) v x
      → map lots_in (set tables t new) ≡ set (map lots_in tables) t (set (get_or (map lots_in tables) t []) v x)
  changed new v x e = list_set lots_in new ∙ ap (set (map lots_in tables) t) (e ∙ ap (λ l. set l v x) (sym (list_here lots_in)))

  pub row_put : (new : stored.Table) (v : ℕ) (row : List ℕ)
      → lots_in new ≡ set (lots_in (get_or tables t d)) v (enter_row (pair_at (pairs_in (get_or tables t d)) v).length row (lot_at (lots_in (get_or tables t d)) v))
      → lots_at (map lots_in (set tables t new))
      ≡ row_entered (map pairs_in tables) t v row (lots_at (map lots_in tables))
  row_put new v row e = ap lots_at (changed new v x (e ∙ ap (set (lots_in (get_or tables t d)) v) x_is)) ∙ go (cases_lt v (length (get_or pairs t [])))
    where
      lists : List (List Lot)
      lists = map lots_in tables

      pairs : List (List Pair)
      pairs = map pairs_in tables

      x : Lot
      x = enter_row (room_in (map pairs_in tables) t v) row (lots_at (map lots_in tables) t v)

      x_is : enter_row (pair_at (pairs_in (get_or tables t d)) v).length row (lot_at (lots_in (get_or tables t d)) v) ≡ x
      x_is =
          ap (λ ps. enter_row (pair_at ps v).length row (lot_at (lots_in (get_or tables t d)) v)) (sym (list_here pairs_in))
          ∙ ap (λ l. enter_row (room_in pairs t v) row (lot_at l v)) (sym (list_here lots_in))

      go : (v < length (get_or pairs t [])) ⊎ (length (get_or pairs t []) ≤ v)
          → lots_at (set lists t (set (get_or lists t []) v x)) ≡ row_entered pairs t v row (lots_at lists)
      go (inl h) = put_in lists t v x (omega (arith, as_many)) ∙ sym (cond-true (has_lot pairs t v) _ _ (lt-ltb v (length (get_or pairs t [])) h))
      go (inr h) =
          ap lots_at (put_out lists t v x (omega (arith, as_many))) ∙ sym (cond-false (has_lot pairs t v) _ _ (le-ltb v (length (get_or pairs t [])) h))

  pub lot_put : (new : stored.Table) (v : ℕ) (f : Lot → Lot) → f no_rows ≡ no_rows → lots_in new ≡ set (lots_in (get_or tables t d)) v (f (lot_at (lots_in (get_or tables t d)) v))
      → lots_at (map lots_in (set tables t new))
      ≡ put_lot (lots_at (map lots_in tables)) t v (f (lots_at (map lots_in tables) t v))
  lot_put new v f keeps e = ap lots_at (changed new v x (e ∙ ap (set (lots_in (get_or tables t d)) v) x_is)) ∙ go (cases_lt v (length (get_or lists t [])))
    where
      lists : List (List Lot)
      lists = map lots_in tables

      x : Lot
      x = f (lots_at (map lots_in tables) t v)

      x_is : f (lot_at (lots_in (get_or tables t d)) v) ≡ x
      x_is = ap (λ l. f (lot_at l v)) (sym (list_here lots_in))

      go : (v < length (get_or lists t [])) ⊎ (length (get_or lists t []) ≤ v) → lots_at (set lists t (set (get_or lists t []) v x)) ≡ put_lot (lots_at lists) t v x
      go (inl h) = put_in lists t v x h
      go (inr h) =
          ap lots_at (put_out lists t v x h) ∙ put_same (lots_at lists) t v x (ap f (none_at lists t v h) ∙ keeps ∙ sym (none_at lists t v h))

-- What a write to a vendor's lot makes of its table.
pub record Step (f : stored.Table → Lot) (v : ℕ) (x y : stored.Table) : Type 0 where
  pub lots : lots_in y ≡ set (lots_in x) v (f x)
  pub pairs : pairs_in y ≡ pairs_in x
  pub outside : OnlyIn (pair_at (pairs_in x) v) x.slots y.slots

-- One table has made such a step, if there is one at the place.
abbrev pub Stepped : (stored.Table → Lot) → (t v : ℕ) → (was is : List stored.Table) → Type 0
Stepped f t v was is =
    ((length was ≤ t) × (is ≡ was))
    ⊎ ((t < length was) × (x : stored.Table) × (y : stored.Table) × (x ≡ get_or was t x) × (is ≡ set was t y) × Step f v x y)

pub stepped : (f : stored.Table → Lot) (t v : ℕ) (was is : List stored.Table) → (length was ≤ t → is ≡ was)
    → (t < length was → (x : stored.Table) × (y : stored.Table) × (x ≡ get_or was t x) × (is ≡ set was t y) × Step f v x y) → Stepped f t v was is
stepped f t v was is past here = go (cases_lt t (length was))
  where
    go : (t < length was) ⊎ (length was ≤ t) → Stepped f t v was is
    go (inl low) = let h = here low in inr (low, h.0, h.1, h.2, h.3, h.4)
    go (inr high) = inl (high, past high)

pub pairs_stay : (f : stored.Table → Lot) (t v : ℕ) (was is : List stored.Table) → Stepped f t v was is → map pairs_in is ≡ map pairs_in was
pairs_stay f t v was is (inl h) = ap (map pairs_in) h.1
pairs_stay f t v was is (inr (low, x, y, at, set_is, step)) =
    ap (map pairs_in) set_is ∙ pairs_same was t x low y (step.pairs ∙ ap pairs_in at)

pub only_in_lot : (f : stored.Table → Lot) (t v : ℕ) (was is : List stored.Table) → Stepped f t v was is
    → OnlyInLot (map pairs_in was) t v (map slots_in was) (map slots_in is)
only_in_lot f t v was is (inl h) =
    subst (λ (ts : List stored.Table). OnlyInLot (map pairs_in was) t v (map slots_in was) (map slots_in ts)) (sym h.1)
    (record { tables = λ u ne. refl; slots = record { before = refl; behind = refl } })
only_in_lot f t v was is (inr (low, x, y, at, set_is, step)) =
    subst (λ (ts : List stored.Table). OnlyInLot (map pairs_in was) t v (map slots_in was) (map slots_in ts)) (sym set_is)
    (only_here was t x low y v (subst (λ (z : stored.Table). OnlyIn (pair_at (pairs_in z) v) (slots_in z) (slots_in y)) at step.outside))

pub row_entered_there : (row : List ℕ) (t v : ℕ) (was is : List stored.Table)
    → Stepped (λ x. enter_row (pair_at (pairs_in x) v).length row (lot_at (lots_in x) v)) t v was is
    → lots_at (map lots_in is) ≡ row_entered (map pairs_in was) t v row (lots_at (map lots_in was))
row_entered_there row t v was is (inl h) = ap (λ ts. lots_at (map lots_in ts)) h.1 ∙ nothing_entered was t h.0 v row
row_entered_there row t v was is (inr (low, x, y, at, set_is, step)) =
    ap (λ ts. lots_at (map lots_in ts)) set_is
    ∙ row_put was t x low y v row
    (step.lots ∙ ap (λ z. set (lots_in z) v (enter_row (pair_at (pairs_in z) v).length row (lot_at (lots_in z) v))) at)

pub put_there : (f : Lot → Lot) (t v : ℕ) (was is : List stored.Table) → f no_rows ≡ no_rows → Stepped (λ x. f (lot_at (lots_in x) v)) t v was is
    → lots_at (map lots_in is) ≡ put_lot (lots_at (map lots_in was)) t v (f (lots_at (map lots_in was) t v))
put_there f t v was is keeps (inl h) = ap (λ ts. lots_at (map lots_in ts)) h.1 ∙ nothing_put was t h.0 v f keeps
put_there f t v was is keeps (inr (low, x, y, at, set_is, step)) =
    ap (λ ts. lots_at (map lots_in ts)) set_is
    ∙ lot_put was t x low y v f keeps (step.lots ∙ ap (λ z. set (lots_in z) v (f (lot_at (lots_in z) v))) at)

-- What is found at a place of the tables.
pub table_found : (s : Store) (t : ℕ) (r : Option (Bor stored.Table)) → IsItemAt (held s.tables) t r → MatchOption r (NoTable s t) (λ x. TableOf s t x.now)
unfolding lots_of pairs_of
table_found s t None h = record {
  lots = λ v. ap (λ l. lot_at l v) (no_list (held s.tables) t h.3 lots_in);
  rooms = λ v. ap (λ l. (pair_at l v).length) (no_list (held s.tables) t h.3 pairs_in);
}
table_found s t (Some x) h = record {
  lots = λ v. ap (λ l. lot_at l v) (list_here (held s.tables) t x.now h.3.0 lots_in ∙ ap lots_in (sym h.1));
  rooms = λ v. ap (λ l. (pair_at l v).length) (list_here (held s.tables) t x.now h.3.0 pairs_in ∙ ap pairs_in (sym h.1));
}
