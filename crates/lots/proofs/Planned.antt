-- The store of a sound plan.
use Rattle.std.proofs.Common.{◌≡◌, ℕ, zero, suc, ◌<◌, ◌≤◌, true, not, ◌&&◌, eqb, leb, List, [], ◌∷◌, ◌++◌, map, length, get_or, take, sym, refl, ap, ◌∙◌, subst, arith}
use lib.ListN.{length-map}
use Rattle.std.proofs.lemmas.Bool.{and_parts, leb-true, eqb-true}
use Rattle.std.proofs.lemmas.List.{map_push, get_or-map, take_all}
use Rattle.rules.specs.Pairs.{Pair, laid}
use Rattle.rules.specs.Plans.{Plan, Table, sound, sound_table, sound_tables, families_above}
use Rattle.rules.specs.Lots.{Lot, no_rows}
use Rattle.layout.specs.declared.table.Table as coded
use Rattle.layout.specs.Tables.{table_of}
use Rattle.lots.specs.declared.table.Table as stored
use Rattle.lots.specs.Lots.{lot_at}
use Rattle.lots.specs.Tables.{lots_in}
use Rattle.lots.specs.Stores.{lots_at, plan_pairs}

sound_at : (vendors : ℕ) (ts : List Table) (i : ℕ) (d : Table) → sound_tables vendors ts ≡ true → i < length ts → sound_table vendors (get_or ts i d) ≡ true
sound_at vendors [] i d h l = absurd (omega arith)
sound_at vendors (t ∷ ts) zero d h l = (and_parts (sound_table vendors t) (sound_tables vendors ts) h).0
sound_at vendors (t ∷ ts) (suc i) d h l = sound_at vendors ts i d (and_parts (sound_table vendors t) (sound_tables vendors ts) h).1 (omega arith)

-- What the tables of a sound plan keep.
module _ (plan : Plan) (is_sound : sound plan ≡ true) where
  some_limits : (leb plan.vendors 32 && (leb (length plan.tables) 4 && sound_tables plan.vendors plan.tables)) ≡ true
  some_limits = (and_parts (leb 1 plan.vendors) _ is_sound).1

  few_vendors : plan.vendors ≤ 32
  few_vendors = leb-true plan.vendors 32 (and_parts (leb plan.vendors 32) _ some_limits).0

  table_limits : (leb (length plan.tables) 4 && sound_tables plan.vendors plan.tables) ≡ true
  table_limits = (and_parts (leb plan.vendors 32) _ some_limits).1

  pub few_tables : (ts : List coded.Table) → map table_of ts ≡ plan.tables → length ts ≤ 4
  few_tables ts is =
      let few = leb-true (length plan.tables) 4 (and_parts (leb (length plan.tables) 4) _ table_limits).0 in
      let same : length ts ≡ length plan.tables = sym (length-map ts table_of) ∙ ap length is in
      omega arith

  -- one pair for each vendor, under the rule
  one : (i : ℕ) (d : Table) → i < length plan.tables → (length (get_or plan.tables i d).lots ≡ plan.vendors) × (laid 0 256 (get_or plan.tables i d).lots ≡ true)
  one i d l =
      let t = get_or plan.tables i d in
      let a = sound_at plan.vendors plan.tables i d (and_parts (leb (length plan.tables) 4) _ table_limits).1 l in
      let b = (and_parts (leb 1 (length t.columns)) _ a).1 in
      let e = (and_parts (leb (length t.columns) 4) _ b).1 in
      let f = (and_parts (leb t.row 3) _ e).1 in
      let h = (and_parts (not (families_above t.columns)) _ f).1 in
      let k = and_parts (eqb (length t.lots) plan.vendors) (laid 0 256 t.lots) h in
      (eqb-true (length t.lots) plan.vendors k.0, k.1)

  pub lots_of_vendors : (i : ℕ) (d : Table) → i < length plan.tables → length (get_or plan.tables i d).lots ≡ plan.vendors
  lots_of_vendors i d l = (one i d l).0

  pub table_keeps : (ts : List coded.Table) → map table_of ts ≡ plan.tables → (i : ℕ) (x : coded.Table) → i < length ts → x ≡ get_or ts i x
      → (length (table_of x).lots ≤ 32) × (laid 0 256 (table_of x).lots ≡ true)
  table_keeps ts is i x l e =
      let low : i < length plan.tables = subst (λ (zs : List Table). i < length zs) is (simp length-map l) in
      let at : get_or plan.tables i (table_of x) ≡ table_of x =
      ap (λ (zs : List Table). get_or zs i (table_of x)) (sym is) ∙ get_or-map table_of ts i x (table_of x) l ∙ ap table_of (sym e) in
      let both = one i (table_of x) low in
      let few : length (get_or plan.tables i (table_of x)).lots ≤ 32 = omega (arith, both.0, few_vendors) in
      (subst (λ (t : Table). length t.lots ≤ 32) at few, subst (λ (t : Table). laid 0 256 t.lots ≡ true) at both.1)

-- One more table of empty lots.
none_in : {X : Type 0} (xs : List X) (v : ℕ) → lot_at (map (λ _. no_rows) xs) v ≡ no_rows
none_in [] v = refl
none_in (x ∷ xs) zero = refl
none_in (x ∷ xs) (suc v) = none_in xs v

none_pushed : (ls : List (List Lot)) (l : List Lot) → ((t v : ℕ) → lots_at ls t v ≡ no_rows) → ((v : ℕ) → lot_at l v ≡ no_rows) → (t v : ℕ) → lots_at (ls ++ l ∷ []) t v ≡ no_rows
none_pushed [] l h k zero v = k v
none_pushed [] l h k (suc t) v = refl
none_pushed (x ∷ xs) l h k zero v = h 0 v
none_pushed (x ∷ xs) l h k (suc t) v = none_pushed xs l (λ u w. h (suc u) w) k t v

-- One more table, whose lots have no row.
pub none_more : {X : Type 0} (was is : List stored.Table) (new : stored.Table) (xs : List X) → is ≡ was ++ new ∷ []
    → ((t v : ℕ) → lots_at (map lots_in was) t v ≡ no_rows) → lots_in new ≡ map (λ _. no_rows) xs → (t v : ℕ) → lots_at (map lots_in is) t v ≡ no_rows
none_more was is new xs grown before here t v =
    ap (λ (ls : List (List Lot)). lots_at ls t v) (ap (map lots_in) grown ∙ map_push lots_in was new)
    ∙ none_pushed (map lots_in was) (lots_in new) before (λ w. ap (λ (l : List Lot). lot_at l w) here ∙ none_in xs w) t v

pub pairs_all : (plan : Plan) (ts : List coded.Table) (i : ℕ) → map table_of ts ≡ plan.tables → length ts ≤ i → map (λ t. (table_of t).lots) (take i ts) ≡ plan_pairs plan
pairs_all plan ts i is l =
    ap (map (λ t. (table_of t).lots)) (take_all i ts l) ∙ twice ts ∙ ap (map (λ (t : Table). t.lots)) is
  where
    twice : (us : List coded.Table) → map (λ t. (table_of t).lots) us ≡ map (λ (t : Table). t.lots) (map table_of us)
    twice us = elim us as (λ zs. map (λ t. (table_of t).lots) zs ≡ map (λ (t : Table). t.lots) (map table_of zs)) [ [] ↦ refl | u ∷ (zs → ih) ↦ ap (λ (r : List (List Pair)). (table_of u).lots ∷ r) ih ]
