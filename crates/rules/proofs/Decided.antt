-- The verdict on two lists of calls is agreement.
use Rattle.std.proofs.Common.{◌≡◌, ℕ, zero, suc, ◌+◌, ◌<◌, Bool, true, false, not, ◌&&◌, ◌||◌, eqb, ltb, ◌⊎◌, List, [], ◌∷◌, length, get_or, sym, refl, ap, ◌∙◌, subst, ap₂, inl, inr, arith}
use Rattle.std.specs.List.{AllZip}
use Rattle.std.proofs.lemmas.Bool.{and_parts, and_from, eqb-true, eq-eqb, or_cases, or_left, or_right, not-true, lt-ltb, ltb-true, true≢false}
use Rattle.lattice.specs.Order.{Order}
use Rattle.rules.specs.Plans.{Plan}
use Rattle.rules.specs.Lots.{width}
use Rattle.rules.specs.Labels.{cell_label}
use Rattle.rules.specs.Calls.{Call}
use Rattle.rules.specs.Calls.Call.{post, admit, run, look, count, meter}
use Rattle.rules.specs.Agreement.{lot_exists, strike, Alike}
use Rattle.rules.specs.Agreement.Alike.{equal, posts}
use Rattle.rules.specs.Deciding

same_sound : (xs ys : List ℕ) → Deciding.same_numbers xs ys ≡ true → xs ≡ ys
same_sound [] [] h = refl
same_sound [] (y ∷ ys) h = absurd (true≢false (sym h))
same_sound (x ∷ xs) [] h = absurd (true≢false (sym h))
same_sound (x ∷ xs) (y ∷ ys) h =
    let p = and_parts (eqb x y) (Deciding.same_numbers xs ys) h in
    ap₂ (λ z zs. z ∷ zs) (eqb-true x y p.0) (same_sound xs ys p.1)

same_refl : (xs : List ℕ) → Deciding.same_numbers xs xs ≡ true
same_refl [] = refl
same_refl (x ∷ xs) = and_from (eqb x x) (Deciding.same_numbers xs xs) (eq-eqb x x refl) (same_refl xs)

module _ (o : Order) (plan : Plan) (s t v : ℕ) where
  -- the cells of two lists of values that are seen, from a column on
  abbrev Cells : ℕ → List ℕ → List ℕ → Type 0
  Cells from xs ys = (column : ℕ) → Deciding.seen_cell o plan s t v (from + column) ≡ true → get_or xs column 0 ≡ get_or ys column 0

  values_sound : (from : ℕ) (xs ys : List ℕ) → Deciding.same_values o plan s t v from xs ys ≡ true → (length xs ≡ length ys) × Cells from xs ys
  values_sound from [] [] h = (refl, λ column seen. refl)
  values_sound from [] (y ∷ ys) h = absurd (true≢false (sym h))
  values_sound from (x ∷ xs) [] h = absurd (true≢false (sym h))
  values_sound from (x ∷ xs) (y ∷ ys) h =
      let p = and_parts (eqb x y || not (Deciding.seen_cell o plan s t v from)) (Deciding.same_values o plan s t v (suc from) xs ys) h in
      let rest = values_sound (suc from) xs ys p.1 in
      (ap suc rest.0, go p.0 rest.1)
    where
      first : (eqb x y || not (Deciding.seen_cell o plan s t v from)) ≡ true → Deciding.seen_cell o plan s t v from ≡ true → x ≡ y
      first e seen = pick (or_cases (eqb x y) (not (Deciding.seen_cell o plan s t v from)) e)
        where
          pick : (eqb x y ≡ true) ⊎ (not (Deciding.seen_cell o plan s t v from) ≡ true) → x ≡ y
          pick (inl q) = eqb-true x y q
          pick (inr q) = absurd (true≢false (sym seen ∙ not-true (Deciding.seen_cell o plan s t v from) q))

      go : (eqb x y || not (Deciding.seen_cell o plan s t v from)) ≡ true → Cells (suc from) xs ys → Cells from (x ∷ xs) (y ∷ ys)
      go e rest zero seen = first e (ap (Deciding.seen_cell o plan s t v) (omega arith) ∙ seen)
      go e rest (suc column) seen = rest column (ap (Deciding.seen_cell o plan s t v) (omega arith) ∙ seen)

  values_complete : (from : ℕ) (xs ys : List ℕ) → length xs ≡ length ys → Cells from xs ys → Deciding.same_values o plan s t v from xs ys ≡ true
  values_complete from [] [] l c = refl
  values_complete from [] (y ∷ ys) l c = absurd (omega arith)
  values_complete from (x ∷ xs) [] l c = absurd (omega arith)
  values_complete from (x ∷ xs) (y ∷ ys) l c =
      and_from (eqb x y || not (Deciding.seen_cell o plan s t v from)) (Deciding.same_values o plan s t v (suc from) xs ys)
      (go (Deciding.seen_cell o plan s t v from) refl)
      (values_complete (suc from) xs ys (omega arith) (λ column seen. c (suc column) (ap (Deciding.seen_cell o plan s t v) (omega arith) ∙ seen)))
    where
      go : (b : Bool) → Deciding.seen_cell o plan s t v from ≡ b → (eqb x y || not b) ≡ true
      go true e = or_left (eqb x y) false (eq-eqb x y (c zero (ap (Deciding.seen_cell o plan s t v) (omega arith) ∙ e)))
      go false e = or_right (eqb x y) true refl

  seen_parts : (column : ℕ) → Deciding.seen_cell o plan s t v column ≡ true
      → (lot_exists plan t v ≡ true) × (column < width plan t) × (o.below (cell_label o plan t v column) s ≡ true)
  seen_parts column h =
      let p = and_parts (lot_exists plan t v) (ltb column (width plan t) && o.below (cell_label o plan t v column) s) h in
      let q = and_parts (ltb column (width plan t)) (o.below (cell_label o plan t v column) s) p.1 in
      (p.0, ltb-true column (width plan t) q.0, q.1)

  seen_from : (column : ℕ) → lot_exists plan t v ≡ true → column < width plan t → o.below (cell_label o plan t v column) s ≡ true
      → Deciding.seen_cell o plan s t v column ≡ true
  seen_from column e w b =
      and_from (lot_exists plan t v) (ltb column (width plan t) && o.below (cell_label o plan t v column) s) e
      (and_from (ltb column (width plan t)) (o.below (cell_label o plan t v column) s) (lt-ltb column (width plan t) w) b)

module _ (o : Order) (plan : Plan) (s : ℕ) where
  -- a call that is equal to another stands beside it
  by_equal : (c d : Call) → c ≡ d → Alike o plan s c d
  by_equal c d e = subst (Alike o plan s c) e (equal c)

  like_post_sound : (t v : ℕ) (xs : List ℕ) (d : Call) → Deciding.like_post o plan s t v xs d ≡ true → Alike o plan s (post t v xs) d
  like_post_sound t v xs (post u w ys) h =
      let p = and_parts (eqb t u) (eqb v w && Deciding.same_values o plan s t v 0 xs ys) h in
      let q = and_parts (eqb v w) (Deciding.same_values o plan s t v 0 xs ys) p.1 in
      let r = values_sound o plan s t v 0 xs ys q.1 in
      let beside : Alike o plan s (post t v xs) (post t v ys) =
      posts t v xs ys r.0 (λ column e l b. r.1 column (ap (Deciding.seen_cell o plan s t v) (omega arith) ∙ seen_from o plan s t v column e l b)) in
      subst (λ n. Alike o plan s (post t v xs) (post n w ys)) (eqb-true t u p.0)
      (subst (λ n. Alike o plan s (post t v xs) (post t n ys)) (eqb-true v w q.0) beside)
  like_post_sound t v xs (admit slot text) h = absurd (true≢false (sym h))
  like_post_sound t v xs (run slot w) h = absurd (true≢false (sym h))
  like_post_sound t v xs (look clearance u w place column) h = absurd (true≢false (sym h))
  like_post_sound t v xs (count clearance u w) h = absurd (true≢false (sym h))
  like_post_sound t v xs (meter clearance) h = absurd (true≢false (sym h))

  like_admit_sound : (slot : ℕ) (text : List ℕ) (d : Call) → Deciding.like_admit slot text d ≡ true → admit slot text ≡ d
  like_admit_sound slot text (post t v values) h = absurd (true≢false (sym h))
  like_admit_sound slot text (admit other letters) h =
      let p = and_parts (eqb slot other) (Deciding.same_numbers text letters) h in
      ap₂ admit (eqb-true slot other p.0) (same_sound text letters p.1)
  like_admit_sound slot text (run other v) h = absurd (true≢false (sym h))
  like_admit_sound slot text (look clearance t v place column) h = absurd (true≢false (sym h))
  like_admit_sound slot text (count clearance t v) h = absurd (true≢false (sym h))
  like_admit_sound slot text (meter clearance) h = absurd (true≢false (sym h))

  like_run_sound : (slot v : ℕ) (d : Call) → Deciding.like_run slot v d ≡ true → run slot v ≡ d
  like_run_sound slot v (post t w values) h = absurd (true≢false (sym h))
  like_run_sound slot v (admit other text) h = absurd (true≢false (sym h))
  like_run_sound slot v (run other w) h =
      let p = and_parts (eqb slot other) (eqb v w) h in ap₂ run (eqb-true slot other p.0) (eqb-true v w p.1)
  like_run_sound slot v (look clearance t w place column) h = absurd (true≢false (sym h))
  like_run_sound slot v (count clearance t w) h = absurd (true≢false (sym h))
  like_run_sound slot v (meter clearance) h = absurd (true≢false (sym h))

  like_look_sound : (c t v p k : ℕ) (d : Call) → Deciding.like_look (c ∷ t ∷ v ∷ p ∷ k ∷ []) d ≡ true → look c t v p k ≡ d
  like_look_sound c t v p k (post u w values) h = absurd (true≢false (sym h))
  like_look_sound c t v p k (admit slot text) h = absurd (true≢false (sym h))
  like_look_sound c t v p k (run slot w) h = absurd (true≢false (sym h))
  like_look_sound c t v p k (look clearance u w place column) h =
      let e = same_sound (c ∷ t ∷ v ∷ p ∷ k ∷ []) (clearance ∷ u ∷ w ∷ place ∷ column ∷ []) h in
      ap (λ xs. look (get_or xs 0 0) (get_or xs 1 0) (get_or xs 2 0) (get_or xs 3 0) (get_or xs 4 0)) e
  like_look_sound c t v p k (count clearance u w) h = absurd (true≢false (sym h))
  like_look_sound c t v p k (meter clearance) h = absurd (true≢false (sym h))

  like_count_sound : (c t v : ℕ) (d : Call) → Deciding.like_count (c ∷ t ∷ v ∷ []) d ≡ true → count c t v ≡ d
  like_count_sound c t v (post u w values) h = absurd (true≢false (sym h))
  like_count_sound c t v (admit slot text) h = absurd (true≢false (sym h))
  like_count_sound c t v (run slot w) h = absurd (true≢false (sym h))
  like_count_sound c t v (look clearance u w place column) h = absurd (true≢false (sym h))
  like_count_sound c t v (count clearance u w) h =
      let e = same_sound (c ∷ t ∷ v ∷ []) (clearance ∷ u ∷ w ∷ []) h in
      ap (λ xs. count (get_or xs 0 0) (get_or xs 1 0) (get_or xs 2 0)) e
  like_count_sound c t v (meter clearance) h = absurd (true≢false (sym h))

  like_meter_sound : (c : ℕ) (d : Call) → Deciding.like_meter c d ≡ true → meter c ≡ d
  like_meter_sound c (post t v values) h = absurd (true≢false (sym h))
  like_meter_sound c (admit slot text) h = absurd (true≢false (sym h))
  like_meter_sound c (run slot v) h = absurd (true≢false (sym h))
  like_meter_sound c (look other t v place column) h = absurd (true≢false (sym h))
  like_meter_sound c (count other t v) h = absurd (true≢false (sym h))
  like_meter_sound c (meter other) h = ap meter (eqb-true c other h)

  alike_sound : (c d : Call) → Deciding.alike o plan s c d ≡ true → Alike o plan s c d
  alike_sound (post t v xs) d h = like_post_sound t v xs d h
  alike_sound (admit slot text) d h = by_equal (admit slot text) d (like_admit_sound slot text d h)
  alike_sound (run slot v) d h = by_equal (run slot v) d (like_run_sound slot v d h)
  alike_sound (look c t v p k) d h = by_equal (look c t v p k) d (like_look_sound c t v p k d h)
  alike_sound (count c t v) d h = by_equal (count c t v) d (like_count_sound c t v d h)
  alike_sound (meter c) d h = by_equal (meter c) d (like_meter_sound c d h)

  posts_alike : (t v : ℕ) (xs ys : List ℕ) → length xs ≡ length ys → Cells o plan s t v 0 xs ys → Deciding.like_post o plan s t v xs (post t v ys) ≡ true
  posts_alike t v xs ys l c =
      and_from (eqb t t) (eqb v v && Deciding.same_values o plan s t v 0 xs ys) (eq-eqb t t refl)
      (and_from (eqb v v) (Deciding.same_values o plan s t v 0 xs ys) (eq-eqb v v refl) (values_complete o plan s t v 0 xs ys l c))

  alike_self : (c : Call) → Deciding.alike o plan s c c ≡ true
  alike_self (post t v xs) = posts_alike t v xs xs refl (λ column seen. refl)
  alike_self (admit slot text) = and_from (eqb slot slot) (Deciding.same_numbers text text) (eq-eqb slot slot refl) (same_refl text)
  alike_self (run slot v) = and_from (eqb slot slot) (eqb v v) (eq-eqb slot slot refl) (eq-eqb v v refl)
  alike_self (look c t v p k) = same_refl (c ∷ t ∷ v ∷ p ∷ k ∷ [])
  alike_self (count c t v) = same_refl (c ∷ t ∷ v ∷ [])
  alike_self (meter c) = eq-eqb c c refl

  alike_complete : (c d : Call) → Alike o plan s c d → Deciding.alike o plan s c d ≡ true
  alike_complete c d (equal call) = alike_self call
  alike_complete c d (posts t v xs ys l cells) =
      posts_alike t v xs ys l (λ column seen.
      let p = seen_parts o plan s t v column (ap (Deciding.seen_cell o plan s t v) (omega arith) ∙ seen) in cells column p.0 p.1 p.2)

  all_sound : (cs ds : List Call) → Deciding.all_alike o plan s cs ds ≡ true → AllZip (Alike o plan s) cs ds
  all_sound [] [] h = tt
  all_sound [] (d ∷ ds) h = true≢false (sym h)
  all_sound (c ∷ cs) [] h = true≢false (sym h)
  all_sound (c ∷ cs) (d ∷ ds) h =
      let p = and_parts (Deciding.alike o plan s c d) (Deciding.all_alike o plan s cs ds) h in (alike_sound c d p.0, all_sound cs ds p.1)

  all_complete : (cs ds : List Call) → AllZip (Alike o plan s) cs ds → Deciding.all_alike o plan s cs ds ≡ true
  all_complete [] [] e = refl
  all_complete [] (d ∷ ds) e = absurd e
  all_complete (c ∷ cs) [] e = absurd e
  all_complete (c ∷ cs) (d ∷ ds) e =
      and_from (Deciding.alike o plan s c d) (Deciding.all_alike o plan s cs ds) (alike_complete c d e.0) (all_complete cs ds e.1)

pub agreement_is_decided : Deciding.AgreementIsDecided
agreement_is_decided o plan s left right =
    (all_sound o plan s (strike o plan s left) (strike o plan s right), all_complete o plan s (strike o plan s left) (strike o plan s right))
