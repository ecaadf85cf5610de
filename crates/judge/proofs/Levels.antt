-- Names by their levels, as the rules' functions of the level.
use Rattle.std.proofs.Common.{◌≡◌, ℕ, suc, ◌+◌, ◌<◌, ◌≤◌, Bool, true, false, cond, eqb, ltb, ◌⊎◌, List, [], ◌∷◌, ◌++◌, length, get_or, sym, refl, ap, ◌∙◌, inl, inr, arith, add-one, length-append}
use mathlib.Core.Path.{fun_ext}
use Rattle.std.proofs.lemmas.List.{append-nil, get_or_append_left, get_or_past}
use Rattle.std.proofs.Math.ListN.{set}
use Rattle.std.proofs.Math.Seq.{get_or-append_seam, set-append_seam}
use Rattle.std.proofs.lemmas.Bool.{eqb-true, eqb-false, cases_lt, lt-ltb, le-ltb, cond-true, cond-false}
use Rattle.inplace.specs.Held.{held}
use Rattle.rules.specs.Lots.{upd}
use Rattle.rules.specs.Labels as rules
use Rattle.rules.specs.Evaluation as evaluation
use Rattle.judge.specs.declared.name.Name.{Name}
use Rattle.judge.specs.declared.name.Name.TheVariants.{Unknown, Open, Tagged, Turn, Cursor}
use Rattle.judge.specs.declared.standing.Standing.{Standing}
use Rattle.judge.specs.Names.{name_of, turn_vendor, scope_of, val_of, with_name}
use Rattle.judge.specs.Breaking.{index_vendor, indexes_below}

-- what is seen of the name at a level
abbrev seen : {B : Type 0} → (Name → B) → List Name → ℕ → B
seen f xs level = f (get_or xs level Unknown)

-- one name more is a change at the next level
one_more : {B : Type 0} (f : Name → B) (xs : List Name) (x : Name) → seen f (xs ++ x ∷ []) ≡ upd (seen f xs) (length xs) (f x)
one_more f xs x = fun_ext (λ j. go j (eqb j (length xs)) refl (cases_lt j (length xs)))
  where
    go : (j : ℕ) (b : Bool) → eqb j (length xs) ≡ b → (j < length xs) ⊎ (length xs ≤ j) → seen f (xs ++ x ∷ []) j ≡ cond b (f x) (seen f xs j)
    go j true e k = ap (λ n. f (get_or (xs ++ x ∷ []) n Unknown)) (eqb-true j (length xs) e) ∙ ap f (get_or-append_seam xs x [] Unknown)
    go j false e (inl h) = ap f (get_or_append_left xs (x ∷ []) Unknown j h)
    go j false e (inr h) =
        let other = eqb-false j (length xs) e in
        let past : length (xs ++ x ∷ []) ≤ j = omega (arith, length-append xs (x ∷ []), other) in
        ap f (get_or_past (xs ++ x ∷ []) j Unknown past ∙ sym (get_or_past xs j Unknown h))

abbrev pub scope_over : List Name → rules.Scope
scope_over xs = record { depth = length xs; names = seen name_of xs }

abbrev pub val_over : ℕ → List Name → evaluation.Valuation
val_over mine xs = record { mine = mine; indexes = seen turn_vendor xs }

pub scope_more : (xs : List Name) (x : Name) → scope_over (xs ++ x ∷ []) ≡ rules.enter (scope_over xs) (name_of x)
scope_more xs x =
    let longer : length (xs ++ x ∷ []) ≡ suc (length xs) = omega (arith, length-append xs (x ∷ [])) in
    λ i. record { depth = longer i; names = one_more name_of xs x i }

-- a change to what stands there already
same_there : (xs : List Name) → upd (seen turn_vendor xs) (length xs) 0 ≡ seen turn_vendor xs
same_there xs = fun_ext (λ j. go j (eqb j (length xs)) refl)
  where
    go : (j : ℕ) (b : Bool) → eqb j (length xs) ≡ b → cond b 0 (seen turn_vendor xs j) ≡ seen turn_vendor xs j
    go j true e = let past : length xs ≤ j = omega (arith, eqb-true j (length xs) e) in sym (ap turn_vendor (get_or_past xs j Unknown past))
    go j false e = refl

none_more : (mine : ℕ) (xs : List Name) (x : Name) → turn_vendor x ≡ 0 → val_over mine (xs ++ x ∷ []) ≡ val_over mine xs
none_more mine xs x none =
    let same = one_more turn_vendor xs x ∙ ap (upd (seen turn_vendor xs) (length xs)) none ∙ same_there xs in
    λ i. record { mine = mine; indexes = same i }

pub val_more : (mine : ℕ) (xs : List Name) (x : Name) → val_over mine (xs ++ x ∷ []) ≡ with_name (val_over mine xs) (length xs) x
val_more mine xs Unknown = none_more mine xs Unknown refl
val_more mine xs Open = none_more mine xs Open refl
val_more mine xs (Tagged family vendor) = none_more mine xs (Tagged family vendor) refl
val_more mine xs (Turn vendor) = λ i. record { mine = mine; indexes = one_more turn_vendor xs (Turn vendor) i }
val_more mine xs (Cursor lot) = none_more mine xs (Cursor lot) refl

-- a name past the end is none
pub name_there : (xs : List Name) (level : ℕ) → name_of (get_or xs level Unknown) ≡ rules.name_at (scope_over xs) level
name_there xs level = go (cases_lt level (length xs))
  where
    go : (level < length xs) ⊎ (length xs ≤ level) → name_of (get_or xs level Unknown) ≡ cond (ltb level (length xs)) (name_of (get_or xs level Unknown)) rules.Name.unknown
    go (inl h) = sym (cond-true _ _ _ (lt-ltb level (length xs) h))
    go (inr h) = ap name_of (get_or_past xs level Unknown h) ∙ sym (cond-false _ _ _ (le-ltb level (length xs) h))

-- a standing with one name more
pub entered_scope : (r s : Standing) (x : Name) → held r.names ≡ held s.names ++ x ∷ [] → scope_of r ≡ rules.enter (scope_of s) (name_of x)
unfolding scope_of
entered_scope r s x e = ap scope_over e ∙ scope_more (held s.names) x

pub entered_val : (r s : Standing) (x : Name) → r.mine ≡ s.mine → held r.names ≡ held s.names ++ x ∷ [] → val_of r ≡ with_name (val_of s) (scope_of s).depth x
unfolding val_of scope_of
entered_val r s x same e = (λ i. val_over (same i) (e i)) ∙ val_more s.mine (held s.names) x

-- another name in the place of the newest
pub turned : (xs ys : List Name) (was is : Name) → ys ≡ xs ++ was ∷ [] → set ys (length xs) is ≡ xs ++ is ∷ []
turned xs ys was is e = ap (λ zs. set zs (length xs) is) e ∙ set-append_seam xs was [] is

pub turned_val : (r s : Standing) (v : ℕ) → r.mine ≡ s.mine → held r.names ≡ held s.names ++ Turn v ∷ [] → val_of r ≡ evaluation.put_index (val_of s) (scope_of s).depth v
turned_val r s v same e = entered_val r s (Turn v) same e

-- The vendors of the indexes below a level.
module _ (s : Standing) where
  abbrev below : ℕ → List ℕ
  below n = indexes_below (scope_of s) (val_of s) n

  abbrev at : ℕ → Name
  at n = get_or (held s.names) n Unknown

  pub turn_below : (n v : ℕ) → at n ≡ Turn v → below (n + 1) ≡ below n ++ v ∷ []
  unfolding scope_of val_of
  turn_below n v e = ap below (add-one n) ∙ ap (λ x. below n ++ index_vendor (name_of x) (turn_vendor x)) e

  none : (x : Name) → ((v : ℕ) → x ≡ Turn v → ⊥) → index_vendor (name_of x) (turn_vendor x) ≡ []
  none Unknown other = refl
  none Open other = refl
  none (Tagged family vendor) other = refl
  none (Turn vendor) other = absurd (other vendor refl)
  none (Cursor lot) other = refl

  pub none_below : (n : ℕ) → ((v : ℕ) → at n ≡ Turn v → ⊥) → below (n + 1) ≡ below n
  unfolding scope_of val_of
  none_below n other = ap below (add-one n) ∙ ap (λ ys. below n ++ ys) (none (at n) other) ∙ append-nil (below n)
