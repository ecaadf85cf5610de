-- The laws of names in scope.
use Rattle.std.proofs.Common.{◌≡◌, ℕ, suc, ◌-◌, ◌<◌, Bool, true, false, not, ◌&&◌, leb, List, [], ◌∷◌, ◌++◌, length, get_or, is_some, Some, Ok, sym, refl, ap, ◌∙◌, subst, ⊎_elim, arith, length-append}
use Rattle.std.proofs.lemmas.Grind.{common_steps}
use Rattle.std.proofs.lemmas.Bool.Decides.{nat_tests}
use Rattle.std.specs.Str.{bytes_eq}
use Rattle.std.proofs.lemmas.Slice.Eq.{bytes_eq-Decides}
use Rattle.std.proofs.lemmas.List.{drop_at}
use Rattle.std.proofs.lemmas.Bool.{and_parts, and_from, not-true, not_from_false, le-leb, leb-false, both_ways, cases_eq}
use Rattle.rules.specs.declared.refusal.Refusal.TheVariants.{NameTaken, LimitPassed}
use Rattle.rules.specs.Guards.{guard}
use Rattle.grammar.specs.Spelling.{this_or}
use Rattle.grammar.specs.Scopes.{Named, Scope, There, look_up, in_scope, most_names, make, at_level, distinct, sound, NewestIsFound, OthersStay, FoundNamesAreThere, FreshNamesKeepScopesSound, EveryNameIsFound, LeavingForgets}

same_self : (word : List ℕ) → bytes_eq word word ≡ true
same_self word = (bytes_eq-Decides word word).1 refl

apart : (word other : List ℕ) → (other ≡ word → ⊥) → bytes_eq other word ≡ false
apart word other differ = grind (arith, bytes_eq-Decides other word, differ)

pub newest_is_found : NewestIsFound
newest_is_found word kind scope =
    ap (λ t. this_or t (record { kind = kind; level = length scope }) (look_up word scope)) (same_self word)

pub others_stay : OthersStay
others_stay word other kind scope differ =
    ap (λ t. this_or t (record { kind = kind; level = length scope }) (look_up other scope)) (apart word other differ)

-- a name made before the newest
older : (n : Named) (scope : Scope) (level : ℕ) (none : Named) → level < length scope → at_level level (n ∷ scope) none ≡ at_level level scope none
older n scope level none h = grind (arith, common_steps, nat_tests)

pub found_names_are_there : FoundNamesAreThere
found_names_are_there word [] b e = let z : ◌≡◌ {A = ℕ} 0 1 = cc in absurd (omega arith)
found_names_are_there word (n ∷ scope) b e = go (bytes_eq word n.letters) refl e (found_names_are_there word scope b)
  where
    go : (t : Bool) → bytes_eq word n.letters ≡ t
        → this_or (bytes_eq word n.letters) (record { kind = n.kind; level = length scope }) (look_up word scope) ≡ Some b
        → (look_up word scope ≡ Some b → There word scope b) → There word (n ∷ scope) b
    go true p h rest =
        let newest : Some (record { kind = n.kind; level = length scope }) ≡ Some b = rw p at h in
        let same : record { kind = n.kind; level = length scope } ≡ b = cc in
        let written = (bytes_eq-Decides word n.letters).0 p in
        let front : suc (length scope) - 1 - length scope ≡ 0 = omega arith in
        subst (There word (n ∷ scope)) same (record {
          inside = omega arith;
          named = λ none. ap (λ i. get_or (n ∷ scope) i none) front ∙ (λ i. record { letters = sym written i; kind = n.kind });
        })
    go false p h rest =
        let there = rest (rw p at h) in
        record { inside = omega (arith, there.inside); named = λ none. older n scope b.level none there.inside ∙ there.named none }

pub leaving_forgets : LeavingForgets
leaving_forgets inner outer =
    drop_at inner outer (length (inner ++ outer) - length outer) (omega (arith, length-append inner outer))

pub fresh_names_keep_scopes_sound : FreshNamesKeepScopesSound
fresh_names_keep_scopes_sound place word kind scope h fresh = go (in_scope word scope) refl (leb most_names (length scope)) refl
  where
    chain : (x y : Bool) → in_scope word scope ≡ x → leb most_names (length scope) ≡ y
        → guard {A = Unit {0}} x (NameTaken place) (guard y (LimitPassed place) (Ok tt)) ≡ Ok tt
    chain x y p q = sym (λ i. guard {A = Unit {0}} (p i) (NameTaken place) (guard (q i) (LimitPassed place) (Ok tt))) ∙ fresh

    go : (x : Bool) → in_scope word scope ≡ x → (y : Bool) → leb most_names (length scope) ≡ y → sound (make word kind scope) ≡ true
    go true p y q = let never = chain true y p q in cc
    go false p true q = let never = chain false true p q in cc
    go false p false q =
        let parts = and_parts (leb (length scope) most_names) (distinct scope) h in
        and_from (leb (suc (length scope)) most_names) (not (in_scope word scope) && distinct scope)
        (le-leb (suc (length scope)) most_names (leb-false most_names (length scope) q))
        (and_from (not (in_scope word scope)) (distinct scope) (not_from_false (in_scope word scope) p) parts.1)

pub every_name_is_found : EveryNameIsFound
every_name_is_found [] d level h none = absurd (omega arith)
every_name_is_found (n ∷ scope) d level h none = ⊎_elim newest (earlier (every_name_is_found scope parts.1 level)) (cases_eq level (length scope))
  where
    parts : (not (in_scope n.letters scope) ≡ true) × (distinct scope ≡ true)
    parts = and_parts (not (in_scope n.letters scope)) (distinct scope) d

    newest : level ≡ length scope
        → look_up (at_level level (n ∷ scope) none).letters (n ∷ scope) ≡ Some (record { kind = (at_level level (n ∷ scope) none).kind; level = level })
    newest e =
        let front : suc (length scope) - 1 - level ≡ 0 = omega arith in
        let here : at_level level (n ∷ scope) none ≡ n = ap (λ i. get_or (n ∷ scope) i none) front in
        ap (λ m. look_up m.letters (n ∷ scope)) here ∙ newest_is_found n.letters n.kind scope
        ∙ (λ i. Some (record { kind = (sym here i).kind; level = sym e i }))

    earlier : (level < length scope → (d' : Named) → look_up (at_level level scope d').letters scope ≡ Some (record { kind = (at_level level scope d').kind; level = level }))
        → (level ≡ length scope → ⊥)
        → look_up (at_level level (n ∷ scope) none).letters (n ∷ scope) ≡ Some (record { kind = (at_level level (n ∷ scope) none).kind; level = level })
    earlier rest differ =
        let low : level < length scope = omega (arith, differ) in
        let same = older n scope level none low in
        let found = rest low none in
        let apart_from : (at_level level scope none).letters ≡ n.letters → ⊥
        = λ alike. both_ways (in_scope n.letters scope) (not-true (in_scope n.letters scope) parts.0) (sym (ap (λ w. in_scope w scope) alike) ∙ ap is_some found) in
        ap (λ m. look_up m.letters (n ∷ scope)) same
        ∙ others_stay n.letters (at_level level scope none).letters n.kind scope apart_from
        ∙ found ∙ sym (ap (λ m. Some (record { kind = m.kind; level = level })) same)
