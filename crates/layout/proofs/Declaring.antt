-- What the checks of a declaration come to: each refusal on its condition, and what an accepted one leaves.
use Rattle.std.proofs.Common.{◌≡◌, ℕ, ◌+◌, ◌<◌, ◌≤◌, Bool, true, false, not, ◌&&◌, leb, List, [], ◌∷◌, ◌++◌, length, Ok, Err, Result, refl, arith, length-append}
use Rattle.std.proofs.lemmas.Bool.{and_from, and_parts, lt-ltb}
use Rattle.std.proofs.lemmas.Bool.Decides.{nat_tests}
use Rattle.rules.specs.declared.refusal.Refusal.{Refusal}
use Rattle.rules.specs.declared.refusal.Refusal.TheVariants.{VendorCountFixed}
use Rattle.rules.specs.Guards.{guard, answer, after}
use Rattle.rules.specs.Plans.{Plan, Table, set_vendors, declare, no_room, wrong_columns, wrong_families, wrong_count, wrong_pairs, with_table, sound, sound_table, sound_tables}

-- What is left of a declaration whose checks all pass.
accepted : (p : Plan) (t : Table) → no_room p ≡ false → wrong_columns t.columns ≡ false → wrong_families t.row t.columns ≡ false
    → wrong_count p t.lots ≡ false → wrong_pairs t.lots ≡ false → declare p t ≡ Ok (with_table p t)
accepted p t a b c d e = rw (a, b, c, d, e)

-- A count that comes after a table.
pub counted_late : (p : Plan) (n : ℕ) → 1 ≤ n → n ≤ 32 → 0 < length p.tables → set_vendors p n ≡ Err VendorCountFixed
counted_late p n h k l =
    let fine : not (leb 1 n && leb n 32) ≡ false = grind (arith, nat_tests) in
    rw (fine, lt-ltb 0 (length p.tables) l)

-- A refused call leaves what there was.
pub refused_after : {A : Type 0} (was : A) (r : Result A Refusal) (why : Refusal) → answer r ≡ Err why → after was r ≡ was
refused_after was (Ok new) why e = let z : ◌≡◌ {A = ℕ} 0 1 = cc in absurd (omega arith)
refused_after was (Err w) why e = refl

-- An accepted check was not refused on its own condition, and the rest was accepted.
guard_passed : {A : Type 0} (b : Bool) (why : Refusal) (rest : Result A Refusal) → answer (guard b why rest) ≡ Ok tt
    → (b ≡ false) × (answer rest ≡ Ok tt)
guard_passed true why rest e = let z : ◌≡◌ {A = ℕ} 0 1 = cc in absurd (omega arith)
guard_passed false why rest e = (refl, e)

-- What is known of an accepted declaration.
pub record Accepted (p : Plan) (t : Table) : Type 0 where
  pub few : no_room p ≡ false
  pub columns : wrong_columns t.columns ≡ false
  pub families : wrong_families t.row t.columns ≡ false
  pub pairs : wrong_count p t.lots ≡ false
  pub rule : wrong_pairs t.lots ≡ false
  pub result : declare p t ≡ Ok (with_table p t)

pub was_accepted : (p : Plan) (t : Table) → answer (declare p t) ≡ Ok tt → Accepted p t
was_accepted p t h =
    let a = guard_passed (no_room p) _ _ h in
    let b = guard_passed (wrong_columns t.columns) _ _ a.1 in
    let c = guard_passed (wrong_families t.row t.columns) _ _ b.1 in
    let d = guard_passed (wrong_count p t.lots) _ _ c.1 in
    let e = guard_passed (wrong_pairs t.lots) _ _ d.1 in
    record {
      few = a.0;
      columns = b.0;
      families = c.0;
      pairs = d.0;
      rule = e.0;
      result = accepted p t a.0 b.0 c.0 d.0 e.0;
    }

sound_push : (v : ℕ) (ts : List Table) (t : Table) → sound_tables v ts ≡ true → sound_table v t ≡ true → sound_tables v (ts ++ t ∷ []) ≡ true
sound_push v [] t h k = and_from (sound_table v t) true k refl
sound_push v (u ∷ us) t h k =
    let a = and_parts (sound_table v u) (sound_tables v us) h in
    and_from (sound_table v u) (sound_tables v (us ++ t ∷ [])) a.0 (sound_push v us t a.1 k)

sound_one : (p : Plan) (t : Table) → Accepted p t → sound_table p.vendors t ≡ true
sound_one p t a =
    let b = a.columns in let c = a.families in let d = a.pairs in let e = a.rule in grind (arith, nat_tests)

-- An accepted declaration keeps the plan sound.
pub stays_sound : (p : Plan) (t : Table) → sound p ≡ true → Accepted p t → sound (with_table p t) ≡ true
stays_sound p t s a =
    let v = p.vendors in
    let ts = p.tables in
    let x = and_parts (leb 1 v) (leb v 32 && (leb (length ts) 4 && sound_tables v ts)) s in
    let y = and_parts (leb v 32) (leb (length ts) 4 && sound_tables v ts) x.1 in
    let z = and_parts (leb (length ts) 4) (sound_tables v ts) y.1 in
    let few = a.few in
    let long : length (ts ++ t ∷ []) ≡ length ts + 1 = length-append ts (t ∷ []) in
    let fits : leb (length (ts ++ t ∷ [])) 4 ≡ true = grind (arith, nat_tests) in
    and_from (leb 1 v) _ x.0 (and_from (leb v 32) _ y.0 (and_from (leb (length (ts ++ t ∷ [])) 4) _ fits (sound_push v ts t z.1 (sound_one p t a))))
