-- How many columns a table of a sound plan has.
use Rattle.std.proofs.Common.{◌≡◌, ℕ, zero, suc, ◌≤◌, true, leb, List, [], ◌∷◌, length, get_or, arith}
use Rattle.std.proofs.lemmas.Bool.{and_parts, leb-true}
use Rattle.rules.specs.Plans.{Plan, Table, sound, sound_table, sound_tables}
use Rattle.rules.specs.Lots.{width}

four : (v : ℕ) (ts : List Table) (t : ℕ) (d : Table) → length d.columns ≤ 4 → sound_tables v ts ≡ true → length (get_or ts t d).columns ≤ 4
four v [] t d none h = none
four v (x ∷ xs) zero d none h =
    let p = and_parts (sound_table v x) (sound_tables v xs) h in
    let q = and_parts (leb 1 (length x.columns)) _ p.0 in
    let r = and_parts (leb (length x.columns) 4) _ q.1 in
    leb-true (length x.columns) 4 r.0
four v (x ∷ xs) (suc t) d none h = four v xs t d none (and_parts (sound_table v x) (sound_tables v xs) h).1

-- At most four.
pub few_columns : (plan : Plan) → sound plan ≡ true → (t : ℕ) → width plan t ≤ 4
few_columns plan s t =
    let v = plan.vendors in
    let p = and_parts (leb 1 v) _ s in
    let q = and_parts (leb v 32) _ p.1 in
    let r = and_parts (leb (length plan.tables) 4) (sound_tables v plan.tables) q.1 in
    four v plan.tables t (record { row = 0; columns = []; lots = [] }) (omega arith) r.1
