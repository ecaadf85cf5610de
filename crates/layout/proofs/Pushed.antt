-- The plan of the code after an accepted table was pushed.
use Rattle.std.proofs.Common.{◌≡◌, ℕ, ◌<◌, ◌≤◌, Bool, true, cond, ◌&&◌, ltb, leb, List, [], ◌∷◌, ◌++◌, map, length, take, ap, ◌∙◌, arith, take_all}
use lib.ListN.{length-map}
use Rattle.std.proofs.lemmas.List.{map_push}
use Rattle.std.proofs.lemmas.Bool.{leb-false, leb-true, lt-ltb, and_parts}
use Rattle.std.proofs.lemmas.Bool.Decides.{nat_tests}
use Rattle.inplace.specs.declared.array_vec.ArrayVec.{ArrayVec}
use Rattle.inplace.specs.Held.{held}
use Rattle.rules.specs.Plans.{Plan, Table, with_table, sound, sound_tables}
use Rattle.layout.specs.declared.pair.Pair as pair
use Rattle.layout.specs.declared.table.Table as coded
use Rattle.layout.specs.Tables.{table_of, declared, laid_out}
use Rattle.layout.proofs.Declaring.{Accepted}

few_columns : (p : Plan) (t : Table) → Accepted p t → length t.columns ≤ 4
few_columns p t a = let h = a.columns in grind (arith, nat_tests)

few_pairs : (p : Plan) (t : Table) → sound p ≡ true → Accepted p t → length t.lots ≤ 32
few_pairs p t s a =
    let v = p.vendors in
    let x = and_parts (leb 1 v) (leb v 32 && (leb (length p.tables) 4 && sound_tables v p.tables)) s in
    let y = and_parts (leb v 32) (leb (length p.tables) 4 && sound_tables v p.tables) x.1 in
    let most : v ≤ 32 = leb-true v 32 y.0 in
    let h = a.pairs in
    let same : length t.lots ≡ v = grind (arith, nat_tests) in
    omega arith

-- an accepted table lost nothing on its way into the array
whole : (p : Plan) (row : ℕ) (columns : List ℕ) (pairs : List pair.Pair) → sound p ≡ true → Accepted p (declared row columns pairs)
    → declared row (take 4 columns) (take 32 pairs) ≡ declared row columns pairs
whole p row columns pairs s a =
    let c : take 4 columns ≡ columns = take_all 4 columns (few_columns p (declared row columns pairs) a) in
    let n = few_pairs p (declared row columns pairs) s a in
    let l : take 32 pairs ≡ pairs = take_all 32 pairs (omega (arith, n, simp length-map at n)) in
    ap (λ cs. declared row cs (take 32 pairs)) c ∙ ap (declared row columns) l

pub pushed : (v row : ℕ) (columns : List ℕ) (pairs : List pair.Pair) (was is : ArrayVec coded.Table 4) (new : coded.Table) (r : Bool)
    → sound (laid_out v was) ≡ true
    → Accepted (laid_out v was) (declared row columns pairs)
    → table_of new ≡ declared row (take 4 columns) (take 32 pairs)
    → r ≡ ltb (length (held was)) 4
    → held is ≡ cond r (held was ++ new ∷ []) (held was)
    → laid_out v is ≡ with_table (laid_out v was) (declared row columns pairs)
pushed v row columns pairs was is new r s a made told after =
    let p = laid_out v was in
    let long : length p.tables ≡ length (held was) = length-map (held was) table_of in
    let few : length p.tables < 4 = leb-false 4 (length p.tables) a.few in
    let room : length (held was) < 4 = omega arith in
    let taken : r ≡ true = told ∙ lt-ltb (length (held was)) 4 room in
    let held_is : held is ≡ held was ++ new ∷ [] = after ∙ ap (λ b. cond b (held was ++ new ∷ []) (held was)) taken in
    let tables : map table_of (held is) ≡ map table_of (held was) ++ declared row columns pairs ∷ [] =
    ap (map table_of) held_is ∙ map_push table_of (held was) new ∙ ap (λ t. map table_of (held was) ++ t ∷ []) (made ∙ whole p row columns pairs s a) in
    ap (λ (ts : List Table). let q : Plan = record { vendors = v; tables = ts } in q) tables
