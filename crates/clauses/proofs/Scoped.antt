-- The names in scope, as the code holds them: oldest first.
use Rattle.std.proofs.Common.{◌≡◌, ℕ, zero, suc, ◌+◌, ◌<◌, Bool, true, false, cond, ◌||◌, ltb, List, [], ◌∷◌, ◌++◌, length, get_or, Some, Decides, sym, refl, ap, zero-add, ◌∙◌, arith}
use Rattle.std.specs.List.{list_any}
use Rattle.std.specs.Str.{bytes_eq}
use Rattle.std.proofs.lemmas.Bool.Decides.{nat_tests}
use Rattle.std.proofs.lemmas.Slice.Eq.{bytes_eq-Decides}
use Rattle.grammar.specs.Scopes.{Scope, look_up}
use Rattle.grammar.specs.Clauses.{walks, walked}
use Rattle.grammar.specs.Spelling.{this_or}
use Rattle.clauses.specs.declared.names.Name.{Name}
use Rattle.clauses.specs.Names.{named_of, newest_first, with_name}

pub newest_more : (ns : List Name) (n : Name) (outer : Scope) → newest_first (ns ++ n ∷ []) outer ≡ named_of n ∷ newest_first ns outer
newest_more [] n outer = refl
newest_more (m ∷ ns) n outer = newest_more ns n (named_of m ∷ outer)

pub newest_length : (ns : List Name) (outer : Scope) → length (newest_first ns outer) ≡ length ns + length outer
newest_length [] outer = omega arith
newest_length (n ∷ ns) outer = let e = newest_length ns (named_of n ∷ outer) in omega (arith, e)

pub scope_length : (ns : List Name) → length (newest_first ns []) ≡ length ns
scope_length ns = let e = newest_length ns [] in omega (arith, e)

-- One name more, where there is room.
pub with_one : (ns after : List Name) (n : Name) (r : Bool) → r ≡ ltb (length ns) 16 → after ≡ cond r (ns ++ n ∷ []) ns
    → newest_first after [] ≡ with_name n.letters.now n.kind (newest_first ns [])
with_one ns after n r e a =
    ap (λ xs. newest_first xs []) (a ∙ ap (λ b. cond b (ns ++ n ∷ []) ns) e)
    ∙ made (ltb (length ns) 16)
    ∙ ap (λ m. cond (ltb m 16) (named_of n ∷ newest_first ns []) (newest_first ns [])) (sym (scope_length ns))
  where
    made : (b : Bool) → newest_first (cond b (ns ++ n ∷ []) ns) [] ≡ cond b (named_of n ∷ newest_first ns []) (newest_first ns [])
    made true = newest_more ns n []
    made false = refl

-- Other names above it do not matter to a word.
not_equal : (b : Bool) (P : Type 0) → Decides b P → (P → ⊥) → b ≡ false
not_equal true P by never = absurd (never (by.0 refl))
not_equal false P by never = refl

pub passed_over : (word : List ℕ) (ns : List Name) (outer : Scope) (d : Name) → ((k : ℕ) → k < length ns → word ≡ (get_or ns k d).letters.now → ⊥)
    → look_up word (newest_first ns outer) ≡ look_up word outer
passed_over word [] outer d others = refl
passed_over word (n ∷ ns) outer d others =
    passed_over word ns (named_of n ∷ outer) d (λ k h. others (suc k) (omega (arith, h)))
    ∙ ap (λ b. this_or b (record { kind = n.kind; level = length outer }) (look_up word outer))
    (not_equal (bytes_eq word n.letters.now) _ (bytes_eq-Decides word n.letters.now) (others 0 (omega arith)))

-- The last of the names with these letters is what they stand for.
last_found : (word : List ℕ) (ns : List Name) (i : ℕ) (outer : Scope) (d : Name) → i < length ns → word ≡ (get_or ns i d).letters.now
    → ((k : ℕ) → i < k → k < length ns → word ≡ (get_or ns k d).letters.now → ⊥)
    → look_up word (newest_first ns outer) ≡ Some (record { kind = (get_or ns i d).kind; level = length outer + i })
last_found word [] i outer d h same others = absurd (let b : ⊥ = omega (arith, h) in b)
last_found word (n ∷ ns) zero outer d h same others =
    passed_over word ns (named_of n ∷ outer) d (λ k l. others (suc k) (omega arith) (omega (arith, l)))
    ∙ ap (λ b. this_or b (record { kind = n.kind; level = length outer }) (look_up word outer)) ((bytes_eq-Decides word n.letters.now).1 same)
    ∙ ap (λ l. Some (record { kind = n.kind; level = l })) (let e : length outer ≡ length outer + 0 = omega arith in e)
last_found word (n ∷ ns) (suc i) outer d h same others =
    last_found word ns i (named_of n ∷ outer) d (omega (arith, h)) same (λ k l m. others (suc k) (omega (arith, l)) (omega (arith, m)))
    ∙ ap (λ l. Some (record { kind = (get_or ns i d).kind; level = l })) (let e : suc (length outer) + i ≡ length outer + suc i = omega arith in e)

pub newest_found : (word : List ℕ) (ns : List Name) (i : ℕ) (d : Name) → i < length ns → word ≡ (get_or ns i d).letters.now
    → ((k : ℕ) → i < k → k < length ns → word ≡ (get_or ns k d).letters.now → ⊥)
    → look_up word (newest_first ns []) ≡ Some (record { kind = (get_or ns i d).kind; level = i })
newest_found word ns i d h same others =
    last_found word ns i [] d h same others ∙ ap (λ l. Some (record { kind = (get_or ns i d).kind; level = l })) (zero-add i)

-- A cursor over the table is among the names, in whatever order they are gone through.
walked_first : (t : ℕ) (ns : List Name) (outer : Scope) → walked t (newest_first ns outer) ≡ list_any (λ n. walks t n.kind) ns || walked t outer
walked_first t [] outer = refl
walked_first t (n ∷ ns) outer = walked_first t ns (named_of n ∷ outer) ∙ grind (arith, nat_tests)

pub walked_any : (t : ℕ) (ns : List Name) → list_any (λ n. walks t n.kind) ns ≡ walked t (newest_first ns [])
walked_any t ns = let e = walked_first t ns [] in grind (arith, nat_tests)
