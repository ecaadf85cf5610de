-- Where a text is cut.
use Rattle.std.proofs.Common.{◌≡◌, ℕ, suc, ◌+◌, Bool, true, false, cond, eqb, ltb, List, [], ◌∷◌, length, take, drop, Some, None, Option, refl, ap, ◌∙◌, arith}
use Prim.Native.Nat.compare
use Rattle.std.specs.Option.{option_map}
use Rattle.std.specs.List.{position_or_len, list_any}
use Rattle.std.proofs.lemmas.Bool.{lt-ltb}
use Rattle.std.proofs.lemmas.Grind.{common_steps}
use Rattle.words.specs.Cuts.{before, behind, parts}

-- The parts at a place that may be there.
abbrev pub parts_at : List ℕ → Option ℕ → Option (List ℕ × List ℕ)
parts_at bs at = option_map (λ n. (take n bs, drop (n + 1) bs)) at

-- How a text is cut at its first such byte.
record First (mark : ℕ) (bs : List ℕ) : Type 0 where
  pub front : take (position_or_len (λ b. eqb b mark) bs) bs ≡ before mark bs
  pub back : drop (position_or_len (λ b. eqb b mark) bs + 1) bs ≡ behind mark bs
  pub found : ltb (position_or_len (λ b. eqb b mark) bs) (length bs) ≡ list_any (λ b. eqb b mark) bs

first : (mark : ℕ) (bs : List ℕ) → First mark bs
first mark [] = record { front = refl; back = refl; found = refl }
first mark (b ∷ bs) = go (eqb b mark) refl (first mark bs)
  where
    go : (t : Bool) → eqb b mark ≡ t → First mark bs → First mark (b ∷ bs)
    go true e rest = record { front = rw e; back = rw e; found = rw e (lt-ltb 0 (length (b ∷ bs)) (omega arith)) }
    go false e rest =
        let p : ℕ = position_or_len (λ x. eqb x mark) bs in
        let one : position_or_len (λ x. eqb x mark) (b ∷ bs) ≡ suc p = rw e (omega arith) in
        let two : position_or_len (λ x. eqb x mark) (b ∷ bs) + 1 ≡ suc (p + 1) = omega arith in
        record {
          front = ap (λ n. take n (b ∷ bs)) one ∙ rw e (ap (λ more. b ∷ more) rest.front);
          back = ap (λ n. drop n (b ∷ bs)) two ∙ rw e rest.back;
          found = ap (λ n. ltb n (length (b ∷ bs))) one ∙ rw (e, compare.suc-suc) rest.found;
        }

pub parts_found : (mark : ℕ) (bs : List ℕ) (at : Option ℕ)
    → at ≡ cond (ltb (position_or_len (λ b. eqb b mark) bs) (length bs)) (Some (position_or_len (λ b. eqb b mark) bs)) None
    → parts_at bs at ≡ parts mark bs
parts_found mark bs at e = ap (parts_at bs) e ∙ go (list_any (λ b. eqb b mark) bs) refl (first mark bs)
  where
    go : (t : Bool) → list_any (λ b. eqb b mark) bs ≡ t → First mark bs
        → parts_at bs (cond (ltb (position_or_len (λ b. eqb b mark) bs) (length bs)) (Some (position_or_len (λ b. eqb b mark) bs)) None) ≡ parts mark bs
    go true e f = rw (f.found, e) (λ i. Some (f.front i, f.back i))
    go false e f = rw (f.found, e)

-- Where there is no such byte the whole text stands before it.
pub record Uncut (mark : ℕ) (bs : List ℕ) : Type 0 where
  pub front : bs ≡ before mark bs
  pub back : [] ≡ behind mark bs

pub uncut : (mark : ℕ) (bs : List ℕ) → None ≡ parts mark bs → Uncut mark bs
uncut mark [] h = record { front = refl; back = refl }
uncut mark (b ∷ bs) h = record { front = grind (arith, common_steps, uncut mark bs, h); back = grind (arith, common_steps, uncut mark bs, h) }
