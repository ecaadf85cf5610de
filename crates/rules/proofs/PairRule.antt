-- The test of pairs is the rule of pairs.
use Rattle.std.proofs.Common.{◌≡◌, ℕ, zero, suc, ◌<◌, ◌≤◌, true, ◌&&◌, leb, List, [], ◌∷◌, length, refl, arith}
use Rattle.std.proofs.lemmas.Bool.{and_parts, and_from, leb-true, le-leb}
use Rattle.rules.specs.Pairs.{Pair, RuleOfPairs, LaidIsTheRule, laid, end, pair_at}

record Front (from limit : ℕ) (p : Pair) (ps : List Pair) : Type 0 where
  pub starts : from ≤ p.offset
  pub ends : end p ≤ limit
  pub rest : laid (end p) limit ps ≡ true

front : (from limit : ℕ) (p : Pair) (ps : List Pair) → laid from limit (p ∷ ps) ≡ true → Front from limit p ps
front from limit p ps h =
    let a = and_parts (leb from p.offset) (leb (end p) limit && laid (end p) limit ps) h in
    let b = and_parts (leb (end p) limit) (laid (end p) limit ps) a.1 in
    record { starts = leb-true from p.offset a.0; ends = leb-true (end p) limit b.0; rest = b.1 }

-- every pair of a laid list starts where the list may start, or later
pub laid_starts : (from limit : ℕ) (ps : List Pair) → laid from limit ps ≡ true → (i : ℕ) → i < length ps → from ≤ (pair_at ps i).offset
laid_starts from limit [] h i l = omega arith
laid_starts from limit (p ∷ ps) h zero l = (front from limit p ps h).starts
laid_starts from limit (p ∷ ps) h (suc i) l =
    let f = front from limit p ps h in
    let later = laid_starts (end p) limit ps f.rest i (omega arith) in
    omega (arith, f.starts)

pub laid_within : (from limit : ℕ) (ps : List Pair) → laid from limit ps ≡ true → (i : ℕ) → i < length ps → end (pair_at ps i) ≤ limit
laid_within from limit [] h i l = omega arith
laid_within from limit (p ∷ ps) h zero l = (front from limit p ps h).ends
laid_within from limit (p ∷ ps) h (suc i) l = laid_within (end p) limit ps (front from limit p ps h).rest i (omega arith)

pub laid_apart : (from limit : ℕ) (ps : List Pair) → laid from limit ps ≡ true
    → (i j : ℕ) → i < j → j < length ps → end (pair_at ps i) ≤ (pair_at ps j).offset
laid_apart from limit [] h i j k l = omega arith
laid_apart from limit (p ∷ ps) h i zero k l = omega arith
laid_apart from limit (p ∷ ps) h zero (suc j) k l = laid_starts (end p) limit ps (front from limit p ps h).rest j (omega arith)
laid_apart from limit (p ∷ ps) h (suc i) (suc j) k l = laid_apart (end p) limit ps (front from limit p ps h).rest i j (omega arith) (omega arith)

rule_laid : (from limit : ℕ) (ps : List Pair) → ((i : ℕ) → i < length ps → from ≤ (pair_at ps i).offset) → RuleOfPairs limit ps
    → laid from limit ps ≡ true
rule_laid from limit [] h r = refl
rule_laid from limit (p ∷ ps) h r =
    and_from (leb from p.offset) (leb (end p) limit && laid (end p) limit ps) (le-leb from p.offset (h 0 (omega arith)))
    (and_from (leb (end p) limit) (laid (end p) limit ps) (le-leb (end p) limit (r.within 0 (omega arith)))
    (rule_laid (end p) limit ps (λ i l. r.apart 0 (suc i) (omega arith) (omega arith))
    (record {
      within = λ i l. r.within (suc i) (omega arith);
      apart = λ i j k l. r.apart (suc i) (suc j) (omega arith) (omega arith);
    })))

pub laid_is_the_rule : LaidIsTheRule
laid_is_the_rule limit ps =
    (λ h. record { within = laid_within 0 limit ps h; apart = laid_apart 0 limit ps h }, λ r. rule_laid 0 limit ps (λ i l. omega arith) r)
