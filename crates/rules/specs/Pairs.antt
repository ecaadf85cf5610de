-- Pairs of offset and length, and the rule that keeps them apart and inside a table.
use Rattle.std.specs.Prelude.{◌≡◌, ℕ, ◌+◌, ◌<◌, ◌≤◌, Bool, true, ◌&&◌, List, [], ◌∷◌, length, nat_le, slice_index_or}

-- A run of slots: `length` of them, from `offset` on.
pub record Pair : Type 0 where
  pub offset : ℕ
  pub length : ℕ

abbrev pub end : Pair → ℕ
end p = p.offset + p.length

-- The pairs start at `from` or later, each at or after the end of the one before, and end at or before `limit`.
abbrev pub laid : ℕ → ℕ → List Pair → Bool
laid from limit [] = true
laid from limit (p ∷ ps) = nat_le from p.offset && (nat_le (end p) limit && laid (end p) limit ps)

abbrev pub pair_at : List Pair → ℕ → Pair
pair_at ps i = slice_index_or ps i (record { offset = 0; length = 0 })

-- The rule of pairs in its own words: each pair ends within the limit, and starts at or after the end of every one
-- before it. So no slot lies in two of them.
pub record RuleOfPairs (limit : ℕ) (ps : List Pair) : Type 0 where
  pub within : (i : ℕ) → i < length ps → end (pair_at ps i) ≤ limit
  pub apart : (i j : ℕ) → i < j → j < length ps → end (pair_at ps i) ≤ (pair_at ps j).offset

-- The test is the rule, neither more nor less.
abbrev pub LaidIsTheRule : Type 0
LaidIsTheRule = (limit : ℕ) (ps : List Pair) → (laid 0 limit ps ≡ true → RuleOfPairs limit ps) × (RuleOfPairs limit ps → laid 0 limit ps ≡ true)
