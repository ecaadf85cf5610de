-- The figure by its parts: what the parts' caps leave of it.
use Rattle.std.proofs.Common.{◌≡◌, ℕ, zero, suc, ◌+◌, ◌*◌, ◌≤◌, min, ◌⊎◌, inl, inr, mul-le-mul_right, mul-le-mul_left, zero-mul, arith}

-- Turns of a block whose figure was cut at a cap come to the same, cut there.
pub turns_capped : (cap turns body rest : ℕ) → min (1 + turns * (1 + min body cap) + min rest cap) cap ≡ min (1 + turns * (1 + body) + rest) cap
turns_capped cap turns body rest = go turns (low body cap)
  where
    low : (a b : ℕ) → (a ≤ b) ⊎ (b ≤ a)
    low a b = grind arith

    go : (n : ℕ) → (body ≤ cap) ⊎ (cap ≤ body) → min (1 + n * (1 + min body cap) + min rest cap) cap ≡ min (1 + n * (1 + body) + rest) cap
    go n (inl h) = let e : min body cap ≡ body = omega arith in rw e (omega arith)
    go zero (inr h) = rw (zero-mul (1 + min body cap), zero-mul (1 + body)) (omega arith)
    go (suc n) (inr h) =
        let e : min body cap ≡ cap = omega arith in
        let p : suc n * (1 + cap) ≤ suc n * (1 + body) = mul-le-mul_left (suc n) (omega arith) in
        let q : 1 * (1 + cap) ≤ suc n * (1 + cap) = mul-le-mul_right (1 + cap) (omega arith) in
        rw e (omega arith)
