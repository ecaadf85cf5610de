-- A word read as a decimal number below 2^64.
use Rattle.std.specs.Prelude.{ℕ, ◌+◌, ◌-◌, ◌*◌, ◌^◌, Bool, cond, ◌&&◌, List, [], ◌∷◌, Some, None, Option, nat_le, nat_lt}

abbrev pub digit : ℕ → Bool
digit b = nat_le 48 b && nat_le b 57

-- A value with one digit more; nothing where the byte is no digit or the value passes 64 bits.
abbrev pub with_digit : ℕ → ℕ → Option ℕ
with_digit value b = cond (digit b && nat_lt (value * 10 + (b - 48)) (2 ^ 64)) (Some (value * 10 + (b - 48))) None

abbrev pub and_then : Option ℕ → (ℕ → Option ℕ) → Option ℕ
and_then None f = None
and_then (Some n) f = f n

-- The value of the digits that follow a value.
abbrev pub digits : ℕ → List ℕ → Option ℕ
digits value [] = Some value
digits value (b ∷ bs) = and_then (with_digit value b) (λ v. digits v bs)

-- One digit or more.
abbrev pub number : List ℕ → Option ℕ
number [] = None
number (b ∷ bs) = digits 0 (b ∷ bs)
