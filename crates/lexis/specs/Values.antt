-- The values of numbers.
use Rattle.std.specs.Prelude.{ℕ, ◌^◌, cond, Some, None, Option, nat_le}

-- A number, where it fits 32 bits.
abbrev pub fitting : ℕ → Option ℕ
fitting v = cond (nat_le (2 ^ 32) v) None (Some v)
