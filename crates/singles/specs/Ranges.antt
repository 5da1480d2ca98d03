-- 003, Table 1: a half of a register is a sign bit, eight bits of biased exponent and 23 of fraction, and is sorted by its exponent alone.
use Rattle.std.specs.Prelude.{ℕ, ◌/◌, ◌%◌, ◌^◌, Bool, cond, eqb, leb}

abbrev pub exponent : ℕ → ℕ
exponent half = half / 2 ^ 23 % 2 ^ 8

pub data Range : Type 0 where
  zero_range normal_range unsupported_range : Range

-- FF is unsupported; 00 is zero, whatever its fraction; what lies between is normal
unfoldable pub range_of : ℕ → Range
range_of half = cond (eqb (exponent half) 0xFF) unsupported_range (cond (eqb (exponent half) 0x00) zero_range normal_range)

abbrev pub is_negative : ℕ → Bool
is_negative half = leb (2 ^ 31) half

abbrev pub magnitude : ℕ → ℕ
magnitude half = half % 2 ^ 31
