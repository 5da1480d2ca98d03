-- A lane read as a signed number, and an integer put into a lane: wrapped, or clamped to what the lane holds.
use Rattle.std.specs.Prelude.{ℕ, ◌-◌, ◌%◌, ◌^◌, cond, ltb, ℤ, pos, negsuc}
use Rattle.basis.specs.Names.{sub_ℕ, le_z}

-- two's complement: from 2 ^ (w - 1) on, a lane of w bits stands for itself less 2 ^ w
unfoldable pub signed : ℕ → ℕ → ℤ
signed w x = cond (ltb x (2 ^ (w - 1))) (pos x) (sub_ℕ x (2 ^ w))

-- the low w bits of an integer (negsuc n is -1 - n)
unfoldable pub wrap : ℕ → ℤ → ℕ
wrap w (pos n) = n % 2 ^ w
wrap w (negsuc n) = 2 ^ w - 1 - n % 2 ^ w

-- the integer from low to high that is nearest to z
unfoldable pub clamp : ℤ → ℤ → ℤ → ℤ
clamp low high z = cond (le_z z low) low (cond (le_z high z) high z)

-- clamped to -128..127, -32,768..32,767
unfoldable pub clamp_signed : ℕ → ℤ → ℤ
clamp_signed w z = clamp (sub_ℕ 0 (2 ^ (w - 1))) (pos (2 ^ (w - 1) - 1)) z

-- clamped to 0..255, 0..65,535
unfoldable pub clamp_unsigned : ℕ → ℤ → ℤ
clamp_unsigned w z = clamp (pos 0) (pos (2 ^ w - 1)) z
