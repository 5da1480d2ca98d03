-- The lanes of a register: a register is a number below 2 ^ 64, and its lanes of w bits are counted from the low end.
use Rattle.std.specs.Prelude.{ℕ, zero, suc, ◌+◌, ◌-◌, ◌*◌, ◌/◌, ◌%◌, ◌^◌}

-- lane i of x
unfoldable pub lane : ℕ → ℕ → ℕ → ℕ
lane w i x = x / 2 ^ (w * i) % 2 ^ w

-- the top bit of lane i, as 0 or 1
unfoldable pub top_bit : ℕ → ℕ → ℕ → ℕ
top_bit w x i = lane w i x / 2 ^ (w - 1)

-- the number whose n lanes are f 0, f 1, ..
unfoldable pub build : ℕ → ℕ → (ℕ → ℕ) → ℕ
build w zero f = 0
build w (suc n) f = f n * 2 ^ (w * n) + build w n f

-- the register whose lanes are f 0, f 1, ..
unfoldable pub register : ℕ → (ℕ → ℕ) → ℕ
register w f = build w (64 / w) f
