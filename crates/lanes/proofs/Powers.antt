-- The code's shifts and powers of two, as the definitions write them.
use Rattle.std.specs.Prelude.{◌≡◌, ℕ, ◌+◌, ◌-◌, ◌*◌, ◌/◌, ◌%◌, ◌^◌, ◌≤◌, ◌<◌}
use Rattle.basis.proofs.Names.{sym, ap, ◌∙◌, one-mul, two-pow-succ, mod-eq_of_lt, lt_of_le_of_lt, div-le_self, arith, pow-lt}

-- 1 << (w - 1)
pub half_is : (w : ℕ) → 1 ≤ w → w ≤ 64 → 1 * 2 ^ (w - 1) % 2 ^ 64 ≡ 2 ^ (w - 1)
half_is w l h = ap (λ (y : ℕ). y % 2 ^ 64) (one-mul (2 ^ (w - 1))) ∙ mod-eq_of_lt (pow-lt {j = 64} (omega arith))

pub halves : (w : ℕ) → 1 ≤ w → 2 ^ (w - 1) + 2 ^ (w - 1) ≡ 2 ^ w
halves w l = sym (two-pow-succ (w - 1)) ∙ ap (λ (k : ℕ). 2 ^ k) (omega arith)

-- a width is one bit and the rest
pub top_and_rest : (w : ℕ) → 1 ≤ w → w ≡ 1 + (w - 1)
top_and_rest w l = omega arith

-- what is shifted down is no greater
pub shifted_fits : (w x k : ℕ) → x < 2 ^ w → x / 2 ^ k < 2 ^ w
shifted_fits w x k = lt_of_le_of_lt (div-le_self x (2 ^ k))
