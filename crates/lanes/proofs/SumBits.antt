-- The sum of two lanes by its bits: the top bits of both and what is carried into them make its top bit and what it carries.
use Rattle.std.specs.Prelude.{◌≡◌, ℕ, zero, suc, ◌+◌, ◌-◌, ◌*◌, ◌/◌, ◌%◌, ◌^◌, ◌≤◌, ◌<◌}
use Rattle.basis.proofs.Names.{sym, ap, ◌∙◌, div-add-mod', div-lt_iff_lt-mul, mod-lt, arith, field, pow_pos, shr-shr}
use Rattle.lanes.specs.Lane.{lane}
use Rattle.lanes.specs.Signed.{wrap}
use Rattle.lanes.specs.Rules.{packed, pairwise, sum}
use Rattle.lanes.proofs.Powers.{top_and_rest}
use Rattle.lanes.proofs.Fitting.{sum_fits}
use Rattle.lanes.proofs.Building.{lane-pairwise}
use Rattle.lanes.proofs.Carrying.{quotients_add}
use Rattle.lanes.proofs.Signs.{bit_lt}

-- what PADD leaves in a lane
pub sum-lane : (w a b s i : ℕ) → s ≡ packed (pairwise sum) w a b → i < 64 / w → lane w i s ≡ (lane w i a + lane w i b) % 2 ^ w
unfolding sum wrap
sum-lane w a b s i e k = ap (lane w i) e ∙ lane-pairwise w a b i k sum sum_fits

-- what holds of 0 and of 1 holds of every bit
of_bit : (P : ℕ → Type 0) → P 0 → P 1 → (i : ℕ) → i < 2 → P i
of_bit P p q zero h = p
of_bit P p q (suc zero) h = q
of_bit P p q (suc (suc i)) h = absurd (omega arith)

module _ (w : ℕ) (l : 1 ≤ w) (x y : ℕ) where
  abbrev h : ℕ
  h = 2 ^ (w - 1)

  -- what is carried into the top bits
  abbrev pub carry : ℕ
  carry = (x % 2 ^ (w - 1) + y % 2 ^ (w - 1)) / 2 ^ (w - 1)

  -- these three bits, added, are how often the top bit's weight goes into the sum
  abbrev pub bits : ℕ
  bits = x / 2 ^ (w - 1) + y / 2 ^ (w - 1) + carry

  pub sum_of_bits : bits * 2 ^ (w - 1) + (x + y) % 2 ^ (w - 1) ≡ x + y
  sum_of_bits = ap (λ (q : ℕ). q * h + (x + y) % h) (sym (quotients_add (w - 1) x y)) ∙ div-add-mod' (x + y) h

  pub sum-bit : (x + y) % 2 ^ w / 2 ^ (w - 1) ≡ bits % 2
  sum-bit = ap (λ (k : ℕ). (x + y) % 2 ^ k / h) (top_and_rest w l) ∙ field (x + y) 1 (w - 1) ∙ ap (λ (q : ℕ). q % 2) (quotients_add (w - 1) x y)

  pub carried_out : (x + y) / 2 ^ w ≡ bits / 2
  carried_out =
      ap (λ (k : ℕ). (x + y) / 2 ^ k) (omega arith) ∙ sym (shr-shr (x + y) (w - 1) 1) ∙ ap (λ (q : ℕ). q / 2) (quotients_add (w - 1) x y)

  -- what holds of any three bits holds of these
  pub by_bits : (P : ℕ → ℕ → ℕ → Type 0) → P 0 0 0 → P 0 0 1 → P 0 1 0 → P 0 1 1 → P 1 0 0 → P 1 0 1 → P 1 1 0 → P 1 1 1
      → x < 2 ^ w → y < 2 ^ w → P (x / 2 ^ (w - 1)) (y / 2 ^ (w - 1)) carry
  by_bits P none c j jc i ic ij ijc hx hy =
      of_bit (λ (u : ℕ). P u (y / h) carry)
      (of_bit (λ (v : ℕ). P 0 v carry) (last 0 0 none c) (last 0 1 j jc) (y / h) (bit_lt w l y hy))
      (of_bit (λ (v : ℕ). P 1 v carry) (last 1 0 i ic) (last 1 1 ij ijc) (y / h) (bit_lt w l y hy))
      (x / h) (bit_lt w l x hx)
    where
      carry_lt : carry < 2
      carry_lt = (div-lt_iff_lt-mul (pow_pos (w - 1))).1 (omega (arith, mod-lt x (pow_pos (w - 1)), mod-lt y (pow_pos (w - 1))))

      last : (u v : ℕ) → P u v 0 → P u v 1 → P u v carry
      last u v p q = of_bit (P u v) p q carry carry_lt
