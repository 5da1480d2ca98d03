-- What the lanes of the signed multiplications are, from a product that 2 ^ 32 is added to; and of the unsigned one.
use Rattle.std.specs.Prelude.{◌≡◌, refl, ℕ, ◌+◌, ◌-◌, ◌*◌, ◌/◌, ◌%◌, ◌^◌, ◌<◌, ℤ, pos, negsuc, ◌+ℤ◌}
use Rattle.basis.specs.Names.{sub_ℕ, shr_z}
use Rattle.basis.proofs.Names.{sym, ap, ap₂, ◌∙◌, mod-lt, arith, pow_pos, field}
use Rattle.lanes.specs.Lane.{lane}
use Rattle.lanes.specs.Signed.{wrap}
use Rattle.lanes.specs.Rules.{pairwise, product, product_low, product_high, product_sum, product_high_unsigned}
use Rattle.lanes.proofs.Registers.{inner}
use Rattle.lanes.proofs.Bitwise.{flip_high}
use Rattle.lanes.proofs.Fitting.{product_lt}
use Rattle.lanes.proofs.Integers.{plus, wrap_multiple}

-- the high part of an integer's low bits
wrap_high : (v w : ℕ) (z : ℤ) → wrap (v + w) z / 2 ^ w ≡ wrap v (shr_z z (2 ^ w))
unfolding wrap
wrap_high v w (pos n) = field n v w
wrap_high v w (negsuc n) =
    flip_high (n % 2 ^ (v + w)) v w (mod-lt n (pow_pos (v + w))) ∙ ap (λ (x : ℕ). 2 ^ v - 1 - x) (field n v w)

-- ---- the lanes

module _ (a b i r : ℕ) (e : product 16 (lane 16 i a) (lane 16 i b) ≡ sub_ℕ r (2 ^ 32)) where
  pub product_low_is : r % 2 ^ 16 ≡ pairwise product_low 16 a b i
  unfolding pairwise product_low
  product_low_is = sym (ap (wrap 16) e ∙ wrap_multiple 16 (2 ^ 16) r)

  pub product_high_is : r / 2 ^ 16 % 2 ^ 16 ≡ pairwise product_high 16 a b i
  unfolding pairwise product_high
  product_high_is =
      sym (field r 16 16) ∙ ap (λ (k : ℕ). k / 2 ^ 16) (sym (wrap_multiple 32 1 r)) ∙ wrap_high 16 16 (sub_ℕ r (2 ^ 32))
      ∙ ap (λ (z : ℤ). wrap 16 (shr_z z (2 ^ 16))) (sym e)

pub product_sum_is : (a b i p q : ℕ) → product 16 (lane 16 (i + i) a) (lane 16 (i + i) b) ≡ sub_ℕ p (2 ^ 32)
    → product 16 (lane 16 (i + i + 1) a) (lane 16 (i + i + 1) b) ≡ sub_ℕ q (2 ^ 32) → (p + q) % 2 ^ 32 ≡ pairwise product_sum 32 a b i
unfolding pairwise product_sum
product_sum_is a b i p q e f =
    sym (ap₂ (λ (y z : ℤ). wrap 32 (y +ℤ z))
    (of_words 0 (i + i) (omega arith) (omega arith) ∙ e) (of_words 1 (i + i + 1) (omega arith) (omega arith) ∙ f)
    ∙ ap (wrap 32) (plus p (2 ^ 32) q (2 ^ 32)) ∙ wrap_multiple 32 2 (p + q))
  where
    word : (x k n : ℕ) → k < 2 → i + i + k ≡ n → lane 16 k (lane 32 i x) ≡ lane 16 n x
    word x k n h g = inner 16 i k x h ∙ ap (λ (j : ℕ). lane 16 j x) g

    of_words : (k n : ℕ) → k < 2 → i + i + k ≡ n
        → product 16 (lane 16 k (lane 32 i a)) (lane 16 k (lane 32 i b)) ≡ product 16 (lane 16 n a) (lane 16 n b)
    of_words k n h g = ap₂ (product 16) (word a k n h g) (word b k n h g)

module _ (a b i : ℕ) where
  pub unsigned_fits : a / 2 ^ (16 * i) % 2 ^ 16 * (b / 2 ^ (16 * i) % 2 ^ 16) < 2 ^ 64
  unsigned_fits =
      omega (
        arith,
        product_lt 16 (a / 2 ^ (16 * i) % 2 ^ 16) (b / 2 ^ (16 * i) % 2 ^ 16)
            (mod-lt (a / 2 ^ (16 * i)) (pow_pos 16)) (mod-lt (b / 2 ^ (16 * i)) (pow_pos 16)),
      )

  pub product_high_unsigned_is : a / 2 ^ (16 * i) % 2 ^ 16 * (b / 2 ^ (16 * i) % 2 ^ 16) / 2 ^ 16 ≡ pairwise product_high_unsigned 16 a b i
  unfolding pairwise product_high_unsigned lane
  product_high_unsigned_is = refl

pub ruleset multiplying = (product_low_is, product_high_is, product_sum_is, unsigned_fits, product_high_unsigned_is)
