-- The signed product of two words in the code's signed numbers: what it computes from words fits there, and with 2 ^ 32 is never below zero.
use Rattle.std.specs.Prelude.{◌≡◌, refl, ℕ, zero, suc, ◌+◌, ◌-◌, ◌*◌, ◌/◌, ◌%◌, ◌^◌, ◌≤◌, ◌<◌, ℤ, pos, negsuc, ◌+ℤ◌, ◌-ℤ◌, ◌*ℤ◌}
use Rattle.basis.specs.Names.{bit_xor, sub_ℕ}
use Rattle.basis.proofs.Names.{sym, ◌∙◌, mul-le-mul, mod-lt, le_trans, arith, rules, lt-ltb, T, nat_abs, neg_ℤ, pow_pos, mag, non_neg}
use Rattle.lanes.specs.Lane.{lane}
use Rattle.lanes.specs.Signed.{signed}
use Rattle.lanes.specs.Rules.{product}
use Rattle.lanes.proofs.Registers.{lane_lt}
use Rattle.lanes.proofs.Integers.{is_ge, is_pos, is_neg, cases, difference_is}
use Rattle.lanes.proofs.TopBits.{turned_lt, signed_is}

-- ---- word i, with its top bit turned over: x

module _ (a i : ℕ) where
  abbrev x : ℕ
  x = bit_xor (a / 2 ^ (16 * i) % 2 ^ 16) 0x8000

  x_lt : x < 2 ^ 16
  x_lt = turned_lt 16 0x8000 refl refl (omega arith) (a / 2 ^ (16 * i) % 2 ^ 16) (mod-lt (a / 2 ^ (16 * i)) (pow_pos 16))

  pub turned_fits : x < 2 ^ 63
  turned_fits = omega (arith, x_lt)

  pub word_is : pos x -ℤ pos 0x8000 ≡ signed 16 (lane 16 i a)
  unfolding lane
  word_is = difference_is x 0x8000 ∙ sym (signed_is 16 0x8000 refl refl (omega arith) (lane 16 i a) (lane_lt 16 i a))

  word_small : mag (signed 16 (lane 16 i a)) < 32769
  word_small =
      rw (sym word_is ∙ difference_is x 0x8000)
      (cases x 0x8000 (λ (z : ℤ). mag z < 32769) (λ y e. omega (arith, x_lt)) (λ y e. omega arith))

  pub word_fits : mag (signed 16 (lane 16 i a)) < 2 ^ 63
  word_fits = omega (arith, word_small)

-- ---- the product of two words

negative_le : (n : ℕ) → mag (neg_ℤ (pos n)) ≤ n
negative_le zero = omega arith
negative_le (suc n) = omega arith

product_le : (x y : ℤ) (k : ℕ) → mag x < k → mag y < k → mag (x *ℤ y) ≤ k * k
product_le (pos a) (pos b) k h l = mul-le-mul (omega arith) (omega arith)
product_le (pos a) (negsuc b) k h l = le_trans (negative_le (a * suc b)) (mul-le-mul (omega arith) (omega arith))
product_le (negsuc a) (pos b) k h l = le_trans (negative_le (suc a * b)) (mul-le-mul (omega arith) (omega arith))
product_le (negsuc a) (negsuc b) k h l = mul-le-mul (omega arith) (omega arith)

-- an integer with 2 ^ 32 is a natural number
record Raised (z : ℤ) : Type 0 where
  number : ℕ
  is : z +ℤ pos (2 ^ 32) ≡ pos number
  back : z ≡ sub_ℕ number (2 ^ 32)
  small : number < 2 ^ 33

raised : (z : ℤ) → mag z < 2 ^ 32 → Raised z
raised (pos n) h =
    record { number = n + 2 ^ 32; is = refl; back = sym (is_pos (n + 2 ^ 32) (2 ^ 32) n (omega arith)); small = omega arith }
raised (negsuc n) h =
    record {
      number = 2 ^ 32 - suc n;
      is = is_ge (2 ^ 32) (suc n) (omega arith);
      back = sym (is_neg (2 ^ 32 - suc n) (2 ^ 32) n (omega arith));
      small = omega arith;
    }

module _ (a b i : ℕ) (x y : ℤ) (ex : x ≡ signed 16 (lane 16 i a)) (ey : y ≡ signed 16 (lane 16 i b)) where
  product_small : mag (x *ℤ y) < 2 ^ 32
  product_small = omega (arith, product_le x y 32769 (rw ex (word_small a i)) (rw ey (word_small b i)))

  abbrev r : Raised (x *ℤ y)
  r = raised (x *ℤ y) product_small

  pub product-fits : mag (x *ℤ y) < 2 ^ 63
  product-fits = omega (arith, product_small)

  pub raised_fits : mag (x *ℤ y +ℤ pos (2 ^ 32)) < 2 ^ 63
  raised_fits = rw r.is (omega (arith, r.small))

  pub not_below_zero : T (non_neg (x *ℤ y +ℤ pos (2 ^ 32)))
  not_below_zero = rw r.is tt

  pub raised_small : nat_abs (x *ℤ y +ℤ pos (2 ^ 32)) < 2 ^ 34
  raised_small = rw r.is (omega (arith, r.small))

  pub unsigned_fits : nat_abs (x *ℤ y +ℤ pos (2 ^ 32)) < 2 ^ 64
  unsigned_fits = omega (arith, raised_small)

  pub product_is : product 16 (lane 16 i a) (lane 16 i b) ≡ sub_ℕ (nat_abs (x *ℤ y +ℤ pos (2 ^ 32))) (2 ^ 32)
  product_is = rw (← ex, ← ey, r.is) r.back

pub ruleset words = (rules, lt-ltb, turned_fits, word_is, word_fits)

pub ruleset products = (rules, product-fits, raised_fits, not_below_zero, raised_small, unsigned_fits, product_is)
