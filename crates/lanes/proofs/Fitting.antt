-- Every lane of every rule fits its width: what is wrapped does, and so do ones, lanes, what a shift leaves of them, means and high products.
use Rattle.std.specs.Prelude.{ℕ, ◌+◌, ◌*◌, ◌/◌, ◌%◌, ◌^◌, ◌<◌, min, Bool, true, false, cond, eqb, ltb, ℤ, pos, negsuc}
use Rattle.basis.specs.Names.{lt_z}
use Rattle.basis.proofs.Names.{mod-lt, le_of_lt, lt_of_le_of_lt, mul-le-mul_left, div-lt_iff_lt-mul, arith, pow_pos, digits_lt}
use Rattle.lanes.specs.Lane.{lane, top_bit}
use Rattle.lanes.specs.Signed.{signed, wrap}
use Rattle.lanes.specs.Rules.{pairwise, sum, difference, sum_signed, difference_signed, sum_unsigned, difference_unsigned, all_ones, equal, greater, product_low, product_high, product_sum, pack, unpack, shift, left, right, right_signed, blend, mean, insert, maximum_signed, maximum_unsigned, minimum_signed, minimum_unsigned, product_high_unsigned}
use Rattle.lanes.proofs.Registers.{lane_lt}
use Rattle.lanes.proofs.Powers.{shifted_fits}

pub record Fits (rule : ℕ → ℕ → ℕ → ℕ → ℕ) : Type 0 where
  pub fits : (w destination source i : ℕ) → rule w destination source i < 2 ^ w

pub wrap_lt : (w : ℕ) (z : ℤ) → wrap w z < 2 ^ w
unfolding wrap
wrap_lt w (pos n) = mod-lt n (pow_pos w)
wrap_lt w (negsuc n) = omega (arith, pow_pos w)

pub mask_lt : (w : ℕ) (t : Bool) → all_ones w t < 2 ^ w
mask_lt w true = omega (arith, pow_pos w)
mask_lt w false = pow_pos w

pub sum_fits : Fits (pairwise sum)
unfolding pairwise sum
sum_fits = record { fits = λ w a b i. wrap_lt w _ }

pub difference-fits : Fits (pairwise difference)
unfolding pairwise difference
difference-fits = record { fits = λ w a b i. wrap_lt w _ }

pub sum_signed-fits : Fits (pairwise sum_signed)
unfolding pairwise sum_signed
sum_signed-fits = record { fits = λ w a b i. wrap_lt w _ }

pub difference_signed-fits : Fits (pairwise difference_signed)
unfolding pairwise difference_signed
difference_signed-fits = record { fits = λ w a b i. wrap_lt w _ }

pub sum_unsigned-fits : Fits (pairwise sum_unsigned)
unfolding pairwise sum_unsigned
sum_unsigned-fits = record { fits = λ w a b i. wrap_lt w _ }

pub difference_unsigned-fits : Fits (pairwise difference_unsigned)
unfolding pairwise difference_unsigned
difference_unsigned-fits = record { fits = λ w a b i. wrap_lt w _ }

pub equal-fits : Fits (pairwise equal)
unfolding pairwise equal
equal-fits = record { fits = λ w a b i. mask_lt w (eqb (lane w i a) (lane w i b)) }

pub greater-fits : Fits (pairwise greater)
unfolding pairwise greater
greater-fits = record { fits = λ w a b i. mask_lt w (lt_z (signed w (lane w i b)) (signed w (lane w i a))) }

pub product_low-fits : Fits (pairwise product_low)
unfolding pairwise product_low
product_low-fits = record { fits = λ w a b i. wrap_lt w _ }

pub product_high-fits : Fits (pairwise product_high)
unfolding pairwise product_high
product_high-fits = record { fits = λ w a b i. wrap_lt w _ }

pub product_sum-fits : Fits (pairwise product_sum)
unfolding pairwise product_sum
product_sum-fits = record { fits = λ w a b i. wrap_lt w _ }

pub pack-fits : (clamped : ℕ → ℤ → ℤ) → Fits (pack clamped)
unfolding pack
pack-fits clamped = record { fits = λ w a b i. wrap_lt w _ }

pub unpack-fits : (first : ℕ) → Fits (unpack first)
unfolding unpack
unpack-fits first = record { fits = λ w a b i. lane_lt w (first + i / 2) _ }

pub left-fits : Fits (shift left)
unfolding shift left
left-fits = record { fits = λ w a c i. mod-lt (lane w i a * 2 ^ min c w) (pow_pos w) }

pub right-fits : Fits (shift right)
unfolding shift right
right-fits = record { fits = λ w a c i. shifted_fits w (lane w i a) (min c w) (lane_lt w i a) }

pub right_signed-fits : Fits (shift right_signed)
unfolding shift right_signed
right_signed-fits = record { fits = λ w a c i. wrap_lt w _ }

-- one of two numbers that fit, and one of two lanes
chosen_lt : (n x y : ℕ) (t : Bool) → x < n → y < n → cond t x y < n
chosen_lt n x y true h k = h
chosen_lt n x y false h k = k

either_lt : (w a b i : ℕ) (t : Bool) → cond t (lane w i a) (lane w i b) < 2 ^ w
either_lt w a b i t = chosen_lt (2 ^ w) (lane w i a) (lane w i b) t (lane_lt w i a) (lane_lt w i b)

pub blend-fits : (mask : ℕ) → Fits (blend mask)
unfolding blend
blend-fits mask = record { fits = λ w a b i. either_lt w b a i (eqb (top_bit w mask i) 1) }

pub mean-fits : Fits (pairwise mean)
unfolding pairwise mean
mean-fits = record { fits = λ w a b i. omega (arith, lane_lt w i a, lane_lt w i b) }

pub insert-fits : (place : ℕ) → Fits (insert place)
unfolding insert
insert-fits place =
    record { fits = λ w a b i. chosen_lt (2 ^ w) (b % 2 ^ w) (lane w i a) (eqb i (place % (64 / w))) (mod-lt b (pow_pos w)) (lane_lt w i a) }

pub maximum_signed-fits : Fits (pairwise maximum_signed)
unfolding pairwise maximum_signed
maximum_signed-fits = record { fits = λ w a b i. either_lt w a b i (lt_z (signed w (lane w i b)) (signed w (lane w i a))) }

pub maximum_unsigned-fits : Fits (pairwise maximum_unsigned)
unfolding pairwise maximum_unsigned
maximum_unsigned-fits = record { fits = λ w a b i. either_lt w a b i (ltb (lane w i b) (lane w i a)) }

pub minimum_signed-fits : Fits (pairwise minimum_signed)
unfolding pairwise minimum_signed
minimum_signed-fits = record { fits = λ w a b i. either_lt w b a i (lt_z (signed w (lane w i b)) (signed w (lane w i a))) }

pub minimum_unsigned-fits : Fits (pairwise minimum_unsigned)
unfolding pairwise minimum_unsigned
minimum_unsigned-fits = record { fits = λ w a b i. either_lt w b a i (ltb (lane w i b) (lane w i a)) }

-- a product of two numbers of w bits has twice as many
pub product_lt : (w x y : ℕ) → x < 2 ^ w → y < 2 ^ w → x * y < 2 ^ w * 2 ^ w
product_lt w x y h k = lt_of_le_of_lt (mul-le-mul_left x (le_of_lt k)) (omega (arith, digits_lt {r = 0} h (pow_pos w)))

pub product_high_unsigned-fits : Fits (pairwise product_high_unsigned)
unfolding pairwise product_high_unsigned
product_high_unsigned-fits =
    record { fits = λ w a b i. (div-lt_iff_lt-mul (pow_pos w)).1 (product_lt w (lane w i a) (lane w i b) (lane_lt w i a) (lane_lt w i b)) }

pub ruleset fitting = (product_low-fits, product_high-fits, product_sum-fits, product_high_unsigned-fits)
