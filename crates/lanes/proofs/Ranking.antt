-- PMAX and PMIN on whole registers: signed, the mask of PCMPGT chooses; unsigned, what one lane has beyond the other is added, or taken away.
use Rattle.std.specs.Prelude.{◌≡◌, refl, Bool, ℕ, ◌+◌, ◌-◌, ◌*◌, ◌/◌, ◌^◌, ◌≤◌, ◌<◌, ℤ}
use Rattle.basis.specs.Names.{bit_and, bit_xor, lt_z}
use Rattle.basis.proofs.Names.{sym, ap, ap₂, ◌∙◌, dite, dec_le, arith, rules, le-ltb, lt-ltb, pow_pos}
use Rattle.lanes.specs.Lane.{lane}
use Rattle.lanes.specs.Signed.{signed, wrap, clamp_unsigned}
use Rattle.lanes.specs.Rules.{packed, pairwise, difference_unsigned, all_ones, greater, maximum_signed, maximum_unsigned, minimum_signed, minimum_unsigned}
use Rattle.lanes.proofs.Registers.{lane_lt}
use Rattle.lanes.proofs.Fitting.{difference_unsigned-fits, greater-fits, maximum_signed-fits, maximum_unsigned-fits, minimum_signed-fits, minimum_unsigned-fits}
use Rattle.lanes.proofs.Building.{packed_lt, lane-pairwise}
use Rattle.lanes.proofs.Carrying.{lanes_sum}
use Rattle.lanes.proofs.Integers.{difference_is, unsigned_below, unsigned_within}
use Rattle.lanes.proofs.Choosing.{chosen_by}

-- ---- in a lane

-- what PSUBUS leaves is what x has beyond y, which is 0 where it has nothing
beyond : (w x y : ℕ) → x < 2 ^ w → difference_unsigned w x y ≡ x - y
unfolding difference_unsigned
beyond w x y h =
    ap (λ (z : ℤ). wrap w (clamp_unsigned w z)) (difference_is x y)
    ∙ dite (dec_le x y)
    (λ k. sym (unsigned_below w x y (2 ^ w - 1) refl (omega (arith, pow_pos w)) k) ∙ omega arith)
    (λ k. sym (unsigned_within w x y (2 ^ w - 1) refl (omega (arith, pow_pos w)) (omega arith) (omega arith)))

maximum-lane : (w x y : ℕ) → x + (y - x) ≡ maximum_unsigned w x y
unfolding maximum_unsigned
maximum-lane w x y = dite (dec_le x y) (λ k. rw (le-ltb y x k) (omega arith)) (λ k. rw (lt-ltb y x (omega arith)) (omega arith))

minimum_lane : (w x y : ℕ) → minimum_unsigned w x y + (x - y) ≡ x
unfolding minimum_unsigned
minimum_lane w x y = dite (dec_le x y) (λ k. rw (le-ltb y x k) (omega arith)) (λ k. rw (lt-ltb y x (omega arith)) (omega arith))

-- ---- in every lane

pub beyond_lane : (w a b s i : ℕ) → s ≡ packed (pairwise difference_unsigned) w a b → i < 64 / w → lane w i s ≡ lane w i a - lane w i b
beyond_lane w a b s i e k =
    ap (lane w i) e ∙ lane-pairwise w a b i k difference_unsigned difference_unsigned-fits ∙ beyond w (lane w i a) (lane w i b) (lane_lt w i a)

pub beyond_lt : (w a b s : ℕ) → s ≡ packed (pairwise difference_unsigned) w a b → s < 2 ^ 64
beyond_lt w a b s e = rw e (packed_lt w a b (pairwise difference_unsigned) difference_unsigned-fits)

module _ (w a b : ℕ) (whole : w * (64 / w) ≡ 64) (ha : a < 2 ^ 64) where
  module _ (s : ℕ) (e : s ≡ packed (pairwise difference_unsigned) w b a) where
    pub greatest_unsigned_is : a + s ≡ packed (pairwise maximum_unsigned) w a b
    greatest_unsigned_is =
        lanes_sum w a s (packed (pairwise maximum_unsigned) w a b) whole ha (beyond_lt w b a s e)
        (packed_lt w a b (pairwise maximum_unsigned) maximum_unsigned-fits)
        (λ i k.
        ap (λ (n : ℕ). lane w i a + n) (beyond_lane w b a s i e k) ∙ maximum-lane w (lane w i a) (lane w i b)
        ∙ sym (lane-pairwise w a b i k maximum_unsigned maximum_unsigned-fits))

    pub greatest_fits : a + s < 2 ^ 64
    greatest_fits = rw greatest_unsigned_is (packed_lt w a b (pairwise maximum_unsigned) maximum_unsigned-fits)

  module _ (s : ℕ) (e : s ≡ packed (pairwise difference_unsigned) w a b) where
    least_sum : packed (pairwise minimum_unsigned) w a b + s ≡ a
    least_sum =
        lanes_sum w (packed (pairwise minimum_unsigned) w a b) s a whole (packed_lt w a b (pairwise minimum_unsigned) minimum_unsigned-fits)
        (beyond_lt w a b s e) ha
        (λ i k.
        ap₂ ◌+◌ (lane-pairwise w a b i k minimum_unsigned minimum_unsigned-fits) (beyond_lane w a b s i e k)
        ∙ minimum_lane w (lane w i a) (lane w i b))

    pub beyond_le : s ≤ a
    beyond_le = omega (arith, least_sum)

    pub least_unsigned_is : a - s ≡ packed (pairwise minimum_unsigned) w a b
    least_unsigned_is = omega (arith, least_sum)

-- the mask has ones where a's number is greater
module _ (w a b mask : ℕ) (whole : w * (64 / w) ≡ 64) (ha : a < 2 ^ 64) (hb : b < 2 ^ 64) (e : mask ≡ packed (pairwise greater) w a b) where
  abbrev above : ℕ → Bool
  above i = lt_z (signed w (lane w i b)) (signed w (lane w i a))

  ones : (i : ℕ) → i < 64 / w → lane w i mask ≡ all_ones w (above i)
  unfolding greater
  ones i k = ap (lane w i) e ∙ lane-pairwise w a b i k greater greater-fits

  pub greatest_signed_is : bit_xor b (bit_and (bit_xor b a) mask) ≡ packed (pairwise maximum_signed) w a b
  unfolding pairwise maximum_signed
  greatest_signed_is = chosen_by (pairwise maximum_signed) w a b b a mask above whole maximum_signed-fits hb ha ones (λ i. refl)

  pub least_signed_is : bit_xor a (bit_and (bit_xor a b) mask) ≡ packed (pairwise minimum_signed) w a b
  unfolding pairwise minimum_signed
  least_signed_is = chosen_by (pairwise minimum_signed) w a b a b mask above whole minimum_signed-fits ha hb ones (λ i. refl)

pub ruleset ranking = (rules, greatest_unsigned_is, greatest_fits, beyond_le, least_unsigned_is, greatest_signed_is, least_signed_is)
