-- The lanes' top bits: in one lane; of all lanes, each at the low end of its lane; and those times a lane of ones, which are ones in the lanes below
-- zero.
use Rattle.std.specs.Prelude.{◌≡◌, refl, ℕ, ◌+◌, ◌-◌, ◌*◌, ◌/◌, ◌%◌, ◌^◌, ◌≤◌, ◌<◌}
use Rattle.basis.specs.Names.{bit_and, sub_ℕ}
use Rattle.basis.proofs.Names.{sym, ap, ap₂, ◌∙◌, dite, one-mul, zero-mul, div-eq_of_lt, dec_le, arith, rules, le-ltb, lt-ltb, pow_pos, shr_lt, high}
use Rattle.lanes.specs.Lane.{lane, register, top_bit}
use Rattle.lanes.specs.Signed.{signed}
use Rattle.lanes.specs.Rules.{packed, pairwise, greater}
use Rattle.lanes.specs.inner.EveryLane.{lowest_bits}
use Rattle.lanes.proofs.Registers.{lane_lt, lane_zero, build_ext, register_lt, lane-register, mul_builds, lane_down, lanes_decide}
use Rattle.lanes.proofs.Powers.{halves, top_and_rest, shifted_fits}
use Rattle.lanes.proofs.Bitwise.{and_fits, flip_high, flip_low}
use Rattle.lanes.proofs.Fitting.{greater-fits}
use Rattle.lanes.proofs.Building.{packed_lt, lane-packed}
use Rattle.lanes.proofs.Integers.{is_lt, is_pos}
use Rattle.lanes.proofs.Repeating.{masked-lane}

-- ---- in a lane, whose top bit weighs h

module _ (w : ℕ) (l : 1 ≤ w) where
  abbrev h : ℕ
  h = 2 ^ (w - 1)

  -- the top bit is 0 or 1; it is 1 from h on; and not x has the other one, over the complement of the rest
  pub bit_lt : (x : ℕ) → x < 2 ^ w → x / 2 ^ (w - 1) < 2
  bit_lt x m = shr_lt 1 (w - 1) (rw (← top_and_rest w l) m)

  pub bit_low : (x : ℕ) → x < 2 ^ (w - 1) → x / 2 ^ (w - 1) ≡ 0
  bit_low x k = div-eq_of_lt k

  pub bit_high : (x : ℕ) → 2 ^ (w - 1) ≤ x → x < 2 ^ w → x / 2 ^ (w - 1) ≡ 1
  bit_high x k m = ap (λ (y : ℕ). y / h) apart ∙ high 1 (w - 1) {lo = x - h} (omega (arith, halves w l))
    where
      apart : x ≡ 1 * h + (x - h)
      apart = omega arith

  pub bit_not : (x : ℕ) → x < 2 ^ w → (2 ^ w - 1 - x) / 2 ^ (w - 1) ≡ 1 - x / 2 ^ (w - 1)
  bit_not x m = ap (λ (k : ℕ). (2 ^ k - 1 - x) / h) (top_and_rest w l) ∙ flip_high x 1 (w - 1) (rw (← top_and_rest w l) m)

  pub rest_not : (x : ℕ) → x < 2 ^ w → (2 ^ w - 1 - x) % 2 ^ (w - 1) ≡ 2 ^ (w - 1) - 1 - x % 2 ^ (w - 1)
  rest_not x m = ap (λ (k : ℕ). (2 ^ k - 1 - x) % h) (top_and_rest w l) ∙ flip_low x 1 (w - 1) (rw (← top_and_rest w l) m)

  -- where the top bit is set, a lane's number is 2 ^ w less
  pub number_is : (x : ℕ) → x < 2 ^ w → signed w x ≡ sub_ℕ x (x / 2 ^ (w - 1) * 2 ^ w)
  unfolding signed
  number_is x m =
      dite (dec_le h x)
      (λ k. rw (le-ltb x h k, bit_high x k m, one-mul) refl)
      (λ k. rw (lt-ltb x h (omega arith), bit_low x (omega arith), zero-mul) (sym (is_pos x 0 x (omega arith))))

  -- the top bit, times ones, is ones where the lane is below zero
  negative_lane : (x : ℕ) → x < 2 ^ w → x / 2 ^ (w - 1) * (2 ^ w - 1) ≡ greater w 0 x
  unfolding greater signed
  negative_lane x m =
      dite (dec_le h x)
      (λ k. rw (bit_high x k m, le-ltb x h k, lt-ltb 0 h (pow_pos (w - 1)), is_lt x (2 ^ w) m) (one-mul (2 ^ w - 1)))
      (λ k. rw (bit_low x (omega arith), lt-ltb x h (omega arith), lt-ltb 0 h (pow_pos (w - 1)), le-ltb x 0 (omega arith)) (zero-mul (2 ^ w - 1)))

-- ---- in every lane

module _ (w x : ℕ) where
  bit-fits : (i : ℕ) → top_bit w x i < 2 ^ w
  unfolding top_bit
  bit-fits i = shifted_fits w (lane w i x) (w - 1) (lane_lt w i x)

  signs_lane : (i : ℕ) → i < 64 / w → lane w i (register w (top_bit w x)) ≡ lane w i x / 2 ^ (w - 1)
  unfolding top_bit
  signs_lane = lane-register w (top_bit w x) (λ j k. bit-fits j)

  signs_lt : register w (top_bit w x) < 2 ^ 64
  signs_lt = register_lt w (top_bit w x) (λ i k. bit-fits i)

  module _ (l : 1 ≤ w) where
    pub signs_is : (lows : ℕ) → w * (64 / w) ≡ 64 → lows ≡ lowest_bits w → x < 2 ^ 64 → bit_and (x / 2 ^ (w - 1)) lows ≡ register w (top_bit w x)
    signs_is lows whole e hx =
        lanes_decide w (64 / w) (bit_and (x / 2 ^ (w - 1)) lows) (register w (top_bit w x))
        (rw whole (and_fits 64 (x / 2 ^ (w - 1)) lows (shifted_fits 64 x (w - 1) hx))) (rw whole signs_lt)
        (λ i k.
        masked-lane w 1 1 lows (x / 2 ^ (w - 1)) i l refl e k ∙ ap (λ (j : ℕ). lane w i (x / 2 ^ (w - 1)) % 2 ^ j) one_bit
        ∙ lane_down w (w - 1) i x (omega arith) ∙ sym (signs_lane i k))
      where
        one_bit : 1 ≡ w - (w - 1)
        one_bit = omega arith

    negative : (i : ℕ) → pairwise greater w 0 x i ≡ lane w i x / 2 ^ (w - 1) * (2 ^ w - 1)
    unfolding pairwise
    negative i = ap (λ (y : ℕ). greater w y (lane w i x)) (lane_zero w i) ∙ sym (negative_lane w l (lane w i x) (lane_lt w i x))

    pub negatives_lane : (i : ℕ) → i < 64 / w → lane w i (packed (pairwise greater) w 0 x) ≡ lane w i x / 2 ^ (w - 1) * (2 ^ w - 1)
    negatives_lane i k = lane-packed w 0 x i k (pairwise greater) greater-fits ∙ negative i

    pub negatives_is : (r m : ℕ) → r ≡ register w (top_bit w x) → m ≡ 2 ^ w - 1 → r * m ≡ packed (pairwise greater) w 0 x
    unfolding packed register top_bit
    negatives_is r m e d =
        ap₂ ◌*◌ e d ∙ mul_builds w (64 / w) (2 ^ w - 1) (top_bit w x)
        ∙ build_ext w (64 / w) (λ i. top_bit w x i * (2 ^ w - 1)) (pairwise greater w 0 x) (λ i k. sym (negative i))

    pub negatives_fit : (r m : ℕ) → r ≡ register w (top_bit w x) → m ≡ 2 ^ w - 1 → r * m < 2 ^ 64
    negatives_fit r m e d = rw (negatives_is r m e d) (packed_lt w 0 x (pairwise greater) greater-fits)

pub ruleset signing = (rules, signs_is, negatives_is, negatives_fit)
