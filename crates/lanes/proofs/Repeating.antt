-- A number in every lane: the lowest bits of all lanes, times that number; all bits but the top bit are one. As a mask, ones in the low bits of
-- every lane keep these.
use Rattle.std.specs.Prelude.{◌≡◌, ℕ, ◌-◌, ◌*◌, ◌/◌, ◌%◌, ◌^◌, ◌≤◌, ◌<◌}
use Rattle.basis.specs.Names.{bit_and}
use Rattle.basis.proofs.Names.{ap, ◌∙◌, one-mul, arith, rules, and_mask, pow_pos, pow_mono}
use Rattle.lanes.specs.Lane.{lane, register}
use Rattle.lanes.specs.inner.EveryLane.{repeated, lowest_bits, rests}
use Rattle.lanes.proofs.Registers.{build_ext, lane-register, mul_builds, register_lt}
use Rattle.lanes.proofs.Powers.{halves}
use Rattle.lanes.proofs.Bitwise.{lane_and}

module _ (w x : ℕ) where
  pub repeated-lane : (i : ℕ) → x < 2 ^ w → i < 64 / w → lane w i (repeated w x) ≡ x
  unfolding repeated
  repeated-lane i h = lane-register w (λ j. x) (λ j k. h) i

  pub repeated_lt : x < 2 ^ w → repeated w x < 2 ^ 64
  unfolding repeated
  repeated_lt h = register_lt w (λ j. x) (λ j k. h)

  pub repeated_is : (lows : ℕ) → lows ≡ lowest_bits w → lows * x ≡ repeated w x
  unfolding repeated register
  repeated_is lows e =
      ap (λ (y : ℕ). y * x) e ∙ mul_builds w (64 / w) x (λ i. 1) ∙ build_ext w (64 / w) (λ i. 1 * x) (λ i. x) (λ i k. one-mul x)

  pub repeated-fits : (lows : ℕ) → lows ≡ lowest_bits w → x < 2 ^ w → lows * x < 2 ^ 64
  repeated-fits lows e h = rw (repeated_is lows e) (repeated_lt h)

-- all bits but the top bit, which weighs h, fit a lane; and so repeated they are `rests`
module _ (w h : ℕ) (e : h ≡ 2 ^ (w - 1)) where
  pub rest_fits : 1 ≤ w → h - 1 < 2 ^ w
  rest_fits l = omega (arith, halves w l, pow_pos (w - 1))

  pub rests_is : (r : ℕ) → r ≡ repeated w (h - 1) → r ≡ rests w
  rests_is r d = d ∙ ap (λ (n : ℕ). repeated w (n - 1)) e

-- a mask of j ones in every lane
pub masked-lane : (w j n mask x i : ℕ) → j ≤ w → n ≡ 2 ^ j - 1 → mask ≡ repeated w n → i < 64 / w → lane w i (bit_and x mask) ≡ lane w i x % 2 ^ j
masked-lane w j n mask x i l d e k =
    lane_and w i x mask ∙ ap (bit_and (lane w i x)) (ap (lane w i) e ∙ repeated-lane w n i (omega (arith, d, pow_pos j, pow_mono {j = w} l)) k ∙ d)
    ∙ and_mask (lane w i x) j

pub ruleset repeating = (rules, repeated_is, repeated-fits, rest_fits, rests_is)
