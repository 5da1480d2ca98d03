-- The ends of the signed range, in every lane the one on the lane's side: the top bits, and all bits but the top bit, added.
use Rattle.std.specs.Prelude.{◌≡◌, ℕ, ◌+◌, ◌-◌, ◌/◌, ◌^◌, ◌≤◌, ◌<◌}
use Rattle.basis.proofs.Names.{ap₂, ◌∙◌, arith, rules, pow_pos}
use Rattle.lanes.specs.Lane.{lane, register, top_bit}
use Rattle.lanes.specs.inner.EveryLane.{repeated, rests, range_end}
use Rattle.lanes.proofs.Registers.{lane_lt, register_lt, lane-register}
use Rattle.lanes.proofs.Powers.{halves}
use Rattle.lanes.proofs.Carrying.{add_builds}
use Rattle.lanes.proofs.Signs.{bit_lt}

module _ (w x : ℕ) (l : 1 ≤ w) where
  end_fits : (i : ℕ) → range_end w x i < 2 ^ w
  unfolding range_end top_bit
  end_fits i = omega (arith, bit_lt w l (lane w i x) (lane_lt w i x), halves w l, pow_pos (w - 1))

  pub ends_lt : register w (range_end w x) < 2 ^ 64
  ends_lt = register_lt w (range_end w x) (λ i k. end_fits i)

  pub ends_lane : (i : ℕ) → i < 64 / w → lane w i (register w (range_end w x)) ≡ lane w i x / 2 ^ (w - 1) + (2 ^ (w - 1) - 1)
  unfolding range_end top_bit
  ends_lane = lane-register w (range_end w x) (λ i k. end_fits i)

  module _ (signs most : ℕ) (es : signs ≡ register w (top_bit w x)) (em : most ≡ rests w) where
    pub ends_is : signs + most ≡ register w (range_end w x)
    unfolding register repeated range_end
    ends_is = ap₂ ◌+◌ es em ∙ add_builds w (64 / w) (top_bit w x) (λ i. 2 ^ (w - 1) - 1)

    pub ends_fit : signs + most < 2 ^ 64
    ends_fit = rw ends_is ends_lt

pub ruleset ending = (rules, ends_is, ends_fit)
