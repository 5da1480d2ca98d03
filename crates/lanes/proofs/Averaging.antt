-- PAVG on whole registers: all bits of both, less half of those that differ.
use Rattle.std.specs.Prelude.{◌≡◌, refl, ℕ, ◌+◌, ◌-◌, ◌*◌, ◌/◌, ◌^◌, ◌≤◌, ◌<◌}
use Rattle.basis.specs.Names.{bit_and, bit_or, bit_xor}
use Rattle.basis.proofs.Names.{sym, ap, ap₂, ◌∙◌, arith, rules, or_add_and, or_lt, xor_add_and, xor_lt}
use Rattle.lanes.specs.Lane.{lane}
use Rattle.lanes.specs.Rules.{packed, pairwise, mean}
use Rattle.lanes.specs.inner.EveryLane.{rests}
use Rattle.lanes.proofs.Registers.{lane_down}
use Rattle.lanes.proofs.Powers.{shifted_fits}
use Rattle.lanes.proofs.Bitwise.{lane_or, lane_xor, and_fits}
use Rattle.lanes.proofs.Fitting.{mean-fits}
use Rattle.lanes.proofs.Building.{packed_lt, lane-pairwise}
use Rattle.lanes.proofs.Carrying.{lanes_sum}
use Rattle.lanes.proofs.Repeating.{masked-lane}

-- in a lane: twice all bits are both numbers and the bits that differ
mean-lane : (w x y : ℕ) → mean w x y + bit_xor x y / 2 ≡ bit_or x y
unfolding mean
mean-lane w x y = omega (arith, xor_add_and x y, or_add_and x y)

-- in every lane
module _ (w a b mask : ℕ) (l : 1 ≤ w) (whole : w * (64 / w) ≡ 64) (e : mask ≡ rests w) (ha : a < 2 ^ 64) (hb : b < 2 ^ 64) where
  abbrev halved : ℕ
  halved = bit_and (bit_xor a b / 2 ^ 1) mask

  halved_lane : (i : ℕ) → i < 64 / w → lane w i halved ≡ bit_xor (lane w i a) (lane w i b) / 2
  halved_lane i k =
      masked-lane w (w - 1) (2 ^ (w - 1) - 1) mask (bit_xor a b / 2 ^ 1) i (omega arith) refl e k ∙ lane_down w 1 i (bit_xor a b) l
      ∙ ap (λ (x : ℕ). x / 2) (lane_xor w i a b)

  mean-sum : packed (pairwise mean) w a b + halved ≡ bit_or a b
  mean-sum =
      lanes_sum w (packed (pairwise mean) w a b) halved (bit_or a b) whole (packed_lt w a b (pairwise mean) mean-fits)
      (and_fits 64 (bit_xor a b / 2 ^ 1) mask (shifted_fits 64 (bit_xor a b) 1 (xor_lt 64 a b ha hb))) (or_lt 64 a b ha hb)
      (λ i k.
      ap₂ ◌+◌ (lane-pairwise w a b i k mean mean-fits) (halved_lane i k) ∙ mean-lane w (lane w i a) (lane w i b) ∙ sym (lane_or w i a b))

  pub halved_le : bit_and (bit_xor a b / 2 ^ 1) mask ≤ bit_or a b
  halved_le = omega (arith, mean-sum)

  pub mean_at_once : bit_or a b - bit_and (bit_xor a b / 2 ^ 1) mask ≡ packed (pairwise mean) w a b
  mean_at_once = omega (arith, mean-sum)

pub ruleset averaging = (rules, halved_le, mean_at_once)
