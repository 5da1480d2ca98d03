-- Both registers' numbers of two lanes' bits, in turn, each clamped from its two parts.
use Rattle.std.specs.Prelude.{◌≡◌, ℕ, ◌+◌, ◌-◌, ◌*◌, ◌/◌, ◌%◌, ◌^◌, ◌≤◌, ◌<◌, eqb, ℤ}
use Rattle.basis.specs.Names.{bit_and, bit_or, bit_xor}
use Rattle.basis.proofs.Names.{ap, ap₂, ◌∙◌, mul-one, mod-eq_of_lt, rules, or_lt, xor_lt, ones_sub-lt, shr_lt}
use Rattle.lanes.specs.Lane.{lane, register}
use Rattle.lanes.specs.Signed.{clamp_signed, clamp_unsigned}
use Rattle.lanes.specs.Rules.{packed, pairwise, equal, greater, unpack}
use Rattle.lanes.specs.inner.EveryLane.{range_end}
use Rattle.lanes.specs.inner.Turns.{part, in_turn}
use Rattle.lanes.proofs.Registers.{lane_lt, lane_zero, lane_first}
use Rattle.lanes.proofs.Bitwise.{lane_and, lane_or, lane_xor, lane_not, and_fits}
use Rattle.lanes.proofs.Fitting.{Fits, wrap_lt, equal-fits, greater-fits}
use Rattle.lanes.proofs.Choosing.{choose_lane}
use Rattle.lanes.proofs.Building.{inside, packed_lt, lane-packed, lane-pairwise, by_lanes}
use Rattle.lanes.proofs.Signs.{negatives_lane}
use Rattle.lanes.proofs.Ends.{ends_lt, ends_lane}
use Rattle.lanes.proofs.Parting.{part-fits}
use Rattle.lanes.proofs.Clamping.{clamped_signed, clamped_unsigned_lem}

pub in_turn-fits : (clamped : ℕ → ℤ → ℤ) → Fits (in_turn clamped)
unfolding in_turn
in_turn-fits clamped = record { fits = λ w a b i. wrap_lt w _ }

module _ (w a b low high : ℕ) (l : 1 ≤ w) (whole : w * (64 / w) ≡ 64) (el : low ≡ packed (part 0) w a b) (eh : high ≡ packed (part 1) w a b) where
  -- number i, and its parts
  abbrev number : ℕ → ℕ
  number i = unpack 0 (w + w) a b i

  number_lt : (i : ℕ) → number i < 2 ^ (w + w)
  unfolding unpack
  number_lt i = lane_lt (w + w) _ _

  low_lane : (i : ℕ) → i < 64 / w → lane w i low ≡ number i % 2 ^ w
  unfolding part
  low_lane i k = ap (lane w i) el ∙ lane-packed w a b i k (part 0) (part-fits 0) ∙ lane_first w (number i)

  high_lane : (i : ℕ) → i < 64 / w → lane w i high ≡ number i / 2 ^ w
  unfolding part lane
  high_lane i k =
      ap (lane w i) eh ∙ lane-packed w a b i k (part 1) (part-fits 1)
      ∙ ap (λ (n : ℕ). number i / 2 ^ n % 2 ^ w) (mul-one w) ∙ mod-eq_of_lt (shr_lt w w (number_lt i))

  low_lt : low < 2 ^ 64
  low_lt = rw el (packed_lt w a b (part 0) (part-fits 0))

  module _ (negative fits ends : ℕ) (en : negative ≡ packed (pairwise greater) w 0 low) (ef : fits ≡ packed (pairwise equal) w high negative)
      (ee : ends ≡ register w (range_end w high)) where
    pub signed-in_turn : bit_xor ends (bit_and (bit_xor ends low) fits) ≡ packed (in_turn clamp_signed) w a b
    unfolding equal in_turn
    signed-in_turn =
        let he : ends < 2 ^ 64 = rw ee (ends_lt w high l) in
        by_lanes (in_turn clamp_signed) w a b _ whole (in_turn-fits clamp_signed)
        (xor_lt 64 ends _ he (and_fits 64 (bit_xor ends low) fits (xor_lt 64 ends low he low_lt)))
        (λ i k.
        lane_xor w i ends _
        ∙ ap (bit_xor (lane w i ends))
        (lane_and w i _ fits ∙ ap₂ bit_and (lane_xor w i ends low) (ap (lane w i) ef ∙ lane-pairwise w high negative i k equal equal-fits))
        ∙ choose_lane w (lane w i ends) (lane w i low) (eqb (lane w i high) (lane w i negative)) (lane_lt w i ends) (lane_lt w i low)
        ∙ rw (ap (lane w i) ee ∙ ends_lane w high l i k, ap (lane w i) en ∙ negatives_lane w low l i k, low_lane i k, high_lane i k)
        (clamped_signed w (number i) l (number_lt i)))

  pub unsigned_in_turn : (zeros negative : ℕ) → zeros ≡ packed (pairwise equal) w high 0 → negative ≡ packed (pairwise greater) w 0 high
      → bit_and (bit_or low (2 ^ 64 - 1 - zeros)) (2 ^ 64 - 1 - negative) ≡ packed (in_turn clamp_unsigned) w a b
  unfolding equal in_turn
  unsigned_in_turn zeros negative ez en =
      by_lanes (in_turn clamp_unsigned) w a b _ whole (in_turn-fits clamp_unsigned)
      (and_fits 64 _ (2 ^ 64 - 1 - negative) (or_lt 64 low _ low_lt (ones_sub-lt 64 zeros)))
      (λ i k.
      let c = inside w 64 i l k in
      let e = ap (lane w i) ez ∙ lane-pairwise w high 0 i k equal equal-fits in
      let f = ap (lane w i) en ∙ negatives_lane w high l i k in
      lane_and w i _ (2 ^ 64 - 1 - negative)
      ∙ ap₂ bit_and
      (lane_or w i low (2 ^ 64 - 1 - zeros)
      ∙ ap (bit_or (lane w i low)) (lane_not w i zeros (rw ez (packed_lt w high 0 (pairwise equal) equal-fits)) c))
      (lane_not w i negative (rw en (packed_lt w 0 high (pairwise greater) greater-fits)) c)
      ∙ rw (e, lane_zero, f, low_lane i k, high_lane i k) (clamped_unsigned_lem w (number i) l (number_lt i)))

pub ruleset in_turns = (rules, signed-in_turn, unsigned_in_turn)
