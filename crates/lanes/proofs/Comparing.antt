-- PCMPEQ and PCMPGT on whole registers: a top bit says yes or no of its lane. It comes from the lanes' own top bits, and from a sum of the lanes
-- without them, which stays in its lane.
use Rattle.std.specs.Prelude.{◌≡◌, refl, Bool, true, false, ℕ, zero, suc, ◌+◌, ◌-◌, ◌*◌, ◌/◌, ◌%◌, ◌^◌, ◌≤◌, ◌<◌, ltb, eqb}
use Rattle.basis.specs.Names.{bit_and, bit_or, bit_xor, sub_ℕ, lt_z}
use Rattle.basis.proofs.Names.{sym, ap, ap₂, ◌∙◌, dite, one-mul, zero-mul, add-zero, mod-lt, div-add-mod', dec_le, arith, rules, eq-eqb, ne_eqb, le-ltb, lt-ltb, and_le_l, and_le_r, and_shr, or_lt, or_shr, xor_add_and, xor_block, xor_lt, xor_self, xor_shr, xor_zero_r, pow_pos, ones_sub-lt}
use Rattle.lanes.specs.Lane.{lane}
use Rattle.lanes.specs.Signed.{signed}
use Rattle.lanes.specs.Rules.{packed, pairwise, all_ones, equal, greater}
use Rattle.lanes.specs.inner.EveryLane.{rests}
use Rattle.lanes.proofs.Registers.{lane_lt}
use Rattle.lanes.proofs.Powers.{halves}
use Rattle.lanes.proofs.Bitwise.{lane_and, lane_or, lane_xor, lane_not, and_fits}
use Rattle.lanes.proofs.Fitting.{Fits, equal-fits, greater-fits}
use Rattle.lanes.proofs.Building.{inside, packed_lt, by_lanes}
use Rattle.lanes.proofs.Carrying.{lanes_add, lanes_add_lt}
use Rattle.lanes.proofs.Integers.{lt_same}
use Rattle.lanes.proofs.TopBits.{signed_is}
use Rattle.lanes.proofs.Repeating.{repeated-lane, repeated_lt, rest_fits, masked-lane}
use Rattle.lanes.proofs.Signs.{bit_lt, bit_low, bit_high, bit_not, rest_not, negatives_lane}

-- ---- in a lane, whose top bit weighs h

module _ (w : ℕ) (l : 1 ≤ w) (x y : ℕ) (hx : x < 2 ^ w) (hy : y < 2 ^ w) where
  abbrev h : ℕ
  h = 2 ^ (w - 1)

  rest_lt : (n : ℕ) → n % 2 ^ (w - 1) < 2 ^ (w - 1)
  rest_lt n = mod-lt n (pow_pos (w - 1))

  -- the bits that differ
  abbrev z : ℕ
  z = bit_xor x y

  hz : z < 2 ^ w
  hz = xor_lt w x y hx hy

  -- ones, times the bit that says whether
  yes : {t : Bool} → t ≡ true → 1 * (2 ^ w - 1) ≡ all_ones w t
  yes e = one-mul (2 ^ w - 1) ∙ sym (ap (all_ones w) e)

  no : {t : Bool} → t ≡ false → 0 * (2 ^ w - 1) ≡ all_ones w t
  no e = zero-mul (2 ^ w - 1) ∙ sym (ap (all_ones w) e)

  -- the rest is not 0 where ones, added to it, reach the top bit
  equal_lane : (2 ^ w - 1 - bit_or (z % 2 ^ (w - 1) + (2 ^ (w - 1) - 1)) z) / 2 ^ (w - 1) * (2 ^ w - 1) ≡ equal w x y
  unfolding equal
  equal_lane =
      simp (bit_not w l (bit_or d z) (or_lt w d z (omega (arith, halves w l, rest_lt z)) hz), or_shr)
      (by (z / h) (z % h) (bit_lt w l z hz) (rest_lt z) (div-add-mod' z h))
    where
      d : ℕ
      d = z % h + (h - 1)

      alike : z ≡ 0 → eqb x y ≡ true
      alike e = eq-eqb x y (omega (arith, xor_add_and x y, and_le_l x y, and_le_r x y))

      unlike : 0 < z → eqb x y ≡ false
      unlike g = ne_eqb x y (λ e. omega (arith, ap (λ (b : ℕ). bit_xor b y) e ∙ xor_self y))

      by : (i u : ℕ) → i < 2 → u < h → i * h + u ≡ z → (1 - bit_or ((u + (h - 1)) / h) i) * (2 ^ w - 1) ≡ all_ones w (eqb x y)
      by zero zero p q e = rw (bit_low w l (zero + (h - 1)) (omega arith)) (yes (alike (omega arith)))
      by zero (suc u) p q e = rw (bit_high w l (suc u + (h - 1)) (omega arith) (omega (arith, halves w l))) (no (unlike (omega arith)))
      by (suc zero) u p q e =
          dite (dec_le 1 u)
          (λ g. rw (bit_high w l (u + (h - 1)) (omega arith) (omega (arith, halves w l))) (no (unlike (omega arith))))
          (λ g. rw (bit_low w l (u + (h - 1)) (omega arith)) (no (unlike (omega arith))))
      by (suc (suc i)) u p q e = absurd (omega arith)

  -- the rest of x and the complement of the rest of y reach the top bit where the one is beyond the other
  abbrev beyond : ℕ
  beyond = x % 2 ^ (w - 1) + (2 ^ (w - 1) - 1 - y % 2 ^ (w - 1))

  greater-lane : bit_or (bit_and (2 ^ w - 1 - x) y) (bit_and (2 ^ w - 1 - z) beyond) / 2 ^ (w - 1) * (2 ^ w - 1) ≡ greater w x y
  unfolding greater
  greater-lane =
      simp (or_shr, and_shr, bit_not w l x hx, bit_not w l z hz, xor_shr)
      (by (x / h) (y / h) (bit_lt w l x hx) (bit_lt w l y hy)
      ∙ ap (all_ones w) (sym (ap₂ lt_z (read y hy) (read x hx) ∙ lt_same (bit_xor y h) (bit_xor x h) h ∙ ap₂ ltb (turned y) (turned x))))
    where
      read : (n : ℕ) → n < 2 ^ w → signed w n ≡ sub_ℕ (bit_xor n h) h
      read = signed_is w h refl (halves w l) (pow_pos (w - 1))

      turned : (n : ℕ) → bit_xor n h ≡ bit_xor (n / h) 1 * h + n % h
      turned n = simp (one-mul, add-zero, xor_zero_r, div-add-mod') at (xor_block (w - 1) (n / h) 1 (n % h) 0 (rest_lt n) (pow_pos (w - 1)))

      -- the top bits are the same
      rests : (i : ℕ) → bit_or 0 (bit_and 1 (beyond / h)) * (2 ^ w - 1) ≡ all_ones w (ltb (i * h + y % h) (i * h + x % h))
      rests i =
          dite (dec_le (x % h) (y % h))
          (λ g. rw (bit_low w l beyond (omega (arith, rest_lt y))) (no (le-ltb (i * h + y % h) (i * h + x % h) (omega arith))))
          (λ g. rw (bit_high w l beyond (omega arith) (omega (arith, halves w l, rest_lt x)))
          (yes (lt-ltb (i * h + y % h) (i * h + x % h) (omega arith))))

      by : (i j : ℕ) → i < 2 → j < 2
          → bit_or (bit_and (1 - i) j) (bit_and (1 - bit_xor i j) (beyond / h)) * (2 ^ w - 1)
          ≡ all_ones w (ltb (bit_xor j 1 * h + y % h) (bit_xor i 1 * h + x % h))
      by zero zero p q = rests 1
      by zero (suc zero) p q = yes (lt-ltb (0 * h + y % h) (1 * h + x % h) (omega (arith, rest_lt y)))
      by zero (suc (suc j)) p q = absurd (omega arith)
      by (suc zero) zero p q = no (le-ltb (1 * h + y % h) (0 * h + x % h) (omega (arith, rest_lt x)))
      by (suc zero) (suc zero) p q = rests 0
      by (suc zero) (suc (suc j)) p q = absurd (omega arith)
      by (suc (suc i)) j p q = absurd (omega arith)

-- ---- in every lane

-- without its top bit, a lane is below 2 ^ (w - 1)
module _ (w a b mask : ℕ) (l : 1 ≤ w) (whole : w * (64 / w) ≡ 64) (e : mask ≡ rests w) (ha : a < 2 ^ 64) (hb : b < 2 ^ 64) where
  fits : 2 ^ (w - 1) - 1 < 2 ^ w
  fits = rest_fits w (2 ^ (w - 1)) refl l

  mask_lane : (i : ℕ) → i < 64 / w → lane w i mask ≡ 2 ^ (w - 1) - 1
  mask_lane i k = ap (lane w i) e ∙ repeated-lane w (2 ^ (w - 1) - 1) i fits k

  mask_fits : mask < 2 ^ 64
  mask_fits = rw e (repeated_lt w (2 ^ (w - 1) - 1) fits)

  rest_lane : (x i : ℕ) → i < 64 / w → lane w i (bit_and x mask) ≡ lane w i x % 2 ^ (w - 1)
  rest_lane x i = masked-lane w (w - 1) (2 ^ (w - 1) - 1) mask x i (omega arith) refl e

  rest_small : (x i : ℕ) → i < 64 / w → lane w i (bit_and x mask) < 2 ^ (w - 1)
  rest_small x i k = rw (rest_lane x i k) (mod-lt (lane w i x) (pow_pos (w - 1)))

  -- the top bits of x say what the operation leaves
  by_top_bits : (x : ℕ) (operation : ℕ → ℕ → ℕ → ℕ) → Fits (pairwise operation)
      → ((i : ℕ) → i < 64 / w → lane w i x / 2 ^ (w - 1) * (2 ^ w - 1) ≡ operation w (lane w i a) (lane w i b))
      → packed (pairwise greater) w 0 x ≡ packed (pairwise operation) w a b
  unfolding pairwise
  by_top_bits x operation f same =
      by_lanes (pairwise operation) w a b (packed (pairwise greater) w 0 x) whole f (packed_lt w 0 x (pairwise greater) greater-fits)
      (λ i k. negatives_lane w x l i k ∙ same i k)

  -- PCMPEQ

  abbrev differ : ℕ
  differ = bit_xor a b

  differ_lt : differ < 2 ^ 64
  differ_lt = xor_lt 64 a b ha hb

  abbrev filled : ℕ
  filled = bit_and differ mask + mask

  filled_room : (i : ℕ) → i < 64 / w → lane w i (bit_and differ mask) + lane w i mask < 2 ^ w
  filled_room i k = omega (arith, halves w l, rest_small differ i k, mask_lane i k)

  pub filled_fits : bit_and (bit_xor a b) mask + mask < 2 ^ 64
  filled_fits = lanes_add_lt w (bit_and differ mask) mask filled_room whole (and_fits 64 differ mask differ_lt) mask_fits

  filled_lane : (i : ℕ) → i < 64 / w → lane w i filled ≡ lane w i differ % 2 ^ (w - 1) + (2 ^ (w - 1) - 1)
  filled_lane i k = lanes_add w (bit_and differ mask) mask filled_room i k ∙ ap₂ ◌+◌ (rest_lane differ i k) (mask_lane i k)

  pub equal_at_once : packed (pairwise greater) w 0 (2 ^ 64 - 1 - bit_or (bit_and (bit_xor a b) mask + mask) (bit_xor a b))
      ≡ packed (pairwise equal) w a b
  equal_at_once =
      by_top_bits (2 ^ 64 - 1 - bit_or filled differ) equal equal-fits
      (λ i k.
      simp (lane_not w i (bit_or filled differ) (or_lt 64 filled differ filled_fits differ_lt) (inside w 64 i l k), lane_or, lane_xor, filled_lane i k)
      (equal_lane w l (lane w i a) (lane w i b) (lane_lt w i a) (lane_lt w i b)))

  -- PCMPGT

  abbrev not_b : ℕ
  not_b = 2 ^ 64 - 1 - b

  abbrev compared : ℕ
  compared = bit_and a mask + bit_and not_b mask

  compared_room : (i : ℕ) → i < 64 / w → lane w i (bit_and a mask) + lane w i (bit_and not_b mask) < 2 ^ w
  compared_room i k = omega (arith, halves w l, rest_small a i k, rest_small not_b i k)

  pub compared_fits : bit_and a mask + bit_and (2 ^ 64 - 1 - b) mask < 2 ^ 64
  compared_fits =
      lanes_add_lt w (bit_and a mask) (bit_and not_b mask) compared_room whole
      (and_fits 64 a mask ha) (and_fits 64 not_b mask (ones_sub-lt 64 b))

  compared_lane : (i : ℕ) → i < 64 / w → lane w i compared ≡ lane w i a % 2 ^ (w - 1) + (2 ^ (w - 1) - 1 - lane w i b % 2 ^ (w - 1))
  compared_lane i k =
      lanes_add w (bit_and a mask) (bit_and not_b mask) compared_room i k
      ∙ ap₂ ◌+◌ (rest_lane a i k)
      (rest_lane not_b i k ∙ ap (λ (n : ℕ). n % 2 ^ (w - 1)) (lane_not w i b hb (inside w 64 i l k)) ∙ rest_not w l (lane w i b) (lane_lt w i b))

  pub greater_at_once : packed (pairwise greater) w 0
      (bit_or (bit_and (2 ^ 64 - 1 - a) b) (bit_and (2 ^ 64 - 1 - bit_xor a b) (bit_and a mask + bit_and (2 ^ 64 - 1 - b) mask)))
      ≡ packed (pairwise greater) w a b
  greater_at_once =
      by_top_bits (bit_or (bit_and (2 ^ 64 - 1 - a) b) (bit_and (2 ^ 64 - 1 - differ) compared)) greater greater-fits
      (λ i k.
      let j = inside w 64 i l k in
      simp (lane_or, lane_and, lane_not w i a ha j, lane_not w i differ differ_lt j, lane_xor, compared_lane i k)
      (greater-lane w l (lane w i a) (lane w i b) (lane_lt w i a) (lane_lt w i b)))

pub ruleset comparing = (rules, filled_fits, equal_at_once, compared_fits, greater_at_once)
