-- PSLL, PSRL and PSRA on whole registers: the bits that would move into another lane are left out before the shift, or after it.
use Rattle.std.specs.Prelude.{◌≡◌, ℕ, suc, ◌+◌, ◌-◌, ◌*◌, ◌/◌, ◌%◌, ◌^◌, ◌≤◌, ◌<◌, min, ℤ}
use Rattle.basis.specs.Names.{bit_and, bit_xor, shr_z}
use Rattle.basis.proofs.Names.{sym, ap, ap₂, ◌∙◌, dite, one-mul, zero-mul, add-zero, min-eq_left, min-eq_right, le_of_lt, mul-mod_left, div-eq_of_lt, mod-eq_of_lt, dec_le, arith, rules, lt-ltb, le-ltb, xor_zero_r, xor_lt, pow_pos, shl-shr, mod-pow-add, ones_lt, ones_split, ones_sub-lt, high}
use Rattle.lanes.specs.Lane.{lane, build, register}
use Rattle.lanes.specs.Signed.{signed, wrap}
use Rattle.lanes.specs.Rules.{packed, pairwise, greater, shift, left, right, right_signed}
use Rattle.lanes.specs.inner.EveryLane.{repeated}
use Rattle.lanes.proofs.Registers.{lane_lt, lane_zero, build_ext, built_of_lanes, lane_down, mul_builds}
use Rattle.lanes.proofs.Powers.{shifted_fits}
use Rattle.lanes.proofs.Bitwise.{lane_xor, and_fits, xor_ones}
use Rattle.lanes.proofs.Fitting.{greater-fits, left-fits, right-fits, right_signed-fits}
use Rattle.lanes.proofs.Building.{packed_lt, lane-packed, by_lanes}
use Rattle.lanes.proofs.Integers.{is_lt}
use Rattle.lanes.proofs.Repeating.{masked-lane}
use Rattle.lanes.proofs.Signs.{bit_low, bit_high, negatives_lane}

-- ---- a count of w or more

module _ (w a c : ℕ) (whole : w * (64 / w) ≡ 64) (l : w ≤ c) where
  pub left_out : 0 ≡ packed (shift left) w a c
  unfolding shift left
  left_out =
      by_lanes (shift left) w a c 0 whole left-fits (pow_pos 64)
      (λ i k. rw (min-eq_right l, mul-mod_left) (lane_zero w i))

  pub right_out : 0 ≡ packed (shift right) w a c
  unfolding shift right
  right_out =
      by_lanes (shift right) w a c 0 whole right-fits (pow_pos 64)
      (λ i k. rw (min-eq_right l, div-eq_of_lt (lane_lt w i a)) (lane_zero w i))

-- ---- a smaller count

-- m is a lane of ones; the mask keeps the low w - c bits of every lane
module _ (w a c m mask : ℕ) (whole : w * (64 / w) ≡ 64) (l : c < w) (em : m ≡ 2 ^ w - 1) (e : mask ≡ repeated w (m / 2 ^ c))
    (ha : a < 2 ^ 64) where
  split : w ≡ w - c + c
  split = omega arith

  kept-lane : (x i : ℕ) → i < 64 / w → lane w i (bit_and x mask) ≡ lane w i x % 2 ^ (w - c)
  kept-lane x i = masked-lane w (w - c) (m / 2 ^ c) mask x i (omega arith) ones e
    where
      ones : m / 2 ^ c ≡ 2 ^ (w - c) - 1
      ones = ap (λ (n : ℕ). n / 2 ^ c) (em ∙ ap (λ (n : ℕ). 2 ^ n - 1) split ∙ ones_split (w - c) c) ∙ high (2 ^ (w - c) - 1) c (ones_lt c)

  pub right_at_once : bit_and (a / 2 ^ c) mask ≡ packed (shift right) w a c
  unfolding shift right
  right_at_once =
      by_lanes (shift right) w a c (bit_and (a / 2 ^ c) mask) whole right-fits
      (and_fits 64 (a / 2 ^ c) mask (shifted_fits 64 a c ha))
      (λ i k. rw (min-eq_left (le_of_lt l)) (kept-lane (a / 2 ^ c) i k ∙ lane_down w c i a (le_of_lt l)))

  pub left_at_once : bit_and a mask * 2 ^ c % 2 ^ 64 ≡ packed (shift left) w a c
  unfolding packed register shift left
  left_at_once = ap (λ (n : ℕ). n % 2 ^ 64) moved ∙ mod-eq_of_lt (packed_lt w a c (shift left) left-fits)
    where
      x : ℕ
      x = bit_and a mask

      lanes : x ≡ build w (64 / w) (λ i. lane w i x)
      lanes = sym (built_of_lanes w (64 / w) x ∙ ap (λ (n : ℕ). x % 2 ^ n) whole ∙ mod-eq_of_lt (and_fits 64 a mask ha))

      -- the low w - c bits, shifted, are the low w bits of what is shifted
      lane-left : (n : ℕ) → n % 2 ^ (w - c) * 2 ^ c ≡ n * 2 ^ c % 2 ^ w
      lane-left n =
          sym (ap (λ (k : ℕ). n * 2 ^ c % 2 ^ k) split ∙ mod-pow-add (n * 2 ^ c) (w - c) c
          ∙ ap₂ (λ (p q : ℕ). p % 2 ^ (w - c) * 2 ^ c + q) (shl-shr n c) (mul-mod_left n (2 ^ c)) ∙ add-zero _)

      moved : x * 2 ^ c ≡ packed (shift left) w a c
      moved =
          ap (λ (n : ℕ). n * 2 ^ c) lanes ∙ mul_builds w (64 / w) (2 ^ c) (λ i. lane w i x)
          ∙ build_ext w (64 / w) (λ i. lane w i x * 2 ^ c) (shift left w a c)
          (λ i k. rw (min-eq_left (le_of_lt l), kept-lane a i k) (lane-left (lane w i a)))

-- ---- PSRA: the lanes below zero are turned over, shifted, and turned back

module _ (w x k : ℕ) (l : 1 ≤ w) (hx : x < 2 ^ w) where
  abbrev h : ℕ
  h = 2 ^ (w - 1)

  -- a lane below zero, and another
  negative : h ≤ x → bit_xor (bit_xor x (2 ^ w - 1) / 2 ^ k) (2 ^ w - 1) ≡ right_signed w x k
  unfolding right_signed signed wrap
  negative g =
      let fits : (2 ^ w - 1 - x) / 2 ^ k < 2 ^ w = shifted_fits w (2 ^ w - 1 - x) k (ones_sub-lt w x) in
      ap (λ (y : ℕ). bit_xor (y / 2 ^ k) (2 ^ w - 1)) (xor_ones w x hx) ∙ xor_ones w ((2 ^ w - 1 - x) / 2 ^ k) fits
      ∙ ap (λ (y : ℕ). 2 ^ w - 1 - y) (sym (mod-eq_of_lt fits))
      ∙ ap (λ (y : ℕ). 2 ^ w - 1 - y / 2 ^ k % 2 ^ w) rest
      ∙ sym (rw (le-ltb x h g) (ap (λ (z : ℤ). wrap w (shr_z z (2 ^ k))) (is_lt x (2 ^ w) hx)))
    where
      rest : 2 ^ w - 1 - x ≡ 2 ^ w - suc x
      rest = omega arith

  positive : x < h → bit_xor (bit_xor x 0 / 2 ^ k) 0 ≡ right_signed w x k
  unfolding right_signed signed wrap
  positive g =
      xor_zero_r (bit_xor x 0 / 2 ^ k) ∙ ap (λ (y : ℕ). y / 2 ^ k) (xor_zero_r x) ∙ sym (mod-eq_of_lt (shifted_fits w x k hx))
      ∙ sym (rw (lt-ltb x h g))

  signed_lane : bit_xor (bit_xor x (x / 2 ^ (w - 1) * (2 ^ w - 1)) / 2 ^ k) (x / 2 ^ (w - 1) * (2 ^ w - 1)) ≡ right_signed w x k
  signed_lane =
      dite (dec_le h x)
      (λ g. rw (bit_high w l x g hx, one-mul (2 ^ w - 1)) (negative g))
      (λ g. rw (bit_low w l x (omega arith), zero-mul (2 ^ w - 1)) (positive (omega arith)))

pub signed_is_turned : (w a c m s : ℕ) → 1 ≤ w → w * (64 / w) ≡ 64 → m ≡ packed (pairwise greater) w 0 a → s ≡ packed (shift right) w (bit_xor a m) c
    → bit_xor s m ≡ packed (shift right_signed) w a c
unfolding shift right
signed_is_turned w a c m s l whole em es =
    by_lanes (shift right_signed) w a c (bit_xor s m) whole right_signed-fits
    (xor_lt 64 s m (rw es (packed_lt w (bit_xor a m) c (shift right) right-fits)) (rw em (packed_lt w 0 a (pairwise greater) greater-fits)))
    (λ i g.
    simp (lane_xor, ap (lane w i) em ∙ negatives_lane w a l i g, ap (lane w i) es ∙ lane-packed w (bit_xor a m) c i g (shift right) right-fits)
    (signed_lane w (lane w i a) (min c w) l (lane_lt w i a)))

pub ruleset shifting = (rules, left_out, right_out, shifted_fits, left_at_once, right_at_once, signed_is_turned)
