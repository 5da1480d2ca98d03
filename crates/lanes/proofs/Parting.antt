-- The low parts, or the high parts, of two registers' lanes of twice the width, in turn: the high parts of the one and the low parts of the other
-- change places.
use Rattle.std.specs.Prelude.{◌≡◌, refl, Bool, cond, ℕ, zero, suc, ◌+◌, ◌-◌, ◌*◌, ◌/◌, ◌%◌, ◌^◌, ◌≤◌, ◌<◌, eqb}
use Rattle.basis.specs.Names.{bit_xor}
use Rattle.basis.proofs.Names.{sym, ap, ◌∙◌, dite, ℕ_discrete, add-mul, mul_comm, mul-one, mul-div_cancel, mod-lt, mod-eq_of_lt, arith, rules, eq-eqb, ne_eqb, xor_lt, xor_zero_r, pow_pos, pow_mono, ones_lt}
use Rattle.lanes.specs.Lane.{lane}
use Rattle.lanes.specs.Rules.{packed, all_ones, unpack}
use Rattle.lanes.specs.inner.EveryLane.{repeated}
use Rattle.lanes.specs.inner.Turns.{part}
use Rattle.lanes.proofs.Registers.{lane_lt, lane_first, lane_beyond, inner}
use Rattle.lanes.proofs.Bitwise.{lane_xor}
use Rattle.lanes.proofs.Fitting.{Fits}
use Rattle.lanes.proofs.Building.{inside, by_lanes}
use Rattle.lanes.proofs.Repeating.{repeated-lane}
use Rattle.lanes.proofs.Exchanging.{lane_lowest, differing, differing_lt, taken_down, taken_up}

pub part-fits : (k : ℕ) → Fits (part k)
unfolding part
part-fits k = record { fits = λ w a b i. lane_lt w k _ }

-- lanes of half the width are twice as many
twice : (w : ℕ) → 1 ≤ w → (w + w) * (64 / (w + w)) ≡ 64 → 64 / w ≡ 64 / (w + w) + 64 / (w + w)
twice w l wide =
    let n = 64 / (w + w) in
    let e : 64 ≡ (n + n) * w = sym wide ∙ simp add-mul (omega (arith, mul_comm n w)) in
    ap (λ (x : ℕ). x / w) e ∙ mul-div_cancel (n + n) l

-- what fits a lane fits one of twice the width
pub wide_fits : (w x : ℕ) → x < 2 ^ w → x < 2 ^ (w + w)
wide_fits w x h = omega (arith, pow_mono {i = w} {j = w + w} (omega arith))

abbrev even : ℕ → Bool
even i = eqb (i % 2) 0

module _ (w a b m mask : ℕ) (l : 1 ≤ w) (whole : w * (64 / w) ≡ 64) (wide : (w + w) * (64 / (w + w)) ≡ 64) (ha : a < 2 ^ 64) (hb : b < 2 ^ 64)
    (e : mask ≡ repeated (w + w) m) (em : m ≡ 2 ^ w - 1) where
  -- the mask has ones in the even lanes: a lane of ones is the low part of one of twice the width
  ones_part : (k : ℕ) → k < 2 → lane w k (2 ^ w - 1) ≡ all_ones w (eqb k 0)
  ones_part zero h = lane_first w (2 ^ w - 1) ∙ mod-eq_of_lt (ones_lt w)
  ones_part (suc zero) h = lane_beyond w 1 (2 ^ w - 1) (rw mul-one (ones_lt w))
  ones_part (suc (suc k)) h = omega arith

  even_lane : (i : ℕ) → i < 64 / w → lane w i mask ≡ all_ones w (even i)
  even_lane i k =
      let j = i / 2 in
      ap (λ (n : ℕ). lane w n mask) (omega arith) ∙ sym (inner w j (i % 2) mask (omega arith))
      ∙ ap (lane w (i % 2))
      (ap (lane (w + w) j) e ∙ repeated-lane (w + w) m j (wide_fits w m (rw em (ones_lt w))) (omega (arith, twice w l wide)) ∙ em)
      ∙ ones_part (i % 2) (omega arith)

  -- the lane that a part is
  part_is : (k i n : ℕ) → k < 2 → n ≡ 0 + i / 2 + (0 + i / 2) + k → lane w n (cond (even i) a b) ≡ part k w a b i
  unfolding part unpack
  part_is k i n h p = ap (λ (m : ℕ). lane w m (cond (even i) a b)) p ∙ sym (inner w (0 + i / 2) k (cond (even i) a b) h)

  pub low_parts : bit_xor a (differing w a b mask * 2 ^ w % 2 ^ 64) ≡ packed (part 0) w a b
  low_parts =
      by_lanes (part 0) w a b _ whole (part-fits 0) (xor_lt 64 a _ ha (mod-lt (differing w a b mask * 2 ^ w) (pow_pos 64)))
      (λ i k. lane_xor w i a (differing w a b mask * 2 ^ w % 2 ^ 64) ∙ by i k)
    where
      by : (i : ℕ) → i < 64 / w → bit_xor (lane w i a) (lane w i (differing w a b mask * 2 ^ w % 2 ^ 64)) ≡ part 0 w a b i
      by zero k =
          ap (bit_xor (lane w 0 a)) (lane_lowest w (differing w a b mask) (omega (arith, inside w 64 0 l k))) ∙ xor_zero_r (lane w 0 a)
          ∙ part_is 0 0 0 (omega arith) refl
      by (suc i) k =
          taken_up w a b mask even l even_lane i k
          ∙ dite (ℕ_discrete (i % 2) 0)
          (λ p. rw (eq-eqb (i % 2) 0 p) (rw (ne_eqb (suc i % 2) 0 (omega arith)) at (part_is 0 (suc i) i (omega arith) (omega arith))))
          (λ p. rw (ne_eqb (i % 2) 0 p) (rw (eq-eqb (suc i % 2) 0 (omega arith)) at (part_is 0 (suc i) (suc i) (omega arith) (omega arith))))

  pub high_parts : bit_xor b (differing w a b mask) ≡ packed (part 1) w a b
  high_parts =
      by_lanes (part 1) w a b _ whole (part-fits 1) (xor_lt 64 b _ hb (differing_lt w a b mask ha hb))
      (λ i k.
      taken_down w a b mask even l even_lane i k
      ∙ dite (ℕ_discrete (i % 2) 0)
      (λ p. rw (eq-eqb (i % 2) 0 p) (rw (eq-eqb (i % 2) 0 p) at (part_is 1 i (suc i) (omega arith) (omega arith))))
      (λ p. rw (ne_eqb (i % 2) 0 p) (rw (ne_eqb (i % 2) 0 p) at (part_is 1 i i (omega arith) (omega arith)))))

pub ruleset parting = (rules, wide_fits, low_parts, high_parts)
