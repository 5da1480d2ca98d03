-- The picks: a word by its place, a word in another's place, the words in another order, the top bits side by side, and a choice by top bits.
use Rattle.std.specs.Prelude.{◌≡◌, refl, ℕ, zero, suc, ◌+◌, ◌-◌, ◌*◌, ◌/◌, ◌%◌, ◌^◌, ◌≤◌, ◌<◌, cond, eqb}
use Rattle.basis.specs.Names.{bit_and, bit_xor}
use Rattle.basis.proofs.Names.{sym, ap, ap₂, ◌∙◌, dite, ℕ_discrete, one-mul, zero-mul, div-one, mul-mod_left, mul-le-mul_left, mod-lt, mod-eq_of_lt, dec_le, arith, rules, eq-eqb, ne_eqb, xor_lt, xor_zero_r, pow_pos, pow_mono, shl_exact, shl-shr, high, digits_lt}
use Rattle.lanes.specs.Lane.{lane, build, register, top_bit}
use Rattle.lanes.specs.Rules.{packed, pairwise, all_ones, greater, blend, extract, insert, top_bits, shuffle}
use Rattle.lanes.proofs.Registers.{one_lane_more, build_lt, lane_lt, lane_zero, below_end, lane-mod, lane_beyond}
use Rattle.lanes.proofs.Bitwise.{lane_xor}
use Rattle.lanes.proofs.Fitting.{blend-fits, insert-fits}
use Rattle.lanes.proofs.Building.{inside, by_lanes}
use Rattle.lanes.proofs.Signs.{bit_lt, negatives_lane}
use Rattle.lanes.proofs.Choosing.{xor_back, chosen_by}

-- a top bit is 0 or 1
top_bit_lt : (w x i : ℕ) → 1 ≤ w → top_bit w x i < 2
unfolding top_bit
top_bit_lt w x i l = bit_lt w l (lane w i x) (lane_lt w i x)

-- ---- PEXTR

pub extract_lt : (w source place : ℕ) → extract w source place < 2 ^ w
unfolding extract
extract_lt w source place = lane_lt w (place % (64 / w)) source

-- ---- PINSR

-- x put into lane p: lane i of that
placed-lane : (w x p i : ℕ) → x < 2 ^ w → lane w i (x * 2 ^ (w * p)) ≡ cond (eqb i p) x 0
unfolding lane
placed-lane w x p i h =
    dite (ℕ_discrete i p)
    (λ e. rw (eq-eqb i p e, e) (ap (λ (y : ℕ). y % 2 ^ w) (shl-shr x (w * p)) ∙ mod-eq_of_lt h))
    (λ e. rw (ne_eqb i p e) (dite (dec_le i p) (λ l. below (omega arith)) (λ l. beyond (omega arith))))
  where
    y : ℕ
    y = x * 2 ^ (w * p)

    below : i < p → lane w i y ≡ 0
    below l = sym (lane-mod w i (w * p) y (below_end w i p l)) ∙ ap (lane w i) (mul-mod_left x (2 ^ (w * p))) ∙ lane_zero w i

    beyond : p < i → lane w i y ≡ 0
    beyond l =
        lane_beyond w i y
        (omega (arith, digits_lt {r = 0} h (pow_pos (w * p)), one_lane_more w p, pow_mono {i = w * suc p} {j = w * i} (mul-le-mul_left w l)))

-- the word there is turned over twice, the others never
pub insert_at_once : (w a s place old : ℕ) → 1 ≤ w → w * (64 / w) ≡ 64 → a < 2 ^ 64 → old ≡ extract w a place
    → bit_xor a (bit_xor old (s % 2 ^ w) * 2 ^ (w * (place % (64 / w))) % 2 ^ 64) ≡ packed (insert place) w a s
unfolding insert extract
insert_at_once w a s place old l whole ha e =
    by_lanes (insert place) w a s _ whole (insert-fits place) (xor_lt 64 a _ ha (mod-lt _ (pow_pos 64)))
    (λ i k.
    lane_xor w i a _
    ∙ ap (λ (y : ℕ). bit_xor (lane w i a) (lane w i y)) (shl_exact w (w * p) 64 fits (inside w 64 p l (mod-lt place (omega arith))))
    ∙ ap (bit_xor (lane w i a)) (placed-lane w d p i fits)
    ∙ dite (ℕ_discrete i p)
    (λ q. rw (eq-eqb i p q, q, e) (xor_back (lane w p a) (s % 2 ^ w)))
    (λ q. rw (ne_eqb i p q) (xor_zero_r (lane w i a))))
  where
    p : ℕ
    p = place % (64 / w)

    d : ℕ
    d = bit_xor old (s % 2 ^ w)

    fits : d < 2 ^ w
    fits = xor_lt w old (s % 2 ^ w) (rw e (lane_lt w p a)) (mod-lt s (pow_pos w))

-- ---- PSHUF

module _ (source order x y : ℕ) where
  module _ (e : x ≡ extract 16 source (order / 4)) (f : y ≡ extract 16 source order) where
    pub two_words_small : x * 2 ^ 16 % 2 ^ 64 + y < 2 ^ 32
    two_words_small = omega (arith, e, f, extract_lt 16 source (order / 4), extract_lt 16 source order)

    pub two_words_fit : x * 2 ^ 16 % 2 ^ 64 + y < 2 ^ 64
    two_words_fit = omega (arith, two_words_small)

    pub two_words_are : x * 2 ^ 16 % 2 ^ 64 + y ≡ extract 16 source (order / 4) * 2 ^ 16 + extract 16 source order
    two_words_are = omega (arith, e, f, extract_lt 16 source (order / 4))

  pub shuffle_is : x ≡ extract 16 source (order / 16 / 4) * 2 ^ 16 + extract 16 source (order / 16)
      → y ≡ extract 16 source (order / 4) * 2 ^ 16 + extract 16 source order → x < 2 ^ 32
      → x * 2 ^ 32 % 2 ^ 64 + y ≡ packed shuffle 16 source order
  unfolding packed register build shuffle extract
  shuffle_is e f h =
      omega (arith, e, f, word 3 (order / 16 / 4) (omega arith), word 0 order (sym (div-one order)))
    where
      word : (i n : ℕ) → n ≡ order / 4 ^ i → extract 16 source n ≡ lane 16 (order / 4 ^ i % 4) source
      word i n g = ap (λ (k : ℕ). lane 16 (k % 4) source) g

-- ---- PMOVMSK

-- 256 is 2 and a multiple of 254
seven_bits : (f : ℕ → ℕ) → build 1 7 f < 254 → build 8 7 f % 254 ≡ build 1 7 f
unfolding build
seven_bits f h = omega arith

pub top_bits_are : (x bits : ℕ) → bits ≡ register 8 (top_bit 8 x) → bits / 2 ^ 8 % 254 * 2 + bits % 2 ≡ top_bits 8 x
unfolding register build top_bits
top_bits_are x bits e =
    ap₂ (λ (m n : ℕ). m % 254 * 2 + n) upper lowest ∙ ap (λ (n : ℕ). n * 2 + top_bit 8 x 0) (seven_bits above few) ∙ omega arith
  where
    bit : (i : ℕ) → top_bit 8 x i < 2
    bit i = top_bit_lt 8 x i (omega arith)

    above : ℕ → ℕ
    above i = top_bit 8 x (suc i)

    apart : bits ≡ build 8 7 above * 2 ^ 8 + top_bit 8 x 0
    apart = e ∙ omega arith

    upper : bits / 2 ^ 8 ≡ build 8 7 above
    upper = ap (λ (n : ℕ). n / 2 ^ 8) apart ∙ high (build 8 7 above) 8 (omega (arith, bit 0))

    lowest : bits % 2 ≡ top_bit 8 x 0
    lowest = omega (arith, apart, bit 0)

    few : build 1 7 above < 254
    few = omega (arith, build_lt 1 7 above (λ i l. bit (suc i)))

-- ---- MASKMOVQ

-- a bit, times ones
ones_where : (w b : ℕ) → b < 2 → b * (2 ^ w - 1) ≡ all_ones w (eqb b 1)
ones_where w zero h = zero-mul (2 ^ w - 1)
ones_where w (suc zero) h = one-mul (2 ^ w - 1)
ones_where w (suc (suc b)) h = absurd (omega arith)

pub blend_at_once : (w a b mask ones : ℕ) → 1 ≤ w → w * (64 / w) ≡ 64 → a < 2 ^ 64 → b < 2 ^ 64 → ones ≡ packed (pairwise greater) w 0 mask
    → bit_xor a (bit_and (bit_xor a b) ones) ≡ packed (blend mask) w a b
unfolding blend top_bit
blend_at_once w a b mask ones l whole ha hb e =
    chosen_by (blend mask) w a b a b ones (λ i. eqb (top_bit w mask i) 1) whole (blend-fits mask) ha hb
    (λ i k. ap (lane w i) e ∙ negatives_lane w mask l i k ∙ ones_where w (top_bit w mask i) (top_bit_lt w mask i l)) (λ i. refl)

pub ruleset picking = (rules, two_words_small, two_words_fit, two_words_are, shuffle_is, top_bits_are, blend_at_once)
