-- The lowest bits of all lanes: all ones, divided by a lane's ones. One bit down, they are the top bits of all lanes but the highest.
use Rattle.std.specs.Prelude.{◌≡◌, ℕ, zero, suc, ◌+◌, ◌-◌, ◌*◌, ◌/◌, ◌%◌, ◌^◌, ◌≤◌, ◌<◌}
use Rattle.basis.proofs.Names.{sym, ap, ◌∙◌, ⊎_elim, add-mul, mul-add, mul-one, one-mul, zero-mul, mul-zero, mul_comm, mul-div_cancel, mod_self, zero-mod, eq-or-lt_of_le, arith, rules, pow_pos, pow-lt, high}
use Rattle.lanes.specs.Lane.{lane, build, register}
use Rattle.lanes.specs.inner.EveryLane.{repeated, lowest_bits}
use Rattle.lanes.proofs.Registers.{one_lane_more, build_lt, lane-build, lane_beyond}
use Rattle.lanes.proofs.Powers.{halves}

-- a lane's ones in each of n lanes, and 1
ones_in_all : (w n : ℕ) → build w n (λ i. 1) * (2 ^ w - 1) + 1 ≡ 2 ^ (w * n)
unfolding build
ones_in_all w zero = omega (arith, zero-mul (2 ^ w - 1), ap (λ (k : ℕ). 2 ^ k) (mul-zero w))
ones_in_all w (suc n) =
    let p = 2 ^ (w * n) in
    let more : p * (2 ^ w - 1) + p * 1 ≡ 2 ^ (w * suc n) =
    sym (mul-add p (2 ^ w - 1) 1) ∙ ap (λ (x : ℕ). p * x) (omega (arith, pow_pos w)) ∙ mul_comm p (2 ^ w) ∙ sym (one_lane_more w n) in
    omega (arith, more, mul-one p, ones_in_all w n, add-mul (1 * p) (build w n (λ i. 1)) (2 ^ w - 1), ap (λ (x : ℕ). x * (2 ^ w - 1)) (one-mul p))

-- a lane of ones is not 0
pub ones_positive : (w m : ℕ) → 1 ≤ w → m ≡ 2 ^ w - 1 → 0 < m
ones_positive w m l e = omega (arith, halves w l, pow_pos (w - 1))

pub lowest_bits_is : (w m : ℕ) → 1 ≤ w → w * (64 / w) ≡ 64 → m ≡ 2 ^ w - 1 → (2 ^ 64 - 1) / m ≡ lowest_bits w
unfolding repeated register
lowest_bits_is w m l whole e =
    ap (λ (x : ℕ). x / m) (omega (arith, ones_in_all w (64 / w), ap (λ (k : ℕ). 2 ^ k) whole) ∙ ap (λ (x : ℕ). lowest_bits w * x) (sym e))
    ∙ mul-div_cancel (lowest_bits w) (ones_positive w m l e)

module _ (w : ℕ) (l : 1 ≤ w) where
  -- the top bits of the lanes below lane n
  abbrev tops_below : ℕ → ℕ
  tops_below n = build w n (λ i. 2 ^ (w - 1))

  top_fits : 2 ^ (w - 1) < 2 ^ w
  top_fits = pow-lt (omega arith)

  -- twice a top bit is the lowest bit of the next lane up
  doubled : (n : ℕ) → build w (suc n) (λ i. 1) ≡ tops_below n * 2 + 1
  unfolding build
  doubled zero = omega (arith, one-mul (2 ^ (w * 0)), ap (λ (k : ℕ). 2 ^ k) (mul-zero w))
  doubled (suc n) =
      let sum : 2 ^ (w - 1) * 2 ^ (w * n) + 2 ^ (w - 1) * 2 ^ (w * n) ≡ 2 ^ w * 2 ^ (w * n) =
      sym (add-mul (2 ^ (w - 1)) (2 ^ (w - 1)) (2 ^ (w * n))) ∙ ap (λ (x : ℕ). x * 2 ^ (w * n)) (halves w l) in
      omega (arith, doubled n, sum, one-mul (2 ^ (w * suc n)), one_lane_more w n)

  module _ (whole : w * (64 / w) ≡ 64) where
    -- the highest lane
    abbrev highest : ℕ
    highest = 64 / w - 1

    some_lanes : 64 / w ≡ suc highest
    some_lanes = by (64 / w) whole
      where
        by : (n : ℕ) → w * n ≡ 64 → n ≡ suc (n - 1)
        by zero e = omega (arith, e, mul-zero w)
        by (suc n) e = omega arith

    one_bit_down : lowest_bits w / 2 ^ 1 ≡ tops_below highest
    unfolding repeated register
    one_bit_down =
        ap (λ (n : ℕ). build w n (λ i. 1) / 2 ^ 1) some_lanes ∙ ap (λ (x : ℕ). x / 2 ^ 1) (doubled highest) ∙ high (tops_below highest) 1 (omega arith)

    -- a lane below the highest has its top bit; and every lane has that or none
    pub inner_lane : (i : ℕ) → i < 64 / w - 1 → lane w i (lowest_bits w / 2 ^ 1) ≡ 2 ^ (w - 1)
    inner_lane i k = ap (lane w i) one_bit_down ∙ lane-build w highest (λ j. 2 ^ (w - 1)) (λ j m. top_fits) i k

    pub every_lane : (i : ℕ) → i < 64 / w → lane w i (lowest_bits w / 2 ^ 1) % 2 ^ (w - 1) ≡ 0
    every_lane i k =
        ⊎_elim
        (λ e. ap (λ (x : ℕ). x % 2 ^ (w - 1)) (ap (lane w i) one_bit_down ∙ nothing e) ∙ zero-mod (2 ^ (w - 1)))
        (λ e. ap (λ (x : ℕ). x % 2 ^ (w - 1)) (inner_lane i e) ∙ mod_self (2 ^ (w - 1)))
        (eq-or-lt_of_le (omega arith))
      where
        nothing : i ≡ highest → lane w i (tops_below highest) ≡ 0
        nothing e = lane_beyond w i (tops_below highest) (rw e (build_lt w highest (λ j. 2 ^ (w - 1)) (λ j m. top_fits)))

pub ruleset lowest = (rules, ones_positive, lowest_bits_is)
