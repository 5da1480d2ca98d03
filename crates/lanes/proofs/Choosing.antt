-- A lane of ones or zeros chooses, bit by bit, between two lanes; and a register of such lanes between two registers.
use Rattle.std.specs.Prelude.{◌≡◌, refl, Bool, true, false, cond, ℕ, zero, suc, ◌+◌, ◌-◌, ◌*◌, ◌/◌, ◌%◌, ◌^◌, ◌<◌}
use Rattle.basis.specs.Names.{bit_and, bit_or, bit_xor}
use Rattle.basis.proofs.Names.{ap, ap₂, ◌∙◌, mod-lt, mod-eq_of_lt, div-add-mod', arith, bin_ind, differ, and_mask, and_zero_r, or_add_and, or_zero_r, xor_lt, xor_mod, xor_shr, xor_step, xor_zero_r}
use Rattle.lanes.specs.Lane.{lane}
use Rattle.lanes.specs.Rules.{packed, all_ones}
use Rattle.lanes.proofs.Registers.{lane_lt}
use Rattle.lanes.proofs.Bitwise.{lane_and, lane_xor, and_fits}
use Rattle.lanes.proofs.Fitting.{Fits}
use Rattle.lanes.proofs.Building.{by_lanes}

-- what is turned over twice is back
pub xor_back : (x y : ℕ) → bit_xor x (bit_xor x y) ≡ y
xor_back = bin_ind (λ (x : ℕ). (y : ℕ) → bit_xor x (bit_xor x y) ≡ y) (λ y. refl) (λ x again y. step x y (again (y / 2)))
  where
    bits : (x y : ℕ) → x < 2 → y < 2 → differ x (bit_xor x y) ≡ y
    bits zero y h k = refl
    bits (suc zero) zero h k = refl
    bits (suc zero) (suc zero) h k = refl
    bits (suc zero) (suc (suc y)) h k = absurd (omega arith)
    bits (suc (suc x)) y h k = absurd (omega arith)

    step : (x y : ℕ) → bit_xor (x / 2) (bit_xor (x / 2) (y / 2)) ≡ y / 2 → bit_xor x (bit_xor x y) ≡ y
    step x y e =
        xor_step x (bit_xor x y)
        ∙ ap₂ (λ (q r : ℕ). q * 2 + r) (ap (bit_xor (x / 2)) (xor_shr x y 1) ∙ e)
        (ap (differ (x % 2)) (xor_mod x y 1) ∙ bits (x % 2) (y % 2) (mod-lt x (omega arith)) (mod-lt y (omega arith)))
        ∙ div-add-mod' y 2

-- x where the lane has ones, else nothing
pub and_lane : (w x : ℕ) (t : Bool) → x < 2 ^ w → bit_and x (all_ones w t) ≡ cond t x 0
and_lane w x true h = and_mask x w ∙ mod-eq_of_lt h
and_lane w x false h = and_zero_r x

-- ones where the lane has them, else x
pub or_lane : (w x : ℕ) (t : Bool) → x < 2 ^ w → bit_or x (all_ones w t) ≡ cond t (2 ^ w - 1) x
or_lane w x true h = omega (arith, or_add_and x (2 ^ w - 1), and_lane w x true h)
or_lane w x false h = or_zero_r x

-- y where the lane has ones, else x: what differs between them is turned over
pub choose_lane : (w x y : ℕ) (t : Bool) → x < 2 ^ w → y < 2 ^ w → bit_xor x (bit_and (bit_xor x y) (all_ones w t)) ≡ cond t y x
choose_lane w x y true h k = ap (bit_xor x) (and_lane w (bit_xor x y) true (xor_lt w x y h k)) ∙ xor_back x y
choose_lane w x y false h k = ap (bit_xor x) (and_zero_r (bit_xor x y)) ∙ xor_zero_r x

-- so the mask chooses what a rule leaves, where in every lane the rule chooses alike
pub chosen_by : (rule : ℕ → ℕ → ℕ → ℕ → ℕ) (w a b x y mask : ℕ) (t : ℕ → Bool) → w * (64 / w) ≡ 64 → Fits rule → x < 2 ^ 64 → y < 2 ^ 64
    → ((i : ℕ) → i < 64 / w → lane w i mask ≡ all_ones w (t i)) → ((i : ℕ) → cond (t i) (lane w i y) (lane w i x) ≡ rule w a b i)
    → bit_xor x (bit_and (bit_xor x y) mask) ≡ packed rule w a b
chosen_by rule w a b x y mask t whole f hx hy ones same =
    by_lanes rule w a b (bit_xor x (bit_and (bit_xor x y) mask)) whole f
    (xor_lt 64 x (bit_and (bit_xor x y) mask) hx (and_fits 64 (bit_xor x y) mask (xor_lt 64 x y hx hy)))
    (λ i k.
    lane_xor w i x (bit_and (bit_xor x y) mask)
    ∙ ap (bit_xor (lane w i x)) (lane_and w i (bit_xor x y) mask ∙ ap₂ bit_and (lane_xor w i x y) (ones i k))
    ∙ choose_lane w (lane w i x) (lane w i y) (t i) (lane_lt w i x) (lane_lt w i y) ∙ same i)
