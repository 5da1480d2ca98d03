-- PADDS on whole registers: the wrapped sum, and where it has another sign than both its numbers, the end of the range on their side.
use Rattle.std.specs.Prelude.{◌≡◌, refl, true, false, ℕ, ◌+◌, ◌-◌, ◌*◌, ◌/◌, ◌%◌, ◌^◌, ◌≤◌, ◌<◌, ℤ, ◌+ℤ◌}
use Rattle.basis.specs.Names.{bit_and, bit_xor, sub_ℕ}
use Rattle.basis.proofs.Names.{sym, ap, ap₂, ◌∙◌, zero-mul, one-mul, add-mul, mod-lt, arith, rules, and_shr, xor_shr, xor_lt, pow_pos}
use Rattle.lanes.specs.Lane.{lane, register}
use Rattle.lanes.specs.Signed.{wrap, clamp_signed}
use Rattle.lanes.specs.Rules.{packed, pairwise, greater, sum, sum_signed}
use Rattle.lanes.specs.inner.EveryLane.{range_end}
use Rattle.lanes.proofs.Registers.{lane_lt}
use Rattle.lanes.proofs.Powers.{halves}
use Rattle.lanes.proofs.Bitwise.{lane_and, lane_xor, and_fits}
use Rattle.lanes.proofs.Fitting.{sum_signed-fits}
use Rattle.lanes.proofs.Choosing.{choose_lane}
use Rattle.lanes.proofs.Building.{by_lanes}
use Rattle.lanes.proofs.Integers.{plus, wrap_multiple}
use Rattle.lanes.proofs.TopBits.{signed_below, signed_above, signed-within}
use Rattle.lanes.proofs.Signs.{number_is, negatives_lane}
use Rattle.lanes.proofs.Ends.{ends_lt, ends_lane}
use Rattle.lanes.proofs.SumBits.{carry, sum-lane, sum_of_bits, sum-bit, by_bits}

-- ---- in a lane, whose top bit weighs h

module _ (w : ℕ) (l : 1 ≤ w) where
  abbrev h : ℕ
  h = 2 ^ (w - 1)

  module _ (x y : ℕ) (hx : x < 2 ^ w) (hy : y < 2 ^ w) where
    abbrev s : ℕ
    s = (x + y) % 2 ^ w

    s_lt : s < 2 ^ w
    s_lt = mod-lt (x + y) (pow_pos w)

    -- the clamped sum, where i and j are the top bits
    abbrev clamped : ℕ → ℕ → ℕ
    clamped i j = wrap w (clamp_signed w (sub_ℕ (x + y) (i * 2 ^ w + j * 2 ^ w)))

    -- the wrapped sum, or where the bit o is set, the end of the range on the side of i
    abbrev chosen : ℕ → ℕ → ℕ
    chosen i o = bit_xor s (bit_and (bit_xor s (i + (h - 1))) (o * (2 ^ w - 1)))

    end_lt : (i : ℕ) → i < 2 → i + (h - 1) < 2 ^ w
    end_lt i k = omega (arith, halves w l, pow_pos (w - 1))

    ended : (i : ℕ) → i < 2 → chosen i 1 ≡ i + (h - 1)
    ended i k = rw one-mul (choose_lane w s (i + (h - 1)) true s_lt (end_lt i k))

    kept : (i j : ℕ) → i < 2 → i * 2 ^ w + j * 2 ^ w ≤ x + y + h → x + y < i * 2 ^ w + j * 2 ^ w + h → chosen i 0 ≡ clamped i j
    kept i j k f g =
        rw zero-mul (choose_lane w s (i + (h - 1)) false s_lt (end_lt i k))
        ∙ sym (signed-within w h refl (halves w l) (pow_pos (w - 1)) (x + y) (i * 2 ^ w + j * 2 ^ w) f g
        ∙ ap (λ (n : ℕ). wrap w (sub_ℕ (x + y) n)) (sym (add-mul i j (2 ^ w))) ∙ wrap_multiple w (i + j) (x + y))

    -- the choice is right where i and j are the top bits and c is carried into them
    abbrev Right : ℕ → ℕ → ℕ → Type 0
    Right i j c =
        let k = (i + j + c) % 2 in
        (i + j + c) * h + (x + y) % h ≡ x + y → chosen i (bit_and (bit_xor i k) (bit_xor j k)) ≡ clamped i j

    right : Right (x / h) (y / h) (carry w l x y)
    right =
        let p : h + h ≡ 2 ^ w = halves w l in
        let o : 1 ≤ h = pow_pos (w - 1) in
        let m : (x + y) % h < h = mod-lt (x + y) o in
        by_bits w l x y Right
        (λ e. kept 0 0 (omega arith) (omega arith) (omega arith))
        (λ e. ended 0 (omega arith) ∙ omega arith ∙ sym (signed_above w h refl p o (x + y) (0 * 2 ^ w + 0 * 2 ^ w) (omega arith)))
        (λ e. kept 0 1 (omega arith) (omega arith) (omega arith))
        (λ e. kept 0 1 (omega arith) (omega arith) (omega arith))
        (λ e. kept 1 0 (omega arith) (omega arith) (omega arith))
        (λ e. kept 1 0 (omega arith) (omega arith) (omega arith))
        (λ e. ended 1 (omega arith) ∙ omega arith ∙ sym (signed_below w h refl p o (x + y) (1 * 2 ^ w + 1 * 2 ^ w) (omega arith)))
        (λ e. kept 1 1 (omega arith) (omega arith) (omega arith))
        hx hy

    sum_signed-lane : chosen (x / h) (bit_and (bit_xor x s) (bit_xor y s) / h) ≡ sum_signed w x y
    unfolding sum_signed
    sum_signed-lane =
        ap (chosen (x / h))
        (and_shr (bit_xor x s) (bit_xor y s) (w - 1)
        ∙ ap₂ bit_and (xor_shr x s (w - 1) ∙ ap (bit_xor (x / h)) (sum-bit w l x y)) (xor_shr y s (w - 1) ∙ ap (bit_xor (y / h)) (sum-bit w l x y)))
        ∙ right (sum_of_bits w l x y)
        ∙ sym (ap (λ (z : ℤ). wrap w (clamp_signed w z))
        (ap₂ ◌+ℤ◌ (number_is w l x hx) (number_is w l y hy) ∙ plus x (x / h * 2 ^ w) y (y / h * 2 ^ w)))

-- ---- in every lane

pub sum_signed_at_once : (w a b s over ends : ℕ) → 1 ≤ w → w * (64 / w) ≡ 64 → s < 2 ^ 64 → s ≡ packed (pairwise sum) w a b
    → over ≡ packed (pairwise greater) w 0 (bit_and (bit_xor a s) (bit_xor b s)) → ends ≡ register w (range_end w a)
    → bit_xor s (bit_and (bit_xor s ends) over) ≡ packed (pairwise sum_signed) w a b
unfolding pairwise
sum_signed_at_once w a b s over ends l whole hs es eo ee =
    by_lanes (pairwise sum_signed) w a b _ whole sum_signed-fits
    (xor_lt 64 s _ hs (and_fits 64 (bit_xor s ends) over (xor_lt 64 s ends hs (rw ee (ends_lt w a l)))))
    (λ i k.
    lane_xor w i s _
    ∙ ap (bit_xor (lane w i s))
    (lane_and w i _ over
    ∙ ap₂ bit_and (lane_xor w i s ends ∙ ap (bit_xor (lane w i s)) (ap (lane w i) ee ∙ ends_lane w a l i k))
    (ap (lane w i) eo ∙ negatives_lane w _ l i k
    ∙ ap (λ (z : ℕ). z / 2 ^ (w - 1) * (2 ^ w - 1)) (lane_and w i _ _ ∙ ap₂ bit_and (lane_xor w i a s) (lane_xor w i b s))))
    ∙ rw (sum-lane w a b s i es k) (sum_signed-lane w l (lane w i a) (lane w i b) (lane_lt w i a) (lane_lt w i b)))

pub ruleset adding_signed = (rules, sum_signed_at_once)
