-- PADDUS on whole registers: the wrapped sum, and ones in the lanes that carry.
use Rattle.std.specs.Prelude.{◌≡◌, refl, true, false, ℕ, ◌+◌, ◌-◌, ◌*◌, ◌/◌, ◌%◌, ◌^◌, ◌≤◌, ◌<◌, ℤ}
use Rattle.basis.specs.Names.{bit_and, bit_or, sub_ℕ}
use Rattle.basis.proofs.Names.{sym, ap, ap₂, ◌∙◌, dite, zero-mul, one-mul, mod-lt, mod-eq_of_lt, div-eq_of_lt, dec_le, arith, rules, and_shr, or_shr, or_lt, high, pow_pos}
use Rattle.lanes.specs.Lane.{lane}
use Rattle.lanes.specs.Signed.{wrap, clamp_unsigned}
use Rattle.lanes.specs.Rules.{packed, pairwise, greater, sum, sum_unsigned}
use Rattle.lanes.proofs.Registers.{lane_lt}
use Rattle.lanes.proofs.Bitwise.{lane_and, lane_or, lane_not}
use Rattle.lanes.proofs.Fitting.{greater-fits, sum_unsigned-fits}
use Rattle.lanes.proofs.Choosing.{or_lane}
use Rattle.lanes.proofs.Building.{inside, packed_lt, by_lanes}
use Rattle.lanes.proofs.Integers.{sum_is, unsigned_above, unsigned_within}
use Rattle.lanes.proofs.Signs.{bit_not, negatives_lane}
use Rattle.lanes.proofs.SumBits.{sum-lane, sum-bit, carried_out, by_bits}

-- ---- in a lane, whose top bit weighs h

module _ (w : ℕ) (l : 1 ≤ w) (x y : ℕ) (hx : x < 2 ^ w) (hy : y < 2 ^ w) where
  abbrev h : ℕ
  h = 2 ^ (w - 1)

  abbrev s : ℕ
  s = (x + y) % 2 ^ w

  -- both top bits are set, or one of them and not the sum's
  abbrev out : ℕ
  out = bit_or (bit_and x y) (bit_and (bit_or x y) (2 ^ w - 1 - s)) / h

  s_lt : s < 2 ^ w
  s_lt = mod-lt (x + y) (pow_pos w)

  out_is : out ≡ (x + y) / 2 ^ w
  out_is =
      or_shr (bit_and x y) _ (w - 1)
      ∙ ap₂ bit_or (and_shr x y (w - 1))
      (and_shr (bit_or x y) _ (w - 1) ∙ ap₂ bit_and (or_shr x y (w - 1)) (bit_not w l s s_lt ∙ ap (λ (k : ℕ). 1 - k) (sum-bit w l x y)))
      ∙ by_bits w l x y (λ (i j c : ℕ). bit_or (bit_and i j) (bit_and (bit_or i j) (1 - (i + j + c) % 2)) ≡ (i + j + c) / 2)
      refl refl refl refl refl refl refl refl hx hy
      ∙ sym (carried_out w l x y)

  clamp_of_sum : sum_unsigned w x y ≡ wrap w (clamp_unsigned w (sub_ℕ (x + y) 0))
  unfolding sum_unsigned
  clamp_of_sum = ap (λ (z : ℤ). wrap w (clamp_unsigned w z)) (sum_is x y)

  sum_unsigned-lane : bit_or s (out * (2 ^ w - 1)) ≡ sum_unsigned w x y
  sum_unsigned-lane = dite (dec_le (2 ^ w) (x + y)) above (λ k. within (omega arith))
    where
      above : 2 ^ w ≤ x + y → bit_or s (out * (2 ^ w - 1)) ≡ sum_unsigned w x y
      above k =
          rw (out_is ∙ once, one-mul) (or_lane w s true s_lt)
          ∙ unsigned_above w (x + y) 0 (2 ^ w - 1) refl (omega arith) (omega arith) (omega arith) ∙ sym clamp_of_sum
        where
          once : (x + y) / 2 ^ w ≡ 1
          once = ap (λ (z : ℕ). z / 2 ^ w) (omega arith) ∙ high 1 w {lo = x + y - 2 ^ w} (omega arith)

      within : x + y < 2 ^ w → bit_or s (out * (2 ^ w - 1)) ≡ sum_unsigned w x y
      within k =
          rw (out_is ∙ div-eq_of_lt k, zero-mul) (or_lane w s false s_lt) ∙ mod-eq_of_lt k ∙ omega arith
          ∙ unsigned_within w (x + y) 0 (2 ^ w - 1) refl (omega arith) (omega arith) (omega arith) ∙ sym clamp_of_sum

-- ---- in every lane

pub sum_unsigned_at_once : (w a b s over : ℕ) → 1 ≤ w → w * (64 / w) ≡ 64 → s < 2 ^ 64 → s ≡ packed (pairwise sum) w a b
    → over ≡ packed (pairwise greater) w 0 (bit_or (bit_and a b) (bit_and (bit_or a b) (2 ^ 64 - 1 - s)))
    → bit_or s over ≡ packed (pairwise sum_unsigned) w a b
unfolding pairwise
sum_unsigned_at_once w a b s over l whole hs es eo =
    by_lanes (pairwise sum_unsigned) w a b _ whole sum_unsigned-fits (or_lt 64 s over hs (rw eo (packed_lt w 0 _ (pairwise greater) greater-fits)))
    (λ i k.
    let e = sum-lane w a b s i es k in
    lane_or w i s over
    ∙ ap₂ bit_or e
    (ap (lane w i) eo ∙ negatives_lane w _ l i k
    ∙ ap (λ (z : ℕ). z / 2 ^ (w - 1) * (2 ^ w - 1))
    (lane_or w i _ _
    ∙ ap₂ bit_or (lane_and w i a b)
    (lane_and w i _ _ ∙ ap₂ bit_and (lane_or w i a b) (lane_not w i s hs (inside w 64 i l k) ∙ ap (λ (z : ℕ). 2 ^ w - 1 - z) e))))
    ∙ sum_unsigned-lane w l (lane w i a) (lane w i b) (lane_lt w i a) (lane_lt w i b))

pub ruleset adding_unsigned = (rules, sum_unsigned_at_once)
