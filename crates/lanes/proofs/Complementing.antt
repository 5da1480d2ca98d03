-- A subtraction is its addition from the other side, a - b = not (not a + b): wrapping, clamped without sign, and clamped with sign. In a
-- lane, not x is 2 ^ w - 1 - x; the range of each clamp is its own mirror image.
use Rattle.std.specs.Prelude.{◌≡◌, refl, ℕ, suc, ◌+◌, ◌-◌, ◌*◌, ◌/◌, ◌%◌, ◌^◌, ◌≤◌, ◌<◌, ℤ, ◌+ℤ◌, ◌-ℤ◌}
use Rattle.basis.specs.Names.{bit_xor, sub_ℕ}
use Rattle.basis.proofs.Names.{sym, ap, ap₂, ◌∙◌, dite, mod-eq_of_lt, add-mod_right, dec_le, arith, rules, pow_pos, ones_sub-lt}
use Rattle.lanes.specs.Lane.{lane}
use Rattle.lanes.specs.Signed.{signed, wrap, clamp_signed, clamp_unsigned}
use Rattle.lanes.specs.Rules.{packed, pairwise, sum, difference, sum_signed, difference_signed, sum_unsigned, difference_unsigned}
use Rattle.lanes.proofs.Registers.{lane_lt}
use Rattle.lanes.proofs.Bitwise.{lane_not}
use Rattle.lanes.proofs.Powers.{halves}
use Rattle.lanes.proofs.Fitting.{Fits, wrap_lt, sum_fits, difference-fits, sum_signed-fits, difference_signed-fits, sum_unsigned-fits, difference_unsigned-fits}
use Rattle.lanes.proofs.Building.{inside, packed_lt, lane-pairwise, by_lanes}
use Rattle.lanes.proofs.Integers.{plus, minus, difference_is, sum_is, wrap_ge, wrap_below, unsigned_below, unsigned_above, unsigned_within}
use Rattle.lanes.proofs.TopBits.{turned_lt, turned_not, signed_is, clamped_is}

-- ---- in a lane

-- the clamp to 0 .. t, where t is 2 ^ w - 1, seen from t
mirrored : (w m n p q t : ℕ) → t ≡ 2 ^ w - 1 → t < 2 ^ w → 1 ≤ t → p + m ≡ t + n + q
    → t - wrap w (clamp_unsigned w (sub_ℕ p q)) ≡ wrap w (clamp_unsigned w (sub_ℕ m n))
mirrored w m n p q t e l k c =
    dite (dec_le m n)
    (λ h. ap (λ (x : ℕ). t - x) (sym (unsigned_above w p q t e l (omega arith) (omega arith))) ∙ omega arith ∙ unsigned_below w m n t e l h)
    (λ h. dite (dec_le t (m - n))
    (λ g. ap (λ (x : ℕ). t - x) (sym (unsigned_below w p q t e l (omega arith))) ∙ omega arith ∙ unsigned_above w m n t e l (omega arith) g)
    (λ g. ap (λ (x : ℕ). t - x) (sym (unsigned_within w p q t e l (omega arith) (omega arith))) ∙ omega arith
    ∙ unsigned_within w m n t e l (omega arith) (omega arith)))

module _ (w a b : ℕ) (hw : 1 ≤ w) (ha : a < 2 ^ w) (hb : b < 2 ^ w) where
  abbrev t : ℕ
  t = 2 ^ w - 1

  not_sum : t - sum w (t - a) b ≡ difference w a b
  unfolding sum difference wrap
  not_sum =
      dite (dec_le b a)
      (λ h. ap (λ (x : ℕ). t - x) (mod-eq_of_lt (omega arith)) ∙ omega arith ∙ sym (ap (wrap w) (difference_is a b) ∙ wrap_ge w a b h (omega arith)))
      (λ h. ap (λ (x : ℕ). t - x) (ap (λ (x : ℕ). x % 2 ^ w) (over h) ∙ add-mod_right (b - suc a) (2 ^ w) ∙ mod-eq_of_lt (omega arith)) ∙ omega arith
      ∙ sym (ap (wrap w) (difference_is a b) ∙ wrap_below w a b (omega arith) (omega arith)))
    where
      over : (b ≤ a → ⊥) → t - a + b ≡ b - suc a + 2 ^ w
      over h = omega arith

  not_sum_unsigned : t - sum_unsigned w (t - a) b ≡ difference_unsigned w a b
  unfolding sum_unsigned difference_unsigned
  not_sum_unsigned =
      ap (λ (z : ℤ). t - wrap w (clamp_unsigned w z)) (sum_is (t - a) b)
      ∙ mirrored w a b (t - a + b) 0 t refl (omega arith) (omega (arith, halves w hw, pow_pos (w - 1))) (omega arith)
      ∙ ap (λ (z : ℤ). wrap w (clamp_unsigned w z)) (sym (difference_is a b))

  not_sum_signed : t - sum_signed w (t - a) b ≡ difference_signed w a b
  unfolding sum_signed difference_signed
  not_sum_signed =
      ap (λ (z : ℤ). t - wrap w (clamp_signed w z))
      (ap₂ ◌+ℤ◌ (read (t - a) (omega arith) ∙ ap (λ (x : ℕ). sub_ℕ x h) (turned_not w h refl p l a ha)) (read b hb) ∙ plus (t - u) h v h)
      ∙ ap (λ (x : ℕ). t - x) (clamped_is w h refl p l (t - u + v) (h + h))
      ∙ sym (turned_not w h refl p l (wrap w (clamp_unsigned w (sub_ℕ (t - u + v + h) (h + h)))) (wrap_lt w _))
      ∙ ap (λ (x : ℕ). bit_xor x h)
      (mirrored w (u + h + h) (h + v) (t - u + v + h) (h + h) t refl (omega arith) (omega (arith, p, l)) (omega (arith, turned_lt w h refl p l a ha)))
      ∙ sym (ap (λ (z : ℤ). wrap w (clamp_signed w z)) (ap₂ ◌-ℤ◌ (read a ha) (read b hb) ∙ minus u h v h) ∙ clamped_is w h refl p l (u + h) (h + v))
    where
      h : ℕ
      h = 2 ^ (w - 1)

      p : h + h ≡ 2 ^ w
      p = halves w hw

      l : 1 ≤ h
      l = pow_pos (w - 1)

      u : ℕ
      u = bit_xor a h

      v : ℕ
      v = bit_xor b h

      read : (x : ℕ) → x < 2 ^ w → signed w x ≡ sub_ℕ (bit_xor x h) h
      read = signed_is w h refl p l

-- ---- in every lane

module _ (w a b r : ℕ) (hw : 1 ≤ w) (whole : w * (64 / w) ≡ 64) (ha : a < 2 ^ 64) where
  lifted : (f g : ℕ → ℕ → ℕ → ℕ) → Fits (pairwise f) → Fits (pairwise g)
      → ((x y : ℕ) → x < 2 ^ w → y < 2 ^ w → 2 ^ w - 1 - f w (2 ^ w - 1 - x) y ≡ g w x y)
      → r ≡ packed (pairwise f) w (2 ^ 64 - 1 - a) b → 2 ^ 64 - 1 - r ≡ packed (pairwise g) w a b
  unfolding pairwise
  lifted f g ff fg same e =
      by_lanes (pairwise g) w a b (2 ^ 64 - 1 - r) whole fg (ones_sub-lt 64 r)
      (λ i l.
      let k = inside w 64 i hw l in
      lane_not w i r (rw e (packed_lt w (2 ^ 64 - 1 - a) b (pairwise f) ff)) k
      ∙ ap (λ (x : ℕ). 2 ^ w - 1 - lane w i x) e
      ∙ ap (λ (x : ℕ). 2 ^ w - 1 - x) (lane-pairwise w (2 ^ 64 - 1 - a) b i l f ff)
      ∙ ap (λ (x : ℕ). 2 ^ w - 1 - f w x (lane w i b)) (lane_not w i a ha k)
      ∙ same (lane w i a) (lane w i b) (lane_lt w i a) (lane_lt w i b))

  pub difference_of : r ≡ packed (pairwise sum) w (2 ^ 64 - 1 - a) b → 2 ^ 64 - 1 - r ≡ packed (pairwise difference) w a b
  difference_of = lifted sum difference sum_fits difference-fits (λ x y. not_sum w x y hw)

  pub difference_unsigned_of : r ≡ packed (pairwise sum_unsigned) w (2 ^ 64 - 1 - a) b → 2 ^ 64 - 1 - r ≡ packed (pairwise difference_unsigned) w a b
  difference_unsigned_of =
      lifted sum_unsigned difference_unsigned sum_unsigned-fits difference_unsigned-fits (λ x y. not_sum_unsigned w x y hw)

  pub difference_signed_of : r ≡ packed (pairwise sum_signed) w (2 ^ 64 - 1 - a) b → 2 ^ 64 - 1 - r ≡ packed (pairwise difference_signed) w a b
  difference_signed_of = lifted sum_signed difference_signed sum_signed-fits difference_signed-fits (λ x y. not_sum_signed w x y hw)

pub ruleset complementing = (rules, difference_of, difference_unsigned_of, difference_signed_of)
