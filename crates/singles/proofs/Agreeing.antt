-- The tables over halves and the tables over the numbers that these stand for say the same.
use Rattle.std.specs.Prelude.{◌≡◌, refl, ℕ, ◌+◌, ◌-◌, ◌*◌, ◌/◌, ◌^◌, min, ◌<◌, Bool, true, false, not, cond, eqb, ltb, ℤ, Float, Option, Some}
use Rattle.basis.specs.Names.{binary32, of_bits, to_unsigned, neg, lt}
use Rattle.basis.proofs.Names.{ap, ap₂, ◌∙◌, arith, lt-ltb, ltb-true, ltb-false, pow_pos, nan, inf, up, down, down_pos, HasValue, div_same, fin}
use Rattle.lanes.specs.Lane.{lane}
use Rattle.singles.specs.Ranges.{exponent, zero_range, normal_range, unsupported_range, range_of, is_negative}
use Rattle.singles.specs.Tables.{greater_cell, greater_half, maximum_cell, maximum_half, units, whole_part, word_row, word_cell, word_half}
use Rattle.singles.specs.Siblings.{both, pf2iw, pfcmpgt, pfmax}
use Rattle.singles.specs.inner.Numbers.{sort, class_of, greater, maximum, rounded, word}
use Rattle.singles.specs.declared.classes.Class.{Class}
use Rattle.singles.specs.declared.classes.Class.TheVariants.{Zero, Normal, Unsupported}
use Rattle.singles.proofs.Rounding.{cut, small}
use Rattle.singles.proofs.Values.{IsNormal, has_value, exceeds_is, over_zero, under_zero}

-- a half is one of three
data View (n : ℕ) : Type 0 where
  zero_view : class_of n ≡ Zero → range_of n ≡ zero_range → View n
  normal_view : class_of n ≡ Normal (of_bits binary32 n) → range_of n ≡ normal_range → IsNormal n → View n
  unsupported_view : class_of n ≡ Unsupported → range_of n ≡ unsupported_range → View n

view : (n : ℕ) → View n
unfolding class_of sort range_of
view n = by (eqb (exponent n) 0xFF) (eqb (exponent n) 0x00) refl refl
  where
    by : (s t : Bool) → eqb (exponent n) 0xFF ≡ s → eqb (exponent n) 0x00 ≡ t → View n
    by true t p q = unsupported_view (rw p) (rw p)
    by false true p q = zero_view (rw (p, q)) (rw (p, q))
    by false false p q = normal_view (rw (p, q)) (rw (p, q)) (record { supported = p; nonzero = q })

-- Table 10
turned : (s : Bool) (a b : ℕ) → Some (cond (not s) a b) ≡ Some (cond s b a)
turned true a b = refl
turned false a b = refl

pub greater_is : (a b : ℕ) → greater (class_of a) (class_of b) ≡ greater_half a b
unfolding greater greater_half greater_cell
greater_is a b = by (view a) (view b)
  where
    by : View a → View b → greater (class_of a) (class_of b) ≡ greater_cell (range_of a) (range_of b) a b
    by (zero_view p q) (zero_view r s) = rw (p, q, r, s)
    by (zero_view p q) (normal_view r s h) = rw (p, q, r, s, under_zero b h)
    by (zero_view p q) (unsupported_view r s) = rw (p, q, r, s)
    by (normal_view p q g) (zero_view r s) = rw (p, q, r, s, over_zero a g) (turned (is_negative a) 0xFFFF_FFFF 0)
    by (normal_view p q g) (normal_view r s h) = rw (p, q, r, s, exceeds_is a b g h)
    by (normal_view p q g) (unsupported_view r s) = rw (p, q, r, s)
    by (unsupported_view p q) (zero_view r s) = rw (p, q, s)
    by (unsupported_view p q) (normal_view r s h) = rw (p, q, s)
    by (unsupported_view p q) (unsupported_view r s) = rw (p, q, s)

-- Table 11
pub maximum_is : (a b : ℕ) → maximum a b (class_of a) (class_of b) ≡ maximum_half a b
unfolding maximum maximum_half maximum_cell
maximum_is a b = by (view a) (view b)
  where
    by : View a → View b → maximum a b (class_of a) (class_of b) ≡ maximum_cell (range_of a) (range_of b) a b
    by (zero_view p q) (zero_view r s) = rw (p, q, r, s)
    by (zero_view p q) (normal_view r s h) = rw (p, q, r, s, over_zero b h) (turned (is_negative b) b 0)
    by (zero_view p q) (unsupported_view r s) = rw (p, q, r, s)
    by (normal_view p q g) (zero_view r s) = rw (p, q, r, s, over_zero a g) (turned (is_negative a) a 0)
    by (normal_view p q g) (normal_view r s h) = rw (p, q, r, s, exceeds_is a b g h)
    by (normal_view p q g) (unsupported_view r s) = rw (p, q, r, s)
    by (unsupported_view p q) (zero_view r s) = rw (p, q, s)
    by (unsupported_view p q) (normal_view r s h) = rw (p, q, s)
    by (unsupported_view p q) (unsupported_view r s) = rw (p, q, s)

-- Table 3
module _ (q : ℕ) where
  upper_rows : cond (ltb q 0x8000) (min q 0xFFFF_FFFF_FFFF_FFFF) 0x7FFF ≡ word_row (ltb q 1) (ltb q 0x8000) false q
  upper_rows = by (ltb q 1) (ltb q 0x8000) refl refl
    where
      by : (s t : Bool) → ltb q 1 ≡ s → ltb q 0x8000 ≡ t → cond t (min q 0xFFFF_FFFF_FFFF_FFFF) 0x7FFF ≡ word_row s t false q
      by true true h k = small q (ltb-true q 0x8000 k) ∙ omega (arith, ltb-true q 1 h)
      by true false h k = absurd (omega (arith, ltb-true q 1 h, ltb-false q 0x8000 k))
      by false true h k = small q (ltb-true q 0x8000 k)
      by false false h k = refl

  lower_rows : cond (ltb q 1) 0 (cond (ltb q 0x8000) (2 ^ 32 - min q 0xFFFF_FFFF_FFFF_FFFF) 0xFFFF_8000)
      ≡ word_row (ltb q 1) (ltb q 0x8000) true q
  lower_rows = by (ltb q 1) (ltb q 0x8000) refl
    where
      by : (s t : Bool) → ltb q 0x8000 ≡ t → cond s 0 (cond t (2 ^ 32 - min q 0xFFFF_FFFF_FFFF_FFFF) 0xFFFF_8000) ≡ word_row s t true q
      by true t k = refl
      by false true k = rw (small q (ltb-true q 0x8000 k))
      by false false k = refl

-- of the number n / d
module _ (m : ℕ) (e : ℤ) where
  abbrev n : ℕ
  n = m * up e

  abbrev d : ℕ
  d = down e

  rows_of : (t : Bool) → rounded (fin t m e) ≡ word_row (ltb (n / d) 1) (ltb (n / d) 0x8000) t (n / d)
  unfolding rounded lt to_unsigned neg of_bits
  rows_of false =
      let positive : 0 < 1 * d + n * 1 = omega (arith, down_pos e) in
      rw (lt-ltb 0 (1 * d + n * 1) positive, cut n d 0x8000 (down_pos e)) (upper_rows (n / d))
  rows_of true =
      let negative : 0 < n * 1 + 0x8000 * d = omega (arith, down_pos e) in
      rw (cut n d 1 (down_pos e), lt-ltb 0 (n * 1 + 0x8000 * d) negative, cut n d 0x8000 (down_pos e)) (lower_rows (n / d))

rows : (x : Float) (s : Bool) (a c : ℕ) → 0 < c → HasValue x s a c → rounded x ≡ word_row (ltb (a / c) 1) (ltb (a / c) 0x8000) s (a / c)
rows nan s a c C p = absurd p
rows (inf t) s a c C p = absurd p
rows (fin t m e) s a c C p = rw (← div_same (m * up e) (down e) a c (down_pos e) C p.1, ← p.0) (rows_of m e t)

pub word_is : (n : ℕ) → word (class_of n) ≡ word_half n
unfolding word word_half word_cell whole_part
word_is n = by (view n)
  where
    by : View n → word (class_of n) ≡ word_cell (range_of n) n
    by (zero_view p q) = rw (p, q)
    by (normal_view p q g) = rw (p, q) (ap Some (rows _ (is_negative n) (units n) (2 ^ 150) (pow_pos 150) (has_value n g)))
    by (unsupported_view p q) = rw (p, q)

-- in registers, as the code has their halves' classes
pub class_is : (i a n : ℕ) (number : Float) (x : Class) → n ≡ lane 32 i a → number ≡ of_bits binary32 (lane 32 i a) → x ≡ sort n number
    → x ≡ class_of (lane 32 i a)
unfolding class_of
class_is i a n number x p q h = h ∙ ap₂ sort p q

module _ (r : Option ℕ) (low high : Option ℕ) (is : r ≡ both low high) where
  pub pf2iw_is : (b : ℕ) (x u : Class) → low ≡ word x → high ≡ word u → x ≡ class_of (lane 32 0 b) → u ≡ class_of (lane 32 1 b) → r ≡ pf2iw b
  unfolding pf2iw
  pf2iw_is b x u l h xs us = is ∙ ap₂ both (l ∙ ap word xs ∙ word_is _) (h ∙ ap word us ∙ word_is _)

  pub pfcmpgt_is : (a b : ℕ) (x y u v : Class) → low ≡ greater x y → high ≡ greater u v
      → x ≡ class_of (lane 32 0 a) → y ≡ class_of (lane 32 0 b) → u ≡ class_of (lane 32 1 a) → v ≡ class_of (lane 32 1 b) → r ≡ pfcmpgt a b
  unfolding pfcmpgt
  pfcmpgt_is a b x y u v l h xs ys us vs =
      is ∙ ap₂ both (l ∙ ap₂ greater xs ys ∙ greater_is _ _) (h ∙ ap₂ greater us vs ∙ greater_is _ _)

  pub pfmax_is : (a b n k i j : ℕ) (x y u v : Class) → low ≡ maximum n k x y → high ≡ maximum i j u v
      → n ≡ lane 32 0 a → k ≡ lane 32 0 b → i ≡ lane 32 1 a → j ≡ lane 32 1 b
      → x ≡ class_of (lane 32 0 a) → y ≡ class_of (lane 32 0 b) → u ≡ class_of (lane 32 1 a) → v ≡ class_of (lane 32 1 b) → r ≡ pfmax a b
  unfolding pfmax
  pfmax_is a b n k i j x y u v l h ns ks is' js xs ys us vs =
      is ∙ ap₂ both (l ∙ rw (ns, ks, xs, ys) (maximum_is _ _)) (h ∙ rw (is', js, us, vs) (maximum_is _ _))
