-- Numbers to signed words and back: what a number between the ends of the signed words is without its fraction, and a word as a number. Rules for the
-- functions of words.
use Rattle.std.specs.Prelude.{◌≡◌, refl, ℕ, suc, ◌+◌, ◌-◌, ◌*◌, ◌/◌, ◌%◌, ◌^◌, min, ◌≤◌, ◌<◌, Bool, true, false, cond, not, ltb, ℤ, pos, negsuc, FitsSigned, Float}
use Rattle.basis.specs.Names.{binary32, of_bits, to_bits, of_int, to_unsigned, neg, lt}
use Rattle.basis.proofs.Names.{sym, ap, ◌∙◌, subst, arith, rules, T, dite, dec_le, false≢true, true≢false, lt-ltb, le-ltb, ltb-true, ltb-false, div-lt_iff_lt-mul, le-div_iff_mul-le, lt_of_not-le, min-eq_left, nan, inf, up, down, is_nan, round, down_pos, HasValue, round_whole, fin, mag, neg_ℤ}
use Rattle.std.proofs.lemmas.Bool.Decides.{nat_tests}
use Rattle.std.proofs.lemmas.Int.{to_z-of_z}
use Rattle.std.specs.Int.{w16, w32, w64, cast_signed, cast_unsigned}
use Rattle.std.specs.Float.Ieee.{to_signed, le, eq}
use Rattle.lanes.specs.Signed.{signed}
use Rattle.lanes.proofs.Integers.{is_lt}
use Rattle.singles.specs.Tables.{single_of}
use Rattle.singles.specs.inner.Numbers.{upper_end, lower_end, rounded}

-- a fraction is below a whole number where its whole part is
pub cut : (a d k : ℕ) → 0 < d → ltb (a * 1) (k * d) ≡ ltb (a / d) k
cut a d k p =
    dite (dec_le (k * d) a)
    (λ h. le-ltb (a * 1) (k * d) (omega arith) ∙ sym (le-ltb (a / d) k ((le-div_iff_mul-le p).1 h)))
    (λ h.
    let l = lt_of_not-le h in
    lt-ltb (a * 1) (k * d) (omega arith) ∙ sym (lt-ltb (a / d) k ((div-lt_iff_lt-mul p).1 l)))

pub small : (q : ℕ) → q < 0x8000 → min q 0xFFFF_FFFF_FFFF_FFFF ≡ q
small q h = min-eq_left {n = q} {m = 0xFFFF_FFFF_FFFF_FFFF} (omega arith)

holds : (t : Bool) → t ≡ true → T t
holds t e = subst T (sym e) tt

-- what `truncating_f32_to_i64` asks of a number, that it leaves a word, and which
record Short (x : Float) : Type 0 where
  above : T (le (fin true 1 (pos 63)) x)
  below : T (lt x (fin false 1 (pos 63)))
  short : mag (to_signed 63 x) < 2 ^ 15
  is : cast_unsigned w32 (to_signed 63 x) ≡ rounded x

module _ (q : ℕ) (h : q < 0x8000) where
  up_to : min q 0x7FFF_FFFF_FFFF_FFFF ≡ q
  up_to = omega arith

  down_to : min q 0x8000_0000_0000_0000 ≡ q
  down_to = omega arith

  negative_short : mag (neg_ℤ (pos q)) < 2 ^ 15
  negative_short = grind (arith, nat_tests)

  negative_is : cast_unsigned w32 (neg_ℤ (pos q)) ≡ cond (ltb q 1) 0 (2 ^ 32 - q)
  negative_is = grind (arith, nat_tests)

-- above -32768 and below 32768
between : (x : Float) → lt lower_end x ≡ true → lt x upper_end ≡ true → Short x
unfolding rounded lt le eq to_signed to_unsigned neg of_bits
between nan h k = absurd (false≢true h)
between (inf false) h k = absurd (false≢true k)
between (inf true) h k = absurd (false≢true h)
between (fin false m e) h k =
    let a : m * up e < 0x8000 * down e = omega (arith, ltb-true (m * up e * 1) (0x8000 * down e) k) in
    let q : m * up e / down e < 0x8000 = ltb-true _ _ (sym (cut (m * up e) (down e) 0x8000 (down_pos e)) ∙ k) in
    let positive : 0 < 1 * down e + m * up e * 1 = omega (arith, down_pos e) in
    record {
      above = rw (lt-ltb 0 (2 ^ 63 * down e + m * up e * 1) (omega (arith, down_pos e))) tt;
      below = holds _ (lt-ltb (m * up e * 1) (2 ^ 63 * down e) (omega arith));
      short = rw (up_to _ q) q;
      is = rw (lt-ltb 0 (1 * down e + m * up e * 1) positive, k, up_to _ q, small _ q);
    }
between (fin true m e) h k =
    let a : m * up e < 0x8000 * down e = omega (arith, ltb-true (m * up e * 1) (0x8000 * down e) h) in
    let q : m * up e / down e < 0x8000 = ltb-true _ _ (sym (cut (m * up e) (down e) 0x8000 (down_pos e)) ∙ h) in
    record {
      above = rw (lt-ltb (m * up e * 1) (2 ^ 63 * down e) (omega arith)) tt;
      below = holds _ (lt-ltb 0 (m * up e * 1 + 2 ^ 63 * down e) (omega (arith, down_pos e)));
      short = rw (down_to _ q) (negative_short _ q);
      is = rw (cut (m * up e) (down e) 1 (down_pos e), k, h, down_to _ q, small _ q) (negative_is _ q);
    }

module _ (x : Float) (over : lt lower_end x ≡ true) (under : lt x upper_end ≡ true) where
  pub short_above : T (le (fin true 1 (pos 63)) x)
  short_above = (between x over under).above

  pub short_below : T (lt x (fin false 1 (pos 63)))
  short_below = (between x over under).below

  module _ (z : ℤ) (whole : z ≡ to_signed 63 x) where
    is_short : mag z < 2 ^ 15
    is_short = rw whole (between x over under).short

    as_doubleword : FitsSigned w32 z
    as_doubleword = record { sfits = omega (arith, is_short) }

    back : cast_signed w64 (cast_unsigned w64 z) ≡ z
    back = to_z-of_z w64 z (record { sfits = omega (arith, is_short) })

    pub short_fits : mag (cast_signed w64 (cast_unsigned w64 z)) < 2 ^ 31
    short_fits = rw back (omega (arith, is_short))

    pub short_word : cast_unsigned w32 (cast_signed w32 (cast_unsigned w32 (cast_signed w64 (cast_unsigned w64 z)))) ≡ rounded x
    short_word = rw (back, to_z-of_z w32 z as_doubleword, whole) (between x over under).is

-- from 32768 on
pub greatest_word : (x : Float) → lt lower_end x ≡ true → lt x upper_end ≡ false → 0x7FFF ≡ rounded x
unfolding rounded lt of_bits
greatest_word nan h k = absurd (false≢true h)
greatest_word (inf false) h k = refl
greatest_word (inf true) h k = absurd (false≢true h)
greatest_word (fin false m e) h k = rw (lt-ltb 0 (1 * down e + m * up e * 1) (omega (arith, down_pos e)), k)
greatest_word (fin true m e) h k = absurd (omega (arith, down_pos e, ltb-false 0 (m * up e * 1 + 0x8000 * down e) k))

-- and any other
pub least_word : (x : Float) → lt lower_end x ≡ false → 0xFFFF_8000 ≡ rounded x
unfolding rounded lt of_bits
least_word nan h = refl
least_word (inf false) h = absurd (true≢false h)
least_word (inf true) h = refl
least_word (fin false m e) h = absurd (omega (arith, down_pos e, ltb-false 0 (0x8000 * down e + m * up e * 1) h))
least_word (fin true m e) h =
    let low : 1 * down e ≤ m * up e * 1 = omega (arith, ltb-false (m * up e * 1) (0x8000 * down e) h) in
    rw (le-ltb (m * up e * 1) (1 * down e) low, h)

pub ruleset rounding = (rules, short_above, short_below, short_fits, short_word, greatest_word, least_word)

-- a number of a value is no NaN
no_nan : (x : Float) (s : Bool) (a c : ℕ) → HasValue x s a c → T (not (is_nan x))
unfolding is_nan
no_nan nan s a c p = absurd p
no_nan (inf t) s a c p = tt
no_nan (fin t m e) s a c p = tt

word-no_nan : (z : ℤ) → mag z < 2 ^ 16 → T (not (is_nan (of_int binary32 z)))
unfolding of_int
word-no_nan (pos n) h = no_nan _ false n 1 (round_whole binary32 false n (omega arith))
word-no_nan (negsuc n) h = no_nan _ true (suc n) 1 (round_whole binary32 true (suc n) (omega arith))

-- nor is the number of a word without sign
pub unsigned_no_nan : (n : ℕ) (x : Float) → n < 2 ^ 16 → x ≡ of_int binary32 (pos n) → T (not (is_nan x))
unsigned_no_nan n x h number = rw number (word-no_nan (pos n) h)

-- the low word of a half, signed, and as a number
as_signed : (w : ℕ) → w < 2 ^ 16 → cast_signed w16 w ≡ signed 16 w
unfolding signed
as_signed w h = dite (dec_le 0x8000 w) (λ l. rw (le-ltb w 0x8000 l, is_lt w 0x1_0000 h)) (λ l. rw (lt-ltb w 0x8000 (lt_of_not-le l)))

module _ (half : ℕ) (z : ℤ) (x : Float) (word : z ≡ cast_signed w16 (half % 2 ^ 16)) (fits : mag z < 2 ^ 15) where
  module _ (number : x ≡ of_int binary32 (cast_signed w16 (cast_unsigned w16 z))) where
    is_number : x ≡ of_int binary32 z
    is_number = number ∙ ap (of_int binary32) (to_z-of_z w16 z (record { sfits = fits }))

    pub single-no_nan : T (not (is_nan x))
    single-no_nan = rw is_number (word-no_nan z (omega (arith, fits)))

    pub single_is : to_bits binary32 x ≡ single_of half
    unfolding single_of
    single_is = ap (to_bits binary32) (is_number ∙ ap (of_int binary32) (word ∙ as_signed (half % 2 ^ 16) (omega arith)))

pub ruleset converting = (rules, unsigned_no_nan, single-no_nan, single_is)
