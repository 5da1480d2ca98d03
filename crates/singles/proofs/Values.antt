-- The number of a normal half has the half's sign and, in units of 2 ^ -150, its magnitude; so numbers are ordered as their halves are.
use Rattle.std.specs.Prelude.{◌≡◌, refl, ℕ, suc, ◌+◌, ◌-◌, ◌*◌, ◌/◌, ◌%◌, ◌^◌, ◌≤◌, ◌<◌, Bool, true, false, not, eqb, ltb, ◌⊎◌, Float}
use Rattle.basis.specs.Names.{binary32, of_bits, lt}
use Rattle.basis.proofs.Names.{sym, ap, ap₂, ◌∙◌, subst, subst₂, inl, inr, dite, dec_le, arith, eqb-false, lt-ltb, le-ltb, add-mul, zero-mul, mul_assoc, mul_comm, mul_right_comm, mul-pos, mul-le-mul_left, mul-le-mul_right, mul-lt-mul_of_pos_right, le_of_mul-le-mul_right, eq-or-lt_of_le, le_of_eq, le_of_lt, le_trans, lt_of_lt_of_le, lt_of_not-le, pow_pos, pow_mono, pow-suc, pow-succ', nan, inf, up, down, below, odd, of_fields, down_pos, HasValue, odd_sign, fin}
use Rattle.singles.specs.Ranges.{exponent, is_negative, magnitude}
use Rattle.singles.specs.Tables.{exceeds_by, exceeds, units}
use Rattle.singles.specs.inner.Numbers.{plus_zero}

-- numbers in proportion have one order
rises : (x y a b c k : ℕ) → 0 < k → x * c ≡ a * k → y * c ≡ b * k → x ≤ y → a ≤ b
rises x y a b c k K p q h = le_of_mul-le-mul_right (subst₂ ◌≤◌ p q (mul-le-mul_right c h)) K

ordered : (x y a b c k : ℕ) → 0 < c → 0 < k → x * c ≡ a * k → y * c ≡ b * k → ltb x y ≡ ltb a b
ordered x y a b c k C K p q =
    dite (dec_le b a)
    (λ h. le-ltb x y (rises b a y x k c C (sym q) (sym p) h) ∙ sym (le-ltb a b h))
    (λ h. lt-ltb x y (lt_of_not-le (λ l. h (rises y x b a c k K q p l))) ∙ sym (lt-ltb a b (lt_of_not-le h)))

below_same : (s t : Bool) (x y a b c k : ℕ) → 0 < c → 0 < k → x * c ≡ a * k → y * c ≡ b * k → below s x t y ≡ below s a t b
below_same false false x y a b c k C K p q = ordered x y a b c k C K p q
below_same false true x y a b c k C K p q = refl
below_same true false x y a b c k C K p q =
    ordered 0 (x + y) 0 (a + b) c k C K (zero-mul c ∙ sym (zero-mul k)) (add-mul x y c ∙ ap₂ ◌+◌ p q ∙ sym (add-mul a b k))
below_same true true x y a b c k C K p q = ordered y x b a c k C K q p

by_values : (x y : Float) (s t : Bool) (a b c : ℕ) → 0 < c → HasValue x s a c → HasValue y t b c → lt x y ≡ below s a t b
unfolding lt
by_values nan y s t a b c C p q = absurd p
by_values (inf u) y s t a b c C p q = absurd p
by_values (fin u m e) nan s t a b c C p q = absurd q
by_values (fin u m e) (inf v) s t a b c C p q = absurd q
by_values (fin u m e) (fin v n d) s t a b c C p q =
    below_same u v (m * up e * down d) (n * up d * down e) a b c (down e * down d) C (mul-pos (down_pos e) (down_pos d))
    (mul_right_comm (m * up e) (down d) c ∙ ap (λ (z : ℕ). z * down d) p.1 ∙ mul_assoc a (down e) (down d))
    (mul_right_comm (n * up d) (down e) c ∙ ap (λ (z : ℕ). z * down e) q.1 ∙ mul_assoc b (down d) (down e)
    ∙ ap (λ (z : ℕ). b * z) (mul_comm (down d) (down e)))
    ∙ ap₂ (λ (i j : Bool). below i a j b) p.0 q.0

-- magnitudes in units of 2 ^ -150, in the order of the halves without their signs
abbrev size : ℕ → ℕ
size k = (0x80_0000 + k % 0x80_0000) * 2 ^ (k / 0x80_0000)

size_grows : (b c : ℕ) → b < c → size b < size c
size_grows b c h = elim (eq-or-lt_of_le fields) [ inl e ↦ same e | inr l ↦ next l ]
  where
    fields : b / 0x80_0000 ≤ c / 0x80_0000
    fields = omega arith

    digits : b / 0x80_0000 ≡ c / 0x80_0000 → 0x80_0000 + b % 0x80_0000 < 0x80_0000 + c % 0x80_0000
    digits e = omega arith

    same : b / 0x80_0000 ≡ c / 0x80_0000 → size b < size c
    same e =
        subst (λ (x : ℕ). size b < (0x80_0000 + c % 0x80_0000) * 2 ^ x) e (mul-lt-mul_of_pos_right (digits e) (pow_pos (b / 0x80_0000)))

    twice : 0x80_0000 + b % 0x80_0000 < 0x80_0000 * 2
    twice = omega arith

    once : 0x80_0000 ≤ 0x80_0000 + c % 0x80_0000
    once = omega arith

    double : 0x80_0000 * 2 * 2 ^ (b / 0x80_0000) ≡ 0x80_0000 * 2 ^ suc (b / 0x80_0000)
    double = mul_assoc 0x80_0000 2 (2 ^ (b / 0x80_0000)) ∙ ap (λ (x : ℕ). 0x80_0000 * x) (sym (pow-succ' 2 (b / 0x80_0000)))

    next : b / 0x80_0000 < c / 0x80_0000 → size b < size c
    next l =
        lt_of_lt_of_le (mul-lt-mul_of_pos_right twice (pow_pos (b / 0x80_0000)))
        (le_trans (le_of_eq double) (le_trans (mul-le-mul_left 0x80_0000 (pow_mono l)) (mul-le-mul_right (2 ^ (c / 0x80_0000)) once)))

size_order : (b c : ℕ) → ltb (size b) (size c) ≡ ltb b c
size_order b c =
    dite (dec_le c b)
    (λ l. le-ltb (size b) (size c) (reaches (eq-or-lt_of_le l)) ∙ sym (le-ltb b c l))
    (λ l. lt-ltb (size b) (size c) (size_grows b c (lt_of_not-le l)) ∙ sym (lt-ltb b c (lt_of_not-le l)))
  where
    reaches : (c ≡ b) ⊎ (c < b) → size c ≤ size b
    reaches (inl e) = le_of_eq (ap size e)
    reaches (inr m) = le_of_lt (size_grows c b m)

field : (n : ℕ) → n % 0x8000_0000 / 0x80_0000 ≡ exponent n
field n = omega arith

size_is : (n : ℕ) → size (magnitude n) ≡ units n
size_is n = ap₂ (λ (f e : ℕ). (0x80_0000 + f) * 2 ^ e) (omega arith) (field n)

units_order : (a b : ℕ) → ltb (units a) (units b) ≡ ltb (magnitude a) (magnitude b)
units_order a b = ap₂ ltb (sym (size_is a)) (sym (size_is b)) ∙ size_order (magnitude a) (magnitude b)

units_positive : (n : ℕ) → 0 < units n
units_positive n = mul-pos (omega arith) (pow_pos (exponent n))

-- a half that is normal: its exponent is neither FF nor 00
pub record IsNormal (n : ℕ) : Type 0 where
  pub supported : eqb (exponent n) 0xFF ≡ false
  pub nonzero : eqb (exponent n) 0x00 ≡ false

doubled : (x : Float) (s : Bool) (a c : ℕ) → HasValue x s a c → HasValue x s (a * 2) (2 * c)
doubled nan s a c p = p
doubled (inf t) s a c p = p
doubled (fin t m e) s a c p = (
  p.0,
  sym (mul_assoc (m * up e) 2 c) ∙ mul_right_comm (m * up e) 2 c ∙ ap (λ (z : ℕ). z * 2) p.1 ∙ mul_right_comm a (down e) 2,
)

fields_are : (s : Bool) (x t : ℕ) → eqb (suc x) 0xFF ≡ false → of_fields binary32 s (suc x) t ≡ odd 24 s (0x80_0000 + t) x 149
unfolding of_fields
fields_are s x t h = rw h

bits_are : (n : ℕ) → of_bits binary32 n ≡ of_fields binary32 (is_negative n) (n % 0x8000_0000 / 0x80_0000) (n % 0x80_0000)
unfolding of_bits
bits_are n = refl

pub has_value : (n : ℕ) → IsNormal n → HasValue (of_bits binary32 n) (is_negative n) (units n) (2 ^ 150)
has_value n g =
    let s = is_negative n in
    let x = exponent n - 1 in
    let t = n % 0x80_0000 in
    let m = 0x80_0000 + t in
    let e : exponent n ≡ suc x = omega (arith, eqb-false (exponent n) 0 g.nonzero) in
    let supported : eqb (suc x) 0xFF ≡ false = ap (λ (y : ℕ). eqb y 0xFF) (sym e) ∙ g.supported in
    let is : of_bits binary32 n ≡ odd 24 s m x 149 =
    bits_are n ∙ ap (λ (y : ℕ). of_fields binary32 s y t) (field n ∙ e) ∙ fields_are s x t supported in
    let twice : m * 2 ^ x * 2 ≡ units n = mul_assoc m (2 ^ x) 2 ∙ ap (λ (y : ℕ). m * y) (sym (pow-suc 2 x) ∙ ap (λ (y : ℕ). 2 ^ y) (sym e)) in
    subst₂ (λ (v : Float) (a : ℕ). HasValue v s a (2 ^ 150)) (sym is) twice
    (doubled (odd 24 s m x 149) s (m * 2 ^ x) (2 ^ 149) (odd_sign 24 s m x 149))

-- two normal halves, and a normal half against zero
pub exceeds_is : (a b : ℕ) → IsNormal a → IsNormal b → lt (of_bits binary32 b) (of_bits binary32 a) ≡ exceeds a b
unfolding exceeds
exceeds_is a b g h =
    by_values _ _ (is_negative b) (is_negative a) (units b) (units a) (2 ^ 150) (pow_pos 150) (has_value b h) (has_value a g)
    ∙ by (is_negative b) (is_negative a)
  where
    by : (t s : Bool) → below t (units b) s (units a) ≡ exceeds_by s t (magnitude a) (magnitude b)
    by true false = lt-ltb 0 (units b + units a) (omega (arith, units_positive a))
    by true true = units_order a b
    by false false = units_order b a
    by false true = refl

zero_value : (c : ℕ) → HasValue plus_zero false 0 c
unfolding of_bits
zero_value c = (refl, zero-mul c)

module _ (n : ℕ) (g : IsNormal n) where
  pub over_zero : lt plus_zero (of_bits binary32 n) ≡ not (is_negative n)
  over_zero =
      by_values _ _ false (is_negative n) 0 (units n) (2 ^ 150) (pow_pos 150) (zero_value (2 ^ 150)) (has_value n g) ∙ by (is_negative n)
    where
      by : (s : Bool) → below false 0 s (units n) ≡ not s
      by true = refl
      by false = lt-ltb 0 (units n) (units_positive n)

  pub under_zero : lt (of_bits binary32 n) plus_zero ≡ is_negative n
  under_zero =
      by_values _ _ (is_negative n) false (units n) 0 (2 ^ 150) (pow_pos 150) (has_value n g) (zero_value (2 ^ 150)) ∙ by (is_negative n)
    where
      by : (s : Bool) → below s (units n) false 0 ≡ s
      by true = lt-ltb 0 (units n + 0) (omega (arith, units_positive n))
      by false = le-ltb (units n) 0 (omega arith)
