-- A number of two lanes' bits, clamped to a lane, from its high and its low part, each a lane.
use Rattle.std.specs.Prelude.{◌≡◌, refl, true, cond, ℕ, ◌+◌, ◌-◌, ◌*◌, ◌/◌, ◌%◌, ◌^◌, ◌≤◌, ◌<◌, eqb, ℤ}
use Rattle.basis.specs.Names.{bit_and, bit_or, sub_ℕ}
use Rattle.basis.proofs.Names.{sym, ap, ap₂, ◌∙◌, dite, ℕ_discrete, add-mul, one-mul, zero-mul, mul_assoc, mul-le-mul, zero-add, sub_self, sub-zero, mod-lt, div-add-mod', dec_le, arith, eq-eqb, ne_eqb, and_zero_r, or_zero_r, ones_lt, pow_pos, pow-add, shr_lt, shr-shr}
use Rattle.lanes.specs.Signed.{signed, wrap, clamp_signed, clamp_unsigned}
use Rattle.lanes.specs.Rules.{all_ones}
use Rattle.lanes.proofs.Powers.{halves}
use Rattle.lanes.proofs.Choosing.{and_lane, or_lane}
use Rattle.lanes.proofs.Integers.{wrap_multiple, unsigned_below, unsigned_above, unsigned_within}
use Rattle.lanes.proofs.TopBits.{signed_below, signed_above, signed-within}
use Rattle.lanes.proofs.Signs.{bit_low, bit_high, number_is}

module _ (w x : ℕ) (l : 1 ≤ w) (hx : x < 2 ^ (w + w)) where
  abbrev m : ℕ
  m = 2 ^ w

  -- what a lane's top bit weighs, and all bits of a lane
  abbrev h : ℕ
  h = 2 ^ (w - 1)

  abbrev ones : ℕ
  ones = m - 1

  abbrev high : ℕ
  high = x / m

  abbrev low : ℕ
  low = x % m

  p : h + h ≡ m
  p = halves w l

  o : 1 ≤ h
  o = pow_pos (w - 1)

  high_lt : high < m
  high_lt = shr_lt w w hx

  low_lt : low < m
  low_lt = mod-lt x (pow_pos w)

  parts : high * m + low ≡ x
  parts = div-add-mod' x m

  -- the number, whose top bit is the high part's
  number : signed (w + w) x ≡ sub_ℕ x (high / h * m * m)
  number =
      number_is (w + w) (omega arith) x hx
      ∙ ap₂ (λ (s n : ℕ). sub_ℕ x (s * n)) (ap (λ (k : ℕ). x / 2 ^ k) place ∙ sym (shr-shr x w (w - 1))) (pow-add 2 w w)
      ∙ ap (sub_ℕ x) (sym (mul_assoc (high / h) m m))
    where
      place : w + w - 1 ≡ w + (w - 1)
      place = omega arith

  -- how far the number is from 2 ^ (w + w), and from 0
  short_of : (k : ℕ) → high + k ≤ m → high * m + k * m ≤ m * m
  short_of k e = omega (arith, add-mul high k m, mul-le-mul {n₁ = high + k} {m₁ = m} {n₂ = m} {m₂ = m} e (omega arith))

  reaches : 1 ≤ high → m ≤ x
  reaches e = omega (arith, parts, one-mul m, mul-le-mul {n₁ = 1} {m₁ = m} {n₂ = high} {m₂ = m} e (omega arith))

  -- ---- with sign

  abbrev clamped : ℕ
  clamped = wrap w (clamp_signed w (sub_ℕ x (high / h * m * m)))

  -- the low part's sign, in all bits of a lane
  abbrev sign : ℕ
  sign = low / h * ones

  sign_high : h ≤ low → sign ≡ ones
  sign_high k = rw (bit_high w l low k low_lt) (one-mul ones)

  sign_low : low < h → sign ≡ 0
  sign_low k = rw (bit_low w l low k) (zero-mul ones)

  fits : high ≡ sign → low ≡ clamped
  fits e = sym (signed-within w h refl p o x (high / h * m * m) near.0 near.1 ∙ wrap_multiple w (high / h * m) x)
    where
      near : (high / h * m * m ≤ x + h) × (x < high / h * m * m + h)
      near =
          dite (dec_le h low)
          (λ k.
          let f : high + 1 ≡ m = omega (arith, sign_high k, p, o) in
          rw (bit_high w l high (omega (arith, p, o)) high_lt, one-mul)
          (omega (arith, add-mul high 1 m, one-mul m, ap (λ (y : ℕ). y * m) f, parts, low_lt, p)))
          (λ k.
          let f : high ≡ 0 = e ∙ sign_low (omega arith) in
          rw (bit_low w l high (omega (arith, o)), zero-mul, zero-mul) (omega (arith, ap (λ (y : ℕ). y * m) f, zero-mul m, parts)))

  beyond : (high ≡ sign → ⊥) → high / h + (h - 1) ≡ clamped
  beyond n = dite (dec_le h high) below above
    where
      below : h ≤ high → high / h + (h - 1) ≡ clamped
      below k =
          rw (bit_high w l high k high_lt, one-mul)
          (omega (arith, o)
          ∙ sym (signed_below w h refl p o x (m * m) (dite (dec_le h low)
          (λ g. omega (arith, short_of 2 (omega (arith, n, sign_high g, high_lt)), parts, p, low_lt))
          (λ g. omega (arith, short_of 1 (omega (arith, high_lt)), one-mul m, parts, p)))))

      above : (h ≤ high → ⊥) → high / h + (h - 1) ≡ clamped
      above k =
          rw (bit_low w l high (omega arith), zero-mul, zero-mul, zero-add)
          (sym (signed_above w h refl p o x 0 (dite (dec_le h low)
          (λ g. omega (arith, parts))
          (λ g. omega (arith, reaches (omega (arith, n, sign_low (omega arith))), p)))))

  -- the low part where the high part is no more than its sign; else the end of the range on the number's side
  pub clamped_signed : cond (eqb high sign) low (high / h + (h - 1)) ≡ wrap w (clamp_signed w (signed (w + w) x))
  clamped_signed =
      dite (ℕ_discrete high sign) (λ e. rw (eq-eqb high sign e) (fits e)) (λ n. rw (ne_eqb high sign n) (beyond n))
      ∙ ap (λ (z : ℤ). wrap w (clamp_signed w z)) (sym number)

  -- ---- without sign

  abbrev clamped_unsigned : ℕ
  clamped_unsigned = wrap w (clamp_unsigned w (sub_ℕ x (high / h * m * m)))

  abbrev chosen : ℕ
  chosen = bit_and (bit_or low (ones - all_ones w (eqb high 0))) (ones - high / h * ones)

  ones_fit : ones < m
  ones_fit = ones_lt w

  below_zero : h ≤ high → chosen ≡ clamped_unsigned
  below_zero k =
      rw (bit_high w l high k high_lt, one-mul ones, sub_self ones, and_zero_r, one-mul m)
      (unsigned_below w x (m * m) ones refl ones_fit (omega (arith, pow-add 2 w w)))

  from_zero : high < h → chosen ≡ clamped_unsigned
  from_zero k =
      rw (bit_low w l high k, zero-mul ones, sub-zero ones, zero-mul m, zero-mul m)
      (dite (ℕ_discrete high 0)
      (λ e.
      let f : x ≡ low = omega (arith, parts, ap (λ (y : ℕ). y * m) e, zero-mul m) in
      rw (eq-eqb high 0 e, sub_self ones, or_zero_r low)
      (and_lane w low true low_lt ∙ omega arith ∙ unsigned_within w x 0 ones refl ones_fit (omega arith) (omega (arith, low_lt))))
      (λ n.
      let f : m ≤ x = reaches (omega arith) in
      rw (ne_eqb high 0 n, sub-zero ones)
      (ap (λ (y : ℕ). bit_and y ones) (or_lane w low true low_lt) ∙ and_lane w ones true ones_fit
      ∙ unsigned_above w x 0 ones refl ones_fit (omega (arith, pow_pos w)) (omega arith))))

  -- the low part where the high part is 0; else ones, or nothing where the number is below zero
  pub clamped_unsigned_lem : chosen ≡ wrap w (clamp_unsigned w (signed (w + w) x))
  clamped_unsigned_lem =
      dite (dec_le h high) below_zero (λ k. from_zero (omega arith)) ∙ ap (λ (z : ℤ). wrap w (clamp_unsigned w z)) (sym number)
