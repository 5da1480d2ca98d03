-- PMADDWD wraps only when all four words are 8000h: any other two products have a sum between -2^31 and 2^31. With their top bits turned over, words
-- are u and v, and u * v is at most 2^15 (u + v), since both are below 2^16; only where all are 0 is it no less.
use Rattle.std.specs.Prelude.{◌≡◌, refl, Bool, true, false, ℕ, ◌+◌, ◌*◌, ◌^◌, ◌≤◌, ◌<◌, leb, ℤ, ◌+ℤ◌, ◌*ℤ◌}
use Rattle.basis.specs.Names.{bit_xor, sub_ℕ, lt_z}
use Rattle.basis.proofs.Names.{ap₂, ◌∙◌, mul-le-mul, arith, leb-true, leb-false, lt-ltb}
use Rattle.lanes.specs.Rules.{product}
use Rattle.lanes.proofs.Integers.{same, plus, times, lt_same}
use Rattle.lanes.proofs.TopBits.{turn_low, turn_high, turned_lt, signed_is}

-- differences in order
in_order : (m n p q : ℕ) → m + q < p + n → lt_z (sub_ℕ m n) (sub_ℕ p q) ≡ true
in_order m n p q h =
    ap₂ lt_z (same m n (m + q) (n + q) (omega arith)) (same p q (p + n) (n + q) (omega arith)) ∙ lt_same (m + q) (p + n) (n + q) ∙ lt-ltb _ _ h

-- two words, turned over
module _ (u v : ℕ) (hu : u < 65536) (hv : v < 65536) where
  above : 32768 * u + 32768 * v < u * v + 2147483648
  above = by (leb 32768 u) (leb 32768 v) refl refl
    where
      by : (s t : Bool) → leb 32768 u ≡ s → leb 32768 v ≡ t → 32768 * u + 32768 * v < u * v + 2147483648
      by true t e f = omega (arith, leb-true 32768 u e, mul-le-mul {n₁ = 32768} {m₁ = v} {n₂ = u} {m₂ = v} (leb-true 32768 u e) (omega arith))
      by false true e f = omega (arith, leb-true 32768 v f, mul-le-mul {n₁ = u} {m₁ = 32768} {n₂ = u} {m₂ = v} (omega arith) (leb-true 32768 v f))
      by false false e f = omega (arith, leb-false 32768 u e, leb-false 32768 v f)

  below : (u * v ≤ u * 65535) × (u * v ≤ 65535 * v)
  below = (
    mul-le-mul {n₁ = u} {m₁ = v} {n₂ = u} {m₂ = 65535} (omega arith) (omega arith),
    mul-le-mul {n₁ = u} {m₁ = v} {n₂ = 65535} {m₂ = v} (omega arith) (omega arith),
  )

-- a word that is 0 when turned over is 8000h
turned_zero : (x : ℕ) → x < 65536 → bit_xor x 0x8000 ≡ 0 → x ≡ 0x8000
turned_zero x h e = by (leb 0x8000 x) refl
  where
    by : (t : Bool) → leb 0x8000 x ≡ t → x ≡ 0x8000
    by true t = omega (arith, leb-true 0x8000 x t, turn_high 16 0x8000 refl refl (omega arith) x (leb-true 0x8000 x t) (omega arith))
    by false t = omega (arith, leb-false 0x8000 x t, turn_low 16 0x8000 refl refl (omega arith) x (leb-false 0x8000 x t))

module _ (x y x' y' : ℕ) (hx : x < 65536) (hy : y < 65536) (hx' : x' < 65536) (hy' : y' < 65536) where
  abbrev u : ℕ
  u = bit_xor x 0x8000

  abbrev v : ℕ
  v = bit_xor y 0x8000

  abbrev u' : ℕ
  u' = bit_xor x' 0x8000

  abbrev v' : ℕ
  v' = bit_xor y' 0x8000

  -- the sum of the products, as a difference
  abbrev total : ℤ
  total = product 16 x y +ℤ product 16 x' y'

  abbrev more : ℕ
  more = u * v + 32768 * 32768 + (u' * v' + 32768 * 32768)

  abbrev less : ℕ
  less = u * 32768 + 32768 * v + (u' * 32768 + 32768 * v')

  sum_as : total ≡ sub_ℕ more less
  sum_as =
      ap₂ ◌+ℤ◌
      (ap₂ ◌*ℤ◌ (signed_is 16 0x8000 refl refl (omega arith) x hx) (signed_is 16 0x8000 refl refl (omega arith) y hy) ∙ times u 32768 v 32768)
      (ap₂ ◌*ℤ◌ (signed_is 16 0x8000 refl refl (omega arith) x' hx') (signed_is 16 0x8000 refl refl (omega arith) y' hy') ∙ times u' 32768 v' 32768)
      ∙ plus (u * v + 32768 * 32768) (u * 32768 + 32768 * v) (u' * v' + 32768 * 32768) (u' * 32768 + 32768 * v')

  within : (u + v + u' + v' ≡ 0 → ⊥) → (lt_z (sub_ℕ 0 (2 ^ 31)) total ≡ true) × (lt_z total (sub_ℕ (2 ^ 31) 0) ≡ true)
  within some =
      let hu : u < 65536 = turned_lt 16 0x8000 refl refl (omega arith) x hx in
      let hv : v < 65536 = turned_lt 16 0x8000 refl refl (omega arith) y hy in
      let hu' : u' < 65536 = turned_lt 16 0x8000 refl refl (omega arith) x' hx' in
      let hv' : v' < 65536 = turned_lt 16 0x8000 refl refl (omega arith) y' hy' in
      rw sum_as (
        in_order 0 (2 ^ 31) more less (omega (arith, above u v hu hv, above u' v' hu' hv')),
        in_order more less (2 ^ 31) 0 (omega (arith, some, (below u v hu hv).0, (below u v hu hv).1, (below u' v' hu' hv').0, (below u' v' hu' hv').1)),
      )

  -- "wrapping at 32 bits (only when all four words are 8000h)": else the sum lies between -2^31 and 2^31
  pub wraps_only : ((x ≡ 0x8000) × (y ≡ 0x8000) × (x' ≡ 0x8000) × (y' ≡ 0x8000) → ⊥)
      → (lt_z (sub_ℕ 0 (2 ^ 31)) total ≡ true) × (lt_z total (sub_ℕ (2 ^ 31) 0) ≡ true)
  wraps_only other =
      within (λ none. other (
        turned_zero x hx (omega (arith, none)),
        turned_zero y hy (omega (arith, none)),
        turned_zero x' hx' (omega (arith, none)),
        turned_zero y' hy' (omega (arith, none)),
      ))
