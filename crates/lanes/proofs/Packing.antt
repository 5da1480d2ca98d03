-- Packs on whole registers: of what stands in turn, the even lanes go to the low half, and the odd lanes to the high half.
use Rattle.std.specs.Prelude.{◌≡◌, refl, cond, ℕ, ◌+◌, ◌*◌, ◌/◌, ◌%◌, ◌^◌, ◌<◌, eqb, ltb, ℤ}
use Rattle.basis.proofs.Names.{sym, ap, ap₂, ◌∙◌, dite, one-mul, mod-lt, div-eq_of_lt, div-lt_iff_lt-mul, le-div_iff_mul-le, dec_lt, arith, rules, le-ltb, lt-ltb}
use Rattle.lanes.specs.Lane.{lane}
use Rattle.lanes.specs.Signed.{signed, wrap}
use Rattle.lanes.specs.Rules.{packed, pack, unpack}
use Rattle.lanes.specs.inner.Turns.{exchanged, swapped, in_turn}
use Rattle.lanes.proofs.Registers.{inner}
use Rattle.lanes.proofs.Fitting.{pack-fits}
use Rattle.lanes.proofs.Building.{packed_lt, lane-packed, by_lanes}
use Rattle.lanes.proofs.Exchanging.{swapped_fits, swapped-lane}
use Rattle.lanes.proofs.InTurn.{in_turn-fits}

-- where byte i comes from when bytes, and then words, have changed places
twice_exchanged : (i : ℕ) → i < 8 → exchanged (exchanged (i / 2) + exchanged (i / 2) + i % 2) ≡ i % 4 * 2 + i / 4
twice_exchanged i k = ap exchanged (words (i / 2) (omega arith)) ∙ bytes (i / 2 % 2) (i / 2 / 2) (i % 2) (omega arith) (omega arith) ∙ omega arith
  where
    words : (j : ℕ) → j < 4 → exchanged j + exchanged j + i % 2 ≡ j % 2 * 4 + j / 2 * 2 + i % 2
    words j h = omega arith

    bytes : (p q s : ℕ) → q < 2 → s < 2 → exchanged (p * 4 + q * 2 + s) ≡ p * 4 + s * 2 + q
    bytes p q s h k = omega arith

module _ (clamped : ℕ → ℤ → ℤ) (a b : ℕ) where
  -- lane i of the low half is from place 2 i, and of the high half from place 2 i + 1
  module _ (w z r : ℕ) (ez : z ≡ packed (in_turn clamped) w a b) (hr : r < 2 ^ 64) (whole : w * (64 / w) ≡ 64) (some : 0 < 32 / w)
      (both : 64 / w ≡ 32 / w + 32 / w) (from : (i : ℕ) → i < 64 / w → lane w i r ≡ lane w (i % (32 / w) * 2 + i / (32 / w)) z) where
    abbrev n : ℕ
    n = 32 / w

    half_lt : (i : ℕ) → i < 64 / w → i / n < 2
    half_lt i k = (div-lt_iff_lt-mul some).1 (omega arith)

    place : (i : ℕ) → i < 64 / w → unpack 0 (w + w) a b (i % n * 2 + i / n) ≡ lane (w + w) (i % n) (cond (ltb i n) a b)
    unfolding unpack
    place i k =
        let j = i % n * 2 + i / n in
        let e : 0 + j / 2 ≡ i % n = omega (arith, half_lt i k) in
        dite (dec_lt i n)
        (λ g.
        let f : j % 2 ≡ 0 = omega (arith, div-eq_of_lt g) in
        rw (lt-ltb i n g) (ap₂ (λ (p q : ℕ). lane (w + w) p (cond (eqb q 0) a b)) e f))
        (λ g.
        let f : j % 2 ≡ 1 = omega (arith, half_lt i k, (le-div_iff_mul-le {x = 1} {y = i} some).1 (omega (arith, one-mul n))) in
        rw (le-ltb i n (omega arith)) (ap₂ (λ (p q : ℕ). lane (w + w) p (cond (eqb q 0) a b)) e f))

    apart : r ≡ packed (pack clamped) w a b
    unfolding pack in_turn
    apart =
        by_lanes (pack clamped) w a b r whole (pack-fits clamped) hr
        (λ i k.
        from i k ∙ ap (lane w (i % n * 2 + i / n)) ez
        ∙ lane-packed w a b (i % n * 2 + i / n) (omega (arith, half_lt i k, mod-lt i some)) (in_turn clamped) (in_turn-fits clamped)
        ∙ ap (λ (x : ℕ). wrap w (clamped w (signed (w + w) x))) (place i k))

  words_apart : (z r : ℕ) → r ≡ packed swapped 16 z z → z ≡ packed (in_turn clamped) 16 a b → r ≡ packed (pack clamped) 16 a b
  words_apart z r er ez =
      apart 16 z r ez (rw er (packed_lt 16 z z swapped swapped_fits)) refl (omega arith) refl
      (λ i k. swapped-lane 16 z r er i k ∙ ap (λ (j : ℕ). lane 16 j z) (omega arith))

  bytes_apart : (y z r : ℕ) → r ≡ packed swapped 16 y y → y ≡ packed swapped 8 z z → z ≡ packed (in_turn clamped) 8 a b
      → r ≡ packed (pack clamped) 8 a b
  bytes_apart y z r er ey ez =
      apart 8 z r ez (rw er (packed_lt 16 y y swapped swapped_fits)) refl (omega arith) refl
      (λ i k.
      let e = exchanged (i / 2) in
      ap (λ (j : ℕ). lane 8 j r) (omega arith) ∙ sym (inner 8 (i / 2) (i % 2) r (omega arith))
      ∙ ap (lane 8 (i % 2)) (swapped-lane 16 y r er (i / 2) (omega arith)) ∙ inner 8 e (i % 2) y (omega arith)
      ∙ swapped-lane 8 z y ey (e + e + i % 2) (omega arith) ∙ ap (λ (j : ℕ). lane 8 j z) (twice_exchanged i k))

  pub put_words_apart : (w z r : ℕ) → w ≡ 16 → r ≡ packed swapped 16 z z → z ≡ packed (in_turn clamped) w a b → r ≡ packed (pack clamped) w a b
  put_words_apart w z r e er ez = rw e (words_apart z r er (rw e at ez))

  pub put_bytes_apart : (w y z r : ℕ) → w ≡ 8 → r ≡ packed swapped 16 y y → y ≡ packed swapped 8 z z → z ≡ packed (in_turn clamped) w a b
      → r ≡ packed (pack clamped) w a b
  put_bytes_apart w y z r e er ey ez = rw e (bytes_apart y z r er ey (rw e at ez))

pub ruleset packing = (rules, put_words_apart, put_bytes_apart)
