-- From an unpack to the unpack at half the width: in every four lanes, two of the destination stand before two of the source, and the middle two
-- change places.
use Rattle.std.specs.Prelude.{◌≡◌, refl, cond, ℕ, ◌+◌, ◌*◌, ◌/◌, ◌%◌, ◌^◌, ◌<◌, eqb}
use Rattle.basis.proofs.Names.{sym, ap, ap₂, ◌∙◌, arith, rules}
use Rattle.lanes.specs.Lane.{lane, build, register}
use Rattle.lanes.specs.Rules.{packed, unpack, unpack_low, unpack_high}
use Rattle.lanes.specs.inner.Turns.{exchanged, swapped}
use Rattle.lanes.proofs.Registers.{inner}
use Rattle.lanes.proofs.Fitting.{unpack-fits}
use Rattle.lanes.proofs.Building.{packed_lt, lane-packed, by_lanes}
use Rattle.lanes.proofs.Exchanging.{swapped_fits, swapped-lane}

module _ (first half w a b x r : ℕ) (er : r ≡ packed swapped w x x) (ex : x ≡ packed (unpack first) (w + w) a b) (ef : half ≡ first + first)
    (whole : w * (64 / w) ≡ 64) (twice : 64 / w ≡ 64 / (w + w) + 64 / (w + w)) (even : 64 / (w + w) % 2 ≡ 0) where
  halved_lane : (i : ℕ) → i < 64 / w → lane w (exchanged i) x ≡ unpack half w a b i
  unfolding unpack
  halved_lane i k =
      let j = i / 4 * 2 + i % 2 in
      let h = i % 4 / 2 in
      let e : first + j / 2 + (first + j / 2) + h ≡ half + i / 2 = omega arith in
      let f : j % 2 ≡ i % 2 = omega arith in
      ap (λ (n : ℕ). lane w n x) (omega arith) ∙ sym (inner w j h x (omega arith)) ∙ ap (λ (y : ℕ). lane w h (lane (w + w) j y)) ex
      ∙ ap (lane w h) (lane-packed (w + w) a b j (omega arith) (unpack first) (unpack-fits first))
      ∙ inner w (first + j / 2) h (cond (eqb (j % 2) 0) a b) (omega arith) ∙ ap₂ (λ (m n : ℕ). lane w m (cond (eqb n 0) a b)) e f

  pub halved : r ≡ packed (unpack half) w a b
  halved =
      by_lanes (unpack half) w a b r whole (unpack-fits half) (rw er (packed_lt w x x swapped swapped_fits))
      (λ i k. swapped-lane w x r er i k ∙ halved_lane i k)

-- the halves side by side are the unpack at 32 bits
pub low_halves : (a b : ℕ) → b * 2 ^ 32 % 2 ^ 64 + a % 2 ^ 32 ≡ packed unpack_low 32 a b
unfolding packed register build lane unpack
low_halves a b = search rules

pub high_halves : (a b : ℕ) → b < 2 ^ 64 → a < 2 ^ 64 → b / 2 ^ 32 * 2 ^ 32 + a / 2 ^ 32 ≡ packed unpack_high 32 a b
unfolding packed register build lane unpack
high_halves a b h k = search rules

module _ (w a b x r : ℕ) where
  pub low_words : w ≡ 16 → r ≡ packed swapped 16 x x → x ≡ packed unpack_low 32 a b → r ≡ packed unpack_low w a b
  low_words e er ex = rw e (halved 0 0 16 a b x r er ex refl refl refl refl)

  pub high_words : w ≡ 16 → r ≡ packed swapped 16 x x → x ≡ packed unpack_high 32 a b → r ≡ packed unpack_high w a b
  unfolding packed
  high_words e er ex = rw e (halved 1 2 16 a b x r er ex refl refl refl refl)

  pub low_bytes : (y : ℕ) → w ≡ 8 → r ≡ packed swapped 8 y y → y ≡ packed swapped 16 x x → x ≡ packed unpack_low 32 a b
      → r ≡ packed unpack_low w a b
  low_bytes y e er ey ex = rw e (halved 0 0 8 a b y r er (halved 0 0 16 a b x y ey ex refl refl refl refl) refl refl refl refl)

  pub high_bytes : (y : ℕ) → w ≡ 8 → r ≡ packed swapped 8 y y → y ≡ packed swapped 16 x x → x ≡ packed unpack_high 32 a b
      → r ≡ packed unpack_high w a b
  unfolding packed
  high_bytes y e er ey ex = rw e (halved 2 4 8 a b y r er (halved 1 2 16 a b x y ey ex refl refl refl refl) refl refl refl refl)

pub ruleset unpacking = (rules, low_halves, high_halves, low_words, high_words, low_bytes, high_bytes)
