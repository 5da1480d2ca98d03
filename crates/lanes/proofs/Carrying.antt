-- The carry, once over the lane width. A lane of a sum is the two lanes and what is carried into it from below, added and wrapped; and nothing is
-- carried into it where no lane below has a sum that reaches 2 ^ w: where no lane has, the lanes add up.
use Rattle.std.specs.Prelude.{◌≡◌, refl, ℕ, zero, suc, ◌+◌, ◌*◌, ◌/◌, ◌%◌, ◌^◌, ◌<◌}
use Rattle.basis.proofs.Names.{sym, ap, ap₂, ◌∙◌, add-mul, add-mod, mod-add-mod, mod-lt, mod-eq_of_lt, lt_trans, div-eq_of_lt, div-add-mod', arith, high, pow_pos}
use Rattle.lanes.specs.Lane.{lane, build}
use Rattle.lanes.proofs.Registers.{lane_lt, build_lt, built_of_lanes, lanes_decide}

-- lanes at the same place add up, whatever their sums are
pub add_builds : (w n : ℕ) (f g : ℕ → ℕ) → build w n f + build w n g ≡ build w n (λ i. f i + g i)
unfolding build
add_builds w zero f g = refl
add_builds w (suc n) f g = omega (arith, add_builds w n f g, add-mul (f n) (g n) (2 ^ (w * n)))

-- how often 2 ^ k goes into a sum: as often as into each of the two, and into what is left of them
pub quotients_add : (k x y : ℕ) → (x + y) / 2 ^ k ≡ x / 2 ^ k + y / 2 ^ k + (x % 2 ^ k + y % 2 ^ k) / 2 ^ k
quotients_add k x y =
    ap (λ (z : ℕ). z / p) parts ∙ high (x / p + y / p + left / p) k (mod-lt left (pow_pos k))
  where
    p : ℕ
    p = 2 ^ k

    left : ℕ
    left = x % p + y % p

    parts : x + y ≡ (x / p + y / p + left / p) * p + left % p
    parts =
        omega (arith, div-add-mod' x p, div-add-mod' y p, div-add-mod' left p, add-mul (x / p + y / p) (left / p) p, add-mul (x / p) (y / p) p)

module _ (w i x y : ℕ) where
  -- lane i's weight
  abbrev p : ℕ
  p = 2 ^ (w * i)

  -- what stands below lane i in both, added
  abbrev below : ℕ
  below = x % p + y % p

  -- what is carried is how often the weight goes into that
  pub carried : lane w i (x + y) ≡ (lane w i x + lane w i y + below / p) % 2 ^ w
  unfolding lane
  carried =
      ap (λ (z : ℕ). z % 2 ^ w) (quotients_add (w * i) x y)
      ∙ sym (mod-add-mod (x / p + y / p) (2 ^ w) (below / p)) ∙ ap (λ (z : ℕ). (z + below / p) % 2 ^ w) (add-mod (x / p) (y / p) (2 ^ w))
      ∙ mod-add-mod (x / p % 2 ^ w + y / p % 2 ^ w) (2 ^ w) (below / p)

  -- where every lane below has room for its sum, what stands below does not reach the weight
  below_lt : ((j : ℕ) → j < i → lane w j x + lane w j y < 2 ^ w) → below < p
  below_lt room =
      rw (ap₂ ◌+◌ (sym (built_of_lanes w i x)) (sym (built_of_lanes w i y)) ∙ add_builds w i (λ j. lane w j x) (λ j. lane w j y))
      (build_lt w i (λ j. lane w j x + lane w j y) room)

  pub no_carry : ((j : ℕ) → j < i → lane w j x + lane w j y < 2 ^ w) → lane w i (x + y) ≡ (lane w i x + lane w i y) % 2 ^ w
  no_carry room = carried ∙ ap (λ (z : ℕ). z % 2 ^ w) (omega (arith, div-eq_of_lt (below_lt room)))

-- registers that have room for the sum in every lane
module _ (w x y : ℕ) (room : (i : ℕ) → i < 64 / w → lane w i x + lane w i y < 2 ^ w) where
  pub lanes_add : (i : ℕ) → i < 64 / w → lane w i (x + y) ≡ lane w i x + lane w i y
  lanes_add i k = no_carry w i x y (λ j m. room j (lt_trans m k)) ∙ mod-eq_of_lt (room i k)

  pub lanes_add_lt : w * (64 / w) ≡ 64 → x < 2 ^ 64 → y < 2 ^ 64 → x + y < 2 ^ 64
  lanes_add_lt whole hx hy =
      rw (whole, mod-eq_of_lt hx, mod-eq_of_lt hy) at (below_lt w (64 / w) x y room)

-- registers whose lanes add up to the lanes of a third add up to it
pub lanes_sum : (w x y s : ℕ) → w * (64 / w) ≡ 64 → x < 2 ^ 64 → y < 2 ^ 64 → s < 2 ^ 64
    → ((i : ℕ) → i < 64 / w → lane w i x + lane w i y ≡ lane w i s) → x + y ≡ s
lanes_sum w x y s whole hx hy hs same =
    lanes_decide w (64 / w) (x + y) s (rw whole (lanes_add_lt w x y room whole hx hy)) (rw whole hs) (λ i k. lanes_add w x y room i k ∙ same i k)
  where
    room : (i : ℕ) → i < 64 / w → lane w i x + lane w i y < 2 ^ w
    room i k = rw (same i k) (lane_lt w i s)
