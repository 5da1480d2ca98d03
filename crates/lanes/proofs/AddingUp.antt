-- PSAD: the lanes of a register added up, one a turn, and the distances of two registers' lanes.
use Rattle.std.specs.Prelude.{◌≡◌, refl, ℕ, zero, suc, ◌+◌, ◌-◌, ◌*◌, ◌/◌, ◌^◌, ◌≤◌, ◌<◌}
use Rattle.basis.specs.Names.{bit_and, bit_or}
use Rattle.basis.proofs.Names.{ap, ap₂, ◌∙◌, dite, zero-le, lt_trans, lt-suc_self, div-add-mod', div-le_self, mul-le-mul_left, mul-one, add_comm, add-one, dec_le, arith, rules, le-ltb, lt-ltb, and_mask, or_zero_l, or_zero_r, pow_pos}
use Rattle.lanes.specs.Lane.{lane, build}
use Rattle.lanes.specs.Rules.{packed, pairwise, difference_unsigned, distance, total, distances}
use Rattle.lanes.proofs.Registers.{built_of_lanes}
use Rattle.lanes.proofs.Bitwise.{lane_or}
use Rattle.lanes.proofs.Building.{inside}
use Rattle.lanes.proofs.Ranking.{beyond_lane}

-- ---- the lanes of a register, added up

-- each lane is no more than what it stands for in the register
total_le : (w n : ℕ) (f : ℕ → ℕ) → total n f ≤ build w n f
unfolding total build
total_le w zero f = zero-le
total_le w (suc n) f = omega (arith, total_le w n f, mul-le-mul_left {m = 1} {n = 2 ^ (w * n)} (f n) (pow_pos (w * n)), mul-one (f n))

total_ext : (n : ℕ) (f g : ℕ → ℕ) → ((i : ℕ) → i < n → f i ≡ g i) → total n f ≡ total n g
unfolding total
total_ext zero f g h = refl
total_ext (suc n) f g h = ap₂ ◌+◌ (h n (lt-suc_self n)) (total_ext n f g (λ i l. h i (lt_trans l (lt-suc_self n))))

-- the loop begins with no lane, and adds one a turn
pub total_starts : (f : ℕ → ℕ) → 0 ≡ total 0 f
unfolding total
total_starts f = refl

module _ (w x m sum i : ℕ) (em : m ≡ 2 ^ w - 1) (e : sum ≡ total i (λ j. lane w j x)) where
  pub total_again : sum + bit_and (x / 2 ^ (w * i)) m ≡ total (i + 1) (λ j. lane w j x)
  unfolding total lane
  total_again =
      rw (add-one i)
      (ap₂ ◌+◌ e (ap (bit_and (x / 2 ^ (w * i))) em ∙ and_mask (x / 2 ^ (w * i)) w) ∙ add_comm (total i (λ j. lane w j x)) (lane w i x))

  pub total-fits : x < 2 ^ 64 → sum + bit_and (x / 2 ^ (w * i)) m < 2 ^ 64
  total-fits h =
      rw total_again
      (omega (arith, total_le w (i + 1) (λ j. lane w j x), built_of_lanes w (i + 1) x, div-add-mod' x (2 ^ (w * (i + 1)))))

-- the lane lies in the register
pub lane-within : (w i : ℕ) → 1 ≤ w → i < 64 / w → w * i < 64
lane-within w i l k = omega (arith, inside w 64 i l k)

pub ruleset adding_up = (total_starts, total_again, total-fits, lane-within)

-- ---- the distances

distance-lane : (x y : ℕ) → bit_or (x - y) (y - x) ≡ distance x y
unfolding distance
distance-lane x y =
    dite (dec_le y x)
    (λ k. rw (le-ltb x y k, none y x k) (or_zero_r (x - y)))
    (λ k. rw (lt-ltb x y (omega arith), none x y (omega arith)) (or_zero_l (y - x)))
  where
    none : (m n : ℕ) → m ≤ n → m - n ≡ 0
    none m n h = omega arith

pub distances_at_once : (w a b d e r : ℕ) → d ≡ packed (pairwise difference_unsigned) w a b → e ≡ packed (pairwise difference_unsigned) w b a
    → r ≡ total (64 / w) (λ i. lane w i (bit_or d e)) → r ≡ distances w a b
unfolding distances
distances_at_once w a b d e r ed ee er =
    er
    ∙ total_ext (64 / w) (λ i. lane w i (bit_or d e)) (λ i. distance (lane w i a) (lane w i b))
    (λ i k. lane_or w i d e ∙ ap₂ bit_or (beyond_lane w a b d i ed k) (beyond_lane w b a e i ee k) ∙ distance-lane (lane w i a) (lane w i b))

pub ruleset distancing = (rules, distances_at_once)
