-- Lanes that change places with the next lane up: what differs between the two is turned over in both, where a mask has ones.
use Rattle.std.specs.Prelude.{◌≡◌, refl, Bool, false, cond, ℕ, zero, suc, ◌+◌, ◌-◌, ◌*◌, ◌/◌, ◌%◌, ◌^◌, ◌≤◌, ◌<◌, eqb}
use Rattle.basis.specs.Names.{bit_and, bit_xor}
use Rattle.basis.proofs.Names.{sym, ap, ap₂, ◌∙◌, subst, inl, inr, dite, ℕ_discrete, add_comm, mul-suc, mul-zero, mul-mod_left, mod-lt, arith, rules, eq-eqb, ne_eqb, and_zero_r, xor_comm, xor_lt, xor_zero_r, pow_pos, shl-shr, shr-shr}
use Rattle.lanes.specs.Lane.{lane, build, register}
use Rattle.lanes.specs.Rules.{packed, all_ones}
use Rattle.lanes.specs.inner.Widths.{Narrow}
use Rattle.lanes.specs.inner.EveryLane.{repeated}
use Rattle.lanes.specs.inner.Turns.{exchanged, swapped}
use Rattle.lanes.proofs.Registers.{lane_lt, lane_first, lane-mod, lane-register}
use Rattle.lanes.proofs.Powers.{shifted_fits}
use Rattle.lanes.proofs.Bitwise.{lane_and, lane_xor, and_fits}
use Rattle.lanes.proofs.Choosing.{choose_lane}
use Rattle.lanes.proofs.Fitting.{Fits, mask_lt}
use Rattle.lanes.proofs.Building.{inside, lane-packed, by_lanes}

-- ---- a lane down, and a lane up

module _ (w x : ℕ) where
  lane_above : (i : ℕ) → lane w i (x / 2 ^ w) ≡ lane w (suc i) x
  unfolding lane
  lane_above i = ap (λ (y : ℕ). y % 2 ^ w) (shr-shr x w (w * i) ∙ ap (λ (k : ℕ). x / 2 ^ k) (add_comm w (w * i) ∙ sym (mul-suc w i)))

  pub lane_lowest : w ≤ 64 → lane w 0 (x * 2 ^ w % 2 ^ 64) ≡ 0
  lane_lowest l = lane-mod w 0 64 (x * 2 ^ w) (omega (arith, mul-zero w)) ∙ lane_first w (x * 2 ^ w) ∙ mul-mod_left x (2 ^ w)

lane_below : (w x i : ℕ) → w + w * suc i ≤ 64 → lane w (suc i) (x * 2 ^ w % 2 ^ 64) ≡ lane w i x
lane_below w x i l = lane-mod w (suc i) 64 (x * 2 ^ w) l ∙ sym (lane_above w (x * 2 ^ w) i) ∙ ap (lane w i) (shl-shr x w)

-- ---- where the mask has ones

-- what differs between y and x, a lane down
abbrev pub differing : ℕ → ℕ → ℕ → ℕ → ℕ
differing w x y mask = bit_and (bit_xor y (x / 2 ^ w)) mask

pub differing_lt : (w x y mask : ℕ) → x < 2 ^ 64 → y < 2 ^ 64 → differing w x y mask < 2 ^ 64
differing_lt w x y mask hx hy =
    and_fits 64 (bit_xor y (x / 2 ^ w)) mask (xor_lt 64 y (x / 2 ^ w) hy (shifted_fits 64 x w hx))

module _ (w x y mask : ℕ) (taken : ℕ → Bool) (l : 1 ≤ w) (ones : (i : ℕ) → i < 64 / w → lane w i mask ≡ all_ones w (taken i)) where
  abbrev differ : ℕ
  differ = differing w x y mask

  differ_lane : (i : ℕ) → i < 64 / w → lane w i differ ≡ bit_and (bit_xor (lane w i y) (lane w (suc i) x)) (all_ones w (taken i))
  differ_lane i k =
      lane_and w i (bit_xor y (x / 2 ^ w)) mask ∙ ap₂ bit_and (lane_xor w i y (x / 2 ^ w) ∙ ap (bit_xor (lane w i y)) (lane_above w x i)) (ones i k)

  -- y takes the next lanes of x
  pub taken_down : (i : ℕ) → i < 64 / w → lane w i (bit_xor y differ) ≡ cond (taken i) (lane w (suc i) x) (lane w i y)
  taken_down i k =
      lane_xor w i y differ ∙ ap (bit_xor (lane w i y)) (differ_lane i k)
      ∙ choose_lane w (lane w i y) (lane w (suc i) x) (taken i) (lane_lt w i y) (lane_lt w (suc i) x)

  -- and x the lanes of y before its own
  module _ (i : ℕ) (k : suc i < 64 / w) where
    moved : lane w (suc i) (differ * 2 ^ w % 2 ^ 64) ≡ bit_and (bit_xor (lane w (suc i) x) (lane w i y)) (all_ones w (taken i))
    moved =
        lane_below w differ i (inside w 64 (suc i) l k) ∙ differ_lane i (omega arith)
        ∙ ap (λ (z : ℕ). bit_and z (all_ones w (taken i))) (xor_comm (lane w i y) (lane w (suc i) x))

    pub taken_up : bit_xor (lane w (suc i) x) (lane w (suc i) (differ * 2 ^ w % 2 ^ 64)) ≡ cond (taken i) (lane w i y) (lane w (suc i) x)
    taken_up =
        ap (bit_xor (lane w (suc i) x)) moved
        ∙ choose_lane w (lane w (suc i) x) (lane w i y) (taken i) (lane_lt w (suc i) x) (lane_lt w i y)

    untaken : taken i ≡ false → lane w (suc i) (differ * 2 ^ w % 2 ^ 64) ≡ 0
    untaken e = moved ∙ rw e (and_zero_r (bit_xor (lane w (suc i) x) (lane w i y)))

-- ---- of every four lanes the middle two

pub swapped_fits : Fits swapped
unfolding swapped
swapped_fits = record { fits = λ w x source i. lane_lt w (exchanged i) x }

pub swapped-lane : (w x r : ℕ) → r ≡ packed swapped w x x → (i : ℕ) → i < 64 / w → lane w i r ≡ lane w (exchanged i) x
unfolding swapped
swapped-lane w x r e i k = ap (lane w i) e ∙ lane-packed w x x i k swapped swapped_fits

-- the mask's lanes of ones
abbrev pub second : ℕ → Bool
second i = eqb (i % 4) 1

module _ (w x mask : ℕ) (l : 1 ≤ w) (whole : w * (64 / w) ≡ 64) (hx : x < 2 ^ 64) (e : mask ≡ register w (λ i. all_ones w (second i))) where
  ones : (i : ℕ) → i < 64 / w → lane w i mask ≡ all_ones w (second i)
  ones i k = ap (lane w i) e ∙ lane-register w (λ j. all_ones w (second j)) (λ j _. mask_lt w (second j)) i k

  abbrev turned : ℕ
  turned = differing w x x mask

  -- the second lane of four gets nothing from below, and another is the one below or stays
  second_lane : (i : ℕ) → i < 64 / w → i % 4 ≡ 1 → lane w i (turned * 2 ^ w % 2 ^ 64) ≡ 0
  second_lane zero k p = omega arith
  second_lane (suc i) k p = untaken w x x mask second l ones i k (ne_eqb (i % 4) 1 (omega arith))

  other_lane : (i : ℕ) → i < 64 / w → (i % 4 ≡ 1 → ⊥) → bit_xor (lane w i x) (lane w i (turned * 2 ^ w % 2 ^ 64)) ≡ lane w (exchanged i) x
  other_lane zero k p = ap (bit_xor (lane w 0 x)) (lane_lowest w turned (omega (arith, inside w 64 0 l k))) ∙ xor_zero_r (lane w 0 x)
  other_lane (suc i) k p =
      taken_up w x x mask second l ones i k
      ∙ dite (ℕ_discrete (i % 4) 1)
      (λ q. rw (eq-eqb (i % 4) 1 q) (ap (λ (j : ℕ). lane w j x) (omega arith)))
      (λ q. rw (ne_eqb (i % 4) 1 q) (ap (λ (j : ℕ). lane w j x) (omega arith)))

  swapped_is : bit_xor (bit_xor x (differing w x x mask)) (differing w x x mask * 2 ^ w % 2 ^ 64) ≡ packed swapped w x x
  unfolding swapped
  swapped_is =
      by_lanes swapped w x x _ whole swapped_fits
      (xor_lt 64 (bit_xor x turned) _ (xor_lt 64 x turned hx (differing_lt w x x mask hx hx)) (mod-lt (turned * 2 ^ w) (pow_pos 64)))
      (λ i k.
      lane_xor w i (bit_xor x turned) (turned * 2 ^ w % 2 ^ 64)
      ∙ ap (λ (y : ℕ). bit_xor y (lane w i (turned * 2 ^ w % 2 ^ 64))) (taken_down w x x mask second l ones i k)
      ∙ dite (ℕ_discrete (i % 4) 1)
      (λ p. rw (eq-eqb (i % 4) 1 p, second_lane i k p, xor_zero_r) (ap (λ (j : ℕ). lane w j x) (omega arith)))
      (λ p. rw (ne_eqb (i % 4) 1 p) (other_lane i k p)))

-- what holds at 8 and at 16 bits
at_narrow : (P : ℕ → Type 0) (w : ℕ) → P 8 → P 16 → Narrow w → P w
at_narrow P w h k (inl e) = subst P (sym e) h
at_narrow P w h k (inr e) = subst P (sym e) k

-- the mask that has ones in the second of every four bytes, or words
second_mask : (w : ℕ) → Narrow w → repeated (w + w + (w + w)) ((2 ^ w - 1) * 2 ^ w % 2 ^ 64) ≡ register w (λ i. all_ones w (second i))
unfolding repeated register build
second_mask w = at_narrow (λ v. repeated (v + v + (v + v)) ((2 ^ v - 1) * 2 ^ v % 2 ^ 64) ≡ register v (λ i. all_ones v (second i))) w refl refl

pub exchanged_is : (w x low mask : ℕ) → Narrow w → x < 2 ^ 64 → low ≡ 2 ^ w - 1 → mask ≡ repeated (w + w + (w + w)) (low * 2 ^ w % 2 ^ 64)
    → bit_xor (bit_xor x (differing w x x mask)) (differing w x x mask * 2 ^ w % 2 ^ 64) ≡ packed swapped w x x
exchanged_is w x low mask n h e em =
    swapped_is w x mask (at_narrow (λ v. 1 ≤ v) w (omega arith) (omega arith) n) (at_narrow (λ v. v * (64 / v) ≡ 64) w refl refl n) h
    (em ∙ ap (λ (y : ℕ). repeated (w + w + (w + w)) (y * 2 ^ w % 2 ^ 64)) e ∙ second_mask w n)

pub ruleset exchanging = (rules, exchanged_is)
