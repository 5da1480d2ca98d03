-- PADD on whole registers. In a lane, exclusive or with the top bit adds it, wrapped: so the top bits of all lanes but the highest are taken out
-- before the addition and put back after it. Without them no lane below the highest has a sum that reaches 2 ^ w, and nothing is carried into another
-- lane.
use Rattle.std.specs.Prelude.{◌≡◌, ℕ, ◌+◌, ◌-◌, ◌*◌, ◌/◌, ◌%◌, ◌^◌, ◌≤◌, ◌<◌}
use Rattle.basis.specs.Names.{bit_and, bit_xor}
use Rattle.basis.proofs.Names.{sym, ap, ap₂, ◌∙◌, mod-lt, mod-eq_of_lt, div-add-mod', div_self, add-mul, mul-add, zero-mul, add-mul-mod_self_right, arith, rules, and_mask, and_mod, and_shr, and_zero_r, xor_add_and, xor_shr, xor_self, xor_lt, pow_pos, shr_lt}
use Rattle.lanes.specs.Lane.{lane}
use Rattle.lanes.specs.Signed.{wrap}
use Rattle.lanes.specs.Rules.{packed, pairwise, sum}
use Rattle.lanes.specs.inner.EveryLane.{lowest_bits}
use Rattle.lanes.proofs.Registers.{lane_lt, lane-mod}
use Rattle.lanes.proofs.Powers.{halves, top_and_rest}
use Rattle.lanes.proofs.Bitwise.{lane_and, lane_xor, and_fits}
use Rattle.lanes.proofs.Fitting.{sum_fits}
use Rattle.lanes.proofs.Building.{inside, by_lanes}
use Rattle.lanes.proofs.Carrying.{no_carry}
use Rattle.lanes.proofs.LowestBits.{inner_lane, every_lane}

-- ---- in a lane, whose top bit is h

module _ (w : ℕ) (l : 1 ≤ w) where
  abbrev h : ℕ
  h = 2 ^ (w - 1)

  -- of a number below 2 ^ w: it is the top bit or 0
  abbrev Top : ℕ → Type 0
  Top t = t % h ≡ 0

  -- twice such a number is a multiple of 2 ^ w
  twice : (t : ℕ) → Top t → t * 2 ≡ t / h * 2 ^ w
  twice t e = omega (arith, e, div-add-mod' t h, ap (λ (y : ℕ). t / h * y) (sym (halves w l)), mul-add (t / h) h h)

  -- exclusive or is the sum less the common bits, which count twice
  adds : (z t : ℕ) → Top t → bit_xor z t + bit_and z t / h * 2 ^ w ≡ z + t
  adds z t e = ap (λ (y : ℕ). bit_xor z t + y) (sym (twice (bit_and z t) common)) ∙ xor_add_and z t
    where
      common : Top (bit_and z t)
      common = and_mod z t (w - 1) ∙ ap (bit_and (z % h)) e ∙ and_zero_r (z % h)

  -- s and t turned over in x and y, and again in the sum: each is added twice
  turned_twice : (x y s t : ℕ) → s < 2 ^ w → t < 2 ^ w → Top s → Top t
      → bit_xor (bit_xor ((bit_xor x s + bit_xor y t) % 2 ^ w) s) t ≡ (x + y) % 2 ^ w
  turned_twice x y s t hs ht es et =
      sym (add-mul-mod_self_right (bit_xor u t) dropped m ∙ mod-eq_of_lt (xor_lt w u t (xor_lt w (both % m) s (mod-lt both (pow_pos w)) hs) ht))
      ∙ ap (λ (z : ℕ). z % m) counted
      ∙ add-mul-mod_self_right (x + y) (s / h + t / h) m
    where
      m : ℕ
      m = 2 ^ w

      both : ℕ
      both = bit_xor x s + bit_xor y t

      u : ℕ
      u = bit_xor (both % m) s

      dropped : ℕ
      dropped = bit_and x s / h + bit_and y t / h + both / m + bit_and (both % m) s / h + bit_and u t / h

      counted : bit_xor u t + dropped * m ≡ x + y + (s / h + t / h) * m
      counted =
          simp add-mul
          (omega (arith, adds x s es, adds y t et, div-add-mod' both m, adds (both % m) s es, adds u t et, twice s es, twice t et))

  -- a lane without its top bit
  cleared_lt : (z : ℕ) → z < 2 ^ w → bit_xor z (bit_and z h) < h
  cleared_lt z k =
      let v = bit_xor z (bit_and z h) in
      omega (arith, div-add-mod' v h, mod-lt v (pow_pos (w - 1)), zero-mul h, ap (λ (q : ℕ). q * h) none)
    where
      none : bit_xor z (bit_and z h) / h ≡ 0
      none =
          xor_shr z (bit_and z h) (w - 1)
          ∙ ap (bit_xor (z / h))
          (and_shr z h (w - 1) ∙ ap (bit_and (z / h)) (div_self (pow_pos (w - 1))) ∙ and_mask (z / h) 1
          ∙ mod-eq_of_lt (shr_lt 1 (w - 1) (rw (← top_and_rest w l) k)))
          ∙ xor_self (z / h)

-- ---- in every lane

module _ (w a b lows : ℕ) (l : 1 ≤ w) (whole : w * (64 / w) ≡ 64) (e : lows ≡ lowest_bits w) (ha : a < 2 ^ 64) (hb : b < 2 ^ 64) where
  -- the top bits of a register, but for the highest lane's; and what is left without them
  abbrev tops : ℕ → ℕ
  tops x = bit_and x (lows / 2 ^ 1)

  abbrev cleared : ℕ → ℕ
  cleared x = bit_xor x (tops x)

  tops_lane : (x i : ℕ) → i < 64 / w → lane w i (tops x) % 2 ^ (w - 1) ≡ 0
  tops_lane x i k =
      ap (λ (y : ℕ). y % 2 ^ (w - 1)) (lane_and w i x (lows / 2 ^ 1)) ∙ and_mod (lane w i x) (lane w i (lows / 2 ^ 1)) (w - 1)
      ∙ ap (bit_and (lane w i x % 2 ^ (w - 1))) (ap (λ (y : ℕ). lane w i (y / 2 ^ 1) % 2 ^ (w - 1)) e ∙ every_lane w l whole i k)
      ∙ and_zero_r (lane w i x % 2 ^ (w - 1))

  cleared_lane : (x i : ℕ) → i < 64 / w - 1 → lane w i (cleared x) < 2 ^ (w - 1)
  cleared_lane x i k =
      rw (lane_xor w i x (tops x), lane_and w i x (lows / 2 ^ 1), e, inner_lane w l whole i k) (cleared_lt w l (lane w i x) (lane_lt w i x))

  sum-lane : (i : ℕ) → i < 64 / w → lane w i ((cleared a + cleared b) % 2 ^ 64) ≡ (lane w i (cleared a) + lane w i (cleared b)) % 2 ^ w
  sum-lane i k =
      lane-mod w i 64 (cleared a + cleared b) (inside w 64 i l k)
      ∙ no_carry w i (cleared a) (cleared b) (λ j m. omega (arith, halves w l, cleared_lane a j (omega arith), cleared_lane b j (omega arith)))

  pub sum_at_once : (s : ℕ) → s ≡ (cleared a + cleared b) % 2 ^ 64 → bit_xor (bit_xor s (tops a)) (tops b) ≡ packed (pairwise sum) w a b
  unfolding pairwise sum wrap
  sum_at_once s f =
      by_lanes (pairwise sum) w a b _ whole sum_fits
      (xor_lt 64 (bit_xor s (tops a)) (tops b)
      (xor_lt 64 s (tops a) (rw f (mod-lt (cleared a + cleared b) (pow_pos 64))) (and_fits 64 a _ ha)) (and_fits 64 b _ hb))
      (λ i k.
      lane_xor w i _ _ ∙ ap (λ (z : ℕ). bit_xor z (lane w i (tops b))) (lane_xor w i _ _)
      ∙ ap (λ (z : ℕ). bit_xor (bit_xor z (lane w i (tops a))) (lane w i (tops b)))
      (ap (lane w i) f ∙ sum-lane i k ∙ ap₂ (λ (u v : ℕ). (u + v) % 2 ^ w) (lane_xor w i a (tops a)) (lane_xor w i b (tops b)))
      ∙ turned_twice w l (lane w i a) (lane w i b) (lane w i (tops a)) (lane w i (tops b))
      (lane_lt w i (tops a)) (lane_lt w i (tops b)) (tops_lane a i k) (tops_lane b i k))

pub ruleset adding_at_once = (rules, sum_at_once)
