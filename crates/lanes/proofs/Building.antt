-- Building a register lane by lane: what each turn of the loop asks and leaves; and what a rule leaves, known by its lanes.
use Rattle.std.specs.Prelude.{◌≡◌, ℕ, suc, ◌+◌, ◌*◌, ◌/◌, ◌%◌, ◌^◌, ◌≤◌, ◌<◌}
use Rattle.basis.proofs.Names.{sym, ap, ◌∙◌, subst, ⊎_elim, le-div_iff_mul-le, le_trans, le_of_eq, le_of_suc-le-suc, eq-or-lt_of_le, lt_of_lt_of_le, mod-eq_of_lt, add_comm, mul_comm, mul-suc, add-one, arith, rules, digits_lt, high, pow_pos, pow_mono, shl_exact}
use Rattle.lanes.specs.Lane.{lane}
use Rattle.lanes.specs.Rules.{packed, pairwise}
use Rattle.lanes.proofs.Registers.{one_lane_more, above, below_end, register_lt, lane-register, lanes_decide}
use Rattle.lanes.proofs.Fitting.{Fits, fitting}

-- lane i of n / w lies in n bits
pub inside : (w n i : ℕ) → 1 ≤ w → i < n / w → w + w * i ≤ n
inside w n i h l =
    le_trans (le_of_eq (add_comm w (w * i) ∙ sym (mul-suc w i) ∙ mul_comm w (suc i))) ((le-div_iff_mul-le h).0 l)

-- lane i, x, put above the lanes below it
module _ (w i x lanes : ℕ) (inner : w + w * i ≤ 64) (small : x < 2 ^ w) (below : lanes < 2 ^ (w * i)) where
  abbrev next : ℕ
  next = lanes + x * 2 ^ (w * i) % 2 ^ 64

  next-is : next ≡ x * 2 ^ (w * i) + lanes
  next-is = ap (λ (y : ℕ). lanes + y) (shl_exact w (w * i) 64 small inner) ∙ add_comm lanes (x * 2 ^ (w * i))

  pub next_below : next < 2 ^ (w * (i + 1))
  next_below = rw (next-is, add-one i, one_lane_more w i) (digits_lt small below)

  pub next_fits : next < 2 ^ 64
  next_fits = lt_of_lt_of_le next_below (pow_mono {j = 64} (omega (arith, mul-suc w i)))

  pub next-lanes : (Is : ℕ → ℕ → Type 0) → ((j : ℕ) → j < i → Is j (lane w j lanes)) → Is i x → (j : ℕ) → j < i + 1 → Is j (lane w j next)
  unfolding lane
  next-lanes Is h e j k =
      ⊎_elim
      (λ p. subst (λ (n : ℕ). Is n (lane w n next)) (sym p) (rw (next-is, high x (w * i) below, mod-eq_of_lt small) e))
      (λ l. rw (next-is, above x (w * i) w (w * j) lanes (below_end w j i l)) (h j l))
      (eq-or-lt_of_le (le_of_suc-le-suc (rw add-one at k)))

-- a result is below 2 ^ 64
pub packed_lt : (w a b : ℕ) (rule : ℕ → ℕ → ℕ → ℕ → ℕ) → Fits rule → packed rule w a b < 2 ^ 64
unfolding packed
packed_lt w a b rule f = register_lt w (rule w a b) (λ i l. f.fits w a b i)

-- lane i of what a rule leaves is the rule's; so a pairwise operation's lane depends on the two lanes alone
module _ (w a b i : ℕ) (l : i < 64 / w) where
  pub lane-packed : (rule : ℕ → ℕ → ℕ → ℕ → ℕ) → Fits rule → lane w i (packed rule w a b) ≡ rule w a b i
  unfolding packed
  lane-packed rule f = lane-register w (rule w a b) (λ j k. f.fits w a b j) i l

  pub lane-pairwise : (operation : ℕ → ℕ → ℕ → ℕ) → Fits (pairwise operation)
      → lane w i (packed (pairwise operation) w a b) ≡ operation w (lane w i a) (lane w i b)
  unfolding pairwise
  lane-pairwise operation f = lane-packed (pairwise operation) f

-- a register whose lanes are a rule's is what the rule leaves
pub by_lanes : (rule : ℕ → ℕ → ℕ → ℕ → ℕ) (w a b r : ℕ) → w * (64 / w) ≡ 64 → Fits rule → r < 2 ^ 64
    → ((i : ℕ) → i < 64 / w → lane w i r ≡ rule w a b i) → r ≡ packed rule w a b
by_lanes rule w a b r whole f h same =
    lanes_decide w (64 / w) r (packed rule w a b) (rw whole h) (rw whole (packed_lt w a b rule f))
    (λ i l. same i l ∙ sym (lane-packed w a b i l rule f))

-- what a rule leaves in a lane fits there
pub fits-lane : (rule : ℕ → ℕ → ℕ → ℕ → ℕ) (w a b i x : ℕ) → x ≡ rule w a b i → Fits rule → x < 2 ^ w
fits-lane rule w a b i x e f = rw e (f.fits w a b i)

pub ruleset built = (rules, fits-lane, by_lanes, fitting)
