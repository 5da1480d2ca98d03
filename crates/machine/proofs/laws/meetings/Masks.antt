-- Masks and sets of numbers: bit k of a mask is set exactly where k is in the set, so two masks have a bit in common exactly where the sets have
-- a number in common.
use Rattle.std.specs.Prelude.{◌≡◌, refl, List, [], ◌∷◌, ◌++◌, ℕ, suc, ◌+◌, ◌-◌, ◌/◌, ◌%◌, ◌^◌, ◌<◌, min, ◌↔◌}
use Rattle.basis.specs.Names.{Memᴰ as In, bit_and, bit_or}
use Rattle.basis.proofs.Names.{sym, ap, ◌∙◌, Memᴰ-head as here, Memᴰ-tail as later, max, zero-div, div-eq_of_lt, div_self, div-one, mul-mod_left, pow-suc, dec_lt, arith, bin_ind, or_step, and_step, or_shr, and_shr, or_zero_l, pow_pos, pow-lt, pow-add, shl-shr, shr-shr}
use Rattle.machine.specs.Footprints.{mask}

-- bit k of x
abbrev pub bit : ℕ → ℕ → ℕ
bit k x = x / 2 ^ k % 2

bit-bit_or : (k a b : ℕ) → bit k (bit_or a b) ≡ max (bit k a) (bit k b)
bit-bit_or k a b = rw (or_shr a b k) (omega (arith, or_step (a / 2 ^ k) (b / 2 ^ k)))

pub bit-bit_and : (k a b : ℕ) → bit k (bit_and a b) ≡ min (bit k a) (bit k b)
bit-bit_and k a b = rw (and_shr a b k) (omega (arith, and_step (a / 2 ^ k) (b / 2 ^ k)))

bit_zero : (k : ℕ) → bit k 0 ≡ 0
bit_zero k = ap (λ (x : ℕ). x % 2) (zero-div (2 ^ k))

bit_same : (k : ℕ) → bit k (2 ^ k) ≡ 1
bit_same k = ap (λ (x : ℕ). x % 2) (div_self (pow_pos k))

bit_below : (k j : ℕ) → j < k → bit k (2 ^ j) ≡ 0
bit_below k j h = ap (λ (x : ℕ). x % 2) (div-eq_of_lt (pow-lt h))

bit_above : (k d : ℕ) → bit k (2 ^ (suc d + k)) ≡ 0
bit_above k d =
    ap (λ (x : ℕ). x / 2 ^ k % 2) (pow-add 2 (suc d) k) ∙ ap (λ (x : ℕ). x % 2) (shl-shr (2 ^ suc d) k)
    ∙ ap (λ (x : ℕ). x % 2) (pow-suc 2 d) ∙ mul-mod_left (2 ^ d) 2

bit_power : (k j : ℕ) → bit k (2 ^ j) ≡ 1 → k ≡ j
bit_power k j h = go (dec_lt j k) (dec_lt k j)
  where
    go : Dec (j < k) → Dec (k < j) → k ≡ j
    go (yes p) q = omega (arith, bit_below k j p)
    go (no p) (yes q) =
        let e : j ≡ suc (j - k - 1) + k = omega arith in
        omega (arith, ap (λ (x : ℕ). bit k (2 ^ x)) e ∙ bit_above k (j - k - 1))
    go (no p) (no q) = omega arith

-- a number that is not 0 has a bit
some_bit : (x : ℕ) → (x ≡ 0 → ⊥) → (k : ℕ) × (bit k x ≡ 1)
some_bit = bin_ind (λ x. (x ≡ 0 → ⊥) → (k : ℕ) × (bit k x ≡ 1)) (λ h. absurd (h refl)) step
  where
    step : (n : ℕ) → ((n / 2 ≡ 0 → ⊥) → (k : ℕ) × (bit k (n / 2) ≡ 1)) → (n ≡ 0 → ⊥) → (k : ℕ) × (bit k n ≡ 1)
    step n rec h = go (dec_lt 0 (n % 2))
      where
        go : Dec (0 < n % 2) → (k : ℕ) × (bit k n ≡ 1)
        go (yes p) = (0, ap (λ (x : ℕ). x % 2) (div-one n) ∙ omega arith)
        go (no p) =
            let (k, e) = rec (λ e. h (omega arith)) in
            (1 + k, ap (λ (x : ℕ). x % 2) (sym (shr-shr n 1 k)) ∙ e)

set-bit : (k : ℕ) (ks : List ℕ) → In k ks → bit k (mask ks) ≡ 1
set-bit k [] h = elim h [ ]
set-bit k (j ∷ ks) (here e) = rw (← e) (omega (arith, bit-bit_or k (2 ^ k) (mask ks), bit_same k))
set-bit k (j ∷ ks) (later m) = omega (arith, bit-bit_or k (2 ^ j) (mask ks), set-bit k ks m)

bit-set : (k : ℕ) (ks : List ℕ) → bit k (mask ks) ≡ 1 → In k ks
bit-set k [] h = absurd (omega (arith, bit_zero k))
bit-set k (j ∷ ks) h = go (dec_lt 0 (bit k (2 ^ j))) (bit-set k ks)
  where
    go : Dec (0 < bit k (2 ^ j)) → (bit k (mask ks) ≡ 1 → In k ks) → In k (j ∷ ks)
    go (yes p) rest = here (bit_power k j (omega arith))
    go (no p) rest = later (rest (omega (arith, bit-bit_or k (2 ^ j) (mask ks))))

-- bit k of the mask is set exactly where k is in the set
pub mask_exactly : (k : ℕ) (ks : List ℕ) → (bit k (mask ks) ≡ 1) ↔ In k ks
mask_exactly k ks = (bit-set k ks, set-bit k ks)

-- two masks have a bit in common exactly where the sets have a number in common
pub masks_meet : (ks js : List ℕ) → (bit_and (mask ks) (mask js) ≡ 0 → ⊥) ↔ ((k : ℕ) × In k ks × In k js)
masks_meet ks js = (
  λ h.
      let (k, e) = some_bit (bit_and (mask ks) (mask js)) h in
      let both = bit-bit_and k (mask ks) (mask js) in
      (k, bit-set k ks (omega arith), bit-set k js (omega arith)),
  λ (k, i, j) e.
      omega (arith, bit-bit_and k (mask ks) (mask js), ap (bit k) e, bit_zero k, set-bit k ks i, set-bit k js j),
)

-- two lists one after the other have both masks, since an or can be regrouped
pub or_assoc : (a b c : ℕ) → bit_or (bit_or a b) c ≡ bit_or a (bit_or b c)
or_assoc = bin_ind (λ a. (b c : ℕ) → bit_or (bit_or a b) c ≡ bit_or a (bit_or b c)) (λ b c. simp or_zero_l) step
  where
    step : (a : ℕ) → ((b c : ℕ) → bit_or (bit_or (a / 2) b) c ≡ bit_or (a / 2) (bit_or b c)) → (b c : ℕ) → bit_or (bit_or a b) c ≡ bit_or a (bit_or b c)
    step a rest b c =
        let p : bit_or a b / 2 ≡ bit_or (a / 2) (b / 2) = omega (arith, or_step a b) in
        let q : bit_or b c / 2 ≡ bit_or (b / 2) (c / 2) = omega (arith, or_step b c) in
        let r : bit_or (bit_or a b / 2) (c / 2) ≡ bit_or (a / 2) (bit_or b c / 2) =
        ap (λ (x : ℕ). bit_or x (c / 2)) p ∙ rest (b / 2) (c / 2) ∙ ap (bit_or (a / 2)) (sym q) in
        omega (arith, or_step (bit_or a b) c, or_step a (bit_or b c), or_step a b, or_step b c)

pub mask_append : (ks js : List ℕ) → mask (ks ++ js) ≡ bit_or (mask ks) (mask js)
mask_append [] js = sym (or_zero_l (mask js))
mask_append (k ∷ ks) js = ap (bit_or (2 ^ k)) (mask_append ks js) ∙ sym (or_assoc (2 ^ k) (mask ks) (mask js))
