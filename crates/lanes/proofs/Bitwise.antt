-- The bitwise operations act lane by lane, at every width.
use Rattle.std.specs.Prelude.{◌≡◌, ℕ, ◌+◌, ◌-◌, ◌*◌, ◌/◌, ◌%◌, ◌^◌, ◌≤◌, ◌<◌}
use Rattle.basis.specs.Names.{bit_and, bit_or, bit_xor}
use Rattle.basis.proofs.Names.{sym, ap, ◌∙◌, subst, mod-lt, mod-eq_of_lt, div-add-mod', add-mul, one-mul, lt_of_le_of_lt, arith, and_le_l, and_shr, or_shr, xor_shr, and_mod, or_mod, xor_mod, and_mask, xor_add_and, pow_pos, pow-add, high, low, shr_lt}
use Rattle.lanes.specs.Lane.{lane}
use Rattle.lanes.specs.Rules.{and_not}

module _ (w i a b : ℕ) where
  pub lane_and : lane w i (bit_and a b) ≡ bit_and (lane w i a) (lane w i b)
  unfolding lane
  lane_and = ap (λ (x : ℕ). x % 2 ^ w) (and_shr a b (w * i)) ∙ and_mod (a / 2 ^ (w * i)) (b / 2 ^ (w * i)) w

  pub lane_or : lane w i (bit_or a b) ≡ bit_or (lane w i a) (lane w i b)
  unfolding lane
  lane_or = ap (λ (x : ℕ). x % 2 ^ w) (or_shr a b (w * i)) ∙ or_mod (a / 2 ^ (w * i)) (b / 2 ^ (w * i)) w

  pub lane_xor : lane w i (bit_xor a b) ≡ bit_xor (lane w i a) (lane w i b)
  unfolding lane
  lane_xor = ap (λ (x : ℕ). x % 2 ^ w) (xor_shr a b (w * i)) ∙ xor_mod (a / 2 ^ (w * i)) (b / 2 ^ (w * i)) w

-- what two numbers have in common is no more than the first
pub and_fits : (k a b : ℕ) → a < 2 ^ k → bit_and a b < 2 ^ k
and_fits k a b = lt_of_le_of_lt (and_le_l a b)

-- all ones less a number, in a high and a low part
flip : (a j k : ℕ) → a < 2 ^ (j + k) → 2 ^ (j + k) - 1 - a ≡ (2 ^ j - 1 - a / 2 ^ k) * 2 ^ k + (2 ^ k - 1 - a % 2 ^ k)
flip a j k h =
    let q = a / 2 ^ k in
    let d = 2 ^ j - 1 - q in
    let l : q < 2 ^ j = shr_lt j k h in
    let e : d * 2 ^ k + q * 2 ^ k + 1 * 2 ^ k ≡ 2 ^ (j + k) =
    sym (add-mul (d + q) 1 (2 ^ k) ∙ ap (λ (x : ℕ). x + 1 * 2 ^ k) (add-mul d q (2 ^ k)))
    ∙ ap (λ (x : ℕ). x * 2 ^ k) (omega arith) ∙ sym (pow-add 2 j k) in
    omega (arith, e, div-add-mod' a (2 ^ k), mod-lt a (pow_pos k), one-mul (2 ^ k))

-- the high and the low part of all ones less a number
module _ (a j k : ℕ) (h : a < 2 ^ (j + k)) where
  pub flip_high : (2 ^ (j + k) - 1 - a) / 2 ^ k ≡ 2 ^ j - 1 - a / 2 ^ k
  flip_high = ap (λ (x : ℕ). x / 2 ^ k) (flip a j k h) ∙ high (2 ^ j - 1 - a / 2 ^ k) k (omega (arith, pow_pos k))

  pub flip_low : (2 ^ (j + k) - 1 - a) % 2 ^ k ≡ 2 ^ k - 1 - a % 2 ^ k
  flip_low = ap (λ (x : ℕ). x % 2 ^ k) (flip a j k h) ∙ low (2 ^ j - 1 - a / 2 ^ k) k (omega (arith, pow_pos k))

pub lane_not : (w i a : ℕ) → a < 2 ^ 64 → w + w * i ≤ 64 → lane w i (2 ^ 64 - 1 - a) ≡ 2 ^ w - 1 - lane w i a
unfolding lane
lane_not w i a h l = within (64 - w * i - w) (omega arith)
  where
    within : (j : ℕ) → j + w + w * i ≡ 64 → (2 ^ 64 - 1 - a) / 2 ^ (w * i) % 2 ^ w ≡ 2 ^ w - 1 - a / 2 ^ (w * i) % 2 ^ w
    within j e =
        let fits : a < 2 ^ (j + w + w * i) = subst (λ (n : ℕ). a < 2 ^ n) (sym e) h in
        ap (λ (n : ℕ). (2 ^ n - 1 - a) / 2 ^ (w * i) % 2 ^ w) (sym e)
        ∙ ap (λ (x : ℕ). x % 2 ^ w) (flip_high a (j + w) (w * i) fits)
        ∙ flip_low (a / 2 ^ (w * i)) j w (shr_lt (j + w) (w * i) fits)

pub lane_andn : (w i a b : ℕ) → a < 2 ^ 64 → w + w * i ≤ 64 → lane w i (and_not a b) ≡ bit_and (2 ^ w - 1 - lane w i a) (lane w i b)
unfolding and_not
lane_andn w i a b h l = lane_and w i (2 ^ 64 - 1 - a) b ∙ ap (λ (x : ℕ). bit_and x (lane w i b)) (lane_not w i a h l)

-- what differs from ones is what is left of them
pub xor_ones : (w x : ℕ) → x < 2 ^ w → bit_xor x (2 ^ w - 1) ≡ 2 ^ w - 1 - x
xor_ones w x h = omega (arith, xor_add_and x (2 ^ w - 1), and_mask x w ∙ mod-eq_of_lt h)
