-- A signed lane with its top bit turned over is its number plus half the range: signed sums, clamps and comparisons become unsigned ones.
use Rattle.std.specs.Prelude.{◌≡◌, refl, ℕ, suc, ◌+◌, ◌-◌, ◌^◌, ◌≤◌, ◌<◌}
use Rattle.basis.specs.Names.{bit_xor, sub_ℕ}
use Rattle.basis.proofs.Names.{sym, ap, ◌∙◌, dite, one-mul, zero-mul, add-zero, zero-add, add_comm, dec_le, arith, le-ltb, lt-ltb, xor_comm, xor_shifted, xor_block, xor_zero_r, pow_pos}
use Rattle.lanes.specs.Signed.{signed, wrap, clamp, clamp_signed, clamp_unsigned}
use Rattle.lanes.proofs.Integers.{is_pos, same, wrap_ge, wrap_below, clamp_below, clamp_above, clamp-within, unsigned_below, unsigned_above, unsigned_within}

-- the top bit turned over, in a lane that has it not, and in one that has it
up : (k x : ℕ) → x < 2 ^ k → bit_xor x (2 ^ k) ≡ x + 2 ^ k
up k x l = xor_comm x (2 ^ k) ∙ simp one-mul at (xor_shifted 1 k x l) ∙ add_comm (2 ^ k) x

down : (k r : ℕ) → r < 2 ^ k → bit_xor (2 ^ k + r) (2 ^ k) ≡ r
down k r l = simp (one-mul, zero-mul, add-zero, zero-add, xor_zero_r) at (xor_block k 1 1 r 0 l (pow_pos k))

-- h is half of 2 ^ w
module _ (w h : ℕ) (e : h ≡ 2 ^ (w - 1)) (p : h + h ≡ 2 ^ w) (l : 1 ≤ h) where
  pub turn_low : (x : ℕ) → x < h → bit_xor x h ≡ x + h
  turn_low x = rw e (up (w - 1) x)

  pub turn_high : (x : ℕ) → h ≤ x → x < h + h → bit_xor x h ≡ x - h
  turn_high x k g = ap (λ (y : ℕ). bit_xor y h) split ∙ over ∙ refl
    where
      split : x ≡ h + (x - h)
      split = omega arith

      over : bit_xor (h + (x - h)) h ≡ x - h
      over = rw e (down (w - 1) (x - 2 ^ (w - 1)) (omega arith))

  pub turned_lt : (x : ℕ) → x < 2 ^ w → bit_xor x h < 2 ^ w
  turned_lt x g =
      dite (dec_le h x) (λ k. rw (turn_high x k (omega arith)) (omega arith)) (λ k. rw (turn_low x (omega arith)) (omega arith))

  -- turned over, not x is not x turned over
  pub turned_not : (x : ℕ) → x < 2 ^ w → bit_xor (2 ^ w - 1 - x) h ≡ 2 ^ w - 1 - bit_xor x h
  turned_not x g =
      dite (dec_le h x)
      (λ k. turn_low (2 ^ w - 1 - x) (omega arith) ∙ sym (ap (λ (y : ℕ). 2 ^ w - 1 - y) (turn_high x k (omega arith)) ∙ omega arith))
      (λ k. turn_high (2 ^ w - 1 - x) (omega arith) (omega arith) ∙ sym (ap (λ (y : ℕ). 2 ^ w - 1 - y) (turn_low x (omega arith)) ∙ omega arith))

  -- the number of a signed lane
  pub signed_is : (x : ℕ) → x < 2 ^ w → signed w x ≡ sub_ℕ (bit_xor x h) h
  unfolding signed
  signed_is x g =
      dite (dec_le h x)
      (λ k. rw (← e, le-ltb x h k, turn_high x k (omega arith), ← p) (same x (h + h) (x - h) h (omega arith)))
      (λ k. rw (← e, lt-ltb x h (omega arith), turn_low x (omega arith)) (sym (is_pos (x + h) h x (omega arith))))

  -- clamped to a signed lane: to its ends, or not at all
  module _ (m n : ℕ) where
    ends : clamp_signed w (sub_ℕ m n) ≡ clamp (sub_ℕ 0 h) (sub_ℕ (h - 1) 0) (sub_ℕ m n)
    unfolding clamp_signed
    ends = rw (← e, is_pos (h - 1) 0 (h - 1) (omega arith)) refl

    pub signed_below : m + h ≤ n → wrap w (clamp_signed w (sub_ℕ m n)) ≡ h
    signed_below k =
        ap (wrap w) (ends ∙ clamp_below 0 h (h - 1) 0 m n (omega arith)) ∙ wrap_below w 0 h l (omega arith) ∙ omega arith

    pub signed_above : n + h ≤ suc m → wrap w (clamp_signed w (sub_ℕ m n)) ≡ h - 1
    signed_above k =
        ap (wrap w) (ends ∙ clamp_above 0 h (h - 1) 0 m n (omega arith) (omega arith)) ∙ wrap_ge w (h - 1) 0 (omega arith) (omega arith) ∙ omega arith

    pub signed-within : n ≤ m + h → m < n + h → wrap w (clamp_signed w (sub_ℕ m n)) ≡ wrap w (sub_ℕ m n)
    signed-within k g = ap (wrap w) (ends ∙ clamp-within 0 h (h - 1) 0 m n (omega arith) (omega arith))

  -- which is: clamped to an unsigned lane half the range further up, and turned over
  pub clamped_is : (m n : ℕ) → wrap w (clamp_signed w (sub_ℕ m n)) ≡ bit_xor (wrap w (clamp_unsigned w (sub_ℕ (m + h) n))) h
  clamped_is m n =
      dite (dec_le (m + h) n) below (λ k. dite (dec_le t (m + h - n)) (above (omega arith)) (λ g. within (omega arith) (omega arith)))
    where
      t : ℕ
      t = h + h - 1

      below : m + h ≤ n → wrap w (clamp_signed w (sub_ℕ m n)) ≡ bit_xor (wrap w (clamp_unsigned w (sub_ℕ (m + h) n))) h
      below k =
          signed_below m n k ∙ sym (turn_low 0 l ∙ omega arith)
          ∙ ap (λ (y : ℕ). bit_xor y h) (unsigned_below w (m + h) n t (omega arith) (omega arith) k)

      above : n < m + h → t ≤ m + h - n → wrap w (clamp_signed w (sub_ℕ m n)) ≡ bit_xor (wrap w (clamp_unsigned w (sub_ℕ (m + h) n))) h
      above s k =
          signed_above m n (omega arith) ∙ sym (turn_high t (omega arith) (omega arith) ∙ omega arith)
          ∙ ap (λ (y : ℕ). bit_xor y h) (unsigned_above w (m + h) n t (omega arith) (omega arith) s k)

      within : n < m + h → m + h - n < t → wrap w (clamp_signed w (sub_ℕ m n)) ≡ bit_xor (wrap w (clamp_unsigned w (sub_ℕ (m + h) n))) h
      within s k =
          signed-within m n (omega arith) (omega arith)
          ∙ dite (dec_le n m)
          (λ g. wrap_ge w m n g (omega arith) ∙ sym (turn_high (m + h - n) (omega arith) (omega arith) ∙ omega arith))
          (λ g. wrap_below w m n (omega arith) (omega arith) ∙ sym (turn_low (m + h - n) (omega arith) ∙ omega arith))
          ∙ ap (λ (y : ℕ). bit_xor y h) (unsigned_within w (m + h) n t (omega arith) (omega arith) (omega arith) (omega arith))
