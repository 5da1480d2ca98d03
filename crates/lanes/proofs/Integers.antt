-- Integers as differences of two natural numbers, which is how the code holds them: sum, difference, product, order, the clamps and the
-- low bits of `sub_ℕ m n` (the integer m - n), in natural numbers. Each by the two cases of a difference.
use Rattle.std.specs.Prelude.{◌≡◌, refl, ℕ, zero, suc, ◌+◌, ◌-◌, ◌*◌, ◌/◌, ◌%◌, ◌^◌, ◌≤◌, ◌<◌, leb, ltb, ℤ, pos, negsuc, ◌+ℤ◌, ◌-ℤ◌, ◌*ℤ◌}
use Rattle.basis.specs.Names.{sub_ℕ, le_z, lt_z}
use Rattle.basis.proofs.Names.{sym, ap, ap₂, ◌∙◌, subst, dite, add-mul, mul-add, one-mul, mod-lt, mod-eq_of_lt, add-mul-mod_self_right, div-lt_iff_lt-mul, div-add-mod', dec_le, arith, le-ltb, lt-ltb, le-leb, lt-leb, neg_ℤ, pow_pos, low}
use Rattle.lanes.specs.Signed.{wrap, clamp, clamp_unsigned}

pub is_ge : (m n : ℕ) → n ≤ m → sub_ℕ m n ≡ pos (m - n)
is_ge m n h = rw (le-ltb m n h)

pub is_lt : (m n : ℕ) → m < n → sub_ℕ m n ≡ negsuc (n - suc m)
is_lt m n h = rw (lt-ltb m n h)

pub is_pos : (m n z : ℕ) → m ≡ n + z → sub_ℕ m n ≡ pos z
is_pos m n z e = is_ge m n (omega arith) ∙ ap pos (omega arith)

pub is_neg : (m n z : ℕ) → n ≡ m + suc z → sub_ℕ m n ≡ negsuc z
is_neg m n z e = is_lt m n (omega arith) ∙ ap negsuc (omega arith)

is_minus : (m n z : ℕ) → n ≡ m + z → sub_ℕ m n ≡ neg_ℤ (pos z)
is_minus m n zero e = is_pos m n zero (omega arith)
is_minus m n (suc z) e = is_neg m n z e

-- the two cases of a difference
pub cases : (m n : ℕ) (P : ℤ → Type 0) → ((x : ℕ) → m ≡ n + x → P (pos x)) → ((x : ℕ) → n ≡ m + suc x → P (negsuc x)) → P (sub_ℕ m n)
cases m n P p q =
    dite (dec_le n m)
    (λ h. subst P (sym (is_ge m n h)) (p (m - n) (omega arith)))
    (λ h. subst P (sym (is_lt m n (omega arith))) (q (n - suc m) (omega arith)))

pub same : (m n p q : ℕ) → m + q ≡ p + n → sub_ℕ m n ≡ sub_ℕ p q
same m n p q e =
    cases p q (λ (z : ℤ). sub_ℕ m n ≡ z) (λ x h. is_pos m n x (omega arith)) (λ x h. is_neg m n x (omega arith))

-- ---- sums, differences and products

module _ (a b c d : ℕ) where
  pub plus : sub_ℕ a b +ℤ sub_ℕ c d ≡ sub_ℕ (a + c) (b + d)
  plus =
      cases a b (λ (z : ℤ). z +ℤ sub_ℕ c d ≡ sub_ℕ (a + c) (b + d))
      (λ x h. cases c d (λ (z : ℤ). pos x +ℤ z ≡ sub_ℕ (a + c) (b + d))
      (λ y k. sym (is_pos (a + c) (b + d) (x + y) (omega arith)))
      (λ y k. same x (suc y) (a + c) (b + d) (omega arith)))
      (λ x h. cases c d (λ (z : ℤ). negsuc x +ℤ z ≡ sub_ℕ (a + c) (b + d))
      (λ y k. same y (suc x) (a + c) (b + d) (omega arith))
      (λ y k. sym (is_neg (a + c) (b + d) (suc (x + y)) (omega arith))))

  pub times : sub_ℕ a b *ℤ sub_ℕ c d ≡ sub_ℕ (a * c + b * d) (a * d + b * c)
  times =
      cases a b (λ (z : ℤ). z *ℤ sub_ℕ c d ≡ sub_ℕ (a * c + b * d) (a * d + b * c))
      (λ x h. cases c d (λ (z : ℤ). pos x *ℤ z ≡ sub_ℕ (a * c + b * d) (a * d + b * c))
      (λ y k. sym (is_pos (a * c + b * d) (a * d + b * c) (x * y) (rw (h, k) (simp (add-mul, mul-add) (omega arith)))))
      (λ y k. sym (is_minus (a * c + b * d) (a * d + b * c) (x * suc y) (rw (h, k) (simp (add-mul, mul-add) (omega arith))))))
      (λ x h. cases c d (λ (z : ℤ). negsuc x *ℤ z ≡ sub_ℕ (a * c + b * d) (a * d + b * c))
      (λ y k. sym (is_minus (a * c + b * d) (a * d + b * c) (suc x * y) (rw (h, k) (simp (add-mul, mul-add) (omega arith)))))
      (λ y k. sym (is_pos (a * c + b * d) (a * d + b * c) (suc x * suc y) (rw (h, k) (simp (add-mul, mul-add) (omega arith))))))

pub minus : (a b c d : ℕ) → sub_ℕ a b -ℤ sub_ℕ c d ≡ sub_ℕ (a + d) (b + c)
minus a b c d = ap (λ (z : ℤ). sub_ℕ a b +ℤ z) turned ∙ plus a b d c
  where
    turned : neg_ℤ (sub_ℕ c d) ≡ sub_ℕ d c
    turned =
        cases c d (λ (z : ℤ). neg_ℤ z ≡ sub_ℕ d c) (λ x h. sym (is_minus d c x h)) (λ x h. sym (is_pos d c (suc x) h))

pub difference_is : (a b : ℕ) → pos a -ℤ pos b ≡ sub_ℕ a b
difference_is a b =
    ap₂ ◌-ℤ◌ (sym (is_pos a 0 a (omega arith))) (sym (is_pos b 0 b (omega arith))) ∙ minus a 0 b 0 ∙ same (a + 0) (0 + b) a b (omega arith)

pub sum_is : (a b : ℕ) → pos a +ℤ pos b ≡ sub_ℕ (a + b) 0
sum_is a b = sym (is_pos (a + b) 0 (a + b) (omega arith))

-- ---- the order

leb_same : (x y p q : ℕ) → x + q ≡ p + y → leb x y ≡ leb p q
leb_same x y p q e =
    dite (dec_le x y) (λ h. le-leb x y h ∙ sym (le-leb p q (omega arith))) (λ h. lt-leb x y (omega arith) ∙ sym (lt-leb p q (omega arith)))

module _ (a b c d : ℕ) where
  le_is : le_z (sub_ℕ a b) (sub_ℕ c d) ≡ leb (a + d) (c + b)
  le_is =
      cases a b (λ (z : ℤ). le_z z (sub_ℕ c d) ≡ leb (a + d) (c + b))
      (λ x h. cases c d (λ (z : ℤ). le_z (pos x) z ≡ leb (a + d) (c + b))
      (λ y k. leb_same x y (a + d) (c + b) (omega arith))
      (λ y k. sym (lt-leb (a + d) (c + b) (omega arith))))
      (λ x h. cases c d (λ (z : ℤ). le_z (negsuc x) z ≡ leb (a + d) (c + b))
      (λ y k. sym (le-leb (a + d) (c + b) (omega arith)))
      (λ y k. leb_same y x (a + d) (c + b) (omega arith)))

  lt_is : lt_z (sub_ℕ a b) (sub_ℕ c d) ≡ ltb (a + d) (c + b)
  lt_is =
      cases a b (λ (z : ℤ). lt_z z (sub_ℕ c d) ≡ ltb (a + d) (c + b))
      (λ x h. cases c d (λ (z : ℤ). lt_z (pos x) z ≡ ltb (a + d) (c + b))
      (λ y k. leb_same (suc x) y (suc (a + d)) (c + b) (omega arith))
      (λ y k. sym (le-ltb (a + d) (c + b) (omega arith))))
      (λ x h. cases c d (λ (z : ℤ). lt_z (negsuc x) z ≡ ltb (a + d) (c + b))
      (λ y k. sym (lt-ltb (a + d) (c + b) (omega arith)))
      (λ y k. leb_same (suc y) x (suc (a + d)) (c + b) (omega arith)))

-- differences from the same number compare as what they are taken of
pub lt_same : (a b h : ℕ) → lt_z (sub_ℕ a h) (sub_ℕ b h) ≡ ltb a b
lt_same a b h = lt_is a h b h ∙ leb_same (suc (a + h)) (b + h) (suc a) b (omega arith)

-- ---- the low bits

module _ (w m n : ℕ) where
  pub wrap_ge : n ≤ m → m - n < 2 ^ w → wrap w (sub_ℕ m n) ≡ m - n
  unfolding wrap
  wrap_ge h l = ap (wrap w) (is_ge m n h) ∙ mod-eq_of_lt l

  pub wrap_below : m < n → n - m ≤ 2 ^ w → wrap w (sub_ℕ m n) ≡ 2 ^ w - (n - m)
  unfolding wrap
  wrap_below h l =
      ap (wrap w) (is_lt m n h) ∙ ap (λ (y : ℕ). 2 ^ w - 1 - y) (mod-eq_of_lt (omega arith)) ∙ omega arith

-- a multiple of 2 ^ w less leaves the low bits
pub wrap_multiple : (w k m : ℕ) → wrap w (sub_ℕ m (k * 2 ^ w)) ≡ m % 2 ^ w
unfolding wrap
wrap_multiple w k m = dite (dec_le (k * 2 ^ w) m) ge (λ h. below (omega arith))
  where
    ge : k * 2 ^ w ≤ m → wrap w (sub_ℕ m (k * 2 ^ w)) ≡ m % 2 ^ w
    ge h =
        ap (wrap w) (is_ge m (k * 2 ^ w) h) ∙ sym (add-mul-mod_self_right (m - k * 2 ^ w) k (2 ^ w)) ∙ ap (λ (x : ℕ). x % 2 ^ w) (omega arith)

    below : m < k * 2 ^ w → wrap w (sub_ℕ m (k * 2 ^ w)) ≡ m % 2 ^ w
    below h =
        let q = m / 2 ^ w in
        let d = k - 1 - q in
        let l : q < k = (div-lt_iff_lt-mul (pow_pos w)).1 h in
        let e : d * 2 ^ w + q * 2 ^ w + 1 * 2 ^ w ≡ k * 2 ^ w =
        sym (add-mul (d + q) 1 (2 ^ w) ∙ ap (λ (x : ℕ). x + 1 * 2 ^ w) (add-mul d q (2 ^ w))) ∙ ap (λ (x : ℕ). x * 2 ^ w) (omega arith) in
        let r : m % 2 ^ w < 2 ^ w = mod-lt m (pow_pos w) in
        let f : k * 2 ^ w - suc m ≡ d * 2 ^ w + (2 ^ w - 1 - m % 2 ^ w) = omega (arith, e, div-add-mod' m (2 ^ w), one-mul (2 ^ w)) in
        ap (wrap w) (is_lt m (k * 2 ^ w) h)
        ∙ ap (λ (x : ℕ). 2 ^ w - 1 - x) (ap (λ (x : ℕ). x % 2 ^ w) f ∙ low d w (omega arith))
        ∙ omega arith

-- ---- the clamps

module _ (a b c d m n : ℕ) where
  pub clamp_below : m + b ≤ a + n → clamp (sub_ℕ a b) (sub_ℕ c d) (sub_ℕ m n) ≡ sub_ℕ a b
  unfolding clamp
  clamp_below h = rw (le_is m n a b, le-leb (m + b) (a + n) h)

  pub clamp_above : a + n < m + b → c + n ≤ m + d → clamp (sub_ℕ a b) (sub_ℕ c d) (sub_ℕ m n) ≡ sub_ℕ c d
  unfolding clamp
  clamp_above l h = rw (le_is m n a b, lt-leb (m + b) (a + n) l, le_is c d m n, le-leb (c + n) (m + d) h)

  pub clamp-within : a + n ≤ m + b → m + d ≤ c + n → clamp (sub_ℕ a b) (sub_ℕ c d) (sub_ℕ m n) ≡ sub_ℕ m n
  unfolding clamp
  clamp-within l h =
      dite (dec_le (m + b) (a + n))
      (λ k. clamp_below k ∙ same a b m n (omega arith))
      (λ k. dite (dec_le (c + n) (m + d))
      (λ g. clamp_above (omega arith) g ∙ same c d m n (omega arith))
      (λ g. rw (le_is m n a b, lt-leb (m + b) (a + n) (omega arith), le_is c d m n, lt-leb (c + n) (m + d) (omega arith))))

-- to 0 .. t, where t is 2 ^ w - 1
module _ (w m n t : ℕ) (e : t ≡ 2 ^ w - 1) (l : t < 2 ^ w) where
  bounds : clamp_unsigned w (sub_ℕ m n) ≡ clamp (sub_ℕ 0 0) (sub_ℕ t 0) (sub_ℕ m n)
  unfolding clamp_unsigned
  bounds = rw (← e, is_pos t 0 t (omega arith)) refl

  pub unsigned_below : m ≤ n → 0 ≡ wrap w (clamp_unsigned w (sub_ℕ m n))
  unsigned_below k = sym (ap (wrap w) (bounds ∙ clamp_below 0 0 t 0 m n (omega arith)) ∙ wrap_ge w 0 0 (omega arith) (omega arith))

  pub unsigned_above : n < m → t ≤ m - n → t ≡ wrap w (clamp_unsigned w (sub_ℕ m n))
  unsigned_above s k =
      sym (ap (wrap w) (bounds ∙ clamp_above 0 0 t 0 m n (omega arith) (omega arith)) ∙ wrap_ge w t 0 (omega arith) (omega arith) ∙ omega arith)

  pub unsigned_within : n ≤ m → m - n ≤ t → m - n ≡ wrap w (clamp_unsigned w (sub_ℕ m n))
  unsigned_within s k =
      sym (ap (wrap w) (bounds ∙ clamp-within 0 0 t 0 m n (omega arith) (omega arith)) ∙ wrap_ge w m n (omega arith) (omega arith))
