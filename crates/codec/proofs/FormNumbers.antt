-- What the code's tests on a form's number say of the form: rules for the functions that take one.
use Rattle.std.specs.Prelude.{ℕ, zero, suc, ◌+◌, ◌≤◌, ◌<◌, ◌≡◌, refl, Bool, true, false, not, ◌&&◌, ◌||◌, ◌⊎◌, List, [], ◌∷◌, eqb, ltb}
use Rattle.basis.proofs.Names.{sym, ap, subst, ◌∙◌, and-true, or-false, false≢true, arith, rules, ne_eqb, eqb-true, eqb-false, ltb-true, ltb-false, not-true}
use Rattle.words.proofs.Laws.{and_both}
use Rattle.codec.specs.Forms.{Use, Slot, reg, rm, rm/mem, mem, edi, fixed, opcode, zero_slot, Form, mmreg1·mmreg2/mem64, mmreg1·mmreg2/mem64+suffix, forms, is_absent, is_any, has_operand, is_among, list_allows, slot_allows, slots_allow, allows, immediate_size, has_suffix, accepts}
use Rattle.codec.specs.Table.{form_of}
use Rattle.codec.proofs.Bytes.{found_has, number_passes}
use Rattle.codec.proofs.Sizes.{sized_0, sized_1, sized_4}

-- a form that allows everything
abbrev is_free_slot : Slot → Bool
is_free_slot (reg file) = true
is_free_slot (rm file) = false
is_free_slot (rm/mem file size) = true
is_free_slot (mem size) = false
is_free_slot (edi size) = true
is_free_slot (fixed k) = false
is_free_slot (opcode file) = true
is_free_slot zero_slot = true

abbrev are_free : List (Use × Slot) → Bool
are_free [] = true
are_free ((how, x) ∷ xs) = is_free_slot x && are_free xs

abbrev pub is_free : Form → Bool
is_free form = are_free form.operands && not (is_any form.digits)

slot_free : (x : Slot) (t : Bool) (other : ℕ) → is_free_slot x ≡ true → slot_allows x t other ≡ true
slot_free (reg file) t other e = refl
slot_free (rm file) t other e = absurd (false≢true e)
slot_free (rm/mem file size) t other e = refl
slot_free (mem size) t other e = absurd (false≢true e)
slot_free (edi size) t other e = refl
slot_free (fixed k) t other e = absurd (false≢true e)
slot_free (opcode file) t other e = refl
slot_free zero_slot t other e = refl

slots_free : (xs : List (Use × Slot)) (t : Bool) (other : ℕ) (rest : Bool) → are_free xs ≡ true → rest ≡ true → slots_allow xs t other rest ≡ true
slots_free [] t other rest e h = h
slots_free ((how, x) ∷ xs) t other rest e h =
    let (a, b) = and_both (is_free_slot x) (are_free xs) e in
    simp (slot_free x t other a) (slots_free xs t other rest b h)

pub list_free : (xs : List ℕ) (value : ℕ) → is_any xs ≡ false → list_allows xs value ≡ true
list_free [] value e = refl
list_free (x ∷ xs) value e = absurd (false≢true (sym e))

pub free_allows : (form : Form) (mode digit other : ℕ) → is_free form ≡ true → allows form mode digit other ≡ true
unfolding allows
free_allows form mode digit other e =
    let (a, b) = and_both (are_free form.operands) (not (is_any form.digits)) e in
    slots_free form.operands (eqb mode 3) other _ a (list_free form.digits digit (not-true (is_any form.digits) b))

-- what holds of so many numbers from one on, each
abbrev pub Each : (ℕ → Type 0) → ℕ → ℕ → Type 0
Each P first zero = Unit {0}
Each P first (suc count) = P first × Each P (suc first) count

pub in_range : (P : ℕ → Type 0) (first count n : ℕ) → first ≤ n → n < first + count → Each P first count → P n
in_range P first zero n p q h = absurd (omega arith)
in_range P first (suc count) n p q (h, hs) = by (eqb n first) refl (in_range P (suc first) count n)
  where
    by : (t : Bool) → eqb n first ≡ t → (suc first ≤ n → n < suc first + count → Each P (suc first) count → P n) → P n
    by true e further = subst P (sym (eqb-true n first e)) h
    by false e further = further (omega (arith, eqb-false n first e)) (omega arith) hs

below_four : (k : ℕ) → ltb k 4 ≡ is_among k (0 ∷ 1 ∷ 2 ∷ 3 ∷ [])
below_four k = by (ltb k 4) refl
  where
    by : (t : Bool) → ltb k 4 ≡ t → t ≡ is_among k (0 ∷ 1 ∷ 2 ∷ 3 ∷ [])
    by true e = in_range (λ j. true ≡ is_among j (0 ∷ 1 ∷ 2 ∷ 3 ∷ [])) 0 4 k (omega arith) (ltb-true k 4 e) (refl, (refl, (refl, (refl, tt))))
    by false e =
        let h : 4 ≤ k = ltb-false k 4 e in
        simp (ne_eqb k 0 (λ z. omega arith), ne_eqb k 1 (λ z. omega arith), ne_eqb k 2 (λ z. omega arith), ne_eqb k 3 (λ z. omega arith))

-- every number but 0 names a form that is there
pub form_there : (n : ℕ) → (n ≡ 0 → ⊥) → is_absent (form_of n) ≡ false
form_there n p = not-true _ (number_passes (λ f. not (is_absent f)) 1 n (omega (arith, p)) refl refl)

-- which of them have a ModRM byte
module _ (n : ℕ) where
  pub operand_past : 13 < n → true ≡ has_operand (form_of n)
  operand_past h = sym (number_passes has_operand 14 n h refl refl)

  pub operand_before : n < 2 → false ≡ has_operand (form_of n)
  operand_before h = in_range (λ k. false ≡ has_operand (form_of k)) 0 2 n (omega arith) h (refl, (refl, tt))

  pub operand_there : 2 ≤ n → n < 10 → true ≡ has_operand (form_of n)
  operand_there p q =
      in_range (λ k. true ≡ has_operand (form_of k)) 2 8 n p q (refl, (refl, (refl, (refl, (refl, (refl, (refl, (refl, tt))))))))

module _ (n mode reg rm : ℕ) where
  pub allowed_past : 15 < n → true ≡ allows (form_of n) mode reg rm
  allowed_past h = sym (free_allows (form_of n) mode reg rm (number_passes is_free 16 n h refl refl))

-- the digits of a shift, whose number is 2 or 3
module _ (n reg : ℕ) (p : 2 ≤ n) (q : n ≤ 3) where
  abbrev Digit : Bool → Type 0
  Digit t = t ≡ is_among reg (form_of n).digits

  shift_by : (P : ℕ → Type 0) → P 2 → P 3 → P n
  shift_by P a b = in_range P 2 2 n p (omega arith) (a, (b, tt))

  pub digit_2 : reg ≡ 2 → Digit true
  digit_2 h = rw h (shift_by (λ k. true ≡ is_among 2 (form_of k).digits) refl refl)

  pub digit_6 : reg ≡ 6 → Digit true
  digit_6 h = rw h (shift_by (λ k. true ≡ is_among 6 (form_of k).digits) refl refl)

  pub digit_4 : reg ≡ 4 → Digit (eqb n 2)
  digit_4 h = rw h (shift_by (λ k. eqb k 2 ≡ is_among 4 (form_of k).digits) refl refl)

  pub digit_none : (reg ≡ 2 → ⊥) → (reg ≡ 4 → ⊥) → (reg ≡ 6 → ⊥) → Digit false
  digit_none a b c =
      shift_by (λ k. false ≡ is_among reg (form_of k).digits) (simp (ne_eqb reg 2 a, ne_eqb reg 4 b, ne_eqb reg 6 c)) (simp (ne_eqb reg 2 a, ne_eqb reg 6 c))

-- 16 alone has a suffix
pub no_suffix : (n : ℕ) → (n ≡ 16 → ⊥) → has_suffix (form_of n) ≡ false
no_suffix n other =
    found_has (λ form. form) mmreg1·mmreg2/mem64 (λ f. has_suffix f ≡ false) (λ form. eqb n form.number) (λ form. eqb form.number 16 || not (has_suffix form)) refl
    one forms refl
  where
    one : (form : Form) → eqb n form.number ≡ true → (eqb form.number 16 || not (has_suffix form)) ≡ true → has_suffix form ≡ false
    one form e h = not-true (has_suffix form) (simp (ne_eqb form.number 16 (λ z. other (eqb-true n form.number e ∙ z))) at h)

module _ (n value : ℕ) where
  pub accepted_other : (n ≡ 16 → ⊥) → true ≡ accepts (form_of n) value
  accepted_other other = sym (list_free (form_of n).suffixes value (no_suffix n other))

  pub accepted_suffix : (t : Bool) → n ≡ 16 → t ≡ is_among value mmreg1·mmreg2/mem64+suffix.suffixes → t ≡ accepts (form_of n) value
  accepted_suffix t e h = rw e h

module _ (n : ℕ) (past : 13 < n) where
  pub immediate_past : (n ≡ 16 → ⊥) → 0 ≡ immediate_size (form_of n)
  immediate_past other = by (ltb 16 n) refl
    where
      by : (t : Bool) → ltb 16 n ≡ t → 0 ≡ immediate_size (form_of n)
      by true e = sym (eqb-true _ _ (number_passes (λ f. eqb (immediate_size f) 0) 17 n (ltb-true 16 n e) refl refl))
      by false e =
          in_range (λ k. (k ≡ 16 → ⊥) → 0 ≡ immediate_size (form_of k)) 14 3 n past (omega (arith, ltb-false 16 n e)) (λ z. refl, (λ z. refl, (λ z. absurd (z refl), tt))) other

  pub immediate_suffix : n ≡ 16 → 1 ≡ immediate_size (form_of n)
  immediate_suffix e = simp e

pub immediate_before : (n : ℕ) → n < 2 → 0 ≡ immediate_size (form_of n)
immediate_before n h = in_range (λ k. 0 ≡ immediate_size (form_of k)) 0 2 n (omega arith) h (refl, (refl, tt))

pub immediate_there : (n : ℕ) → n ≤ 6 → 2 ≤ n → 1 ≡ immediate_size (form_of n)
immediate_there n p q = in_range (λ k. 1 ≡ immediate_size (form_of k)) 2 5 n q (omega arith) (refl, (refl, (refl, (refl, (refl, tt)))))

-- the tests on a number in one: each form that is tested for, and all others
module _ (n : ℕ) where
  pub operand_else : (n ≡ 0 → ⊥) → (n ≡ 1 → ⊥) → (n ≡ 10 → ⊥) → (n ≡ 12 → ⊥) → (n ≡ 13 → ⊥) → true ≡ has_operand (form_of n)
  operand_else a b c d e = by (ltb 13 n) refl
    where
      by : (t : Bool) → ltb 13 n ≡ t → true ≡ has_operand (form_of n)
      by true h = operand_past n (ltb-true 13 n h)
      by false h =
          let low : n ≤ 13 = ltb-false 13 n h in
          in_range (λ k. (k ≡ 0 → ⊥) → (k ≡ 1 → ⊥) → (k ≡ 10 → ⊥) → (k ≡ 12 → ⊥) → (k ≡ 13 → ⊥) → true ≡ has_operand (form_of k)) 0 14 n (omega arith) (omega arith) (
            λ a b c d e. absurd (a refl),
            (
              λ a b c d e. absurd (b refl),
              (
                λ a b c d e. refl,
                (
                  λ a b c d e. refl,
                  (
                    λ a b c d e. refl,
                    (
                      λ a b c d e. refl,
                      (
                        λ a b c d e. refl,
                        (
                          λ a b c d e. refl,
                          (
                            λ a b c d e. refl,
                            (
                              λ a b c d e. refl,
                              (
                                λ a b c d e. absurd (c refl),
                                (
                                  λ a b c d e. refl,
                                  (λ a b c d e. absurd (d refl), (λ a b c d e. absurd (e refl), tt)),
                                ),
                              ),
                            ),
                          ),
                        ),
                      ),
                    ),
                  ),
                ),
              ),
            ),
          ) a b c d e

  pub immediate_else : (n < 2 ⊎ 6 < n) → (n ≡ 10 → ⊥) → (n ≡ 11 → ⊥) → (n ≡ 13 → ⊥) → (n ≡ 16 → ⊥) → 0 ≡ immediate_size (form_of n)
  immediate_else z a b c d = by (ltb 13 n) refl
    where
      by : (t : Bool) → ltb 13 n ≡ t → 0 ≡ immediate_size (form_of n)
      by true h = immediate_past n (ltb-true 13 n h) d
      by false h =
          let low : n ≤ 13 = ltb-false 13 n h in
          in_range (λ k. (k < 2 ⊎ 6 < k) → (k ≡ 10 → ⊥) → (k ≡ 11 → ⊥) → (k ≡ 13 → ⊥) → 0 ≡ immediate_size (form_of k)) 0 14 n (omega arith) (omega arith) (
            λ z a b c. refl,
            (
              λ z a b c. refl,
              (
                λ z a b c. absurd (omega arith),
                (
                  λ z a b c. absurd (omega arith),
                  (
                    λ z a b c. absurd (omega arith),
                    (
                      λ z a b c. absurd (omega arith),
                      (
                        λ z a b c. absurd (omega arith),
                        (
                          λ z a b c. refl,
                          (
                            λ z a b c. refl,
                            (
                              λ z a b c. refl,
                              (
                                λ z a b c. absurd (a refl),
                                (
                                  λ z a b c. absurd (b refl),
                                  (λ z a b c. refl, (λ z a b c. absurd (c refl), tt)),
                                ),
                              ),
                            ),
                          ),
                        ),
                      ),
                    ),
                  ),
                ),
              ),
            ),
          ) z a b c

  module _ (mode reg rm : ℕ) where
    pub allowed_else : (n ≡ 2 → ⊥) → (n ≡ 3 → ⊥) → (n ≡ 6 → ⊥) → (n ≡ 7 → ⊥) → (n ≡ 8 → ⊥) → (n ≡ 9 → ⊥) → (n ≡ 11 → ⊥) → (n ≡ 14 → ⊥) → (n ≡ 15 → ⊥)
        → true ≡ allows (form_of n) mode reg rm
    unfolding allows
    allowed_else a b c d e f g h i = by (ltb 15 n) refl
      where
        by : (t : Bool) → ltb 15 n ≡ t → true ≡ allows (form_of n) mode reg rm
        by true h = allowed_past n mode reg rm (ltb-true 15 n h)
        by false z =
            let low : n ≤ 15 = ltb-false 15 n z in
            in_range
            (λ k. (k ≡ 2 → ⊥) → (k ≡ 3 → ⊥) → (k ≡ 6 → ⊥) → (k ≡ 7 → ⊥) → (k ≡ 8 → ⊥) → (k ≡ 9 → ⊥) → (k ≡ 11 → ⊥) → (k ≡ 14 → ⊥) → (k ≡ 15 → ⊥) → true ≡ allows (form_of k) mode reg rm)
            0 16 n (omega arith) (omega arith) (
              λ a b c d e f g h i. refl,
              (
                λ a b c d e f g h i. refl,
                (
                  λ a b c d e f g h i. absurd (a refl),
                  (
                    λ a b c d e f g h i. absurd (b refl),
                    (
                      λ a b c d e f g h i. refl,
                      (
                        λ a b c d e f g h i. refl,
                        (
                          λ a b c d e f g h i. absurd (c refl),
                          (
                            λ a b c d e f g h i. absurd (d refl),
                            (
                              λ a b c d e f g h i. absurd (e refl),
                              (
                                λ a b c d e f g h i. absurd (f refl),
                                (
                                  λ a b c d e f g h i. refl,
                                  (
                                    λ a b c d e f g h i. absurd (g refl),
                                    (λ a b c d e f g h i. refl, (λ a b c d e f g h i. refl, (λ a b c d e f g h i. absurd (h refl), (λ a b c d e f g h i. absurd (i refl), tt)))),
                                  ),
                                ),
                              ),
                            ),
                          ),
                        ),
                      ),
                    ),
                  ),
                ),
              ),
            ) a b c d e f g h i

    -- the forms that restrain it
    pub allowed_shift : 2 ≤ n → n ≤ 3 → allows (form_of n) mode reg rm ≡ (eqb mode 3 && is_among reg (form_of n).digits)
    unfolding allows
    allowed_shift p q = in_range (λ k. allows (form_of k) mode reg rm ≡ (eqb mode 3 && is_among reg (form_of k).digits)) 2 2 n p (omega arith) (refl, (refl, tt))

    pub allowed_registers : 6 ≤ n → n ≤ 8 → allows (form_of n) mode reg rm ≡ eqb mode 3
    unfolding allows
    allowed_registers p q = in_range (λ k. allows (form_of k) mode reg rm ≡ eqb mode 3) 6 3 n p (omega arith) (and-true (eqb mode 3), (and-true (eqb mode 3), (and-true (eqb mode 3), tt)))

    pub allowed_fence : n ≡ 9 → allows (form_of n) mode reg rm ≡ (eqb mode 3 && (eqb rm 0 && eqb reg 7))
    unfolding allows
    allowed_fence e = simp (e, or-false) (by (eqb mode 3))
      where
        by : (t : Bool) → (slot_allows (fixed 0) t rm && eqb reg 7) ≡ (t && (eqb rm 0 && eqb reg 7))
        by true = refl
        by false = refl

    pub allowed_add : n ≡ 11 → allows (form_of n) mode reg rm ≡ (eqb mode 3 && eqb reg 0)
    unfolding allows
    allowed_add e = simp (e, or-false)

    pub allowed_prefetch : n ≡ 14 → allows (form_of n) mode reg rm ≡ (not (eqb mode 3) && ltb reg 4)
    unfolding allows
    allowed_prefetch e = simp (e, below_four)

    pub fence_memory : n ≡ 9 → (mode ≡ 3 → ⊥) → false ≡ allows (form_of n) mode reg rm
    fence_memory e h = sym (allowed_fence e ∙ ap (λ (t : Bool). t && (eqb rm 0 && eqb reg 7)) (ne_eqb mode 3 h))

    pub fence_other : n ≡ 9 → mode ≡ 3 → (rm ≡ 0 → ⊥) → false ≡ allows (form_of n) mode reg rm
    fence_other e m h = sym (allowed_fence e ∙ simp (m, ne_eqb rm 0 h))

    pub add_memory : n ≡ 11 → (mode ≡ 3 → ⊥) → false ≡ allows (form_of n) mode reg rm
    add_memory e h = sym (allowed_add e ∙ ap (λ (t : Bool). t && eqb reg 0) (ne_eqb mode 3 h))

    pub prefetch_memory : n ≡ 14 → (mode ≡ 3 → ⊥) → ltb reg 4 ≡ allows (form_of n) mode reg rm
    prefetch_memory e h = sym (allowed_prefetch e ∙ ap (λ (t : Bool). not t && ltb reg 4) (ne_eqb mode 3 h))

    pub allowed_stream : n ≡ 15 → allows (form_of n) mode reg rm ≡ not (eqb mode 3)
    unfolding allows
    allowed_stream e = simp (e, and-true)

-- from MOVNTQ on every mod but 11 is allowed
pub allowed_in_memory : (n mode digit other : ℕ) → 15 ≤ n → (mode ≡ 3 → ⊥) → true ≡ allows (form_of n) mode digit other
allowed_in_memory n mode digit other h m = by (eqb n 15) refl
  where
    by : (t : Bool) → eqb n 15 ≡ t → true ≡ allows (form_of n) mode digit other
    by true e = sym (allowed_stream n mode digit other (eqb-true n 15 e) ∙ ap not (ne_eqb mode 3 m))
    by false e = allowed_past n mode digit other (omega (arith, eqb-false n 15 e))

pub ruleset form_rules = (rules, sized_0, sized_1, sized_4, operand_else, digit_2, digit_6, digit_4, digit_none, accepted_other, accepted_suffix, immediate_else, immediate_there)

pub ruleset allowed_rules = (rules, allowed_shift, allowed_registers, allowed_fence, fence_memory, fence_other, allowed_add, add_memory, prefetch_memory, allowed_prefetch, allowed_stream, allowed_else)
