-- Refusal 6 in the customer's words: 71, 72 or 73 with mod not 11, or with a digit that is not listed; a register or memory form that manual 000 does
-- not list; another digit of 18; AE before another byte than F8; 83 in another form than /0 with mod 11; and nothing else.
use Rattle.std.specs.Prelude.{ℕ, ◌≡◌, refl, ◌⊎◌, Bool, true, false, not, cond, ◌&&◌, ◌||◌, List, [], ◌∷◌, ◌++◌, eqb, leb, ltb, get_or, ◌↔◌}
use Rattle.basis.proofs.Names.{sym, ap, ◌∙◌, inl, inr, false≢true, arith, and-true, or-false, eqb-true, leb-true, ltb-true, eq-eqb, ne_eqb}
use Rattle.codec.specs.Forms.{absent, is_among, is_absent, has_operand, allows}
use Rattle.codec.specs.Contents.{lines, OneByte, loops}
use Rattle.codec.specs.Opcodes.{form_at, is_of, form_of_first, form_for, opcode_bytes, escape}
use Rattle.codec.specs.Operands.{upper, middle, lower}
use Rattle.codec.specs.Reasons.{Starts, StartsNotAllowed}
use Rattle.words.proofs.Laws.{and_both}
use Rattle.codec.proofs.FormNumbers.{is_free, free_allows}
use Rattle.codec.proofs.Bytes.{found_each, found_has, among}

-- a ModRM byte that is not listed, by the opcode bytes before it
pub data Unlisted (modrm : ℕ) : List ℕ → Type 0 where
  -- 71 and 72 have /2, /4 and /6, 73 has /2 and /6, all at mod 11
  words : (eqb (upper modrm) 3 ≡ false) ⊎ (is_among (middle modrm) (2 ∷ 4 ∷ 6 ∷ []) ≡ false) → Unlisted modrm (0x0f ∷ 0x71 ∷ [])
  doublewords : (eqb (upper modrm) 3 ≡ false) ⊎ (is_among (middle modrm) (2 ∷ 4 ∷ 6 ∷ []) ≡ false) → Unlisted modrm (0x0f ∷ 0x72 ∷ [])
  quadwords : (eqb (upper modrm) 3 ≡ false) ⊎ (is_among (middle modrm) (2 ∷ 6 ∷ []) ≡ false) → Unlisted modrm (0x0f ∷ 0x73 ∷ [])
  -- PEXTRW, PMOVMSKB and MASKMOVQ have no memory form
  pextrw : eqb (upper modrm) 3 ≡ false → Unlisted modrm (0x0f ∷ 0xc5 ∷ [])
  pmovmskb : eqb (upper modrm) 3 ≡ false → Unlisted modrm (0x0f ∷ 0xd7 ∷ [])
  maskmovq : eqb (upper modrm) 3 ≡ false → Unlisted modrm (0x0f ∷ 0xf7 ∷ [])
  -- MOVNTQ and the prefetches have no register form, and the prefetches /0 to /3
  movntq : eqb (upper modrm) 3 ≡ true → Unlisted modrm (0x0f ∷ 0xe7 ∷ [])
  prefetch : (eqb (upper modrm) 3 ≡ true) ⊎ (is_among (middle modrm) (0 ∷ 1 ∷ 2 ∷ 3 ∷ []) ≡ false) → Unlisted modrm (0x0f ∷ 0x18 ∷ [])
  -- SFENCE is AE F8
  sfence : eqb modrm 0xf8 ≡ false → Unlisted modrm (0x0f ∷ 0xae ∷ [])
  -- ADD is /0 at mod 11
  adds : (eqb (upper modrm) 3 ≡ false) ⊎ (eqb (middle modrm) 0 ≡ false) → Unlisted modrm (0x83 ∷ [])

pub record Six (s : List ℕ) : Type 0 where
  pub opcode : List ℕ
  pub modrm : ℕ
  pub starts : Starts (opcode ++ modrm ∷ []) s
  pub unlisted : Unlisted modrm opcode

abbrev bytes : List ℕ
bytes = 0x71 ∷ 0x72 ∷ 0x73 ∷ 0xc5 ∷ 0xd7 ∷ 0xf7 ∷ 0xe7 ∷ 0x18 ∷ 0xae ∷ []

-- every other second byte has a form that allows every ModRM byte
free_or : (second : ℕ) → (is_free (form_at second) || is_among second bytes) ≡ true
unfolding form_at
free_or second =
    found_has (λ x. x.form) absent (λ f. (is_free f || is_among second bytes) ≡ true) (λ x. eqb second x.second) (λ x. is_free x.form || is_among x.second bytes)
    refl (λ x e h. ap (λ (k : ℕ). is_free x.form || is_among k bytes) (eqb-true second x.second e) ∙ h) lines refl

-- and so has every first byte but 83
first_free_or : (first : ℕ) → (is_free (form_of_first first) || eqb first 0x83) ≡ true
unfolding form_of_first
first_free_or first =
    found_each (λ (x : OneByte). x.form) absent (λ f. (is_free f || eqb first 0x83) ≡ true) (λ x. is_of x first) refl loops
    (is_add, (λ e. refl, (λ e. refl, (λ e. refl, tt))))
  where
    is_add : (leb 0x83 first && ltb first 0x84) ≡ true → eqb first 0x83 ≡ true
    is_add e =
        let (from, to) = and_both (leb 0x83 first) (ltb first 0x84) e in
        eq-eqb first 0x83 (omega (arith, leb-true 0x83 first from, ltb-true first 0x84 to))

either_false : (a b : Bool) → (a && b) ≡ false → (a ≡ false) ⊎ (b ≡ false)
either_false true b e = inr e
either_false false b e = inl refl

false_either : (a b : Bool) → (a ≡ false) ⊎ (b ≡ false) → (a && b) ≡ false
false_either true b (inl e) = absurd (false≢true (sym e))
false_either true b (inr e) = e
false_either false b h = refl

not_back : (t : Bool) → not t ≡ false → t ≡ true
not_back true e = refl
not_back false e = sym e

-- F8 by its fields
fence_byte : (modrm : ℕ) → eqb modrm 0xf8 ≡ ((eqb (upper modrm) 3 && eqb (lower modrm) 0) && is_among (middle modrm) (7 ∷ []))
fence_byte modrm = by (eqb (upper modrm) 3) (eqb (lower modrm) 0) (eqb (middle modrm) 7) refl refl refl
  where
    by : (a b c : Bool) → eqb (upper modrm) 3 ≡ a → eqb (lower modrm) 0 ≡ b → eqb (middle modrm) 7 ≡ c → eqb modrm 0xf8 ≡ ((a && b) && (c || false))
    by true true true ea eb ec = eq-eqb modrm 0xf8 (omega (arith, eqb-true (upper modrm) 3 ea, eqb-true (lower modrm) 0 eb, eqb-true (middle modrm) 7 ec))
    by false b c ea eb ec = ne_eqb modrm 0xf8 (λ e. absurd (false≢true (sym ea ∙ ap (λ (m : ℕ). eqb (upper m) 3) e)))
    by true false c ea eb ec = ne_eqb modrm 0xf8 (λ e. absurd (false≢true (sym eb ∙ ap (λ (m : ℕ). eqb (lower m) 0) e)))
    by true true false ea eb ec = ne_eqb modrm 0xf8 (λ e. absurd (false≢true (sym ec ∙ ap (λ (m : ℕ). eqb (middle m) 7) e)))

-- of these opcode bytes, a ModRM byte is not allowed exactly where it is not listed
module _ (modrm : ℕ) where
  abbrev Barred : ℕ → ℕ → Type 0
  Barred first second = allows (form_for first second) (upper modrm) (middle modrm) (lower modrm) ≡ false

  abbrev mod11 : Bool
  mod11 = eqb (upper modrm) 3

  is_unlisted : (second : ℕ) → is_among second bytes ≡ true → Barred escape second → Unlisted modrm (escape ∷ second ∷ [])
  unfolding form_at allows
  is_unlisted second h =
      among (λ k. Barred escape k → Unlisted modrm (escape ∷ k ∷ [])) second bytes h
      (λ e. words (either_false mod11 _ e))
      (λ e. doublewords (either_false mod11 _ e))
      (λ e. quadwords (either_false mod11 _ e))
      (λ e. pextrw (sym (and-true mod11) ∙ e))
      (λ e. pmovmskb (sym (and-true mod11) ∙ e))
      (λ e. maskmovq (sym (and-true mod11) ∙ e))
      (λ e. movntq (not_back mod11 (sym (and-true (not mod11)) ∙ e)))
      (λ e. prefetch (turned (either_false (not mod11) _ e)))
      (λ e. sfence (fence_byte modrm ∙ e))
    where
      turned : {b : Bool} → (not (eqb (upper modrm) 3) ≡ false) ⊎ (b ≡ false) → (eqb (upper modrm) 3 ≡ true) ⊎ (b ≡ false)
      turned (inl e) = inl (not_back _ e)
      turned (inr e) = inr e

  is_added : Barred 0x83 0 → Unlisted modrm (0x83 ∷ [])
  unfolding form_of_first allows
  is_added e = adds (either_false mod11 (eqb (middle modrm) 0) (ap (λ (t : Bool). mod11 && t) (sym (or-false (eqb (middle modrm) 0))) ∙ e))

  -- the opcode bytes start an instruction with a ModRM byte, which is not this one
  abbrev Starting : List ℕ → ℕ → ℕ → Type 0
  Starting opcode first second =
      (opcode_bytes first second ≡ opcode) × (is_absent (form_for first second) ≡ false) × (has_operand (form_for first second) ≡ true) × Barred first second

  is_barred : (opcode : List ℕ) → Unlisted modrm opcode → Starting opcode (get_or opcode 0 0) (get_or opcode 1 0)
  unfolding form_at form_of_first allows
  is_barred opcode (words h) = (refl, refl, refl, false_either mod11 (is_among (middle modrm) (2 ∷ 4 ∷ 6 ∷ [])) h)
  is_barred opcode (doublewords h) = (refl, refl, refl, false_either mod11 (is_among (middle modrm) (2 ∷ 4 ∷ 6 ∷ [])) h)
  is_barred opcode (quadwords h) = (refl, refl, refl, false_either mod11 (is_among (middle modrm) (2 ∷ 6 ∷ [])) h)
  is_barred opcode (pextrw h) = (refl, refl, refl, and-true mod11 ∙ h)
  is_barred opcode (pmovmskb h) = (refl, refl, refl, and-true mod11 ∙ h)
  is_barred opcode (maskmovq h) = (refl, refl, refl, and-true mod11 ∙ h)
  is_barred opcode (movntq h) = (refl, refl, refl, simp h)
  is_barred opcode (prefetch (inl h)) = (refl, refl, refl, simp h)
  is_barred opcode (prefetch (inr h)) =
      (refl, refl, refl, false_either (not mod11) (is_among (middle modrm) (0 ∷ 1 ∷ 2 ∷ 3 ∷ [])) (inr h))
  is_barred opcode (sfence h) = (refl, refl, refl, sym (fence_byte modrm) ∙ h)
  is_barred opcode (adds h) =
      (refl, refl, refl, ap (λ (t : Bool). mod11 && t) (or-false (eqb (middle modrm) 0)) ∙ false_either mod11 (eqb (middle modrm) 0) h)

pub six_in_words : (s : List ℕ) → StartsNotAllowed s ↔ Six s
six_in_words s = (there, back)
  where
    there : StartsNotAllowed s → Six s
    there (first, second, modrm, starts, present, has, barred) = by (eqb first escape) refl starts barred
      where
        after : eqb first escape ≡ true → Starts (first ∷ second ∷ modrm ∷ []) s → (t : Bool) → is_free (form_at second) ≡ t → (t || is_among second bytes) ≡ true
            → allows (form_at second) (upper modrm) (middle modrm) (lower modrm) ≡ false → Six s
        after e starts true f h barred = absurd (false≢true (sym barred ∙ free_allows (form_at second) (upper modrm) (middle modrm) (lower modrm) f))
        after e starts false f h barred =
            record { opcode = escape ∷ second ∷ []; modrm = modrm; starts = rw (eqb-true first escape e) at starts; unlisted = is_unlisted modrm second h barred }

        alone : Starts (first ∷ modrm ∷ []) s → (t : Bool) → is_free (form_of_first first) ≡ t → (t || eqb first 0x83) ≡ true
            → allows (form_of_first first) (upper modrm) (middle modrm) (lower modrm) ≡ false → Six s
        alone starts true f h barred = absurd (false≢true (sym barred ∙ free_allows (form_of_first first) (upper modrm) (middle modrm) (lower modrm) f))
        alone starts false f h barred =
            let is = eqb-true first 0x83 h in
            record { opcode = 0x83 ∷ []; modrm = modrm; starts = rw is at starts; unlisted = is_added modrm (rw is at barred) }

        by : (t : Bool) → eqb first escape ≡ t → Starts (cond t (first ∷ second ∷ []) (first ∷ []) ++ modrm ∷ []) s
            → allows (cond t (form_at second) (form_of_first first)) (upper modrm) (middle modrm) (lower modrm) ≡ false → Six s
        by true e starts barred = after e starts (is_free (form_at second)) refl (free_or second) barred
        by false e starts barred = alone starts (is_free (form_of_first first)) refl (first_free_or first) barred

    back : Six s → StartsNotAllowed s
    back x =
        let (are, present, has, barred) = is_barred x.modrm x.opcode x.unlisted in
        (get_or x.opcode 0 0, get_or x.opcode 1 0, x.modrm, rw (← are) at x.starts, present, has, barred)
