-- The reader at a position of a code: what each part gives, from what the code has found there. Rules for the reader's functions.
use Rattle.std.specs.Prelude.{ℕ, ◌+◌, ◌-◌, ◌*◌, ◌/◌, ◌^◌, ◌≤◌, ◌<◌, ◌≡◌, refl, Bool, true, false, cond, List, [], ◌∷◌, eqb, length, get_or, take, drop, Result, Err}
use Rattle.std.specs.Int.{w32, from_le_bytes}
use Rattle.basis.proofs.Names.{sym, ap, ap₂, ◌∙◌, false≢true, arith, add-zero, mul-zero, rules, eq-eqb, ne_eqb, eqb-true, drop_of_length-le}
use Rattle.words.specs.Number.{number}
use Rattle.words.proofs.Laws.{and_both}
use Rattle.codec.specs.Refusals.{code_ends, not_listed, not_allowed}
use Rattle.codec.specs.Forms.{Form, absent, is_absent, has_operand, allows, immediate_size, accepts}
use Rattle.codec.specs.Contents.{loops}
use Rattle.codec.specs.Opcodes.{is_of, form_of_first, escape}
use Rattle.codec.specs.Table.{form_of, entry_of_first, form_in}
use Rattle.codec.specs.Operands.{upper, middle, lower, has_sib, displacement_size, operand_of, no_operand}
use Rattle.codec.specs.inner.Fields.{Sized}
use Rattle.codec.specs.Reader.{Reader, whole, refuse, byte, field, reads}
use Rattle.codec.specs.Reads.{instruction_of, immediate_reader, displacement_reader, sib_reader, modrm_reader, form_reader, second_reader, first_reader, instruction_reader, refusal_of}
use Rattle.codec.specs.Finding.{found, found_in, find_with}
use Rattle.codec.specs.declared.Operand.{Operand}
use Rattle.codec.specs.declared.Found.{Found}
use Rattle.codec.specs.Answers.{Decoded, good, refused}
use Rattle.codec.proofs.Sizes.{byte_there}
use Rattle.codec.proofs.Bytes.{found_each}
use Rattle.codec.proofs.FormNumbers.{form_there, accepted_other}
use Rattle.codec.proofs.Entries.{first_form_is}
use Rattle.codec.proofs.Given.{Given, Refusal, Gives, form_gives, first_gives}
use Rattle.codec.proofs.Readers.{Holds, every, reads_yes, reads_no, drop_here, field_here, field_none}

-- what is read keeps the opcode bytes, so that the entry is theirs
module _ (table : List ℕ) (first second : ℕ) where
  abbrev entry_by : ℕ
  entry_by = cond (eqb first escape) (get_or table second 0) (entry_of_first first)

  entry_kept : (x : Decoded) → Holds (Given first second) Refusal x → found entry_by x ≡ found_in table x
  entry_kept (good i n) h =
      ap₂ (λ (f k : ℕ). found (cond (eqb f escape) (get_or table k 0) (entry_of_first f)) (good i n)) (sym h.first_kept) (sym h.kept)
  entry_kept (refused n) h = refl

  keeps : (r : Reader) (at : ℕ) (s : List ℕ) → Gives first second r → found entry_by (reads r at s) ≡ found_in table (reads r at s)
  keeps r at s h = entry_kept (reads r at s) (every (Given first second) Refusal r h at s)

-- of the first bytes other than 0F, ADD's alone has a ModRM byte
one_operand : (first : ℕ) → ((form_of_first first).number ≡ 0 → ⊥) → has_operand (form_of (form_of_first first).number) ≡ true → (form_of_first first).number ≡ 11
unfolding form_of_first
one_operand first =
    found_each (λ x. x.form) absent (λ f. (f.number ≡ 0 → ⊥) → has_operand (form_of f.number) ≡ true → f.number ≡ 11) (λ x. is_of x first)
    (λ there has. absurd (there refl)) loops
    (λ h there has. refl, (λ h there has. absurd (false≢true has), (λ h there has. absurd (false≢true has), (λ h there has. absurd (false≢true has), tt))))

pub first_adds : (first n : ℕ) (o : Bool) → n ≡ (form_of_first first).number → (n ≡ 0 → ⊥) → o ≡ has_operand (form_of n) → o ≡ true → n ≡ 11
first_adds first n o g there has e = g ∙ one_operand first (λ z. there (g ∙ z)) (ap (λ (k : ℕ). has_operand (form_of k)) (sym g) ∙ sym has ∙ e)

-- and none of them a suffix
pub first_plain : (n : ℕ) → n ≤ 13 → n ≡ 16 → ⊥
first_plain n h e = omega arith

pub add_plain : (n : ℕ) → n ≡ 11 → n ≡ 16 → ⊥
add_plain n h e = omega arith

-- nor has a form without a ModRM byte one
pub bare_plain : (n : ℕ) (o : Bool) → o ≡ has_operand (form_of n) → o ≡ false → n ≡ 16 → ⊥
bare_plain n o has none e = false≢true (sym (sym has ∙ none) ∙ ap (λ (k : ℕ). has_operand (form_of k)) e)

-- what a form's number asks for
module _ (n first second at : ℕ) (s : List ℕ) (there : n ≡ 0 → ⊥) where
  pub form_bare : has_operand (form_of n) ≡ false
      → reads (form_reader (form_of n) first second) at s ≡ reads (immediate_reader (form_of n) first second no_operand) at s
  unfolding form_reader
  form_bare e = reads_no _ _ _ at s (form_there n there) ∙ reads_no _ _ _ at s e

  pub form_on : has_operand (form_of n) ≡ true → reads (form_reader (form_of n) first second) at s ≡ reads (modrm_reader (form_of n) first second) at s
  unfolding form_reader
  form_on e = reads_no _ _ _ at s (form_there n there) ∙ reads_yes _ _ _ at s e

module _ (code : List ℕ) (at : ℕ) where
  -- the first byte
  module _ (table : List ℕ) (x : Result Found ℕ) where
    pub first_none : x ≡ Err code_ends → length code ≤ at → x ≡ find_with table code at
    unfolding find_with instruction_reader
    first_none e q = e ∙ ap (λ (s : List ℕ). found_in table (reads (instruction_reader (form_in table)) at s)) (sym (drop_of_length-le code q))

    module _ (q : at < length code) where
      abbrev first : ℕ
      first = get_or code at 0

      first_here : reads (instruction_reader (form_in table)) at (drop at code)
          ≡ reads (cond (eqb first escape) (second_reader (form_in table) first) (first_reader first)) (at + 1) (drop (at + 1) code)
      unfolding instruction_reader
      first_here = ap (reads (instruction_reader (form_in table)) at) (drop_here code at q)

      pub first_on : get_or code at 0 ≡ escape
          → x ≡ found_in table (reads (second_reader (form_in table) escape) (at + 1) (drop (at + 1) code))
          → x ≡ find_with table code at
      unfolding find_with
      first_on e h =
          h ∙ ap (λ (f : ℕ). found_in table (reads (second_reader (form_in table) f) (at + 1) (drop (at + 1) code))) (sym e)
          ∙ ap (found_in table) (sym (first_here ∙ reads_yes _ _ _ (at + 1) (drop (at + 1) code) (eq-eqb first escape e)))

      pub first_other : (get_or code at 0 ≡ escape → ⊥)
          → x ≡ found (entry_of_first (get_or code at 0)) (reads (first_reader (get_or code at 0)) (at + 1) (drop (at + 1) code))
          → x ≡ find_with table code at
      unfolding find_with
      first_other e h =
          let s = drop (at + 1) code in
          let other = ne_eqb first escape e in
          h ∙ ap (λ (t : Bool). found (cond t (get_or table 0 0) (entry_of_first first)) (reads (first_reader first) (at + 1) s)) (sym other)
          ∙ keeps table first 0 (first_reader first) (at + 1) s (first_gives first)
          ∙ ap (found_in table) (sym (first_here ∙ reads_no _ _ _ (at + 1) s other))

  -- what follows a first byte other than 0F, by the number n of its form
  module _ (first n : ℕ) (x : Result Found ℕ) (g : n ≡ (form_of_first first).number) where
    -- x is what the first byte gives
    abbrev FindsFirst : Type 0
    FindsFirst = x ≡ found (entry_of_first first) (reads (first_reader first) at (drop at code))

    form_is : form_of n ≡ form_of_first first
    form_is = ap form_of g ∙ first_form_is first

    pub first_stop : (r : ℕ) → n ≡ 0 → r ≡ refusal_of first → x ≡ Err r → FindsFirst
    unfolding first_reader
    first_stop r e p h =
        h ∙ ap Err p
        ∙ ap (found (entry_of_first first)) (sym (reads_yes (is_absent (form_of_first first)) _ _ at (drop at code) (ap (λ (k : ℕ). eqb k 0) (sym g ∙ e))))

    module _ (there : n ≡ 0 → ⊥) (o : Bool) (has : o ≡ has_operand (form_of n)) (entry : ℕ) (numbered : entry ≡ n * 2 ^ 24) where
      first_reads : reads (first_reader first) at (drop at code) ≡ reads (form_reader (form_of n) first 0) at (drop at code)
      unfolding first_reader
      first_reads =
          reads_no (is_absent (form_of_first first)) _ _ at (drop at code) (ap is_absent (sym form_is) ∙ form_there n there)
          ∙ ap (λ (f : Form). reads (form_reader f first 0) at (drop at code)) (sym form_is)

      first_found : x ≡ found entry (reads (form_reader (form_of n) first 0) at (drop at code)) → FindsFirst
      first_found h = h ∙ ap₂ found (numbered ∙ ap (λ (k : ℕ). k * 2 ^ 24) g) (sym first_reads)

      pub first_bare : o ≡ false → x ≡ found entry (reads (immediate_reader (form_of n) first 0 no_operand) at (drop at code)) → FindsFirst
      first_bare e h = first_found (h ∙ ap (found entry) (sym (form_bare n first 0 at (drop at code) there (sym has ∙ e))))

      pub first_modrm : o ≡ true → x ≡ found entry (reads (modrm_reader (form_of n) first 0) at (drop at code)) → FindsFirst
      first_modrm e h = first_found (h ∙ ap (found entry) (sym (form_on n first 0 at (drop at code) there (sym has ∙ e))))

  -- the second byte, after 0F
  module _ (table : List ℕ) (x : Result Found ℕ) where
    -- x is what the table and the second byte give
    abbrev FindsSecond : Type 0
    FindsSecond = x ≡ found_in table (reads (second_reader (form_in table) escape) at (drop at code))

    pub second_none : x ≡ Err code_ends → length code ≤ at → FindsSecond
    unfolding second_reader
    second_none e q = e ∙ ap (λ (s : List ℕ). found_in table (reads (second_reader (form_in table) escape) at s)) (sym (drop_of_length-le code q))

    module _ (q : at < length code) (entry : ℕ) (g : entry ≡ get_or table (get_or code at 0) 0) where
      abbrev second : ℕ
      second = get_or code at 0

      abbrev form : Form
      form = form_of (entry / 2 ^ 24)

      second_here : reads (second_reader (form_in table) escape) at (drop at code) ≡ reads (form_reader form escape second) (at + 1) (drop (at + 1) code)
      unfolding second_reader
      second_here =
          ap (reads (second_reader (form_in table) escape) at) (drop_here code at q)
          ∙ ap (λ (e : ℕ). reads (form_reader (form_of (e / 2 ^ 24)) escape second) (at + 1) (drop (at + 1) code)) (sym g)

      -- what the form asks for keeps the entry
      pub second_found : x ≡ found entry (reads (form_reader form escape second) (at + 1) (drop (at + 1) code)) → FindsSecond
      second_found h =
          let s = drop (at + 1) code in
          h ∙ ap (λ (e : ℕ). found e (reads (form_reader form escape second) (at + 1) s)) g
          ∙ keeps table escape second (form_reader form escape second) (at + 1) s (form_gives form escape second) ∙ ap (found_in table) (sym second_here)

      pub second_absent : entry / 2 ^ 24 ≡ 0 → x ≡ Err not_listed → FindsSecond
      unfolding form_reader
      second_absent e h =
          second_found (h ∙ ap (found entry) (sym (reads_yes _ _ _ (at + 1) (drop (at + 1) code) (ap (λ (k : ℕ). is_absent (form_of k)) e))))

      module _ (there : entry / 2 ^ 24 ≡ 0 → ⊥) (o : Bool) (has : o ≡ has_operand (form_of (entry / 2 ^ 24))) where
        pub second_bare : o ≡ false → x ≡ found entry (reads (immediate_reader form escape second no_operand) (at + 1) (drop (at + 1) code))
            → FindsSecond
        second_bare e h =
            second_found (h ∙ ap (found entry) (sym (form_bare (entry / 2 ^ 24) escape second (at + 1) (drop (at + 1) code) there (sym has ∙ e))))

        pub second_on : o ≡ true → x ≡ found entry (reads (modrm_reader form escape second) (at + 1) (drop (at + 1) code)) → FindsSecond
        second_on e h =
            second_found (h ∙ ap (found entry) (sym (form_on (entry / 2 ^ 24) escape second (at + 1) (drop (at + 1) code) there (sym has ∙ e))))

  module _ (form : Form) (first second entry : ℕ) (x : Result Found ℕ) where
    -- x is what a reader finds at a position
    abbrev Finds : Reader → ℕ → Type 0
    Finds reader n = x ≡ found entry (reads reader n (drop n code))

    -- the ModRM byte
    pub modrm_none : x ≡ Err code_ends → length code ≤ at → Finds (modrm_reader form first second) at
    unfolding modrm_reader
    modrm_none e q = e ∙ ap (λ (s : List ℕ). found entry (reads (modrm_reader form first second) at s)) (sym (drop_of_length-le code q))

    module _ (t : Bool) (g : t ≡ allows form (upper (get_or code at 0)) (middle (get_or code at 0)) (lower (get_or code at 0)))
        (q : at < length code) where
      abbrev modrm : ℕ
      modrm = get_or code at 0

      modrm_here : reads (modrm_reader form first second) at (drop at code)
          ≡ reads (cond t (sib_reader form first second modrm) (refuse not_allowed)) (at + 1) (drop (at + 1) code)
      unfolding modrm_reader
      modrm_here =
          ap (reads (modrm_reader form first second) at) (drop_here code at q)
          ∙ ap (λ (u : Bool). reads (cond u (sib_reader form first second modrm) (refuse not_allowed)) (at + 1) (drop (at + 1) code)) (sym g)

      pub modrm_stop : t ≡ false → x ≡ Err not_allowed → Finds (modrm_reader form first second) at
      modrm_stop e h = h ∙ ap (found entry) (sym (modrm_here ∙ reads_no t _ _ (at + 1) (drop (at + 1) code) e))

      pub modrm_on : t ≡ true → Finds (sib_reader form first second (get_or code at 0)) (at + 1) → Finds (modrm_reader form first second) at
      modrm_on e h = h ∙ ap (found entry) (sym (modrm_here ∙ reads_yes t _ _ (at + 1) (drop (at + 1) code) e))

    -- the SIB byte
    module _ (modrm : ℕ) where
      module _ (t : Bool) (g : t ≡ has_sib (upper modrm) (lower modrm)) where
        abbrev sib_next : Reader
        sib_next = byte (displacement_reader form first second modrm)

        sib_here : reads (sib_reader form first second modrm) at (drop at code)
            ≡ reads (cond t sib_next (displacement_reader form first second modrm 0)) at (drop at code)
        unfolding sib_reader
        sib_here = ap (λ (u : Bool). reads (cond u sib_next (displacement_reader form first second modrm 0)) at (drop at code)) (sym g)

        pub sib_none : t ≡ true → length code ≤ at → x ≡ Err code_ends → Finds (sib_reader form first second modrm) at
        sib_none e q h =
            h ∙ ap (found entry) (sym (sib_here ∙ reads_yes t _ _ at (drop at code) e ∙ ap (reads sib_next at) (drop_of_length-le code q)))

        pub sib_on : t ≡ true → at < length code → Finds (displacement_reader form first second modrm (get_or code at 0)) (at + 1)
            → Finds (sib_reader form first second modrm) at
        sib_on e q h =
            h ∙ ap (found entry) (sym (sib_here ∙ reads_yes t _ _ at (drop at code) e ∙ ap (reads sib_next at) (drop_here code at q)))

        pub sib_not : t ≡ false → Finds (displacement_reader form first second modrm 0) at → Finds (sib_reader form first second modrm) at
        sib_not e h = h ∙ ap (found entry) (sym (sib_here ∙ reads_no t _ _ at (drop at code) e))

      -- the displacement
      module _ (sib k : ℕ) (e : k ≡ displacement_size (upper modrm) (lower modrm) (lower sib)) where
        abbrev next : ℕ → Reader
        next d = immediate_reader form first second (operand_of modrm sib d)

        displacement_is : displacement_reader form first second modrm sib ≡ field k next
        unfolding displacement_reader
        displacement_is = ap (λ (j : ℕ). field j next) (sym e)

        pub displacement_none : length code - at < k → x ≡ Err code_ends → Finds (displacement_reader form first second modrm sib) at
        displacement_none q h =
            h ∙ ap (found entry) (sym (ap (λ (r : Reader). reads r at (drop at code)) displacement_is ∙ field_none code at k next q))

        pub displacement_on : (d : ℕ) (w : Operand) → k ≤ length code - at → d ≡ number (take k (drop at code)) → w ≡ operand_of modrm sib d
            → Finds (immediate_reader form first second w) (at + k) → Finds (displacement_reader form first second modrm sib) at
        displacement_on d w q y z h =
            h ∙ ap (λ (v : Operand). found entry (reads (immediate_reader form first second v) (at + k) (drop (at + k) code))) (z ∙ ap (operand_of modrm sib) y)
            ∙ ap (found entry) (sym (ap (λ (r : Reader). reads r at (drop at code)) displacement_is ∙ field_here code at k next q))

      -- a register: there is no displacement
      pub sib_register : (w : Operand) → 192 ≤ modrm → modrm < 256 → w ≡ operand_of modrm 0 0 → Finds (immediate_reader form first second w) at
          → Finds (sib_reader form first second modrm) at
      unfolding has_sib displacement_size
      sib_register w p q e h =
          let m : upper modrm ≡ 3 = omega arith in
          sib_not false (simp m) refl
          (displacement_on 0 0 (simp m) 0 w (omega arith) refl e (simp (add-zero at) h))

    -- the immediate
    module _ (w : Operand) (k : ℕ) (e : k ≡ immediate_size form) where
      abbrev after : ℕ → Reader
      after v = cond (accepts form v) (whole (instruction_of first second w v)) (refuse not_listed)

      immediate_is : immediate_reader form first second w ≡ field k after
      unfolding immediate_reader
      immediate_is = ap (λ (j : ℕ). field j after) (sym e)

      pub immediate_none : length code - at < k → x ≡ Err code_ends → Finds (immediate_reader form first second w) at
      immediate_none q h =
          h ∙ ap (found entry) (sym (ap (λ (r : Reader). reads r at (drop at code)) immediate_is ∙ field_none code at k after q))

      module _ (v : ℕ) (q : k ≤ length code - at) (y : v ≡ number (take k (drop at code))) (t : Bool) (g : t ≡ accepts form v) where
        immediate_here : reads (immediate_reader form first second w) at (drop at code) ≡ reads (after v) (at + k) (drop (at + k) code)
        immediate_here =
            ap (λ (r : Reader). reads r at (drop at code)) immediate_is ∙ field_here code at k after q
            ∙ ap (λ (d : ℕ). reads (after d) (at + k) (drop (at + k) code)) (sym y)

        pub immediate_on : t ≡ true → x ≡ found entry (good (instruction_of first second w v) (at + k)) → Finds (immediate_reader form first second w) at
        immediate_on e h = h ∙ ap (found entry) (sym (immediate_here ∙ reads_yes _ _ _ (at + k) (drop (at + k) code) (sym g ∙ e)))

  -- a number of one byte and of four
  pub number_1 : (k r : ℕ) → k ≡ 1 → r ≡ get_or code at 0 → at + k ≤ length code
      → r ≡ number (take k (drop at code))
  number_1 k r e h p =
      let q : at < length code = omega arith in
      h ∙ sym (simp (e, drop_here code at q, mul-zero, add-zero))

  pub number_4 : (k r : ℕ) → Sized k → (k ≡ 0 → ⊥) → (k ≡ 1 → ⊥) → at + k ≤ length code
      → r ≡ from_le_bytes w32 (get_or code at 0 ∷ get_or code (at + 1) 0 ∷ get_or code (at + 2) 0 ∷ get_or code (at + 3) 0 ∷ [])
      → r ≡ number (take k (drop at code))
  number_4 k r z n m p h =
      let q : at + 4 ≤ length code = omega (arith, z.four n m) in
      let p0 : at < length code = omega arith in
      let p1 : at + 1 < length code = omega arith in
      let p2 : at + 2 < length code = omega arith in
      let p3 : at + 3 < length code = omega arith in
      let e2 : at + 1 + 1 ≡ at + 2 = omega arith in
      let e3 : at + 2 + 1 ≡ at + 3 = omega arith in
      let sum : r ≡ get_or code at 0 + 256 * (get_or code (at + 1) 0 + 256 * (get_or code (at + 2) 0 + 256 * get_or code (at + 3) 0)) = omega (arith, h) in
      sum
      ∙ sym
      (simp (z.four n m, drop_here code at p0, drop_here code (at + 1) p1, e2, drop_here code (at + 2) p2, e3, drop_here code (at + 3) p3, mul-zero, add-zero))

  -- by the number n of a form
  module _ (n first second entry : ℕ) (x : Result Found ℕ) (w : Operand) where
    abbrev ends : Type 0
    ends = x ≡ found entry (reads (immediate_reader (form_of n) first second w) at (drop at code))

    -- an immediate that is no suffix
    pub number_on : (k v : ℕ) → (n ≡ 16 → ⊥) → k ≡ immediate_size (form_of n) → k ≤ length code - at → v ≡ number (take k (drop at code))
        → x ≡ found entry (good (instruction_of first second w v) (at + k)) → ends
    number_on k v plain e q y h = immediate_on (form_of n) first second entry x w k e v q y true (accepted_other n v plain) refl h

-- the ModRM byte of ADD, which allows registers alone
module _ (code : List ℕ) (at n first second entry : ℕ) (x : Result Found ℕ) (adds : n ≡ 11) (t : Bool)
    (g : t ≡ allows (form_of n) (upper (get_or code at 0)) (middle (get_or code at 0)) (lower (get_or code at 0))) (q : at < length code) where
  in_register : t ≡ true → (192 ≤ get_or code at 0) × (get_or code at 0 < 256)
  unfolding allows
  in_register e =
      let modrm = get_or code at 0 in
      let (mode, digit) = and_both (eqb (upper modrm) 3) _ (ap (λ (k : ℕ). allows (form_of k) (upper modrm) (middle modrm) (lower modrm)) (sym adds) ∙ sym g ∙ e) in
      let is : upper modrm ≡ 3 = eqb-true (upper modrm) 3 mode in
      (omega arith, omega arith)

  pub register_on : (w : Operand) → t ≡ true → w ≡ operand_of (get_or code at 0) 0 0
      → x ≡ found entry (reads (immediate_reader (form_of n) first second w) (at + 1) (drop (at + 1) code))
      → x ≡ found entry (reads (modrm_reader (form_of n) first second) at (drop at code))
  register_on w e o h =
      let (least, most) = in_register e in
      modrm_on code at (form_of n) first second entry x t g q e (sib_register code (at + 1) (form_of n) first second entry x (get_or code at 0) w least most o h)

pub ruleset reading = (
  rules,
  byte_there,
  first_plain,
  add_plain,
  bare_plain,
  first_none,
  first_on,
  first_other,
  first_stop,
  first_bare,
  first_modrm,
  second_none,
  second_absent,
  second_bare,
  second_on,
  modrm_none,
  modrm_stop,
  modrm_on,
  sib_register,
  sib_none,
  sib_on,
  sib_not,
  displacement_none,
  displacement_on,
  immediate_none,
  number_on,
  number_1,
  number_4,
)
