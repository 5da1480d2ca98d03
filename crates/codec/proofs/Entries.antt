-- Our table says of each second byte what the list says: the operations by a computation for the 256 bytes, the other parts by arithmetic. And the
-- number of a first byte's form names that form.
use Rattle.std.specs.Prelude.{List, [], ◌∷◌, ℕ, zero, suc, ◌+◌, ◌/◌, ◌^◌, ◌≤◌, ◌<◌, ◌≡◌, refl, Bool, true, false, cond, ◌&&◌, eqb, leb, ltb, length, get_or, ◌%◌}
use Rattle.basis.specs.Names.{none, some}
use Rattle.basis.proofs.Names.{sym, ap, subst, ◌∙◌, arith, rules, zero-add, add-zero, leb-true, ltb-true, ltb-false, eq-eqb, ne_eqb, get_or-eq_default}
use Rattle.lanes.specs.Operations.{Operation, Described, described, KEEP}
use Rattle.codec.specs.Contents.{lines, OneByte, loops}
use Rattle.codec.specs.Opcodes.{form_at, operation_at, is_of, form_of_first, form_for, escape}
use Rattle.codec.specs.Table.{form_of, entry_at, entry_of_first, listed, opcode_table, form_in}
use Rattle.codec.specs.Finding.{entry_for}
use Rattle.codec.specs.inner.Entries.{shift_of, operation_in}
use Rattle.codec.specs.Forms.{absent, is_among, memory_size}
use Rattle.codec.specs.declared.Instruction.{Instruction}
use Rattle.codec.specs.Reader.{byte}
use Rattle.codec.specs.Reads.{form_reader, second_reader, first_reader, instruction_reader}
use Rattle.codec.proofs.Bytes.{all_pass, found_each, found_same, found_has, form_passes, form_beyond, among}
use Rattle.codec.proofs.FormNumbers.{in_range}

-- a list of what a function gives, at a place
get_d_listed : {A : Type 0} (f : ℕ → A) (z : A) (from count k : ℕ) → k < count → get_or (listed f from count) k z ≡ f (from + k)
get_d_listed f z from zero k h = absurd (omega arith)
get_d_listed f z from (suc count) zero h = ap f (sym (add-zero from))
get_d_listed f z from (suc count) (suc k) h =
    get_d_listed f z (suc from) count k (omega arith) ∙ ap f (let z : suc from + k ≡ from + suc k = omega arith in z)

length-listed : {A : Type 0} (f : ℕ → A) (from count : ℕ) → length (listed f from count) ≡ count
length-listed f from zero = refl
length-listed f from (suc count) = ap suc (length-listed f (suc from) count)

at_byte : {A : Type 0} (f : ℕ → A) (z : A) (second : ℕ) → second < 256 → get_or (listed f 0 256) second z ≡ f second
at_byte f z second h = get_d_listed f z 0 256 second h ∙ ap f (zero-add second)

-- two lists of what functions give agree at each place
pub agree : {A : Type 0} (f g : ℕ → A) (z : A) (count k : ℕ) → listed f 0 count ≡ listed g 0 count → k < count → f k ≡ g k
agree f g z count k e h =
    ap f (sym (zero-add k)) ∙ sym (get_d_listed f z 0 count k h) ∙ ap (λ l. get_or l k z) e ∙ get_d_listed g z 0 count k h ∙ ap g (zero-add k)

pub table_entry : (second : ℕ) → second < 256 → get_or opcode_table second 0 ≡ entry_at second
unfolding opcode_table
table_entry second h = at_byte entry_at 0 second h

table_past : (second : ℕ) → 256 ≤ second → get_or opcode_table second 0 ≡ 0
unfolding opcode_table
table_past second h =
    let g : length (listed entry_at 0 256) ≤ second = subst (λ (n : ℕ). n ≤ second) (sym (length-listed entry_at 0 256)) h in
    get_or-eq_default (listed entry_at 0 256) 0 g

-- each part of an entry but the form's number is less than 256
module _ (second : ℕ) where
  size_fits : memory_size (form_at second) < 256
  size_fits = ltb-true _ _ (form_passes (λ f. ltb (memory_size f) 256) refl refl second)

  of_operation : (part : Described → ℕ) → part (described KEEP) < 256 → all_pass (λ x. ltb (part (described x.operation)) 256) lines ≡ true
      → part (described (operation_at second 2)) < 256
  unfolding operation_at
  of_operation part z h =
      found_has (λ x. x.operation) KEEP (λ o. part (described o) < 256) (λ x. eqb second x.second && elim x.digit [ none ↦ true | some d ↦ eqb 2 d ])
      (λ x. ltb (part (described x.operation)) 256) z (λ x e q. ltb-true _ _ q) lines h

  width_fits : (described (operation_at second 2)).width < 256
  width_fits = of_operation (λ o. o.width) (omega arith) refl

  number_fits : (described (operation_at second 2)).number < 256
  number_fits = of_operation (λ o. o.number) (omega arith) refl

  -- so each part comes back from the entry: the form, the size of an operand in memory, the lane width
  form_named : form_of (form_at second).number ≡ form_at second
  unfolding form_at
  form_named = found_same (λ x. x.form) absent (λ f. form_of f.number) (λ f. f) (λ x. eqb second x.second) refl lines refl

  pub form_back : form_of (entry_at second / 2 ^ 24) ≡ form_at second
  form_back =
      let e : entry_at second / 2 ^ 24 ≡ (form_at second).number = omega (arith, size_fits, width_fits, number_fits) in
      ap form_of e ∙ form_named

  pub size_back : entry_at second / 2 ^ 16 % 256 ≡ memory_size (form_at second)
  size_back = omega (arith, size_fits, width_fits, number_fits)

  pub width_back : entry_at second / 2 ^ 8 % 256 ≡ (described (operation_at second 2)).width
  width_back = omega (arith, width_fits, number_fits)

-- and so do the operations: after a second byte that has digits with each of eight, after another with any
abbrev with_digits : List ℕ
with_digits = 0x18 ∷ 0x71 ∷ 0x72 ∷ 0x73 ∷ 0xae ∷ []

digits_back : (second : ℕ) → is_among second with_digits ≡ true → listed (operation_in (entry_at second)) 0 8 ≡ listed (operation_at second) 0 8
unfolding form_at operation_at operation_in shift_of
digits_back second e = among (λ b. listed (operation_in (entry_at b)) 0 8 ≡ listed (operation_at b) 0 8) second with_digits e refl refl refl refl refl

abbrev with_any : (ℕ → Operation) → ℕ → Operation
with_any f b = cond (is_among b with_digits) KEEP (f b)

operations_back : (digit : ℕ) → listed (with_any (λ b. operation_in (entry_at b) digit)) 0 256 ≡ listed (with_any (λ b. operation_at b digit)) 0 256
unfolding form_at operation_at operation_in shift_of
operations_back digit = refl

-- It has the form of every number.
pub form_is : (second : ℕ) → form_in opcode_table second ≡ form_at second
form_is second = by (ltb second 256) refl
  where
    by : (t : Bool) → ltb second 256 ≡ t → form_in opcode_table second ≡ form_at second
    by true e =
        let h = ltb-true second 256 e in
        ap (λ (x : ℕ). form_of (x / 2 ^ 24)) (table_entry second h) ∙ form_back second
    by false e =
        let h = ltb-false second 256 e in
        ap (λ (x : ℕ). form_of (x / 2 ^ 24)) (table_past second h) ∙ sym (form_beyond second h)

-- It has the operation of every second byte, with every reg.
pub operation_is : (second digit : ℕ) → second < 256 → digit < 8 → operation_in (get_or opcode_table second 0) digit ≡ operation_at second digit
operation_is second digit h g =
    ap (λ (x : ℕ). operation_in x digit) (table_entry second h)
    ∙ by (is_among second with_digits) refl
    (agree (with_any (λ b. operation_in (entry_at b) digit)) (with_any (λ b. operation_at b digit)) KEEP 256 second (operations_back digit) h)
  where
    by : (t : Bool) → is_among second with_digits ≡ t → cond t KEEP (operation_in (entry_at second) digit) ≡ cond t KEEP (operation_at second digit)
        → operation_in (entry_at second) digit ≡ operation_at second digit
    by true e q = agree (operation_in (entry_at second)) (operation_at second) KEEP 8 digit (digits_back second e) g
    by false e q = q

-- So it asks for the same bytes as the list.
pub same_reader : instruction_reader (form_in opcode_table) ≡ instruction_reader form_at
unfolding instruction_reader second_reader
same_reader =
    λ i. byte (λ first. cond (eqb first escape) (byte (λ second. form_reader (form_is second i) first second)) (first_reader first))

-- the number of a first byte's form, from what the code has found
module _ (first : ℕ) where
  -- a byte that an instruction has not
  outside : (low count : ℕ) → (low ≤ first → first < low + count → ⊥) → (leb low first && ltb first (low + count)) ≡ false
  outside low count h = by (leb low first) (ltb first (low + count)) refl refl
    where
      by : (a b : Bool) → leb low first ≡ a → ltb first (low + count) ≡ b → (a && b) ≡ false
      by true true p q = absurd (h (leb-true low first p) (ltb-true first (low + count) q))
      by true false p q = refl
      by false b p q = refl

  pub first_set : first / 8 ≡ 0x17 → 10 ≡ (form_of_first first).number
  unfolding form_of_first
  first_set e =
      in_range (λ k. 10 ≡ (form_of_first k).number) 0xb8 8 first (omega arith) (omega arith) (refl, (refl, (refl, (refl, (refl, (refl, (refl, (refl, tt))))))))

  pub first_add : first ≡ 0x83 → 11 ≡ (form_of_first first).number
  unfolding form_of_first
  first_add e = simp e

  pub first_decrement : first / 8 ≡ 0x09 → 12 ≡ (form_of_first first).number
  unfolding form_of_first
  first_decrement e =
      in_range (λ k. 12 ≡ (form_of_first k).number) 0x48 8 first (omega arith) (omega arith) (refl, (refl, (refl, (refl, (refl, (refl, (refl, (refl, tt))))))))

  pub first_jump : first ≡ 0x75 → 13 ≡ (form_of_first first).number
  unfolding form_of_first
  first_jump e = simp e

  pub first_absent : (first / 8 ≡ 0x17 → ⊥) → (first ≡ 0x83 → ⊥) → (first / 8 ≡ 0x09 → ⊥) → (first ≡ 0x75 → ⊥) → 0 ≡ (form_of_first first).number
  unfolding form_of_first
  first_absent a b c d =
      simp (outside 0x83 1 (λ p q. b (omega arith)), outside 0x48 8 (λ p q. c (omega arith)), outside 0x75 1 (λ p q. d (omega arith)), outside 0xb8 8 (λ p q. a (omega arith)))

pub ruleset first_forms = (rules, first_set, first_add, first_decrement, first_jump, first_absent)

-- the form of a first byte comes back from its number
pub first_form_is : (first : ℕ) → form_of (form_of_first first).number ≡ form_of_first first
unfolding form_of_first
first_form_is first =
    found_each (λ (x : OneByte). x.form) absent (λ f. form_of f.number ≡ f) (λ x. is_of x first) refl loops
    (λ e. refl, (λ e. refl, (λ e. refl, (λ e. refl, tt))))

-- the form of the opcode bytes
module _ (first second : ℕ) where
  pub form_two : first ≡ escape → form_at second ≡ form_for first second
  form_two e = simp (eq-eqb first escape e)

  pub form_one : (n : ℕ) → (first ≡ escape → ⊥) → n ≡ (form_of_first first).number → form_of n ≡ form_for first second
  form_one n e h = ap form_of h ∙ first_form_is first ∙ simp (ne_eqb first escape e)

pub ruleset form_of_both = (rules, form_is, form_two, form_one)

-- the entry of a first byte has its form's number
pub entry_numbered : (first : ℕ) → entry_of_first first / 2 ^ 24 ≡ (form_of_first first).number
entry_numbered first = omega arith

-- So what is found of an instruction names its form.
pub entry_form : (i : Instruction) → form_of (entry_for opcode_table i / 2 ^ 24) ≡ form_for i.first i.second
entry_form i = by (eqb i.first escape)
  where
    by : (t : Bool) → form_of (cond t (get_or opcode_table i.second 0) (entry_of_first i.first) / 2 ^ 24) ≡ cond t (form_at i.second) (form_of_first i.first)
    by true = form_is i.second
    by false = ap form_of (entry_numbered i.first) ∙ first_form_is i.first
