-- What is read spells the bytes that it was read from: each part that a reader asks for is a part of the record's bytes.
use Rattle.std.specs.Prelude.{ℕ, suc, ◌+◌, ◌^◌, ◌<◌, ◌≡◌, refl, Bool, true, false, cond, ◌&&◌, List, [], ◌∷◌, ◌++◌, eqb, take, drop}
use Rattle.basis.proofs.Names.{sym, ap, subst, ◌∙◌, false≢true, append_assoc, append-nil, arith, lt-ltb, take-add}
use Rattle.words.specs.Number.{AllBytes, number, bytes}
use Rattle.codec.specs.Refusals.{not_listed}
use Rattle.codec.specs.Forms.{Form, is_absent, has_operand, allows, immediate_size, accepts}
use Rattle.codec.specs.Opcodes.{form_at, form_of_first, form_for, opcode_bytes, escape}
use Rattle.codec.specs.Operands.{upper, middle, lower, has_sib, displacement_size, operand_of, no_operand}
use Rattle.codec.specs.Reader.{Reader, whole, refuse, byte, field, reads}
use Rattle.codec.specs.Reads.{instruction_of, immediate_reader, displacement_reader, sib_reader, modrm_reader, form_reader, second_reader, first_reader, instruction_reader}
use Rattle.codec.specs.Fits.{sib_fits, operand_fits, operand_is_zero, opcode_fits, has_bytes}
use Rattle.codec.specs.Writes.{sib_bytes, displacement_bytes, operand_bytes, parts_bytes, bytes_of}
use Rattle.codec.specs.declared.Operand.{Operand}
use Rattle.codec.specs.declared.Instruction.{Instruction}
use Rattle.codec.specs.Answers.{good}
use Rattle.words.proofs.Numbers.{all_drop, all_tail, bytes_taken, number_taken}
use Rattle.codec.proofs.Joined.{joined_fields, fields}
use Rattle.codec.proofs.Readers.{field_read}
use Rattle.codec.proofs.Given.{parts_reader}
use Rattle.codec.proofs.Facts.{there_sib, absent_sib, fit_true, bytewise_true}

-- Whatever a reader may give after the bytes `before` has bytes: these, and those that are still read.
abbrev Spells : List ℕ → Reader → Type 0
Spells before (whole i) = (has_bytes i ≡ true) × (bytes_of i ≡ before)
Spells before (refuse n) = Unit {0}
Spells before (byte next) = (b : ℕ) → b < 256 → Spells (before ++ (b ∷ [])) (next b)
Spells before (field k next) = (v : ℕ) → v < 256 ^ k → Spells (before ++ bytes k v) (next v)

spells_cond : (t : Bool) (before : List ℕ) (p q : Reader) → (t ≡ true → Spells before p) → (t ≡ false → Spells before q)
    → Spells before (cond t p q)
spells_cond true before p q f g = f refl
spells_cond false before p q f g = g refl

record Spelled (before : List ℕ) (at : ℕ) (s : List ℕ) (i : Instruction) (n : ℕ) : Type 0 where
  size : ℕ
  ends : n ≡ at + size
  has : has_bytes i ≡ true
  spelt : bytes_of i ≡ before ++ take size s

spelled : (r : Reader) (before : List ℕ) (at : ℕ) (s : List ℕ) (i : Instruction) (n : ℕ) → Spells before r → AllBytes s
    → reads r at s ≡ good i n
    → Spelled before at s i n
spelled (whole j) before at s i n h b e =
    let p : j ≡ i = cc in
    let q : at ≡ n = cc in
    record { size = 0; ends = omega arith; has = subst (λ (x : Instruction). has_bytes x ≡ true) p h.0; spelt = ap bytes_of (sym p) ∙ h.1 ∙ sym (append-nil before) }
spelled (refuse m) before at s i n h b e = absurd (false≢true (cc))
spelled (byte next) before at [] i n h b e = absurd (false≢true (cc))
spelled (byte next) before at (x ∷ s) i n h b e =
    let r = spelled (next x) (before ++ (x ∷ [])) (at + 1) s i n (h x (b 0)) (all_tail x s b) e in
    record { size = suc r.size; ends = omega (arith, r.ends); has = r.has; spelt = r.spelt ∙ append_assoc before (x ∷ []) (take r.size s) }
spelled (field k next) before at s i n h b e =
    let f = field_read k at next s i n e in
    let v = number (take k s) in
    let r = spelled (next v) (before ++ bytes k v) (at + k) (drop k s) i n (h v (number_taken k s b)) (all_drop k s b) f.1 in
    record {
      size = k + r.size;
      ends = omega (arith, r.ends);
      has = r.has;
      spelt =
          r.spelt ∙ append_assoc before (bytes k v) (take r.size (drop k s))
          ∙ ap (λ (l : List ℕ). before ++ l) (ap (λ (l : List ℕ). l ++ take r.size (drop k s)) (bytes_taken k s b f.0) ∙ sym (take-add k r.size s));
    }

-- after the opcode bytes of a form that is there
module _ (first second : ℕ) (z : opcode_fits first second ≡ true) (y : is_absent (form_for first second) ≡ false) where
  abbrev form : Form
  form = form_for first second

  abbrev opcode : List ℕ
  opcode = opcode_bytes first second

  immediate_spells : (w : Operand) (before : List ℕ)
      → cond (has_operand form) (allows form w.mode w.reg w.rm && operand_fits w) (operand_is_zero w) ≡ true
      → cond (has_operand form) (operand_bytes w) [] ≡ before
      → Spells (opcode ++ before) (immediate_reader form first second w)
  unfolding immediate_reader bytes_of parts_bytes
  immediate_spells w before p q v h =
      spells_cond (accepts form v) _ (whole (instruction_of first second w v)) (refuse not_listed)
      (λ a. (
        bytewise_true (instruction_of first second w v) (record { opcode = z; parts = record { listed = y; operand = p; immediate = h; accepted = a } }),
        ap (λ (s : List ℕ). opcode ++ (s ++ bytes (immediate_size form) v)) q ∙ sym (append_assoc opcode before (bytes (immediate_size form) v)),
      ))
      (λ a. tt)

  -- the operand of a ModRM byte and an SIB byte
  module _ (x : has_operand form ≡ true) (modrm sib : ℕ) (m : modrm < 256)
      (a : allows form (upper modrm) (middle modrm) (lower modrm) ≡ true) where
    abbrev size : ℕ
    size = displacement_size (upper modrm) (lower modrm) (lower sib)

    operand_spells : (before : List ℕ) → sib_fits (has_sib (upper modrm) (lower modrm)) (upper sib) (middle sib) (lower sib) ≡ true
        → ((d : ℕ) → sib_bytes (operand_of modrm sib d) ≡ before)
        → (d : ℕ) → d < 256 ^ size
        → Spells (((opcode ++ (modrm ∷ [])) ++ before) ++ bytes size d) (immediate_reader form first second (operand_of modrm sib d))
    unfolding operand_bytes displacement_bytes
    operand_spells before s e d h =
        let w = operand_of modrm sib d in
        let f = fit_true w (record { modrm = fields modrm m; sib = s; displacement = h }) in
        simp append_assoc
        (immediate_spells w (modrm ∷ (before ++ bytes size d)) (simp (x, a, f))
        (simp (x, joined_fields modrm) (ap (λ (u : List ℕ). modrm ∷ (u ++ bytes size d)) (e d))))

  sib_spells : (x : has_operand form ≡ true) (modrm : ℕ) → modrm < 256
      → allows form (upper modrm) (middle modrm) (lower modrm) ≡ true
      → Spells (opcode ++ (modrm ∷ [])) (sib_reader form first second modrm)
  unfolding sib_reader displacement_reader sib_bytes
  sib_spells x modrm m a =
      spells_cond (has_sib (upper modrm) (lower modrm)) _ (byte (displacement_reader form first second modrm)) (displacement_reader form first second modrm 0)
      (λ t sib b.
      let s = there_sib (upper sib) (middle sib) (lower sib) (fields sib b) in
      operand_spells x modrm sib m a (sib ∷ []) (simp (t, s)) (λ d. simp (t, joined_fields sib)))
      (λ t d h. simp append-nil at (operand_spells x modrm 0 m a [] (simp (t, absent_sib)) (λ d. simp t) d h))

  modrm_spells : has_operand form ≡ true → Spells opcode (modrm_reader form first second)
  unfolding modrm_reader
  modrm_spells x modrm m =
      spells_cond (allows form (upper modrm) (middle modrm) (lower modrm)) _ (sib_reader form first second modrm) _ (λ a. sib_spells x modrm m a) (λ a. tt)

  parts_spells : Spells opcode (parts_reader form first second)
  unfolding operand_is_zero
  parts_spells =
      spells_cond (has_operand form) _ (modrm_reader form first second) (immediate_reader form first second no_operand) modrm_spells
      (λ x. simp append-nil at (immediate_spells no_operand [] (simp x) (simp x)))

-- by whether the first is 0F
form_spells : (first second : ℕ) (t : Bool) → eqb first escape ≡ t → opcode_fits first second ≡ true
    → Spells (cond t (first ∷ second ∷ []) (first ∷ [])) (form_reader (cond t (form_at second) (form_of_first first)) first second)
unfolding form_reader
form_spells first second t e z =
    rw (← e) (spells_cond (is_absent (form_for first second)) _ _ _ (λ y. tt) (λ y. parts_spells first second z y))

instruction_spells : Spells [] (instruction_reader form_at)
unfolding instruction_reader second_reader first_reader opcode_fits
instruction_spells first p =
    spells_cond (eqb first escape) _ (second_reader form_at first) _
    (λ e second l. form_spells first second true e (simp (e, lt-ltb second 256 l)))
    (λ e. spells_cond (is_absent (form_of_first first)) _ _ _ (λ y. tt) (λ y. form_spells first 0 false e (simp (e, lt-ltb first 256 p))))

-- What is read has bytes, and they are those that it was read from.
pub read_spells : (s : List ℕ) (i : Instruction) (n : ℕ) → AllBytes s → reads (instruction_reader form_at) 0 s ≡ good i n
    → (has_bytes i ≡ true) × (bytes_of i ≡ take n s)
read_spells s i n b e =
    let r = spelled (instruction_reader form_at) [] 0 s i n instruction_spells b e in
    let l : r.size ≡ n = omega (arith, r.ends) in
    (r.has, r.spelt ∙ ap (λ (k : ℕ). take k s) l)
