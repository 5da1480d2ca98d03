-- A record that has bytes is read from them, whatever follows: part by part, each reader finds the bytes of its part.
use Rattle.std.specs.Prelude.{ℕ, suc, ◌+◌, ◌^◌, ◌<◌, ◌≡◌, refl, Bool, true, false, cond, List, [], ◌∷◌, ◌++◌, eqb, length}
use Rattle.basis.proofs.Names.{sym, ap, ap₂, ◌∙◌, append_assoc, arith, add-zero, eqb-true, length-append}
use Rattle.words.specs.Number.{AllBytes, bytes}
use Rattle.codec.specs.Refusals.{not_listed}
use Rattle.codec.specs.Forms.{Form, is_absent, has_operand, allows, immediate_size, accepts}
use Rattle.codec.specs.Opcodes.{form_at, form_of_first, form_for, opcode_bytes, escape}
use Rattle.codec.specs.Operands.{upper, middle, lower, joined, has_sib, displacement_size, operand_of, no_operand}
use Rattle.codec.specs.Reader.{Reader, whole, refuse, byte, field, reads}
use Rattle.codec.specs.Reads.{instruction_of, immediate_reader, displacement_reader, sib_reader, modrm_reader, form_reader, second_reader, first_reader, instruction_reader}
use Rattle.codec.specs.Fits.{sib_fits, operand_fits, has_bytes}
use Rattle.codec.specs.Writes.{sib_bytes, displacement_bytes, operand_bytes, parts_bytes, bytes_of}
use Rattle.codec.specs.declared.Operand.{Operand}
use Rattle.codec.specs.declared.Instruction.{Instruction}
use Rattle.codec.specs.Answers.{good}
use Rattle.words.proofs.Laws.{and_both}
use Rattle.words.proofs.Numbers.{all_cons, all_append, all_none, all-bytes, length-bytes, number_fits}
use Rattle.codec.proofs.Joined.{upper-joined, middle-joined, lower-joined, joined_lt}
use Rattle.codec.proofs.Readers.{reads_yes, reads_no, field_reads}
use Rattle.codec.proofs.Given.{parts_reader}
use Rattle.codec.proofs.Facts.{Fit, fit, sib_there, sib_absent, zero_is, Parts, Opcoded, two, one, opcoded, bytewise}

-- after the opcode
module _ (form : Form) (first second : ℕ) where
  immediate_back : (w : Operand) (at v : ℕ) (rest : List ℕ) → v < 256 ^ immediate_size form → accepts form v ≡ true
      → reads (immediate_reader form first second w) at (bytes (immediate_size form) v ++ rest) ≡ good (instruction_of first second w v) (at + immediate_size form)
  unfolding immediate_reader
  immediate_back w at v rest h a =
      let k = immediate_size form in
      let next : ℕ → Reader = λ d. cond (accepts form d) (whole (instruction_of first second w d)) (refuse not_listed) in
      field_reads k at next (bytes k v) rest (length-bytes k v)
      ∙ ap (λ (d : ℕ). reads (next d) (at + k) rest) (number_fits k v h)
      ∙ reads_yes (accepts form v) _ _ (at + k) rest a

  -- the displacement, where the bytes before it have the operand's fields
  displacement_back : (w : Operand) (modrm sib at : ℕ) (rest : List ℕ) → operand_of modrm sib w.displacement ≡ w
      → w.displacement < 256 ^ displacement_size w.mode w.rm w.base
      → reads (displacement_reader form first second modrm sib) at (displacement_bytes w ++ rest)
      ≡ reads (immediate_reader form first second w) (at + length (displacement_bytes w)) rest
  unfolding displacement_reader displacement_bytes
  displacement_back w modrm sib at rest o h =
      let k = displacement_size w.mode w.rm w.base in
      let d = w.displacement in
      let next : ℕ → Reader = λ x. immediate_reader form first second (operand_of modrm sib x) in
      ap (λ (x : Operand). reads (field (displacement_size x.mode x.rm x.base) next) at (bytes k d ++ rest)) o
      ∙ field_reads k at next (bytes k d) rest (length-bytes k d)
      ∙ ap (λ (x : ℕ). reads (next x) (at + k) rest) (number_fits k d h)
      ∙ ap (λ (x : Operand). reads (immediate_reader form first second x) (at + k) rest) o
      ∙ ap (λ (j : ℕ). reads (immediate_reader form first second w) (at + j) rest) (sym (length-bytes k d))

  -- the ModRM byte of an operand that fits
  module _ (w : Operand) (f : Fit w) where
    abbrev modrm : ℕ
    modrm = joined w.mode w.reg w.rm

    abbrev mode_is : upper modrm ≡ w.mode
    mode_is = upper-joined w.mode w.reg w.rm f.modrm

    abbrev reg_is : middle modrm ≡ w.reg
    reg_is = middle-joined w.mode w.reg w.rm f.modrm

    abbrev rm_is : lower modrm ≡ w.rm
    rm_is = lower-joined w.mode w.reg w.rm f.modrm

    operand_is : (sib : ℕ) → upper sib ≡ w.scale → middle sib ≡ w.index → lower sib ≡ w.base
        → operand_of modrm sib w.displacement ≡ w
    operand_is sib p q r =
        λ i. record { mode = mode_is i; reg = reg_is i; rm = rm_is i; scale = p i; index = q i; base = r i; displacement = w.displacement }

    -- what is read after it, with an SIB byte and without
    abbrev next : Bool → Reader
    next t = cond t (byte (displacement_reader form first second modrm)) (displacement_reader form first second modrm 0)

    abbrev sib : Bool → List ℕ
    sib t = cond t (joined w.scale w.index w.base ∷ []) []

    sib_back : (t : Bool) (at : ℕ) (rest : List ℕ) → has_sib w.mode w.rm ≡ t
        → reads (next t) at (sib t ++ (displacement_bytes w ++ rest))
        ≡ reads (immediate_reader form first second w) (at + length (sib t) + length (displacement_bytes w)) rest
    sib_back true at rest e =
        let b = sib_there w.scale w.index w.base (simp e at f.sib) in
        displacement_back w modrm (joined w.scale w.index w.base) (at + 1) rest
        (operand_is (joined w.scale w.index w.base)
        (upper-joined w.scale w.index w.base b)
        (middle-joined w.scale w.index w.base b)
        (lower-joined w.scale w.index w.base b))
        f.displacement
    sib_back false at rest e =
        let z = sib_absent w.scale w.index w.base (simp e at f.sib) in
        displacement_back w modrm 0 at rest (operand_is 0 (sym z.0) (sym z.1.0) (sym z.1.1)) f.displacement
        ∙ ap (λ (k : ℕ). reads (immediate_reader form first second w) (k + length (displacement_bytes w)) rest) (sym (add-zero at))

    operand_back : (at : ℕ) (rest : List ℕ) → allows form w.mode w.reg w.rm ≡ true
        → reads (modrm_reader form first second) at (operand_bytes w ++ rest)
        ≡ reads (immediate_reader form first second w) (at + length (operand_bytes w)) rest
    unfolding modrm_reader sib_reader operand_bytes sib_bytes
    operand_back at rest a =
        let s = sib_bytes w in
        let d = displacement_bytes w in
        let l : at + 1 + length s + length d ≡ at + suc (length (s ++ d)) = omega (arith, length-append s d) in
        let ok : allows form (upper modrm) (middle modrm) (lower modrm) ≡ true =
        ap₂ (λ (x y : ℕ). allows form x y (lower modrm)) mode_is reg_is ∙ ap (allows form w.mode w.reg) rm_is ∙ a
        in
        reads_yes _ _ _ (at + 1) (s ++ d ++ rest) ok
        ∙ ap₂ (λ (x y : ℕ). reads (next (has_sib x y)) (at + 1) (s ++ d ++ rest)) mode_is rm_is
        ∙ ap (reads (next (has_sib w.mode w.rm)) (at + 1)) (append_assoc s d rest)
        ∙ sib_back (has_sib w.mode w.rm) (at + 1) rest refl
        ∙ ap (λ (k : ℕ). reads (immediate_reader form first second w) k rest) l

  -- what follows the opcode
  abbrev part_bytes : Bool → Operand → ℕ → List ℕ
  part_bytes t w v = cond t (operand_bytes w) [] ++ bytes (immediate_size form) v

  parts_back : (t : Bool) (w : Operand) (at v : ℕ) (rest : List ℕ) → has_operand form ≡ t → Parts form w v
      → reads (cond t (modrm_reader form first second) (immediate_reader form first second no_operand)) at (part_bytes t w v ++ rest)
      ≡ good (instruction_of first second w v) (at + length (part_bytes t w v))
  parts_back true w at v rest e p =
      let k = immediate_size form in
      let c = and_both (allows form w.mode w.reg w.rm) (operand_fits w) (simp e at p.operand) in
      let l : at + length (operand_bytes w) + k ≡ at + length (operand_bytes w ++ bytes k v) =
      omega (arith, length-append (operand_bytes w) (bytes k v), length-bytes k v)
      in
      ap (reads (modrm_reader form first second) at) (append_assoc (operand_bytes w) (bytes k v) rest)
      ∙ operand_back w (fit w c.1) at (bytes k v ++ rest) c.0
      ∙ immediate_back w (at + length (operand_bytes w)) v rest p.immediate p.accepted ∙ ap (good (instruction_of first second w v)) l
  parts_back false w at v rest e p =
      let k = immediate_size form in
      let z : w ≡ no_operand = zero_is w (simp e at p.operand) in
      immediate_back no_operand at v rest p.immediate p.accepted
      ∙ ap₂ (λ (x : Operand) (j : ℕ). good (instruction_of first second x v) (at + j)) (sym z) (sym (length-bytes k v))

-- the second byte that a record has, by its opcode bytes
abbrev pub second_of : ℕ → ℕ → ℕ
second_of first second = cond (eqb first escape) second 0

-- after the opcode bytes of a form that is there, it is read what the form asks for
pub opcode_reads : (first second : ℕ) (s : List ℕ) → is_absent (form_for first second) ≡ false
    → reads (instruction_reader form_at) 0 (opcode_bytes first second ++ s)
    ≡ reads (parts_reader (form_for first second) first (second_of first second)) (length (opcode_bytes first second)) s
unfolding instruction_reader second_reader first_reader form_reader
opcode_reads first second s = by (eqb first escape) refl
  where
    by : (t : Bool) → eqb first escape ≡ t → is_absent (cond t (form_at second) (form_of_first first)) ≡ false
        → reads (instruction_reader form_at) 0 (cond t (first ∷ second ∷ []) (first ∷ []) ++ s)
        ≡ reads (parts_reader (cond t (form_at second) (form_of_first first)) first (cond t second 0)) (length (cond t (first ∷ second ∷ []) (first ∷ []))) s
    by true e there = reads_yes _ _ _ 1 (second ∷ s) e ∙ reads_no _ _ _ 2 s there
    by false e there = reads_no _ _ _ 1 s e ∙ reads_no _ _ _ 1 s there ∙ reads_no _ _ _ 1 s there

second_is : (first second : ℕ) → Opcoded first second → second_of first second ≡ second
second_is first second (two e h) = simp e
second_is first second (one e h z) = simp (e, z)

-- What has bytes is read from them, whatever follows.
pub bytes_read : (i : Instruction) (rest : List ℕ) → has_bytes i ≡ true
    → reads (instruction_reader form_at) 0 (bytes_of i ++ rest) ≡ good i (length (bytes_of i))
unfolding bytes_of parts_bytes
bytes_read i rest e =
    let b = bytewise i e in
    let form = form_for i.first i.second in
    let start = opcode_bytes i.first i.second in
    let s = parts_bytes form i.operand i.immediate in
    ap (reads (instruction_reader form_at) 0) (append_assoc start s rest)
    ∙ opcode_reads i.first i.second (s ++ rest) b.parts.listed
    ∙ parts_back form i.first (second_of i.first i.second) (has_operand form) i.operand (length start) i.immediate rest refl b.parts
    ∙ ap₂ (λ (k m : ℕ). good (instruction_of i.first k i.operand i.immediate) m)
    (second_is i.first i.second (opcoded i.first i.second b.opcode)) (sym (length-append start s))

-- Its bytes are bytes: each field fits its place.
sib_bytes_lem : (t : Bool) (scale index base : ℕ) → sib_fits t scale index base ≡ true
    → AllBytes (cond t (joined scale index base ∷ []) [])
sib_bytes_lem true scale index base e =
    let b = sib_there scale index base e in
    all_cons (joined scale index base) [] (joined_lt scale index base b) all_none
sib_bytes_lem false scale index base e = all_none

operand_bytes_lem : (w : Operand) → Fit w → AllBytes (operand_bytes w)
unfolding operand_bytes sib_bytes displacement_bytes
operand_bytes_lem w f =
    all_cons (joined w.mode w.reg w.rm) (sib_bytes w ++ displacement_bytes w) (joined_lt w.mode w.reg w.rm f.modrm)
    (all_append (sib_bytes w) (displacement_bytes w)
    (sib_bytes_lem (has_sib w.mode w.rm) w.scale w.index w.base f.sib)
    (all-bytes (displacement_size w.mode w.rm w.base) w.displacement))

parts_bytes_lem : (t : Bool) (form : Form) (w : Operand) (v : ℕ) → has_operand form ≡ t → Parts form w v
    → AllBytes (cond t (operand_bytes w) [] ++ bytes (immediate_size form) v)
parts_bytes_lem true form w v e p =
    let c = and_both (allows form w.mode w.reg w.rm) (operand_fits w) (simp e at p.operand) in
    all_append (operand_bytes w) (bytes (immediate_size form) v) (operand_bytes_lem w (fit w c.1)) (all-bytes (immediate_size form) v)
parts_bytes_lem false form w v e p = all-bytes (immediate_size form) v

opcode_bytes_lem : (first second : ℕ) → Opcoded first second → AllBytes (opcode_bytes first second)
opcode_bytes_lem first second (two e h) = simp e (all_cons first (second ∷ []) (omega (arith, eqb-true first escape e)) (all_cons second [] h all_none))
opcode_bytes_lem first second (one e h z) = simp e (all_cons first [] h all_none)

pub bytes_are_bytes : (i : Instruction) → has_bytes i ≡ true → AllBytes (bytes_of i)
unfolding bytes_of parts_bytes
bytes_are_bytes i e =
    let b = bytewise i e in
    let form = form_for i.first i.second in
    all_append (opcode_bytes i.first i.second) (parts_bytes form i.operand i.immediate)
    (opcode_bytes_lem i.first i.second (opcoded i.first i.second b.opcode))
    (parts_bytes_lem (has_operand form) form i.operand i.immediate refl b.parts)
