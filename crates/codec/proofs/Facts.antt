-- The writer's tests as facts: all of a list of tests is true exactly where each of them is.
use Rattle.std.specs.Prelude.{ℕ, ◌^◌, ◌<◌, ◌≡◌, refl, Bool, true, false, not, cond, ◌&&◌, List, [], ◌∷◌, eqb, ltb}
use Rattle.basis.proofs.Names.{sym, ap, ◌∙◌, false≢true, lt-ltb, ltb-true, eqb-true, not-true}
use Rattle.codec.specs.Forms.{Form, is_absent, has_operand, allows, immediate_size, accepts}
use Rattle.codec.specs.Opcodes.{form_for, escape}
use Rattle.codec.specs.Table.{form_of}
use Rattle.codec.specs.Operands.{has_sib, displacement_size, no_operand}
use Rattle.codec.specs.inner.Fields.{Fields}
use Rattle.codec.specs.Fits.{all, fits, sib_fits, operand_fits, operand_is_zero, parts_fit, opcode_fits, has_bytes}
use Rattle.codec.specs.declared.Operand.{Operand}
use Rattle.codec.specs.declared.Instruction.{Instruction}
use Rattle.words.proofs.Laws.{and_both}

abbrev All : List Bool → Type 0
All [] = Unit {0}
All (t ∷ ts) = (t ≡ true) × All ts

all_true : (ts : List Bool) → all ts ≡ true → All ts
all_true [] e = tt
all_true (true ∷ ts) e = (refl, all_true ts e)
all_true (false ∷ ts) e = absurd (false≢true (cc))

true_all : (ts : List Bool) → All ts → all ts ≡ true
true_all [] h = refl
true_all (true ∷ ts) h = true_all ts h.1
true_all (false ∷ ts) h = h.0

-- the fields of an SIB byte, and of none
pub sib_there : (scale index base : ℕ) → sib_fits true scale index base ≡ true → Fields scale index base
unfolding sib_fits
sib_there scale index base e =
    let h = all_true (ltb scale 4 ∷ ltb index 8 ∷ ltb base 8 ∷ []) e in
    record { upper_fits = ltb-true _ _ h.0; middle-fits = ltb-true _ _ h.1.0; lower-fits = ltb-true _ _ h.1.1.0 }

pub there_sib : (scale index base : ℕ) → Fields scale index base → sib_fits true scale index base ≡ true
unfolding sib_fits
there_sib scale index base f =
    true_all (ltb scale 4 ∷ ltb index 8 ∷ ltb base 8 ∷ []) (lt-ltb _ _ f.upper_fits, (lt-ltb _ _ f.middle-fits, (lt-ltb _ _ f.lower-fits, tt)))

pub sib_absent : (scale index base : ℕ) → sib_fits false scale index base ≡ true → (scale ≡ 0) × ((index ≡ 0) × (base ≡ 0))
unfolding sib_fits
sib_absent scale index base e =
    let h = all_true (eqb scale 0 ∷ eqb index 0 ∷ eqb base 0 ∷ []) e in
    (eqb-true scale 0 h.0, (eqb-true index 0 h.1.0, eqb-true base 0 h.1.1.0))

pub absent_sib : sib_fits false 0 0 0 ≡ true
unfolding sib_fits
absent_sib = refl

-- an operand whose fields fit their places
pub record Fit (w : Operand) : Type 0 where
  pub modrm : Fields w.mode w.reg w.rm
  pub sib : sib_fits (has_sib w.mode w.rm) w.scale w.index w.base ≡ true
  pub displacement : w.displacement < 256 ^ displacement_size w.mode w.rm w.base

abbrev tests : Operand → List Bool
tests w =
    ltb w.mode 4
    ∷ ltb w.reg 8
    ∷ ltb w.rm 8
    ∷ sib_fits (has_sib w.mode w.rm) w.scale w.index w.base
    ∷ fits (displacement_size w.mode w.rm w.base) w.displacement
    ∷ []

pub fit : (w : Operand) → operand_fits w ≡ true → Fit w
unfolding operand_fits
fit w e =
    let h = all_true (tests w) e in
    record {
      modrm = record { upper_fits = ltb-true _ _ h.0; middle-fits = ltb-true _ _ h.1.0; lower-fits = ltb-true _ _ h.1.1.0 };
      sib = h.1.1.1.0;
      displacement = ltb-true _ _ h.1.1.1.1.0;
    }

pub fit_true : (w : Operand) → Fit w → operand_fits w ≡ true
unfolding operand_fits
fit_true w f =
    true_all (tests w)
    (lt-ltb _ _ f.modrm.upper_fits, (lt-ltb _ _ f.modrm.middle-fits, (lt-ltb _ _ f.modrm.lower-fits, (f.sib, (lt-ltb _ _ f.displacement, tt)))))

-- the fields of both bytes
pub modrm_fields : (w : Operand) → operand_fits w ≡ true → Fields w.mode w.reg w.rm
modrm_fields w e = (fit w e).modrm

pub sib_fields : (w : Operand) (t : Bool) → operand_fits w ≡ true → t ≡ has_sib w.mode w.rm → t ≡ true
    → Fields w.scale w.index w.base
sib_fields w t e g h =
    sib_there w.scale w.index w.base (simp (sym g ∙ h) at (fit w e).sib)

-- an operand of zeros
pub zero_is : (w : Operand) → operand_is_zero w ≡ true → w ≡ no_operand
unfolding operand_is_zero
zero_is w e =
    let h = all_true (eqb w.mode 0 ∷ eqb w.reg 0 ∷ eqb w.rm 0 ∷ eqb w.scale 0 ∷ eqb w.index 0 ∷ eqb w.base 0 ∷ eqb w.displacement 0 ∷ []) e in
    λ i.
    record {
      mode = eqb-true w.mode 0 h.0 i;
      reg = eqb-true w.reg 0 h.1.0 i;
      rm = eqb-true w.rm 0 h.1.1.0 i;
      scale = eqb-true w.scale 0 h.1.1.1.0 i;
      index = eqb-true w.index 0 h.1.1.1.1.0 i;
      base = eqb-true w.base 0 h.1.1.1.1.1.0 i;
      displacement = eqb-true w.displacement 0 h.1.1.1.1.1.1.0 i;
    }

-- what follows the opcode
pub record Parts (form : Form) (w : Operand) (v : ℕ) : Type 0 where
  pub listed : is_absent form ≡ false
  pub operand : cond (has_operand form) (allows form w.mode w.reg w.rm && operand_fits w) (operand_is_zero w) ≡ true
  pub immediate : v < 256 ^ immediate_size form
  pub accepted : accepts form v ≡ true

abbrev part_tests : Form → Operand → ℕ → List Bool
part_tests form w v =
    not (is_absent form)
    ∷ cond (has_operand form) (allows form w.mode w.reg w.rm && operand_fits w) (operand_is_zero w)
    ∷ fits (immediate_size form) v
    ∷ accepts form v
    ∷ []

pub parts : (form : Form) (w : Operand) (v : ℕ) → parts_fit form w v ≡ true → Parts form w v
unfolding parts_fit
parts form w v e =
    let h = all_true (part_tests form w v) e in
    record { listed = not-true (is_absent form) h.0; operand = h.1.0; immediate = ltb-true _ _ h.1.1.0; accepted = h.1.1.1.0 }

parts_true : (form : Form) (w : Operand) (v : ℕ) → Parts form w v → parts_fit form w v ≡ true
unfolding parts_fit
parts_true form w v p =
    true_all (part_tests form w v) (ap not p.listed, (p.operand, (lt-ltb _ _ p.immediate, (p.accepted, tt))))

-- opcode bytes: 0F and another, or one alone
pub data Opcoded (first second : ℕ) : Type 0 where
  two : eqb first escape ≡ true → second < 256 → Opcoded first second
  one : eqb first escape ≡ false → first < 256 → second ≡ 0 → Opcoded first second

pub opcoded : (first second : ℕ) → opcode_fits first second ≡ true → Opcoded first second
unfolding opcode_fits
opcoded first second e = by (eqb first escape) refl e
  where
    by : (t : Bool) → eqb first escape ≡ t → cond t (fits 1 second) (fits 1 first && eqb second 0) ≡ true → Opcoded first second
    by true t e = two t (ltb-true second 256 e)
    by false t e = let (a, b) = and_both (fits 1 first) (eqb second 0) e in one t (ltb-true first 256 a) (eqb-true second 0 b)

-- a record that has bytes
pub record Bytewise (i : Instruction) : Type 0 where
  pub opcode : opcode_fits i.first i.second ≡ true
  pub parts : Parts (form_for i.first i.second) i.operand i.immediate

abbrev record_tests : Instruction → List Bool
record_tests i =
    opcode_fits i.first i.second ∷ parts_fit (form_for i.first i.second) i.operand i.immediate ∷ []

pub bytewise : (i : Instruction) → has_bytes i ≡ true → Bytewise i
unfolding has_bytes
bytewise i e =
    let h = all_true (record_tests i) e in
    record { opcode = h.0; parts = parts (form_for i.first i.second) i.operand i.immediate h.1.0 }

pub bytewise_true : (i : Instruction) → Bytewise i → has_bytes i ≡ true
unfolding has_bytes
bytewise_true i b =
    true_all (record_tests i) (b.opcode, (parts_true (form_for i.first i.second) i.operand i.immediate b.parts, tt))

-- its operand fits, where its form, by the form's number, has one
pub bytes_operand : (i : Instruction) (n : ℕ) → form_of n ≡ form_for i.first i.second → (o : Bool) → o ≡ has_operand (form_of n) → o ≡ true
    → has_bytes i ≡ true → operand_fits i.operand ≡ true
bytes_operand i n g o h y e =
    let f = form_for i.first i.second in
    let w = i.operand in
    let p : has_operand f ≡ true = ap has_operand (sym g) ∙ sym h ∙ y in
    (and_both (allows f w.mode w.reg w.rm) (operand_fits w) (simp p at (bytewise i e).parts.operand)).1
