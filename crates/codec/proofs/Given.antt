-- What every reading gives, whatever the table and the bytes: registers below 8, a form that is there, the refusals 3 to 6. Part by part.
use Rattle.std.specs.Prelude.{ℕ, ◌≤◌, ◌≡◌, refl, Bool, true, false, cond, List, eqb}
use Rattle.basis.proofs.Names.{ap, ap₂, ◌∙◌, arith}
use Rattle.codec.specs.Refusals.{prefixed, not_listed}
use Rattle.codec.specs.Forms.{Form, is_among, is_absent, has_operand, allows, accepts}
use Rattle.codec.specs.Opcodes.{form_of_first, escape, prefixes}
use Rattle.codec.specs.Operands.{upper, middle, lower, has_sib, operand_of, no_operand}
use Rattle.codec.specs.inner.Fields.{Registers}
use Rattle.codec.specs.Reader.{Reader, refuse, reads}
use Rattle.codec.specs.Reads.{immediate_reader, displacement_reader, sib_reader, modrm_reader, form_reader, second_reader, first_reader, instruction_reader, refusal_of}
use Rattle.codec.specs.declared.Operand.{Operand}
use Rattle.codec.specs.declared.Instruction.{Instruction}
use Rattle.codec.proofs.Joined.{middle_lt, lower_lt}
use Rattle.codec.proofs.Readers.{Every, Holds, every, every_cond, every_map}

pub no_registers : Registers no_operand
no_registers = record { reg = omega arith; rm = omega arith; index = omega arith; base = omega arith }

pub registers_of_lem : (modrm sib displacement : ℕ) → Registers (operand_of modrm sib displacement)
registers_of_lem modrm sib displacement =
    record { reg = middle_lt modrm; rm = lower_lt modrm; index = middle_lt sib; base = lower_lt sib }

pub record Given (first second : ℕ) (i : Instruction) : Type 0 where
  pub first_kept : i.first ≡ first
  pub kept : i.second ≡ second
  pub registers : Registers i.operand

abbrev pub Refusal : ℕ → Type 0
Refusal n = (3 ≤ n) × (n ≤ 6)

abbrev pub Gives : ℕ → ℕ → Reader → Type 0
Gives first second = Every (Given first second) Refusal

-- what a form that is there asks for
abbrev pub parts_reader : Form → ℕ → ℕ → Reader
parts_reader form first second = cond (has_operand form) (modrm_reader form first second) (immediate_reader form first second no_operand)

module _ (form : Form) (first second : ℕ) where
  immediate_gives : (w : Operand) → Registers w → Gives first second (immediate_reader form first second w)
  unfolding immediate_reader
  immediate_gives w h = (
    omega arith,
    λ v. every_cond (Given first second) Refusal (accepts form v) _ _ (record { first_kept = refl; kept = refl; registers = h }) (omega arith),
  )

  displacement_gives : (modrm sib : ℕ) → Gives first second (displacement_reader form first second modrm sib)
  unfolding displacement_reader
  displacement_gives modrm sib = (omega arith, λ d. immediate_gives (operand_of modrm sib d) (registers_of_lem modrm sib d))

  pub modrm_gives : Gives first second (modrm_reader form first second)
  unfolding modrm_reader sib_reader
  modrm_gives = (
    omega arith,
    λ m. every_cond (Given first second) Refusal (allows form (upper m) (middle m) (lower m)) _ _
        (every_cond (Given first second) Refusal (has_sib (upper m) (lower m)) _ _ (omega arith, displacement_gives m) (displacement_gives m 0)) (omega arith),
  )

  parts_gives : Gives first second (parts_reader form first second)
  parts_gives = every_cond (Given first second) Refusal (has_operand form) _ _ modrm_gives (immediate_gives no_operand no_registers)

  pub form_gives : Gives first second (form_reader form first second)
  unfolding form_reader
  form_gives = every_cond (Given first second) Refusal (is_absent form) _ _ (omega arith) parts_gives

first_refuses : (first : ℕ) → Refusal (refusal_of first)
unfolding refusal_of
first_refuses first = by (is_among first prefixes)
  where
    by : (t : Bool) → Refusal (cond t prefixed not_listed)
    by true = omega arith
    by false = omega arith

pub first_gives : (first : ℕ) → Gives first 0 (first_reader first)
unfolding first_reader
first_gives first =
    every_cond (Given first 0) Refusal (is_absent (form_of_first first)) _ _ (first_refuses first) (form_gives (form_of_first first) first 0)

-- the form of opcode bytes, by what a table says of the second
abbrev pub form_by : (ℕ → Form) → ℕ → ℕ → Form
form_by form_of first second = cond (eqb first escape) (form_of second) (form_of_first first)

-- what is read names registers below 8, and its form is there
pub record Known (form_of : ℕ → Form) (i : Instruction) : Type 0 where
  pub registers : Registers i.operand
  pub present : is_absent (form_by form_of i.first i.second) ≡ false

module _ (form_of : ℕ → Form) where
  form_known : (first second : ℕ) (form : Form) → form_by form_of first second ≡ form → Every (Known form_of) Refusal (form_reader form first second)
  unfolding form_reader
  form_known first second form f = by (is_absent form) refl
    where
      by : (t : Bool) → is_absent form ≡ t → Every (Known form_of) Refusal (cond t (refuse not_listed) (parts_reader form first second))
      by true e = omega arith
      by false e =
          every_map (Given first second) (Known form_of) Refusal
          (λ i g. record { registers = g.registers; present = ap₂ (λ (b k : ℕ). is_absent (form_by form_of b k)) g.first_kept g.kept ∙ ap is_absent f ∙ e })
          (parts_reader form first second) (parts_gives form first second)

  -- An instruction that is read is known, and one that is not is refused by 3 to 6.
  pub reads_known : (at : ℕ) (s : List ℕ) → Holds (Known form_of) Refusal (reads (instruction_reader form_of) at s)
  unfolding instruction_reader second_reader first_reader
  reads_known at s = every (Known form_of) Refusal (instruction_reader form_of) (omega arith, λ first. by first (eqb first escape) refl) at s
    where
      by : (first : ℕ) (t : Bool) → eqb first escape ≡ t → Every (Known form_of) Refusal (cond t (second_reader form_of first) (first_reader first))
      by first true e = (omega arith, λ second. form_known first second (form_of second) (simp e))
      by first false e =
          every_cond (Known form_of) Refusal (is_absent (form_of_first first)) _ _ (first_refuses first) (form_known first 0 (form_of_first first) (simp e))
