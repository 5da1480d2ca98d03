-- What reading an instruction gives: its bytes from left to right, the first refusal that is met, and the limit of the code.
use Rattle.std.specs.Prelude.{ℕ, List, cond, eqb, ltb, length, drop}
use Rattle.codec.specs.Refusals.{code_too_long, prefixed, not_listed, not_allowed}
use Rattle.codec.specs.Forms.{Form, is_among, is_absent, has_operand, allows, immediate_size, accepts}
use Rattle.codec.specs.Opcodes.{form_at, form_of_first, escape, prefixes}
use Rattle.codec.specs.Operands.{upper, middle, lower, has_sib, displacement_size, operand_of, no_operand}
use Rattle.codec.specs.Reader.{Reader, whole, refuse, byte, field, reads}
use Rattle.codec.specs.declared.Operand.{Operand}
use Rattle.codec.specs.declared.Instruction.{Instruction}
use Rattle.codec.specs.Answers.{Decoded, refused}

abbrev pub instruction_of : ℕ → ℕ → Operand → ℕ → Instruction
instruction_of first second operand immediate =
    record { first = first; second = second; operand = operand; immediate = immediate }

-- after the opcode bytes of a form
module _ (form : Form) (first second : ℕ) where
  -- the immediate, and then the instruction is whole; a suffix must be listed
  unfoldable pub immediate_reader : Operand → Reader
  immediate_reader operand =
      field (immediate_size form)
      (λ immediate. cond (accepts form immediate) (whole (instruction_of first second operand immediate)) (refuse not_listed))

  -- the displacement, of as many bytes as the ModRM and SIB bytes ask for
  unfoldable pub displacement_reader : ℕ → ℕ → Reader
  displacement_reader modrm sib =
      field (displacement_size (upper modrm) (lower modrm) (lower sib))
      (λ displacement. immediate_reader (operand_of modrm sib displacement))

  -- the SIB byte, if the ModRM byte asks for one
  unfoldable pub sib_reader : ℕ → Reader
  sib_reader modrm =
      cond (has_sib (upper modrm) (lower modrm)) (byte (displacement_reader modrm)) (displacement_reader modrm 0)

  -- the ModRM byte, refused before anything after it is looked for
  unfoldable pub modrm_reader : Reader
  modrm_reader =
      byte (λ modrm. cond (allows form (upper modrm) (middle modrm) (lower modrm)) (sib_reader modrm) (refuse not_allowed))

  -- what the form has
  unfoldable pub form_reader : Reader
  form_reader =
      cond (is_absent form) (refuse not_listed) (cond (has_operand form) modrm_reader (immediate_reader no_operand))

-- why a first byte that starts no instruction is refused
unfoldable pub refusal_of : ℕ → ℕ
refusal_of first = cond (is_among first prefixes) prefixed not_listed

-- after a first byte other than 0F: there is no second, which is 0 in the record
unfoldable pub first_reader : ℕ → Reader
first_reader first = cond (is_absent (form_of_first first)) (refuse (refusal_of first)) (form_reader (form_of_first first) first 0)

-- from the start, by what a table says of the second byte
module _ (form_for : ℕ → Form) where
  -- the second byte
  unfoldable pub second_reader : ℕ → Reader
  second_reader first = byte (λ second. form_reader (form_for second) first second)

  -- the first byte
  unfoldable pub instruction_reader : Reader
  instruction_reader = byte (λ first. cond (eqb first escape) (second_reader first) (first_reader first))

-- reading what is left of a code: the instruction and its length
abbrev pub read_part : List ℕ → Decoded
read_part s = reads (instruction_reader form_at) 0 s

abbrev pub longest_code : ℕ
longest_code = 4096

-- reading at a position of a code
unfoldable pub read_at : List ℕ → ℕ → Decoded
read_at code at = cond (ltb longest_code (length code)) (refused code_too_long) (read_part (drop at code))
