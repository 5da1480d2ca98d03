-- When each refusal of reading is due, of the rest of a code from the position on: in document 01's words, but for 6, whose words are a theorem
-- (proofs/Sixes.antt).
use Rattle.std.specs.Prelude.{ℕ, ◌+◌, ◌≤◌, ◌<◌, ◌≡◌, ◌⊎◌, true, false, List, [], ◌∷◌, ◌++◌, eqb, length, drop}
use Rattle.words.specs.Number.{AllBytes}
use Rattle.codec.specs.Refusals.{code_too_long, code_ends, prefixed, not_listed, not_allowed}
use Rattle.codec.specs.Forms.{is_among, is_absent, has_operand, allows, mmreg1·mmreg2/mem64+suffix}
use Rattle.codec.specs.Contents.{three_dnow}
use Rattle.codec.specs.Opcodes.{form_at, form_of_first, form_for, opcode_bytes, escape, prefixes}
use Rattle.codec.specs.Operands.{upper, middle, lower}
use Rattle.codec.specs.Answers.{good}
use Rattle.codec.specs.Reads.{read_part, longest_code}
use Rattle.codec.specs.declared.Instruction.{Instruction}

-- it starts with these bytes
abbrev pub Starts : List ℕ → List ℕ → Type 0
Starts front s = (rest : List ℕ) × (s ≡ front ++ rest)

-- 3: the code ends inside the instruction: some bytes more, and an instruction that is longer than what is left stands there
pub record EndsInside (s : List ℕ) : Type 0 where
  pub more : List ℕ
  pub are_bytes : AllBytes more
  pub instruction : Instruction
  pub size : ℕ
  pub found : read_part (s ++ more) ≡ good instruction size
  pub longer : length s < size

-- 4: the first byte is a prefix
abbrev pub StartsPrefixed : List ℕ → Type 0
StartsPrefixed s = (first : ℕ) × Starts (first ∷ []) s × (is_among first prefixes ≡ true)

-- 5: another first byte than 0F and those of loops, a second byte that is not in the table, or a suffix that is not listed
abbrev pub StartsOther : List ℕ → Type 0
StartsOther s =
    (first : ℕ) × Starts (first ∷ []) s × (eqb first escape ≡ false) × (is_absent (form_of_first first) ≡ true) × (is_among first prefixes ≡ false)

abbrev pub StartsUnlisted : List ℕ → Type 0
StartsUnlisted s = (second : ℕ) × Starts (escape ∷ second ∷ []) s × (is_absent (form_at second) ≡ true)

-- it stands after 0F 0F and all bytes of the operands: with PI2FW's suffix in its place, they are an instruction
pub record EndsUnlisted (s : List ℕ) : Type 0 where
  pub operands : List ℕ
  pub suffix : ℕ
  pub starts : Starts (escape ∷ three_dnow ∷ operands ++ suffix ∷ []) s
  pub unlisted : is_among suffix mmreg1·mmreg2/mem64+suffix.suffixes ≡ false
  pub instruction : Instruction
  pub found : read_part (escape ∷ three_dnow ∷ operands ++ 0x0c ∷ []) ≡ good instruction (length operands + 3)

-- 6: the opcode is listed, and its form does not allow the ModRM byte
abbrev pub StartsNotAllowed : List ℕ → Type 0
StartsNotAllowed s =
    (first second modrm : ℕ) × Starts (opcode_bytes first second ++ modrm ∷ []) s × (is_absent (form_for first second) ≡ false)
    × (has_operand (form_for first second) ≡ true) × (allows (form_for first second) (upper modrm) (middle modrm) (lower modrm) ≡ false)

-- the reason for a refusal's number
pub data Reason : List ℕ → ℕ → Type 0 where
  three : {s : List ℕ} → EndsInside s → Reason s code_ends
  four : {s : List ℕ} → StartsPrefixed s → Reason s prefixed
  five : {s : List ℕ} → StartsOther s ⊎ StartsUnlisted s ⊎ EndsUnlisted s → Reason s not_listed
  six : {s : List ℕ} → StartsNotAllowed s → Reason s not_allowed

-- the reason for a number at a position: 2 before all others
pub data ReasonAt : List ℕ → ℕ → ℕ → Type 0 where
  two : {code : List ℕ} {at : ℕ} → longest_code < length code → ReasonAt code at code_too_long
  reading : {code : List ℕ} {at n : ℕ} → length code ≤ longest_code → Reason (drop at code) n → ReasonAt code at n
