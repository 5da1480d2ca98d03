-- The opcode bytes: the prefixes, 0F, and what the lists say of the byte after 0F, of a suffix, and of another first byte.
use Rattle.std.specs.Prelude.{ℕ, ◌+◌, List, [], ◌∷◌, Bool, true, ◌&&◌, cond, eqb, leb, ltb}
use Rattle.basis.specs.Names.{Option, none, some}
use Rattle.lanes.specs.Operations.{Operation, KEEP}
use Rattle.codec.specs.Forms.{Form, absent, has_suffix}
use Rattle.codec.specs.Contents.{lines, Suffixed, maximum, siblings, OneByte, loops}

abbrev pub prefixes : List ℕ
prefixes = 0x26 ∷ 0x2e ∷ 0x36 ∷ 0x3e ∷ 0x64 ∷ 0x65 ∷ 0x66 ∷ 0x67 ∷ 0xf0 ∷ 0xf2 ∷ 0xf3 ∷ []

-- all opcodes start with it, but those of loops
abbrev pub escape : ℕ
escape = 0x0f

-- a part of the first element that passes a test, or the default where none does
abbrev pub find : {A B : Type 0} → (A → Bool) → (A → B) → B → List A → B
find test part default [] = default
find test part default (x ∷ xs) = cond (test x) (part x) (find test part default xs)

-- the form of a second byte: that of its first line (all its lines have the same: proofs/Headings.antt)
unfoldable pub form_at : ℕ → Form
form_at second = find (λ x. eqb second x.second) (λ x. x.form) absent lines

-- reg is the line's digit, where it has one
abbrev matches_digit : Option ℕ → ℕ → Bool
matches_digit none reg = true
matches_digit (some digit) reg = eqb reg digit

-- the operation of a second byte, with what stands in reg; KEEP where no line fits
unfoldable pub operation_at : ℕ → ℕ → Operation
operation_at second reg = find (λ x. eqb second x.second && matches_digit x.digit reg) (λ x. x.operation) KEEP lines

-- the instruction of a suffix (one that is not listed is never read: it is taken for the last)
unfoldable pub suffixed_of : ℕ → Suffixed
suffixed_of suffix = find (λ x. eqb suffix x.suffix) (λ x. x) maximum siblings

-- the form whose operands an instruction uses: where the opcode has a suffix, that of the suffix
abbrev pub used_form : Form → ℕ → Form
used_form form immediate = cond (has_suffix form) (suffixed_of immediate).form form

-- a first byte is one of those that an instruction has
abbrev pub is_of : OneByte → ℕ → Bool
is_of x first = leb x.first first && ltb first (x.first + x.count)

-- the form of a first byte other than 0F
unfoldable pub form_of_first : ℕ → Form
form_of_first first = find (λ x. is_of x first) (λ x. x.form) absent loops

-- the form and the operation of both opcode bytes, with what stands in reg; where there is one byte, the second is 0 and the operation is none

abbrev pub form_for : ℕ → ℕ → Form
form_for first second = cond (eqb first escape) (form_at second) (form_of_first first)

abbrev pub operation_for : ℕ → ℕ → ℕ → Operation
operation_for first second reg = cond (eqb first escape) (operation_at second reg) KEEP

-- the opcode bytes themselves
abbrev pub opcode_bytes : ℕ → ℕ → List ℕ
opcode_bytes first second = cond (eqb first escape) (first ∷ second ∷ []) (first ∷ [])
