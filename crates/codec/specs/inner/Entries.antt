-- What the code has of an entry: the operation that it names, and what is found after an opcode.
use Rattle.std.specs.Prelude.{ℕ, ◌/◌, ◌%◌, ◌^◌, List, Bool, true, false, ◌&&◌, cond, eqb, drop, Result}
use Rattle.lanes.specs.Operations.{Operation, PSRLW, PSRLD, PSRLQ, PSRAW, PSRAD, PSLLW, PSLLD, PSLLQ, KEEP, operation_of}
use Rattle.codec.specs.Forms.{Form, mmreg1←mmreg2/mem64+imm8, is_any}
use Rattle.codec.specs.Table.{form_of}
use Rattle.codec.specs.Reader.{Reader, reads}
use Rattle.codec.specs.Finding.{found}
use Rattle.codec.specs.declared.Kind.{Kind}
use Rattle.codec.specs.declared.Kind.TheVariants.{Ordinary, Emms, Silent, Loop}
use Rattle.codec.specs.declared.reader.Opcode.{Opcode}
use Rattle.codec.specs.declared.Found.{Found}

abbrev pub is_ordinary : Kind → Bool
is_ordinary Ordinary = true
is_ordinary Emms = false
is_ordinary Silent = false
is_ordinary Loop = false

-- whether it is a shift by an immediate: its reg is a digit of the opcode, and it is ordinary (prefetches, SFENCE and ADD have a digit, and are not)
abbrev pub is_shift : Form → Bool
is_shift form = is_any form.digits && is_ordinary form.kind

-- of a word, doubleword and quadword operation, the one for the width
abbrev pub of_width : ℕ → Operation → Operation → Operation → Operation
of_width width word doubleword quadword = cond (eqb width 16) word (cond (eqb width 32) doubleword (cond (eqb width 64) quadword KEEP))

-- the operation of a shift by an immediate: by its lane width, and the digit
unfoldable pub shift_of : ℕ → ℕ → Operation
shift_of width digit =
    cond (eqb digit 2) (of_width width PSRLW PSRLD PSRLQ)
    (cond (eqb digit 4) (of_width width PSRAW PSRAD KEEP)
    (cond (eqb digit 6) (of_width width PSLLW PSLLD PSLLQ) KEEP))

-- the operation that an entry names, with what stands in reg
unfoldable pub operation_in : ℕ → ℕ → Operation
operation_in entry reg =
    cond (is_shift (form_of (entry / 2 ^ 24))) (shift_of (entry / 2 ^ 8 % 256) reg) (operation_of (entry % 256))

-- an opcode as its operands are read: one with a suffix as PSHUFW's, whose immediate stands in the suffix's place
abbrev pub read_as : Opcode → Opcode
read_as opcode =
    cond (eqb opcode.form 16) (record { first = opcode.first; second = opcode.second; entry = opcode.entry; form = mmreg1←mmreg2/mem64+imm8.number }) opcode

-- what is found at a position after an opcode, by one of the readers of its form
abbrev pub found_after : Opcode → (Form → ℕ → ℕ → Reader) → List ℕ → ℕ → Result Found ℕ
found_after opcode reader code at =
    found opcode.entry (reads (reader (form_of opcode.form) opcode.first opcode.second) at (drop at code))
