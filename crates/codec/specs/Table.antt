-- The code's table: for each second byte an entry, a number of four bytes. From the highest they are the form's number, the size of the operand in
-- memory, the lane width, and the operation's number.
use Rattle.std.specs.Prelude.{ℕ, zero, suc, ◌+◌, ◌*◌, ◌/◌, ◌^◌, List, [], ◌∷◌, eqb, get_or}
use Rattle.lanes.specs.Operations.{described}
use Rattle.codec.specs.Forms.{Form, mmreg1·mmreg2/mem64, forms, memory_size}
use Rattle.codec.specs.Opcodes.{find, form_at, operation_at, form_of_first}

-- the form that a number names; one that none has names the usual form
abbrev pub form_of : ℕ → Form
form_of number = find (λ form. eqb number form.number) (λ form. form) mmreg1·mmreg2/mem64 forms

-- the entry of a second byte (2 is a digit that 71 to 73 and 18 have; AE has no line with it, and computes nothing with its own; other lines don't
-- look at reg)
abbrev pub entry_at : ℕ → ℕ
entry_at second =
    let form = form_at second in
    let operation = described (operation_at second 2) in
    form.number * 2 ^ 24 + memory_size form * 2 ^ 16 + operation.width * 2 ^ 8 + operation.number

-- the entry of a first byte other than 0F, which is not in the table: its form alone
abbrev pub entry_of_first : ℕ → ℕ
entry_of_first first = (form_of_first first).number * 2 ^ 24

-- f from, f (from + 1), .. of count numbers
abbrev pub listed : {A : Type 0} → (ℕ → A) → ℕ → ℕ → List A
listed f from zero = []
listed f from (suc count) = f from ∷ listed f (suc from) count

-- the whole table, by the second byte
unfoldable pub opcode_table : List ℕ
opcode_table = listed entry_at 0 256

-- what any table of such entries says of a second byte
abbrev pub form_in : List ℕ → ℕ → Form
form_in table second = form_of (get_or table second 0 / 2 ^ 24)
