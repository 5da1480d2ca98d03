-- What each instruction takes and gives: by its form's operands and its operation, as those of loops do, or as 3DNow's do, by their suffix.
use Rattle.std.specs.Prelude.{Bool, true, false, cond, List, [], ◌∷◌, map, ℕ, ◌+◌, ◌-◌, ◌^◌, ◌%◌, eqb, length, get_or, Option, Some, None}
use Rattle.lanes.specs.Operations.{Operation, operate, operate_three}
use Rattle.singles.specs.Siblings.{leave}
use Rattle.reorder.specs.Result.{Result, done, refused, map_result}
use Rattle.reorder.specs.Footprint.{Footprint}
use Rattle.codec.specs.Forms.{Use, read, written, updated, untouched, File, mmx_file, integer_file, Slot, reg, rm, rm/mem, mem, edi, fixed, opcode, zero_slot, Form, has_suffix}
use Rattle.codec.specs.Contents.{Suffixed}
use Rattle.codec.specs.Opcodes.{suffixed_of, used_form, form_for, operation_for}
use Rattle.codec.specs.declared.Instruction.{Instruction}
use Rattle.codec.specs.declared.Kind.{Kind}
use Rattle.codec.specs.declared.Kind.TheVariants.{Ordinary, Emms, Silent, Loop}
use Rattle.manual.specs.Refusals.{half_unsupported}
use Rattle.manual.specs.State.{State}
use Rattle.manual.specs.Places.{Place}
use Rattle.manual.specs.Addresses.{signed_byte}
use Rattle.manual.specs.Locations.{locate}
use Rattle.manual.specs.Effects.{Effect, perform, footprint_of}

-- the operands that are read, and those that are written
abbrev pub sources : List (Use × Slot) → List Slot
sources [] = []
sources ((read, x) ∷ xs) = x ∷ sources xs
sources ((written, x) ∷ xs) = sources xs
sources ((updated, x) ∷ xs) = x ∷ sources xs
sources ((untouched, x) ∷ xs) = sources xs

abbrev pub targets : List (Use × Slot) → List Slot
targets [] = []
targets ((read, x) ∷ xs) = targets xs
targets ((written, x) ∷ xs) = x ∷ targets xs
targets ((updated, x) ∷ xs) = x ∷ targets xs
targets ((untouched, x) ∷ xs) = targets xs

-- what an operand keeps of a number: one that may be an integer register, the low doubleword
abbrev kept : File → ℕ → ℕ
kept mmx_file x = x
kept integer_file x = x % 2 ^ 32

-- and the zero mark, whether that is 0
abbrev pub kept_by : Slot → ℕ → ℕ
kept_by (reg file) x = kept file x
kept_by (rm file) x = kept file x
kept_by (rm/mem file size) x = kept file x
kept_by (mem size) x = x
kept_by (edi size) x = x
kept_by (fixed k) x = x
kept_by (opcode file) x = kept file x
kept_by zero_slot x = cond (eqb (kept integer_file x) 0) 1 0

-- how many numbers an instruction goes by: those that it reads, and the immediate
abbrev pub number_count : Form → ℕ
number_count form = length (sources form.operands) + form.immediate

-- the last of them: the immediate, where the form has one, else the last number that is read
abbrev pub last_number : Form → ℕ → List ℕ → ℕ
last_number form immediate values = cond (eqb form.immediate 0) (get_or values (length (sources form.operands) - 1) 0) immediate

-- what the operation leaves of them: of the first and the last (a move goes by one, which is both), or of all three
abbrev pub left_by : Form → Operation → ℕ → List ℕ → ℕ
left_by form operation immediate values =
    cond (eqb (number_count form) 3)
    (operate_three operation (get_or values 0 0) (get_or values 1 0) (last_number form immediate values))
    (operate operation (get_or values 0 0) (last_number form immediate values))

-- what one of loops adds to the number that it reads, if it reads one, by how many bytes its immediate has: all four (MOV), a signed byte (ADD), or,
-- where there is none, minus 1 (DEC); JNZ gives nothing, so that its sum goes nowhere
abbrev pub addend : ℕ → ℕ → ℕ
addend size immediate = cond (eqb size 4) immediate (cond (eqb size 1) (signed_byte immediate) (2 ^ 32 - 1))

abbrev pub is_loop : Kind → Bool
is_loop Ordinary = false
is_loop Emms = false
is_loop Silent = false
is_loop Loop = true

-- what one of 3DNow's leaves, or 22 where a half that it reads is unsupported
abbrev pub supported : Option ℕ → Result ℕ
supported (Some x) = done x
supported None = refused half_unsupported

-- of the numbers that are read: the first and the last (which are one, where one is read)
abbrev pub left_by_suffix : Suffixed → List ℕ → Result ℕ
left_by_suffix x values = supported (leave x.sibling (get_or values 0 0) (last_number x.form 0 values))

-- what an instruction leaves: of loops, a sum; else what its operation leaves
abbrev pub result_by : Form → Operation → ℕ → List ℕ → ℕ
result_by form operation immediate values =
    cond (is_loop form.kind) (get_or values 0 0 + addend form.immediate immediate) (left_by form operation immediate values)

-- the same, or what its suffix says
abbrev pub computed_by : Form → Operation → ℕ → List ℕ → Result ℕ
computed_by form operation immediate values =
    cond (has_suffix form) (left_by_suffix (suffixed_of immediate) values) (done (result_by form operation immediate values))

-- the effect of an instruction by a form and an operation: every operand that is written becomes what the instruction leaves
abbrev pub effect_by : Form → Operation → Instruction → Effect
effect_by form operation i =
    let used = used_form form i.immediate in
    record {
      takes = map (locate i) (sources used.operands);
      gives = map (locate i) (targets used.operands);
      value = λ values. map_result (λ left. map (λ x. kept_by x left) (targets used.operands)) (computed_by form operation i.immediate values);
      kind = used.kind;
    }

-- the form whose operands an instruction uses, by the lists
abbrev pub form_used : Instruction → Form
form_used i = used_form (form_for i.first i.second) i.immediate

-- its effect
unfoldable pub effect_of : Instruction → Effect
effect_of i = effect_by (form_for i.first i.second) (operation_for i.first i.second i.operand.reg) i

-- one instruction over a floor, in a state: the state that it leaves, or 7 to 10, 14, 21 or 22
unfoldable pub execute : ℕ → Instruction → State → Result State
execute floor i s = perform floor (effect_of i) s

-- its footprint, or 7 to 10, 14, 21 or 22
unfoldable pub footprint : ℕ → Instruction → State → Result (Footprint Place Kind)
footprint floor i s = footprint_of floor (effect_of i) s
