-- Which records have bytes: each field fits its place, and one that has no place is 0.
use Rattle.std.specs.Prelude.{ℕ, ◌^◌, List, [], ◌∷◌, Bool, true, not, ◌&&◌, cond, eqb, ltb}
use Rattle.codec.specs.Forms.{Form, is_absent, has_operand, allows, immediate_size, accepts}
use Rattle.codec.specs.Opcodes.{form_for, escape}
use Rattle.codec.specs.Operands.{has_sib, displacement_size}
use Rattle.codec.specs.declared.Operand.{Operand}
use Rattle.codec.specs.declared.Instruction.{Instruction}

abbrev pub all : List Bool → Bool
all [] = true
all (test ∷ tests) = test && all tests

-- a number fits a field of k bytes; with no byte it is 0
abbrev pub fits : ℕ → ℕ → Bool
fits k value = ltb value (256 ^ k)

-- the fields of the SIB byte, or zeros where there is none
unfoldable pub sib_fits : Bool → ℕ → ℕ → ℕ → Bool
sib_fits there scale index base =
    cond there
    (all (ltb scale 4 ∷ ltb index 8 ∷ ltb base 8 ∷ []))
    (all (eqb scale 0 ∷ eqb index 0 ∷ eqb base 0 ∷ []))

-- the fields of an operand
unfoldable pub operand_fits : Operand → Bool
operand_fits operand =
    all (ltb operand.mode 4
    ∷ ltb operand.reg 8
    ∷ ltb operand.rm 8
    ∷ sib_fits (has_sib operand.mode operand.rm) operand.scale operand.index operand.base
    ∷ fits (displacement_size operand.mode operand.rm operand.base) operand.displacement
    ∷ [])

-- no operand
unfoldable pub operand_is_zero : Operand → Bool
operand_is_zero operand =
    all (eqb operand.mode 0
    ∷ eqb operand.reg 0
    ∷ eqb operand.rm 0
    ∷ eqb operand.scale 0
    ∷ eqb operand.index 0
    ∷ eqb operand.base 0
    ∷ eqb operand.displacement 0
    ∷ [])

-- what a form has after the opcode bytes
unfoldable pub parts_fit : Form → Operand → ℕ → Bool
parts_fit form operand immediate =
    all (not (is_absent form)
    ∷ cond (has_operand form)
    (allows form operand.mode operand.reg operand.rm && operand_fits operand)
    (operand_is_zero operand)
    ∷ fits (immediate_size form) immediate
    ∷ accepts form immediate
    ∷ [])

-- the opcode bytes: 0F and another; or one, and the second is 0
unfoldable pub opcode_fits : ℕ → ℕ → Bool
opcode_fits first second = cond (eqb first escape) (fits 1 second) (fits 1 first && eqb second 0)

-- the record has bytes: any other is refused by 11
unfoldable pub has_bytes : Instruction → Bool
has_bytes instruction =
    all (opcode_fits instruction.first instruction.second
    ∷ parts_fit (form_for instruction.first instruction.second) instruction.operand instruction.immediate
    ∷ [])
