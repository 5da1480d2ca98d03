-- The forms of instructions: the operands in the manuals' notation, with what each is used for; and what a form says of the bytes after the opcode.
use Rattle.std.specs.Prelude.{ℕ, List, [], ◌∷◌, Bool, true, false, not, ◌&&◌, ◌||◌, eqb}
use Rattle.codec.specs.declared.Kind.{Kind}
use Rattle.codec.specs.declared.Kind.TheVariants.{Ordinary, Emms, Silent, Loop}

-- what an instruction does with an operand: `updated` is read and written, `untouched` neither
pub data Use : Type 0 where
  read written updated untouched : Use

-- the MMX registers, or the integer registers
pub data File : Type 0 where
  mmx_file integer_file : File

-- where an operand is encoded
pub data Slot : Type 0 where
  -- the register that reg names; the register that rm names, at mod 11 alone
  reg rm : File → Slot
  -- the register that rm names at mod 11, else so many bytes in memory
  rm/mem : File → ℕ → Slot
  -- so many bytes in memory, at any mod but 11
  mem : ℕ → Slot
  -- so many bytes in memory from the address in EDI on, whatever the ModRM byte
  edi : ℕ → Slot
  -- nothing: rm is this number, at mod 11 alone
  fixed : ℕ → Slot
  -- the register that the last three bits of the first byte name
  opcode : File → Slot
  -- the zero mark, which no byte names
  zero_slot : Slot

-- Operands, in the manuals' notation

abbrev pub mmreg1 : Slot
mmreg1 = reg mmx_file

abbrev pub mmreg2 : Slot
mmreg2 = rm mmx_file

abbrev pub mmreg2/mem32 : Slot
mmreg2/mem32 = rm/mem mmx_file 4

abbrev pub mmreg2/mem64 : Slot
mmreg2/mem64 = rm/mem mmx_file 8

abbrev pub reg32/mem32 : Slot
reg32/mem32 = rm/mem integer_file 4

abbrev pub reg32/mem16 : Slot
reg32/mem16 = rm/mem integer_file 2

abbrev pub reg32 : Slot
reg32 = reg integer_file

abbrev pub mem64 : Slot
mem64 = mem 8

abbrev pub mem8 : Slot
mem8 = mem 1

abbrev pub mem64-at_edi : Slot
mem64-at_edi = edi 8

abbrev pub reg32_in_rm : Slot
reg32_in_rm = rm integer_file

abbrev pub reg32_in_opcode : Slot
reg32_in_opcode = opcode integer_file

pub record Form : Type 0 where
  -- its number in the code's table (0: no instruction; 10 to 13 are not in it: their opcode is one byte); from 15 on are the forms of a destination
  -- and a source, one named by reg, the other by r/m, and of nothing else but 16's suffix
  pub number : ℕ
  -- what reg may be where it is a digit of the opcode; none where it names a register
  pub digits : List ℕ
  -- the destination first
  pub operands : List (Use × Slot)
  -- how many immediate bytes there are
  pub immediate : ℕ
  -- what the immediate may be where it is the opcode's suffix; none where it is a number
  pub suffixes : List ℕ
  pub kind : Kind

-- Forms, by their operands in the manuals' notation: ← where the destination is only written, · where it is read too, + before an immediate

-- no instruction
abbrev pub absent : Form
absent = record { number = 0; digits = []; operands = []; immediate = 0; suffixes = []; kind = Ordinary }

-- EMMS
abbrev pub alone : Form
alone = record { number = 1; digits = []; operands = []; immediate = 0; suffixes = []; kind = Emms }

-- 004's mmreg1, imm8: the register is the one that rm names, and reg has the digit: /2 right logical, /4 right arithmetic, /6 left
abbrev pub mmreg1·imm8/2/4/6 : Form
mmreg1·imm8/2/4/6 = record { number = 2; digits = 2 ∷ 4 ∷ 6 ∷ []; operands = (updated, mmreg2) ∷ []; immediate = 1; suffixes = []; kind = Ordinary }

abbrev pub mmreg1·imm8/2/6 : Form
mmreg1·imm8/2/6 = record { number = 3; digits = 2 ∷ 6 ∷ []; operands = (updated, mmreg2) ∷ []; immediate = 1; suffixes = []; kind = Ordinary }

-- PINSRW, PSHUFW, PEXTRW: an immediate beside two operands
abbrev pub mmreg1·reg32/mem16+imm8 : Form
mmreg1·reg32/mem16+imm8 =
    record { number = 4; digits = []; operands = (updated, mmreg1) ∷ (read, reg32/mem16) ∷ []; immediate = 1; suffixes = []; kind = Ordinary }

abbrev pub mmreg1←mmreg2/mem64+imm8 : Form
mmreg1←mmreg2/mem64+imm8 =
    record { number = 5; digits = []; operands = (written, mmreg1) ∷ (read, mmreg2/mem64) ∷ []; immediate = 1; suffixes = []; kind = Ordinary }

abbrev pub reg32←mmreg2+imm8 : Form
reg32←mmreg2+imm8 = record { number = 6; digits = []; operands = (written, reg32) ∷ (read, mmreg2) ∷ []; immediate = 1; suffixes = []; kind = Ordinary }

-- PMOVMSKB
abbrev pub reg32←mmreg2 : Form
reg32←mmreg2 = record { number = 7; digits = []; operands = (written, reg32) ∷ (read, mmreg2) ∷ []; immediate = 0; suffixes = []; kind = Ordinary }

-- MASKMOVQ: 000's mmreg1, mmreg2 (edi), the data and the mask
abbrev pub edi·mmreg1·mmreg2 : Form
edi·mmreg1·mmreg2 =
    record {
      number = 8;
      digits = [];
      operands = (updated, mem64-at_edi) ∷ (read, mmreg1) ∷ (read, mmreg2) ∷ [];
      immediate = 0;
      suffixes = [];
      kind = Ordinary;
    }

-- SFENCE: its ModRM byte is F8
abbrev pub alone/7 : Form
alone/7 = record { number = 9; digits = 7 ∷ []; operands = (untouched, fixed 0) ∷ []; immediate = 0; suffixes = []; kind = Silent }

-- MOV of an immediate: B8 +rd
abbrev pub reg32←imm32 : Form
reg32←imm32 = record { number = 10; digits = []; operands = (written, reg32_in_opcode) ∷ []; immediate = 4; suffixes = []; kind = Loop }

-- ADD of a signed byte: 83 /0, to a register alone
abbrev pub reg32·imm8/0 : Form
reg32·imm8/0 =
    record { number = 11; digits = 0 ∷ []; operands = (updated, reg32_in_rm) ∷ (written, zero_slot) ∷ []; immediate = 1; suffixes = []; kind = Loop }

-- DEC: 48 +rd
abbrev pub reg32·alone : Form
reg32·alone =
    record { number = 12; digits = []; operands = (updated, reg32_in_opcode) ∷ (written, zero_slot) ∷ []; immediate = 0; suffixes = []; kind = Loop }

-- JNZ by a signed byte
abbrev pub rel8off : Form
rel8off = record { number = 13; digits = []; operands = (read, zero_slot) ∷ []; immediate = 1; suffixes = []; kind = Loop }

-- the prefetches: /0 NTA, /1 T0, /2 T1, /3 T2
abbrev pub mem8/0/1/2/3 : Form
mem8/0/1/2/3 = record { number = 14; digits = 0 ∷ 1 ∷ 2 ∷ 3 ∷ []; operands = (untouched, mem8) ∷ []; immediate = 0; suffixes = []; kind = Silent }

-- an ordinary instruction of a destination and a source
abbrev pub pair : ℕ → Use × Slot → Slot → Form
pair number destination source =
    record { number = number; digits = []; operands = destination ∷ (read, source) ∷ []; immediate = 0; suffixes = []; kind = Ordinary }

-- MOVNTQ
abbrev pub mem64←mmreg1 : Form
mem64←mmreg1 = pair 15 (written, mem64) mmreg1

-- 3DNow: two operands, and the suffix says which instruction it is, and whether it reads the first (Contents.antt, `siblings`)
abbrev pub mmreg1·mmreg2/mem64+suffix : Form
mmreg1·mmreg2/mem64+suffix =
    record {
      number = 16;
      digits = [];
      operands = (updated, mmreg1) ∷ (read, mmreg2/mem64) ∷ [];
      immediate = 1;
      suffixes = 0x0c ∷ 0x1c ∷ 0xa0 ∷ 0xa4 ∷ 0xbb ∷ 0xbf ∷ [];
      kind = Ordinary;
    }

abbrev pub reg32/mem32←mmreg1 : Form
reg32/mem32←mmreg1 = pair 17 (written, reg32/mem32) mmreg1

abbrev pub mmreg1←reg32/mem32 : Form
mmreg1←reg32/mem32 = pair 18 (written, mmreg1) reg32/mem32

abbrev pub mmreg2/mem64←mmreg1 : Form
mmreg2/mem64←mmreg1 = pair 19 (written, mmreg2/mem64) mmreg1

abbrev pub mmreg1←mmreg2/mem64 : Form
mmreg1←mmreg2/mem64 = pair 20 (written, mmreg1) mmreg2/mem64

abbrev pub mmreg1·mmreg2/mem32 : Form
mmreg1·mmreg2/mem32 = pair 21 (updated, mmreg1) mmreg2/mem32

-- (the usual form)
abbrev pub mmreg1·mmreg2/mem64 : Form
mmreg1·mmreg2/mem64 = pair 22 (updated, mmreg1) mmreg2/mem64

abbrev pub forms : List Form
forms =
    absent ∷ alone ∷ mmreg1·imm8/2/4/6 ∷ mmreg1·imm8/2/6
    ∷ mmreg1·reg32/mem16+imm8 ∷ mmreg1←mmreg2/mem64+imm8 ∷ reg32←mmreg2+imm8 ∷ reg32←mmreg2 ∷ edi·mmreg1·mmreg2 ∷ alone/7
    ∷ reg32←imm32 ∷ reg32·imm8/0 ∷ reg32·alone ∷ rel8off ∷ mem8/0/1/2/3
    ∷ mem64←mmreg1 ∷ mmreg1·mmreg2/mem64+suffix ∷ reg32/mem32←mmreg1 ∷ mmreg1←reg32/mem32 ∷ mmreg2/mem64←mmreg1 ∷ mmreg1←mmreg2/mem64 ∷ mmreg1·mmreg2/mem32 ∷ mmreg1·mmreg2/mem64 ∷ []

-- What a form says

abbrev pub is_absent : Form → Bool
is_absent form = eqb form.number 0

abbrev pub is_any : {A : Type 0} → List A → Bool
is_any [] = false
is_any (x ∷ xs) = true

-- whether an operand is encoded in the ModRM byte
abbrev pub in_modrm : Slot → Bool
in_modrm (reg file) = true
in_modrm (rm file) = true
in_modrm (rm/mem file bytes) = true
in_modrm (mem bytes) = true
in_modrm (edi bytes) = true
in_modrm (fixed k) = true
in_modrm (opcode file) = false
in_modrm zero_slot = false

-- whether one of them is
abbrev pub any_in_modrm : List (Use × Slot) → Bool
any_in_modrm [] = false
any_in_modrm ((how, slot) ∷ xs) = in_modrm slot || any_in_modrm xs

-- whether there is a ModRM byte
abbrev pub has_operand : Form → Bool
has_operand form = any_in_modrm form.operands

abbrev pub is_among : ℕ → List ℕ → Bool
is_among value [] = false
is_among value (x ∷ xs) = eqb value x || is_among value xs

-- a number of the list, or any where there is no list
abbrev pub list_allows : List ℕ → ℕ → Bool
list_allows [] value = true
list_allows (x ∷ xs) value = is_among value (x ∷ xs)

-- whether an operand allows mod 11 (true), or another mod (false), with this rm
abbrev pub slot_allows : Slot → Bool → ℕ → Bool
slot_allows (reg file) register lower = true
slot_allows (rm file) register lower = register
slot_allows (rm/mem file bytes) register lower = true
slot_allows (mem bytes) register lower = not register
slot_allows (edi bytes) register lower = true
slot_allows (fixed k) register lower = register && eqb lower k
slot_allows (opcode file) register lower = true
slot_allows zero_slot register lower = true

-- whether all operands allow it, and the rest of the test holds
abbrev pub slots_allow : List (Use × Slot) → Bool → ℕ → Bool → Bool
slots_allow [] register lower rest = rest
slots_allow ((how, slot) ∷ xs) register lower rest = slot_allows slot register lower && slots_allow xs register lower rest

-- what a ModRM byte may be, by its fields mod, reg and rm: mod and rm for each operand, reg where it is a digit
unfoldable pub allows : Form → ℕ → ℕ → ℕ → Bool
allows form upper middle lower = slots_allow form.operands (eqb upper 3) lower (list_allows form.digits middle)

abbrev pub immediate_size : Form → ℕ
immediate_size form = form.immediate

-- whether the immediate is a suffix
abbrev pub has_suffix : Form → Bool
has_suffix form = is_any form.suffixes

-- what the immediate may be
abbrev pub accepts : Form → ℕ → Bool
accepts form immediate = list_allows form.suffixes immediate

-- the size of the operand in memory, in bytes
abbrev size_in : List (Use × Slot) → ℕ
size_in [] = 0
size_in ((how, reg file) ∷ xs) = size_in xs
size_in ((how, rm file) ∷ xs) = size_in xs
size_in ((how, rm/mem file bytes) ∷ xs) = bytes
size_in ((how, mem bytes) ∷ xs) = bytes
size_in ((how, edi bytes) ∷ xs) = bytes
size_in ((how, fixed k) ∷ xs) = size_in xs
size_in ((how, opcode file) ∷ xs) = size_in xs
size_in ((how, zero_slot) ∷ xs) = size_in xs

abbrev pub memory_size : Form → ℕ
memory_size form = size_in form.operands
