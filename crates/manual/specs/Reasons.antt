-- When each refusal of a step over a floor is due, in the customer's words: 1, then 20, then 2 to 6 by the reading, then 7, 8, 9 where the control
-- marks stop the instruction, then 10 or 14, then 21, then 22; and 19 for a jump.
use Rattle.std.specs.Prelude.{◌≡◌, ◌⊎◌, Bool, true, false, List, ℕ, ◌+◌, ◌<◌, length}
use Rattle.basis.specs.Names.{Memᴰ as In}
use Rattle.singles.specs.Siblings.{Sibling, PF2IW, PI2FW, PSWAPD, PAVGUSB, PFCMPGT, PFMAX, has_unsupported}
use Rattle.codec.specs.Forms.{has_suffix}
use Rattle.codec.specs.Opcodes.{suffixed_of, form_for}
use Rattle.codec.specs.Answers.{good}
use Rattle.codec.specs.Reads.{read_at}
use Rattle.codec.specs.Reasons.{ReasonAt}
use Rattle.codec.specs.declared.Instruction.{Instruction}
use Rattle.manual.specs.Refusals.{memory_too_long, invalid_opcode, not_available, is_pending, outside_memory, outside_by_stack, jumps_outside, floor_too_high, below_floor, half_unsupported}
use Rattle.manual.specs.State.{State, is_too_long, is_too_high}
use Rattle.manual.specs.Kinds.{stops}
use Rattle.manual.specs.Addresses.{Address, is_stack_base, address}
use Rattle.manual.specs.Locations.{Location, memory}
use Rattle.manual.specs.Effects.{number_of}
use Rattle.manual.specs.Instructions.{effect_of}
use Rattle.manual.specs.Jumps.{is_jump, ahead}

-- neither 1 nor 20 is due
pub record Fits (floor : ℕ) (s : State) : Type 0 where
  pub memory_fits : is_too_long s.memory ≡ false
  pub floor_fits : is_too_high floor s.memory ≡ false

-- the instruction at a position, of so many bytes: none of 1, 20 and 2 to 6 is due
pub record Stands (floor : ℕ) (code : List ℕ) (at : ℕ) (s : State) (i : Instruction) (size : ℕ) : Type 0 where
  pub fits : Fits floor s
  pub read : read_at code at ≡ good i size

-- a control mark stops the instruction
abbrev pub stops_it : Instruction → Bool → Bool
stops_it i mark = stops (effect_of i).kind mark

-- the instruction at a position, which no control mark stops: none of 1, 20 and 2 to 9 is due
pub record Passes (floor : ℕ) (code : List ℕ) (at : ℕ) (s : State) (i : Instruction) (size : ℕ) : Type 0 where
  pub stands : Stands floor code at s i size
  pub em : stops_it i s.marks.em ≡ false
  pub ts : stops_it i s.marks.ts ≡ false
  pub pending : stops_it i s.marks.pending ≡ false

-- the instruction takes or gives an operand
abbrev pub Touches : Instruction → Location → Type 0
Touches i x = In x (effect_of i).takes ⊎ In x (effect_of i).gives

-- a byte of an operand in memory is outside the memory
pub record Outside (s : State) (x : Location) : Type 0 where
  pub at : Address
  pub size : ℕ
  pub operand : x ≡ memory at size
  pub past : length s.memory < address s.integers at + size

-- the same, where none of its operands is outside: nor is 10 or 14
pub record Reaches (floor : ℕ) (code : List ℕ) (at : ℕ) (s : State) (i : Instruction) (size : ℕ) : Type 0 where
  pub passes : Passes floor code at s i size
  pub inside : (x : Location) → Touches i x → ¬ Outside s x

-- a byte of an operand in memory, `which` from 0 on, is below the floor
pub record Below (floor : ℕ) (s : State) (x : Location) : Type 0 where
  pub at : Address
  pub size : ℕ
  pub operand : x ≡ memory at size
  pub which : ℕ
  pub among : which < size
  pub low : address s.integers at + which < floor

-- PF2IW, PFCMPGT and PFMAX read their operands as pairs of single-precision numbers
abbrev pub reads_singles : Sibling → Bool
reads_singles PF2IW = true
reads_singles PI2FW = false
reads_singles PSWAPD = false
reads_singles PAVGUSB = false
reads_singles PFCMPGT = true
reads_singles PFMAX = true

-- the instruction is one of these, and a half of an operand that it reads is unsupported
pub record Unsupported (s : State) (i : Instruction) : Type 0 where
  pub suffixed : has_suffix (form_for i.first i.second) ≡ true
  pub reading_singles : reads_singles (suffixed_of i.immediate).sibling ≡ true
  pub operand : Location
  pub is_read : In operand (effect_of i).takes
  pub half : has_unsupported (number_of s operand) ≡ true

-- the target of a jump is before 0, or past the end of a code of so many bytes (`room`)
abbrev pub Astray : ℕ → ℕ → ℕ → Type 0
Astray room behind byte = (ahead behind byte < 256) ⊎ (room + 256 < ahead behind byte)

pub data Reason (floor : ℕ) (code : List ℕ) (at : ℕ) (s : State) : ℕ → Type 0 where
  one : is_too_long s.memory ≡ true → Reason floor code at s memory_too_long
  twenty : is_too_long s.memory ≡ false → is_too_high floor s.memory ≡ true → Reason floor code at s floor_too_high
  reading : {n : ℕ} → Fits floor s → ReasonAt code at n → Reason floor code at s n
  seven : (i : Instruction) (size : ℕ) → Stands floor code at s i size → stops_it i s.marks.em ≡ true → Reason floor code at s invalid_opcode
  eight : (i : Instruction) (size : ℕ) → Stands floor code at s i size → stops_it i s.marks.em ≡ false → stops_it i s.marks.ts ≡ true → Reason floor code at s not_available
  nine : (i : Instruction) (size : ℕ) → Stands floor code at s i size → stops_it i s.marks.em ≡ false → stops_it i s.marks.ts ≡ false → stops_it i s.marks.pending ≡ true → Reason floor code at s is_pending
  ten : (i : Instruction) (size : ℕ) → Passes floor code at s i size → (x : Location) → Touches i x → (o : Outside s x) → is_stack_base o.at.base ≡ false → Reason floor code at s outside_memory
  fourteen : (i : Instruction) (size : ℕ) → Passes floor code at s i size → (x : Location) → Touches i x → (o : Outside s x) → is_stack_base o.at.base ≡ true → Reason floor code at s outside_by_stack
  twenty_one : (i : Instruction) (size : ℕ) → Reaches floor code at s i size → (x : Location) → In x (effect_of i).gives → Below floor s x → Reason floor code at s below_floor
  twenty_two : (i : Instruction) (size : ℕ) → Reaches floor code at s i size → ((x : Location) → In x (effect_of i).gives → ¬ Below floor s x) → Unsupported s i → Reason floor code at s half_unsupported
  nineteen : (i : Instruction) (size : ℕ) → Stands floor code at s i size → is_jump i ≡ true → s.marks.zero ≡ false → Astray (length code) (at + size) i.immediate → Reason floor code at s jumps_outside
