-- The refusal numbers of steps, runs and footprints, from document 01's table of them and document 02's Req 04, 07, 08 and 10 (2 to 6 are the reader's).
use Rattle.std.specs.Prelude.{ℕ}

-- the memory is longer than 32,768 bytes
abbrev pub memory_too_long : ℕ
memory_too_long = 1

-- EM is set
abbrev pub invalid_opcode : ℕ
invalid_opcode = 7

-- TS is set
abbrev pub not_available : ℕ
not_available = 8

-- pending is set
abbrev pub is_pending : ℕ
is_pending = 9

-- a byte of the memory operand is outside the memory
abbrev pub outside_memory : ℕ
outside_memory = 10

-- the same, where the operand's base register is ESP or EBP
abbrev pub outside_by_stack : ℕ
outside_by_stack = 14

-- a jump that is taken goes to before 0 or past the code's end
abbrev pub jumps_outside : ℕ
jumps_outside = 19

-- the floor is above the memory's length
abbrev pub floor_too_high : ℕ
floor_too_high = 20

-- a byte below the floor would be written
abbrev pub below_floor : ℕ
below_floor = 21

-- a half that is read as a single-precision number is unsupported
abbrev pub half_unsupported : ℕ
half_unsupported = 22
