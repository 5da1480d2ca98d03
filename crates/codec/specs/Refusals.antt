-- The refusal numbers of reading and writing, from document 01's table of them.
use Rattle.std.specs.Prelude.{ℕ}

-- the code is longer than 4,096 bytes
abbrev pub code_too_long : ℕ
code_too_long = 2

-- the code ends inside the instruction, or before it
abbrev pub code_ends : ℕ
code_ends = 3

-- the first byte is a prefix
abbrev pub prefixed : ℕ
prefixed = 4

-- another first byte than 0F and those of loops, a second byte that is not in the table, or a suffix that is not listed
abbrev pub not_listed : ℕ
not_listed = 5

-- a ModRM byte that the form does not allow: 71, 72 or 73 with mod not 11, a register or memory form that 000 does not list, a digit that is not
-- listed, AE before another byte than F8, or 83 in another form than /0 with mod 11
abbrev pub not_allowed : ℕ
not_allowed = 6

-- no byte string reads as the record
abbrev pub no_bytes : ℕ
no_bytes = 11

-- the buffer is shorter than the instruction
abbrev pub buffer_ends : ℕ
buffer_ends = 12
