-- The state: registers, marks and the bytes of the lent memory; the limits of that memory and of a floor in it, and what no step changes.
use Rattle.std.specs.Prelude.{Bool, List, ℕ, ltb, length, set}
use Rattle.manual.specs.declared.Marks.{Marks}

pub record State : Type 0 where
  -- MM0 to MM7
  pub mmx : List ℕ
  -- EAX ECX EDX EBX ESP EBP ESI EDI
  pub integers : List ℕ
  pub marks : Marks
  pub memory : List ℕ

-- the state with a number in MMX register k
abbrev pub with_mmx : State → ℕ → ℕ → State
with_mmx s k value = record { mmx = set s.mmx k value; integers = s.integers; marks = s.marks; memory = s.memory }

-- the state with a number in integer register k
abbrev pub with_integer : State → ℕ → ℕ → State
with_integer s k value = record { mmx = s.mmx; integers = set s.integers k value; marks = s.marks; memory = s.memory }

-- the state with another memory
abbrev pub with_memory : State → List ℕ → State
with_memory s memory = record { mmx = s.mmx; integers = s.integers; marks = s.marks; memory = memory }

-- the marks with the tag mark valid (true) or empty (false)
abbrev pub tagged : Marks → Bool → Marks
tagged marks valid = record { valid = valid; zero = marks.zero; em = marks.em; ts = marks.ts; pending = marks.pending }

-- the state with the tag mark valid (true) or empty (false)
abbrev pub with_tag : State → Bool → State
with_tag s valid = record { mmx = s.mmx; integers = s.integers; marks = tagged s.marks valid; memory = s.memory }

-- the marks with the zero mark set (true) or clear (false)
abbrev pub zeroed : Marks → Bool → Marks
zeroed marks zero = record { valid = marks.valid; zero = zero; em = marks.em; ts = marks.ts; pending = marks.pending }

-- the state with the zero mark set (true) or clear (false)
abbrev pub with_zero : State → Bool → State
with_zero s zero = record { mmx = s.mmx; integers = s.integers; marks = zeroed s.marks zero; memory = s.memory }

-- the longest memory, in bytes
abbrev pub longest_memory : ℕ
longest_memory = 32768

abbrev pub is_too_long : List ℕ → Bool
is_too_long memory = ltb longest_memory (length memory)

-- a floor, below which no byte may be written, is at most the memory's length
abbrev pub is_too_high : ℕ → List ℕ → Bool
is_too_high floor memory = ltb (length memory) floor

-- what no step changes: the control marks, how many registers there are, and how long the memory is
pub record Frozen : Type 0 where
  pub em : Bool
  pub ts : Bool
  pub pending : Bool
  pub mmx : ℕ
  pub integers : ℕ
  pub memory : ℕ

abbrev pub frozen : State → Frozen
frozen s =
    record {
      em = s.marks.em;
      ts = s.marks.ts;
      pending = s.marks.pending;
      mmx = length s.mmx;
      integers = length s.integers;
      memory = length s.memory;
    }
