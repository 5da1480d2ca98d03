-- The machine that a page starts from: registers from the bytes of its fields, marks from its marks byte.
use Rattle.std.specs.Prelude.{List, [], ◌∷◌, ℕ, ◌*◌, ◌/◌, ◌%◌, ◌^◌, Bool, eqb}
use Rattle.words.specs.Buffer.{loaded}
use Rattle.manual.specs.declared.Marks.{Marks}
use Rattle.machine.specs.declared.Machine.{Machine}

-- the k-th number of `size` bytes in a field; in a field that is absent it is 0
abbrev pub nth : List ℕ → ℕ → ℕ → ℕ
nth field size k = loaded field (size * k) size

-- eight of them
abbrev pub eight : List ℕ → ℕ → List ℕ
eight field size =
    nth field size 0 ∷ nth field size 1 ∷ nth field size 2 ∷ nth field size 3 ∷ nth field size 4 ∷ nth field size 5 ∷ nth field size 6 ∷ nth field size 7 ∷ []

-- bit k of the marks byte
abbrev pub mark_at : ℕ → ℕ → Bool
mark_at k marks = eqb (marks / 2 ^ k % 2) 1

-- bit 0 is EM, 1 TS, 2 pending, 3 the tag mark, 4 the zero mark
abbrev pub marks_of : ℕ → Marks
marks_of marks = record { valid = mark_at 3 marks; zero = mark_at 4 marks; em = mark_at 0 marks; ts = mark_at 1 marks; pending = mark_at 2 marks }

-- MMX registers of 8 bytes, integer registers of 4
unfoldable pub start_of : List ℕ → List ℕ → ℕ → Machine
start_of mmx integers marks = record { mmx = eight mmx 8; integers = eight integers 4; marks = marks_of marks }
