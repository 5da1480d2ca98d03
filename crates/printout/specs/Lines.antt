-- What the page program prints, line by line.
use Rattle.std.specs.Prelude.{Bool, cond, List, [], ◌∷◌, ◌++◌, ℕ, suc, ◌+◌, ◌*◌, ◌%◌, eqb, length, get_or, drop, map}
use Rattle.basis.specs.Names.{code}
use Rattle.manual.specs.State.{longest_memory}
use Rattle.machine.specs.declared.End.{End}
use Rattle.machine.specs.declared.End.TheVariants.{Done, Spent, Refused}
use Rattle.printout.specs.Characters.{ascii, newline, hex, decimal}

-- `refused 13`
abbrev pub refused : ℕ → List ℕ
refused number = ascii "refused " ++ decimal number

-- `done`, `spent` or `refused 10`
unfoldable pub answer : End → List ℕ
answer Done = ascii "done"
answer Spent = ascii "spent"
answer (Refused number) = refused number

-- `done 1 at 3`
unfoldable pub first_line : End → ℕ → ℕ → List ℕ
first_line ending count position =
    answer ending ++ (ascii " " ++ decimal count) ++ (ascii " at " ++ decimal position ++ newline)

-- `mm0 0000000000000001`: a name of three letters and a space, and the register's hex digits
unfoldable pub register_lines : List (List ℕ) → ℕ → List ℕ → List ℕ
register_lines names k [] = []
register_lines names k (value ∷ values) = get_or names 0 [] ++ (hex k value ++ newline) ++ register_lines (drop 1 names) k values

-- the lines of MM0 to MM7, and of the integer registers in the order of their numbers
abbrev pub mmx_names : List (List ℕ)
mmx_names = map ascii ("mm0 " ∷ "mm1 " ∷ "mm2 " ∷ "mm3 " ∷ "mm4 " ∷ "mm5 " ∷ "mm6 " ∷ "mm7 " ∷ [])

abbrev pub integer_names : List (List ℕ)
integer_names = map ascii ("eax " ∷ "ecx " ∷ "edx " ∷ "ebx " ∷ "esp " ∷ "ebp " ∷ "esi " ∷ "edi " ∷ [])

unfoldable pub mmx_lines : List ℕ → List ℕ
mmx_lines values = register_lines mmx_names 16 values

unfoldable pub integer_lines : List ℕ → List ℕ
integer_lines values = register_lines integer_names 8 values

-- `tags valid` or `tags empty`
unfoldable pub tags_line : Bool → List ℕ
tags_line valid = cond valid (ascii "tags valid\n") (ascii "tags empty\n")

-- `zero 1` or `zero 0`
unfoldable pub zero_line : Bool → List ℕ
zero_line zero = cond zero (ascii "zero 1\n") (ascii "zero 0\n")

-- `memory 32768`
unfoldable pub memory_line : ℕ → List ℕ
memory_line count = ascii "memory " ++ decimal count ++ newline

-- after a byte comes a line end, if it is the 16th of its line or if none follows it; else a space
abbrev pub gap_after : ℕ → ℕ → ℕ
gap_after index following = cond (eqb (index % 16) 15) (code "\n") (cond (eqb following 0) (code "\n") (code " "))

-- the bytes of a memory from an index on: two hex digits each
unfoldable pub byte_lines : ℕ → List ℕ → List ℕ
byte_lines index [] = []
byte_lines index (byte ∷ bytes) = hex 2 byte ++ (gap_after index (length bytes) ∷ []) ++ byte_lines (suc index) bytes

-- all that is printed of a run
unfoldable pub report_text : End → ℕ → ℕ → List ℕ → List ℕ → Bool → Bool → List ℕ → List ℕ
report_text ending count position mmx integers valid zero memory =
    (first_line ending count position ++ mmx_lines mmx ++ integer_lines integers)
    ++ (tags_line valid ++ zero_line zero ++ memory_line (length memory) ++ byte_lines 0 memory)

-- the longest report of a memory that the machine takes: a refusal has up to 3 digits, a count and a position up to 20 each, the memory's length 5
abbrev pub longest_report : ℕ
longest_report = (11 + 20 + 20 + 6) + (8 * 21 + 8 * 13 + 11 + 7) + (5 + 8) + 3 * longest_memory

-- all that is printed of a refused file
unfoldable pub refusal_text : ℕ → List ℕ
refusal_text number = refused number ++ newline
