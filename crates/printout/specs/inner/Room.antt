-- Whether a text has room in a lent buffer behind what is put, and what putting it there leaves.
use Rattle.std.specs.Prelude.{◌≡◌, List, ℕ, ◌+◌, ◌*◌, ◌≤◌, length}
use Rattle.basis.specs.Names.{sets}
use Rattle.machine.specs.declared.End.{End}
use Rattle.printout.specs.Lines.{first_line, memory_line}
use Rattle.printout.specs.declared.put.Writer.{Writer}

-- the buffer with a text from a place on
unfoldable pub put : List ℕ → ℕ → List ℕ → List ℕ
put buffer at text = sets buffer at text

-- a text has room behind what is put
pub record Fits (text : List ℕ) (writer : Writer) : Type 0 where
  pub room : writer.written + length text ≤ length writer.out.now

-- a text is put behind what was put before, into the same buffer
pub record Puts (text : List ℕ) (before after : Writer) : Type 0 where
  pub same : after.out.ghost_name ≡ before.out.ghost_name
  pub ends : after.written ≡ before.written + length text
  pub content : after.out.now ≡ put before.out.now before.written text

-- how long a report with n bytes of memory is: 8 lines of 21 characters, 8 of 13, one of 11 and one of 7 stand between its first and its memory line
abbrev pub report_length : End → ℕ → ℕ → ℕ → ℕ
report_length ending count position n =
    length (first_line ending count position) + (8 * 21 + 8 * 13 + 11 + 7) + length (memory_line n) + 3 * n
