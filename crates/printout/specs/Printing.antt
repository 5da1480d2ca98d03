-- What a printing leaves in a lent buffer.
use Rattle.std.specs.Prelude.{cond, List, ◌++◌, ℕ, leb, length, drop}

-- how many bytes it wrote, and the buffer
pub record Printed : Type 0 where
  pub written : ℕ
  pub buffer : List ℕ

abbrev pub printing : ℕ → List ℕ → Printed
printing written buffer = record { written = written; buffer = buffer }

-- a buffer gets the text at its start, and keeps what stands after it; one that is shorter than the text gets nothing
unfoldable pub printed : List ℕ → List ℕ → Printed
printed text buffer =
    cond (leb (length text) (length buffer)) (printing (length text) (text ++ drop (length text) buffer)) (printing 0 buffer)
