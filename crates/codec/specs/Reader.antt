-- Reading bytes from left to right: what is still to be read, and what it gives on the bytes that are left.
use Rattle.std.specs.Prelude.{ℕ, ◌+◌, List, [], ◌∷◌, cond, leb, length, take, drop}
use Rattle.words.specs.Number.{number}
use Rattle.codec.specs.Refusals.{code_ends}
use Rattle.codec.specs.declared.Instruction.{Instruction}
use Rattle.codec.specs.Answers.{Decoded, good, refused}

pub data Reader : Type 0 where
  -- nothing: the instruction is whole
  whole : Instruction → Reader
  -- nothing: it is refused
  refuse : ℕ → Reader
  -- a byte, and what it asks for
  byte : (ℕ → Reader) → Reader
  -- a little-endian number of so many bytes, and what it asks for
  field : ℕ → (ℕ → Reader) → Reader

-- what a reader gives where `at` bytes have been read before and s is left: the instruction and how many bytes have been read then
abbrev pub reads : Reader → ℕ → List ℕ → Decoded
reads (whole instruction) at s = good instruction at
reads (refuse refusal) at s = refused refusal
reads (byte next) at [] = refused code_ends
reads (byte next) at (b ∷ s) = reads (next b) (at + 1) s
reads (field k next) at s =
    cond (leb k (length s)) (reads (next (number (take k s))) (at + k) (drop k s)) (refused code_ends)
