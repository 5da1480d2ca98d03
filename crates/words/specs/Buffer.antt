-- A number of up to 8 bytes in a buffer: what is read at a place, and what a store leaves.
use Rattle.std.specs.Prelude.{Bool, cond, ◌&&◌, List, ◌++◌, ℕ, ◌+◌, leb, length, take, drop}
use Rattle.words.specs.Number.{number, bytes}

-- at most 8 bytes, and all of them in a buffer of so many (`room`)
abbrev pub inside : ℕ → ℕ → ℕ → Bool
inside room at size = leb size 8 && leb (at + size) room

-- the number of the `size` bytes at a place, or 0
unfoldable pub loaded : List ℕ → ℕ → ℕ → ℕ
loaded buffer at size = cond (inside (length buffer) at size) (number (take size (drop at buffer))) 0

-- the buffer with the `size` lowest bytes of a number at a place, or unchanged
unfoldable pub stored : List ℕ → ℕ → ℕ → ℕ → List ℕ
stored buffer at size value =
    cond (inside (length buffer) at size) (take at buffer ++ bytes size value ++ drop (at + size) buffer) buffer
