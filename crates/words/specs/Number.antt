-- A number and its bytes, the least significant first.
use Rattle.std.specs.Prelude.{List, [], ◌∷◌, ℕ, zero, suc, ◌+◌, ◌*◌, ◌/◌, ◌%◌, ◌<◌, get_or}

-- each is a byte (past the end stands 0)
abbrev pub AllBytes : List ℕ → Type 0
AllBytes l = (i : ℕ) → get_or l i 0 < 256

-- the number whose bytes these are
abbrev pub number : List ℕ → ℕ
number [] = 0
number (b ∷ bs) = b + 256 * number bs

-- the k lowest bytes of a number
abbrev pub bytes : ℕ → ℕ → List ℕ
bytes zero value = []
bytes (suc k) value = value % 256 ∷ bytes k (value / 256)
