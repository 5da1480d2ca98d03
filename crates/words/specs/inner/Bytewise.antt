-- A buffer read one byte after the other.
use Rattle.std.specs.Prelude.{List, [], ◌∷◌, ℕ, zero, suc, ◌+◌, get_or}

-- the n bytes from a place on
abbrev pub gets : ℕ → List ℕ → ℕ → List ℕ
gets zero buffer at = []
gets (suc n) buffer at = get_or buffer at 0 ∷ gets n buffer (at + 1)
