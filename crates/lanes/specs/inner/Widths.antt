-- Which widths fill a register, and which of them are a pack's.
use Rattle.std.specs.Prelude.{◌≡◌, ◌⊎◌, ℕ, ◌*◌, ◌/◌, ◌≤◌}

-- the lanes fill the register
abbrev pub Fills : ℕ → Type 0
Fills w = (1 ≤ w) × (w ≤ 64) × (w * (64 / w) ≡ 64)

-- bytes or words, which a pack leaves
abbrev pub Narrow : ℕ → Type 0
Narrow w = (w ≡ 8) ⊎ (w ≡ 16)
