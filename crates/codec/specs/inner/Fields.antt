-- What the code knows of an instruction's fields: they fit their places, and how many bytes they take.
use Rattle.std.specs.Prelude.{ℕ, ◌+◌, ◌≤◌, ◌<◌, ◌≡◌, length}
use Rattle.codec.specs.Operands.{displacement_size}
use Rattle.codec.specs.Writes.{sib_bytes}
use Rattle.codec.specs.declared.Operand.{Operand}

-- fields that fit a ModRM or SIB byte
pub record Fields (high mid low : ℕ) : Type 0 where
  pub upper_fits : high < 4
  pub middle-fits : mid < 8
  pub lower-fits : low < 8

-- register fields that name registers
pub record Registers (w : Operand) : Type 0 where
  pub reg : w.reg < 8
  pub rm : w.rm < 8
  pub index : w.index < 8
  pub base : w.base < 8

-- the sizes that a displacement or an immediate has: 0, 1 or 4 bytes
pub record Sized (k : ℕ) : Type 0 where
  pub most : k ≤ 4
  pub four : (k ≡ 0 → ⊥) → (k ≡ 1 → ⊥) → k ≡ 4

-- how many bytes the ModRM and SIB bytes and the displacement are
abbrev pub operand_size : Operand → ℕ
operand_size operand =
    1 + length (sib_bytes operand) + displacement_size operand.mode operand.rm operand.base
