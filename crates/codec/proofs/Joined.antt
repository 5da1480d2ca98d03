-- A byte of three fields gives its fields, and they the byte.
use Rattle.std.specs.Prelude.{ℕ, ◌<◌, ◌≡◌}
use Rattle.basis.proofs.Names.{arith}
use Rattle.codec.specs.Operands.{upper, middle, lower, joined}
use Rattle.codec.specs.inner.Fields.{Fields}

pub joined_fields : (b : ℕ) → joined (upper b) (middle b) (lower b) ≡ b
joined_fields b = omega arith

pub middle_lt : (b : ℕ) → middle b < 8
middle_lt b = omega arith

pub lower_lt : (b : ℕ) → lower b < 8
lower_lt b = omega arith

pub fields : (b : ℕ) → b < 256 → Fields (upper b) (middle b) (lower b)
fields b h = record { upper_fits = omega arith; middle-fits = middle_lt b; lower-fits = lower_lt b }

module _ (high mid low : ℕ) (f : Fields high mid low) where
  pub upper-joined : upper (joined high mid low) ≡ high
  upper-joined = omega arith

  pub middle-joined : middle (joined high mid low) ≡ mid
  middle-joined = omega arith

  pub lower-joined : lower (joined high mid low) ≡ low
  lower-joined = omega arith

  pub joined_lt : joined high mid low < 256
  joined_lt = omega arith
