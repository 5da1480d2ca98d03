-- The sizes of displacements and immediates, 0, 1 or 4 bytes, and how far a number of four bytes reaches.
use Rattle.std.specs.Prelude.{ℕ, ◌+◌, ◌≤◌, ◌<◌, ◌≡◌, refl, List, length}
use Rattle.basis.proofs.Names.{arith}
use Rattle.codec.specs.inner.Fields.{Sized}
use Rattle.codec.proofs.Tests.{tests}

pub sized_0 : Sized 0
sized_0 = record { most = omega arith; four = λ p q. absurd (p refl) }

pub sized_1 : Sized 1
sized_1 = record { most = omega arith; four = λ p q. absurd (q refl) }

pub sized_4 : Sized 4
sized_4 = record { most = omega arith; four = λ p q. refl }

-- each of the four bytes is there
pub byte_there : (l : List ℕ) (at k j : ℕ) → Sized k → (k ≡ 0 → ⊥) → (k ≡ 1 → ⊥) → at + k ≤ length l → j < 4 → at + j < length l
byte_there l at k j s p q h i = omega (arith, s.four p q)

pub ruleset sizes = (tests, sized_0, sized_1, sized_4)
