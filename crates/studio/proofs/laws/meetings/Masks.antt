-- A register in both of two masks.
use Rattle.std.specs.Prelude.{◌≡◌, ◌&&◌, ℕ}
use Rattle.basis.specs.Names.{bit_and}
use Rattle.basis.proofs.Names.{arith}
use Rattle.machine.proofs.laws.meetings.Masks.{bit, bit-bit_and}
use Rattle.machine.proofs.laws.meetings.Meeting.{and_exactly}
use Rattle.studio.specs.inner.Meetings.{in_mask}
use Rattle.studio.proofs.laws.meetings.Tests.{equal_exactly, exactly_then, together}

pub in_masks : (a b k : ℕ) → (in_mask a k && in_mask b k) ≡ in_mask (bit_and a b) k
in_masks a b k =
    together _ _
    (exactly_then (and_exactly _ _ (equal_exactly (bit k a) 1) (equal_exactly (bit k b) 1))
    (λ (x, y). omega (arith, bit-bit_and k a b), λ e. (omega (arith, bit-bit_and k a b), omega (arith, bit-bit_and k a b))))
    (equal_exactly (bit k (bit_and a b)) 1)
