-- What is left to put, put into the part, gives the end.
use Rattle.std.proofs.Common.{◌≡◌, ◌-◌, length}
use Rattle.basis.specs.Names.{sets}
use Rattle.words.specs.Number.{bytes}
use Rattle.words.proofs.store_bytes.Given as goal

abbrev pub invariant-loop-byte : goal.invariant-loop-byte
invariant-loop-byte l =
    (length l.byte-items ≡ l.size)
    × (sets l.byte-items l.byte-index (bytes (l.size - l.byte-index) l.rest) ≡ sets l.initial.byte-items 0 (bytes l.size l.value))
