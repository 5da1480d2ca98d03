-- The value is the number of the bytes passed, which are those from i on.
use Rattle.std.specs.Prelude.{◌≡◌, ◌+◌, ◌-◌, ◌≤◌}
use Rattle.words.specs.Number.{number}
use Rattle.words.specs.inner.Bytewise.{gets}
use Rattle.words.proofs.load_bytes.Given as goal

abbrev pub invariant-loop-i : goal.invariant-loop-i
invariant-loop-i l = (l.at ≤ l.i) × (l.value ≡ number (gets (l.at + l.size - l.i) l.buffer l.i))
