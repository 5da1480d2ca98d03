-- The register that may be named: the code's option as the definitions have it.
use Rattle.std.specs.Prelude as std
use Rattle.std.specs.Prelude.{ℕ, None, Some}
use Rattle.basis.specs.Names.{Option, none, some}

abbrev pub named : std.Option ℕ → Option ℕ
named None = none
named (Some k) = some k
