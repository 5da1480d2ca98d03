-- The state that a machine is, with the bytes of the memory that is lent beside it.
use Rattle.std.specs.Prelude.{List, ℕ}
use Rattle.manual.specs.State.{State}
use Rattle.machine.specs.declared.Machine.{Machine}

abbrev pub state_of : Machine → List ℕ → State
state_of machine memory = record { mmx = machine.mmx; integers = machine.integers; marks = machine.marks; memory = memory }
