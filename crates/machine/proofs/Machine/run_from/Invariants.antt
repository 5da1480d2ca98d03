-- `Machine::run_from`: before each turn, what is left of the run from here is the run from the start.
use Rattle.std.specs.Prelude.{◌≡◌, ◌-◌, ◌≤◌, length}
use Rattle.machine.specs.State.{state_of}
use Rattle.works.specs.Bars.{number_in, barred_by}
use Rattle.machine.specs.inner.Works.{machine_of}
use Rattle.machine.specs.inner.Runs.{remaining}
use Rattle.machine.proofs.Machine.run_from.Given as goal

abbrev pub invariant-loop-at : goal.invariant-loop-at
invariant-loop-at l =
    record {
      left : l.remaining ≤ l.budget;
      within : l.at ≤ length l.code;
      kept : length l.memory ≡ length l.initial.memory;
      barred : number_in l.bar ≡ barred_by l.marks;
      same : remaining l.floor l.remaining l.code l.at (l.budget - l.remaining) (state_of (machine_of l.mmx l.integers l.marks) l.memory)
          ≡ remaining l.floor l.budget l.code l.start 0 (state_of (machine_of l.initial.mmx l.initial.integers l.initial.marks) l.initial.memory);
    }

abbrev pub decreases-loop-at : goal.decreases-loop-at
decreases-loop-at l = l.remaining
