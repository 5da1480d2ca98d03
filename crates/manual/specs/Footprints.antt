-- The footprint of the step at a position, as lists of places, and when two footprints meet.
use Rattle.std.specs.Prelude.{List, ℕ, ◌+◌, length}
use Rattle.reorder.specs.Result.{Result, and_then, provided}
use Rattle.reorder.specs.Footprint as places
use Rattle.reorder.specs.Run.{position_reached, state_reached}
use Rattle.codec.specs.declared.Kind.{Kind}
use Rattle.manual.specs.State.{State}
use Rattle.manual.specs.Places.{Place}
use Rattle.manual.specs.Kinds.{KindsMeet}
use Rattle.manual.specs.Instructions.{footprint}
use Rattle.manual.specs.Jumps.{next}
use Rattle.manual.specs.Steps.{instruction_at}
use Rattle.manual.specs.Runs.{run_of}

-- what the step over a floor reads and writes, or the step's refusal
unfoldable pub footprint_at : ℕ → List ℕ → ℕ → State → Result (places.Footprint Place Kind)
footprint_at floor code at s =
    and_then (instruction_at floor code at s)
    (λ read. provided (footprint floor read.instruction s) (next (length code) read.instruction s (at + read.size)))

-- the footprint of instruction k of a block, in the state where it runs over a floor in the original order: that of the step which a run of k
-- instructions has come to
abbrev pub footprint_in_run : ℕ → List ℕ → State → ℕ → Result (places.Footprint Place Kind)
footprint_in_run floor code start k = let answer = run_of floor code k start in footprint_at floor code (position_reached answer) (state_reached answer)

-- one writes a place that the other reads or writes, or their kinds meet: either is EMMS, and neither a prefetch or SFENCE
abbrev pub Meets : Result (places.Footprint Place Kind) → Result (places.Footprint Place Kind) → Type 0
Meets = places.Meets KindsMeet
