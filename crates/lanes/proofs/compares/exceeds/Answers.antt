-- The sum of two lanes without their top bits stays in its lane.
use Rattle.lanes.proofs.Comparing.{comparing}
use Rattle.lanes.proofs.compares.exceeds.Goals as goal

pub overflow_add-beyond : goal.overflow_add-beyond
overflow_add-beyond c = search comparing
