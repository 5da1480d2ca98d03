-- A top bit and all other bits fit in their lane.
use Rattle.lanes.proofs.Ends.{ending}
use Rattle.lanes.proofs.lane.Width.ends.Goals as goal

pub overflow_add-result : goal.overflow_add-result
overflow_add-result c = search ending
