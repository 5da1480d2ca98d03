-- In each lane no more is taken than is there.
use Rattle.lanes.proofs.Ranking.{ranking}
use Rattle.lanes.proofs.extremes.least_unsigned.Goals as goal

pub overflow_sub-result : goal.overflow_sub-result
overflow_sub-result c = search ranking
