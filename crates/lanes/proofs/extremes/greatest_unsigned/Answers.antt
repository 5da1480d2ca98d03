-- In each lane the sum is one of the two numbers.
use Rattle.lanes.proofs.Ranking.{ranking}
use Rattle.lanes.proofs.extremes.greatest_unsigned.Goals as goal

pub overflow_add-result : goal.overflow_add-result
overflow_add-result c = search ranking
