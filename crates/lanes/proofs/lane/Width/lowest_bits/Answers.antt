-- A lane's ones are not 0.
use Rattle.lanes.proofs.LowestBits.{lowest}
use Rattle.lanes.proofs.lane.Width.lowest_bits.Goals as goal

pub nonzero_div-result : goal.nonzero_div-result
nonzero_div-result c = search lowest
