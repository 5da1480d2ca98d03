-- Each lane fits, and so the register is what the rule leaves.
use Rattle.lanes.proofs.Building.{built}
use Rattle.lanes.proofs.products.multiply_low.Goals as goal

pub lane_by_lane-requires-clause-fits : goal.lane_by_lane-requires-clause-fits
lane_by_lane-requires-clause-fits c = search built

pub returns : goal.returns
returns c = search built
