-- The loop of `products::lane_by_lane` has the lanes below i, each as it was left, and nothing above them.
use Rattle.std.specs.Prelude.{ℕ, ◌*◌, ◌^◌, ◌<◌}
use Rattle.lanes.specs.Lane.{lane}
use Rattle.lanes.proofs.products.lane_by_lane.Given as goal

abbrev pub invariant-loop-i : goal.invariant-loop-i
invariant-loop-i g l = (l.lanes < 2 ^ (l.w.bits * l.i)) × ((j : ℕ) → j < l.i → goal.F-post g l.lane_of j (lane l.w.bits j l.lanes))
