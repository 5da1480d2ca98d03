-- What a turn of `products::lane_by_lane` asks and leaves: the lane fits, and is put above those below it.
use Rattle.lanes.proofs.Building.{inside, next_below, next_fits, next-lanes}
use Rattle.lanes.proofs.products.lane_by_lane.Goals as goal

pub overflow_add-lanes : goal.overflow_add-lanes
overflow_add-lanes g c =
    let w = c.args.w.bits in
    let i = c.loop-i.i in
    let x = c.lane_of.result in
    let inner = inside w 64 i c.args.w.fills.0 c.loop-i-test.true in
    let small = c.requires.fits i x c.loop-i-test.true c.lane_of.ensures in
    record { fits = next_fits w i x c.loop-i.lanes inner small c.loop-i.invariant.0 }

pub loop-i-preserved : goal.loop-i-preserved
loop-i-preserved g c =
    let w = c.args.w.bits in
    let i = c.loop-i.i in
    let x = c.lane_of.result in
    let inner = inside w 64 i c.args.w.fills.0 c.loop-i-test.true in
    let small = c.requires.fits i x c.loop-i-test.true c.lane_of.ensures in
    let below = c.loop-i.invariant.0 in (
      next_below w i x c.loop-i.lanes inner small below,
      next-lanes w i x c.loop-i.lanes inner small below (goal.F-post g c.args.lane_of) c.loop-i.invariant.1 c.lane_of.ensures,
    )
