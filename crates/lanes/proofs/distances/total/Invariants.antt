-- The loop of `distances::total` has added up the lanes below i.
use Rattle.std.specs.Prelude.{◌≡◌}
use Rattle.lanes.specs.Lane.{lane}
use Rattle.lanes.specs.Rules.{total}
use Rattle.lanes.proofs.distances.total.Given as goal

abbrev pub invariant-loop-i : goal.invariant-loop-i
invariant-loop-i l = l.sum ≡ total l.i (λ j. lane l.w.bits j l.x)
