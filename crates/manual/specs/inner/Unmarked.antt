-- The step of an effect over a floor, whose control marks have been tested.
use Rattle.std.specs.Prelude.{ℕ}
use Rattle.reorder.specs.Result.{Result}
use Rattle.reorder.specs.Plan.{exec_by}
use Rattle.manual.specs.State.{State}
use Rattle.manual.specs.Places.{look, put}
use Rattle.manual.specs.Kinds.{marked}
use Rattle.manual.specs.Effects.{Effect, placed_above}

abbrev pub directly : ℕ → Effect → State → Result State
directly floor = exec_by look put marked (placed_above floor)
