-- The illustrations hold: the definitions compute them.
use Rattle.basis.specs.Names.{to_bits, of_int}
use Rattle.basis.proofs.Names.{T}
use Rattle.lanes.specs.Lane.{lane, build, register}
use Rattle.lanes.specs.Signed.{signed}
use Rattle.lanes.specs.Rules.{packed, pairwise, mean}
use Rattle.lanes.specs.Operations.{operate}
use Rattle.singles.specs.Ranges.{range_of}
use Rattle.singles.specs.Tables.{exceeds, greater_cell, greater_half, maximum_cell, maximum_half, whole_part, word_cell, word_half, single_of}
use Rattle.singles.specs.Siblings.{both, pf2iw, pi2fw, pswapd, pfcmpgt, pfmax, leave}
use Rattle.singles.specs.Illustrations.{hold, illustrations}

pub illustrations-hold : T (hold illustrations)
unfolding leave pf2iw pi2fw pswapd pfcmpgt pfmax both exceeds greater_cell greater_half maximum_cell maximum_half whole_part word_cell word_half single_of range_of operate packed pairwise mean lane build register signed to_bits of_int
illustrations-hold = tt
