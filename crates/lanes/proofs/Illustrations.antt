-- The illustrations hold: the definitions compute them.
use Rattle.basis.proofs.Names.{T}
use Rattle.lanes.specs.Lane.{lane, top_bit, build, register}
use Rattle.lanes.specs.Signed.{signed, wrap, clamp, clamp_signed, clamp_unsigned}
use Rattle.lanes.specs.Rules.{packed, pairwise, difference, difference_signed, sum_unsigned, difference_unsigned, equal, greater, product_low, product_high, product_sum, pack, unpack, and_not, shift, left, right, right_signed, blend, mean, extract, insert, maximum_signed, maximum_unsigned, minimum_signed, minimum_unsigned, top_bits, product_high_unsigned, distance, total, distances, shuffle}
use Rattle.lanes.specs.Operations.{operate, operate_three}
use Rattle.lanes.specs.Illustrations.{hold, illustrations}

pub illustrations-hold : T (hold illustrations)
unfolding operate operate_three packed pairwise difference difference_signed sum_unsigned difference_unsigned equal greater product_low product_high product_sum pack unpack and_not shift left right right_signed blend mean extract insert maximum_signed maximum_unsigned minimum_signed minimum_unsigned top_bits product_high_unsigned distance total distances shuffle lane top_bit build register signed wrap clamp clamp_signed clamp_unsigned
illustrations-hold = tt
