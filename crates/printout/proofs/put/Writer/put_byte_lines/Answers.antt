-- A turn puts the next byte, and what stands after it.
use Rattle.printout.proofs.Putting.{fits-remaining, less_remaining}
use Rattle.printout.proofs.Pieces.{next_byte}
use Rattle.printout.proofs.put.Writer.put_byte_lines.Goals as goal

pub put_hex-requires : goal.put_hex-requires
put_hex-requires c = fits-remaining _ c.loop-i.invariant (next_byte _ _ _ c.gap_after.ensures (search)) c.requires

pub loop-i-preserved : goal.loop-i-preserved
loop-i-preserved c = less_remaining c.put_hex.ensures c.loop-i.invariant (next_byte _ _ _ c.gap_after.ensures (search))
