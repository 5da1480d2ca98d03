-- Each turn puts one byte more; in the end the part is the bytes alone.
use Rattle.basis.proofs.Names.{arith, length-set}
use Rattle.words.proofs.Placing.{one_put, none_remaining, part_put}
use Rattle.words.proofs.store_bytes.Goals as goal

pub loop-byte-preserved : goal.loop-byte-preserved
loop-byte-preserved c =
    let i = c.loop-byte.invariant in
    (simp length-set i.0, one_put c.loop-byte.byte-items _ c.loop-byte.byte-index c.args.size c.loop-byte.byte-index c.loop-byte.rest i.1 (omega arith))

pub returns : goal.returns
returns c =
    let i = c.loop-byte.invariant in
    part_put c.args.buffer.now c.args.at c.args.size c.args.value c.loop-byte.byte-items c.requires
    (none_remaining c.loop-byte.byte-items _ c.loop-byte.byte-index c.args.size c.loop-byte.byte-index c.loop-byte.rest i.1 (omega arith))
