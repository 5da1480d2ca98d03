-- A turn leaves what was read so far at the buffer's start; a read that gives nothing takes nothing.
use Rattle.basis.proofs.Names.{rules}
use Rattle.inputs.proofs.Readings.{read_more}
use Rattle.inputs.proofs.read_on.Goals as goal

pub loop-done-preserved : goal.loop-done-preserved
loop-done-preserved g c =
    (search rules, search rules, read_more _ _ _ _ _ _ _ _ c.loop-done.invariant.1 c.in-Ok.ensures.bound.0 c.loop-done.invariant.2 c.in-Ok.ensures.bytes.0)
