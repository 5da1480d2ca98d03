-- A turn puts the next register's line.
use Rattle.std.specs.Prelude.{length}
use Rattle.basis.proofs.Names.{arith, ap}
use Rattle.printout.proofs.Putting.{fits-remaining, less_remaining, none_remaining, turning}
use Rattle.printout.proofs.Pieces.{next-register, no_register, both_end}
use Rattle.printout.proofs.put.Writer.put_registers.Goals as goal

pub loop-name-init : goal.loop-name-init
loop-name-init c = search turning

pub put_register-requires : goal.put_register-requires
put_register-requires c =
    fits-remaining _ c.loop-name.invariant.1
    (next-register _ _ _ c.in-Some.name.now _ c.in-Some.value.now _ c.in-Some.ensures.steps.0 c.in-Some.ensures.steps.1) c.requires

pub loop-name-preserved : goal.loop-name-preserved
loop-name-preserved c = (
  omega (arith, c.loop-name.invariant.0, ap length c.in-Some.ensures.steps.0, ap length c.in-Some.ensures.steps.1),
  less_remaining c.put_register.ensures c.loop-name.invariant.1
      (next-register _ _ _ c.in-Some.name.now _ c.in-Some.value.now _ c.in-Some.ensures.steps.0 c.in-Some.ensures.steps.1),
)

pub returns : goal.returns
returns c = none_remaining c.loop-name.invariant.1 (no_register _ _ _ (both_end c.loop-name.invariant.0 c.in-None.ensures.steps))
