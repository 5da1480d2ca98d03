-- `pointers::past_long`: four bytes fit 32 bits.
use Rattle.basis.proofs.Names.{arith}
use Rattle.words.proofs.Laws.{loaded_below}
use Rattle.machine.proofs.pointers.past_long.Goals as goal

pub overflow_cast-displacement : goal.overflow_cast-displacement
overflow_cast-displacement c = omega (arith, c.load-displacement.ensures, loaded_below c.args.code.now c.args.at 4 (λ i. (c.type_inv.code i).fits))
