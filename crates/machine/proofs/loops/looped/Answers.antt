-- `loops::looped`: each form has its work.
use Rattle.basis.proofs.Names.{arith}
use Rattle.machine.proofs.laws.loops.Looping.{loops_down, loops-set, loops-add, loops_jump}
use Rattle.machine.proofs.loops.looped.Goals as goal

pub returns-in-12 : goal.returns-in-12
returns-in-12 c = loops_down _ _ _ _ _ c.requires.1 _ _ c.in-12.is c.counted.ensures

pub returns-in-11 : goal.returns-in-11
returns-in-11 c = loops-add _ _ _ _ _ c.requires.1 _ _ c.requires.0 _ c.signed-addend.ensures c.in-11.is c.counted-in-11.ensures

pub returns-in-10 : goal.returns-in-10
returns-in-10 c = loops-set _ _ _ _ _ c.requires.1 _ _ _ c.from-value.ensures c.in-10.is c.work_of.ensures

pub returns-in_default : goal.returns-in_default
returns-in_default c = loops_jump _ _ _ _ _ c.requires.1 _ _ (λ z. omega arith) (λ z. omega arith) (λ z. omega arith) c.jump.ensures
