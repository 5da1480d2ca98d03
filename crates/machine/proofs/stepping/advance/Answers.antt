-- `stepping::advance`: what is gathered and then done is the step.
use Rattle.machine.proofs.laws.stepping.Advancing.{advanced}
use Rattle.machine.proofs.stepping.advance.Goals as goal

pub returns : goal.returns
returns c = advanced _ _ _ _ _ _ _ _ _ _ _ _ _ _ c.requires.1.1.1.1 c.gathered-work.ensures c.perform.ensures
