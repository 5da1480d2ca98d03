-- `gathering::gathered`: what was gathered at once is the step; else its work is the reader's.
use Rattle.machine.proofs.laws.quick.Joining.{gathered_quick}
use Rattle.machine.proofs.gathering.gathered.Goals as goal

pub returns-in-Some : goal.returns-in-Some
returns-in-Some c = gathered_quick _ _ _ _ _ _ _ _ _ c.requires.1.0 c.in-Some.ensures c.requires.1.1.0 c.requires.1.1.1
