-- Past the list the destination is kept.
use Rattle.basis.proofs.Names.{arith}
use Rattle.lanes.proofs.Naming.{unnamed}
use Rattle.lanes.proofs.extension.Goals as goal

pub returns-in_default : goal.returns-in_default
returns-in_default c = unnamed c.args.operation c.args.destination c.args.source (omega arith)
