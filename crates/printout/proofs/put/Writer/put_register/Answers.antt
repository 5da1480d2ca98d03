-- Its pieces are put one after the other.
use Rattle.printout.proofs.Pieces.{naming}
use Rattle.printout.proofs.put.Writer.put_register.Goals as goal

pub returns : goal.returns
returns c = search naming
