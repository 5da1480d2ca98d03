-- The word is put, then the digits.
use Rattle.printout.proofs.Pieces.{naming}
use Rattle.printout.proofs.put.Writer.put_number.Goals as goal

pub returns : goal.returns
returns c = search naming
