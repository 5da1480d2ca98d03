-- Its lines are put one after the other.
use Rattle.printout.specs.Lines.{tags_line, zero_line}
use Rattle.printout.proofs.Pieces.{naming}
use Rattle.printout.proofs.put.Writer.put_marks.Goals as goal

pub returns : goal.returns
unfolding tags_line zero_line
returns c = search naming
