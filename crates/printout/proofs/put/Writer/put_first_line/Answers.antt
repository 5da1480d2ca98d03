-- Its pieces are put one after the other.
use Rattle.printout.specs.Lines.{first_line}
use Rattle.printout.proofs.Putting.{fits_third}
use Rattle.printout.proofs.Pieces.{naming}
use Rattle.printout.proofs.put.Writer.put_first_line.Goals as goal

pub put_answer-requires : goal.put_answer-requires
unfolding first_line
put_answer-requires c = search naming

pub put_number-requires : goal.put_number-requires
unfolding first_line
put_number-requires c = search naming

pub put_number_line-requires : goal.put_number_line-requires
unfolding first_line
put_number_line-requires c = fits_third c.put_number.ensures c.put_answer.ensures c.requires

pub returns : goal.returns
unfolding first_line
returns c = search naming
