-- Its lines are put one after the other.
use Rattle.printout.specs.Lines.{memory_line}
use Rattle.printout.proofs.Putting.{chain, fits_third}
use Rattle.printout.proofs.put.Writer.put_bottom.Goals as goal

pub put_marks-requires : goal.put_marks-requires
unfolding memory_line
put_marks-requires c = search chain

pub put_number_line-requires : goal.put_number_line-requires
unfolding memory_line
put_number_line-requires c = search chain

pub put_byte_lines-requires : goal.put_byte_lines-requires
unfolding memory_line
put_byte_lines-requires c = fits_third c.put_number_line.ensures c.put_marks.ensures c.requires

pub returns : goal.returns
unfolding memory_line
returns c = search chain
