-- Its lines are put one after the other.
use Rattle.printout.specs.Lines.{mmx_lines, integer_lines}
use Rattle.printout.proofs.Putting.{chain, then, fits_third}
use Rattle.printout.proofs.put.Writer.put_top.Goals as goal

pub put_first_line-requires : goal.put_first_line-requires
put_first_line-requires c = search chain

pub put_registers-requires : goal.put_registers-requires
unfolding mmx_lines
put_registers-requires c = search chain

pub put_registers-requires-2 : goal.put_registers-requires-2
unfolding mmx_lines integer_lines
put_registers-requires-2 c = rw c.widened.ensures (fits_third c.put_registers.ensures c.put_first_line.ensures c.requires)

pub returns : goal.returns
unfolding mmx_lines integer_lines
returns c = then (then c.put_first_line.ensures c.put_registers.ensures) (rw c.widened.ensures at c.put_registers-2.ensures)
