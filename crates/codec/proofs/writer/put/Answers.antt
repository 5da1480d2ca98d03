-- `writer::put` meets its contract: its stores are the parts of the instruction, one after the other.
use Rattle.codec.proofs.Puts.{puts}
use Rattle.codec.proofs.writer.put.Goals as goal

pub put_number-requires : goal.put_number-requires
put_number-requires c = search puts

pub returns-then-has_operand : goal.returns-then-has_operand
returns-then-has_operand c = search puts

pub put_number-requires-2 : goal.put_number-requires-2
put_number-requires-2 c = search puts

pub returns : goal.returns
returns c = search puts
