-- `writer::size_of` meets its contract: the length of the bytes is the sum of the parts' sizes.
use Rattle.codec.proofs.Puts.{puts}
use Rattle.codec.proofs.writer.size_of.Goals as goal

pub returns-then-sib_follows : goal.returns-then-sib_follows
returns-then-sib_follows c = search puts

pub returns-then-has_operand : goal.returns-then-has_operand
returns-then-has_operand c = search puts

pub returns : goal.returns
returns c = search puts
