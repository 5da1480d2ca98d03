-- `writer::put_sib` meets its contract: it stores the SIB byte, or none.
use Rattle.codec.proofs.Puts.{puts}
use Rattle.codec.proofs.writer.put_sib.Goals as goal

pub bounds-buffer-at : goal.bounds-buffer-at
bounds-buffer-at c = search puts

pub returns-then-sib_follows : goal.returns-then-sib_follows
returns-then-sib_follows c = search puts

pub returns-else-sib_follows : goal.returns-else-sib_follows
returns-else-sib_follows c = search puts
