-- Before each turn the bytes that remain, put, give all.
use Rattle.std.specs.Prelude.{drop}
use Rattle.printout.specs.Lines.{byte_lines}
use Rattle.printout.proofs.Putting.{Remaining}
use Rattle.printout.proofs.put.Writer.put_byte_lines.Given as goal

abbrev pub invariant-loop-i : goal.invariant-loop-i
invariant-loop-i l = Remaining (byte_lines l.i (drop l.i l.memory)) l.self (byte_lines 0 l.memory) l.initial.self
