-- Before each turn the lines that remain, put, give all.
use Rattle.std.specs.Prelude.{length, map, ◌≡◌}
use Rattle.printout.specs.Lines.{register_lines}
use Rattle.printout.proofs.Putting.{Remaining}
use Rattle.printout.proofs.put.Writer.put_registers.Given as goal

abbrev pub invariant-loop-name : goal.invariant-loop-name
invariant-loop-name l =
    (length l.name-iterator.a.rest.now ≡ length l.name-iterator.b.rest.now)
    × Remaining (register_lines (map (λ name. name.now) l.name-iterator.a.rest.now) l.count l.name-iterator.b.rest.now) l.self
    (register_lines (map (λ name. name.now) l.names) l.count l.fn.values) l.initial.self
