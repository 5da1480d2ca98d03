-- `addresses::scaled`: each turn doubles once.
use Rattle.std.specs.Prelude.{◌≡◌, ◌*◌, ◌^◌, ◌%◌}
use Rattle.machine.proofs.addresses.scaled.Given as goal

abbrev pub invariant-loop-turn : goal.invariant-loop-turn
invariant-loop-turn l = l.doubled ≡ l.fn.index * 2 ^ l._turn % 2 ^ 32
