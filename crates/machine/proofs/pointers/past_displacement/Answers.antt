-- `pointers::past_displacement`: one byte, whose sign is extended.
use Rattle.basis.proofs.Names.{rules}
use Rattle.machine.proofs.laws.pointers.Pointing.{past_byte}
use Rattle.machine.proofs.pointers.past_displacement.Goals as goal

pub returns : goal.returns
returns c = let byte = c.in_ok-byte.ensures.lookup.3 in search (rules, past_byte)
