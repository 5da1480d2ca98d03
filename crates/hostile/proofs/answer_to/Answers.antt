-- `answer_to` is safe: no more is written than the buffer has.
use Rattle.basis.proofs.Names.{rules}
use Rattle.printout.proofs.Rooms.{written-within}
use Rattle.hostile.proofs.answer_to.Goals as goal

pub split_at-requires : goal.split_at-requires
split_at-requires c = search (written-within, rules)
