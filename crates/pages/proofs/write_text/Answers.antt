-- `write_text` writes no more than the buffer has.
use Rattle.basis.proofs.Names.{rules}
use Rattle.printout.proofs.Rooms.{written-within}
use Rattle.pages.proofs.write_text.Goals as goal

pub slice_bounds-write-end : goal.slice_bounds-write-end
slice_bounds-write-end g c = search (written-within, rules)
