-- `print` writes no more than the buffer has, and where all of it was written, that is the page's text.
use Rattle.basis.proofs.Names.{rules, sub-zero}
use Rattle.printout.proofs.Rooms.{written-within}
use Rattle.page.proofs.Texts.{appends_text}
use Rattle.page.proofs.print.Goals as goal

pub slice_bounds-write_all-end : goal.slice_bounds-write_all-end
slice_bounds-write_all-end g c = search (written-within, rules)

pub returns : goal.returns
returns g c = appends_text _ _ _ _ _ _ _ _ _ (sub-zero _) c.buffer-out.ensures c.play-written.ensures c.write_all.ensures.bytes c.is_ok.ensures.value
