-- `play_page` has read the file, or of one that is too long enough to see that.
use Rattle.std.specs.Prelude.{◌≡◌, length}
use Rattle.basis.proofs.Names.{rules}
use Rattle.page.proofs.Files.{prints_page}
use Rattle.page.proofs.play_page.Goals as goal

pub returns-then-print : goal.returns-then-print
returns-then-print g c =
    let room : length c.read_all.new.buffer ≡ 65537 = search rules in
    let read = c.in-Ok.ensures in
    λ t. prints_page _ _ _ _ c.read_all.new.buffer c.in-Ok.n room read.within (read.bytes, read.whole) (c.if-print.ensures t)
