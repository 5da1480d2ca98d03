-- The upper part is put, then the lower part.
use Rattle.basis.proofs.Names.{rules}
use Rattle.printout.proofs.Rooms.{report_printed}
use Rattle.printout.proofs.report.Goals as goal

pub returns : goal.returns
returns c =
    report_printed c.args.ran c.args.memory.now c.args.out.now _ c.has_room.ensures (search rules) (search rules) (search rules) c.new-text.result
    c.new-text.ensures.starts c.new-text.ensures.content c.put_top.new.self c.put_top.ensures c.put_bottom.new.self _ c.put_bottom.ensures
    (search rules)
