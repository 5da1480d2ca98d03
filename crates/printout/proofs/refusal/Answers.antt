-- The line is put at the buffer's start.
use Rattle.basis.proofs.Names.{rules}
use Rattle.printout.specs.Lines.{refusal_text}
use Rattle.printout.proofs.Rooms.{refusal_printed}
use Rattle.printout.proofs.refusal.Goals as goal

pub returns : goal.returns
unfolding refusal_text
returns c =
    refusal_printed c.args.number c.decimal_places.result c.args.out.now c.decimal_places.ensures.0 c.new-text.result c.new-text.ensures.starts c.new-text.ensures.content (search rules)
    c.put_number_line.new.self _ c.put_number_line.ensures (search rules)
