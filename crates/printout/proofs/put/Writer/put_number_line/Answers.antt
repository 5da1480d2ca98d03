-- The number is put, then the line end.
use Rattle.printout.proofs.Pieces.{naming}
use Rattle.printout.proofs.put.Writer.put_number_line.Goals as goal

pub put_character-requires : goal.put_character-requires
put_character-requires c = search naming

pub returns : goal.returns
returns c = search naming
