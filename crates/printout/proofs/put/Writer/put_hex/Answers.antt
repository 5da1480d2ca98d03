-- The digits are put, then the character.
use Rattle.printout.proofs.Pieces.{naming}
use Rattle.printout.proofs.put.Writer.put_hex.Goals as goal

pub put_character-requires : goal.put_character-requires
put_character-requires c = search naming

pub returns : goal.returns
returns c = search naming
