-- What differs between the word there and the new one is turned over.
use Rattle.std.specs.Prelude.{refl}
use Rattle.basis.proofs.Names.{arith, rules}
use Rattle.lanes.proofs.Picking.{insert_at_once}
use Rattle.lanes.proofs.picks.insert.Goals as goal

pub returns : goal.returns
returns c = insert_at_once 16 _ _ _ _ (omega arith) refl (search rules) c.extract.ensures
