-- `known::Known::with_immediate`: lanes are picked from the operand's number.
use Rattle.std.specs.Prelude.{refl}
use Rattle.std.proofs.lemmas.Result.{err_from_is_err_and}
use Rattle.machine.proofs.laws.picking.Making.{picked_from}
use Rattle.machine.proofs.known.Known.with_immediate.Goals as goal

pub returns-in_err-work : goal.returns-in_err-work
returns-in_err-work c = let p = err_from_is_err_and c.from_residual.result c.from_residual.ensures.1 in rw (p.1, p.2) (picked_from _ _ _ _ _ _ c.in_err-work.ensures.work refl)
