-- `known::Known::suffixed`: the suffix goes by the operand's number.
use Rattle.std.specs.Prelude.{get_or}
use Rattle.std.proofs.lemmas.Result.{err_from_is_err_and}
use Rattle.basis.proofs.Names.{ap}
use Rattle.works.specs.Siblings.{suffixed_work}
use Rattle.machine.proofs.laws.gathering.Suffixing.{suffixed_from, suffixed_operates}
use Rattle.machine.proofs.known.Known.suffixed.Goals as goal

pub returns-in_err-work-clause-work : goal.returns-in_err-work-clause-work
returns-in_err-work-clause-work c =
    let p = err_from_is_err_and c.from_residual.result c.from_residual.ensures.1 in rw (p.1, p.2)
    (ap (suffixed_work c.args.self.instruction.immediate (get_or c.args.mmx.now c.args.self.instruction.operand.reg 0)) c.in_err-work.ensures.work)

pub returns-clause-work : goal.returns-clause-work
returns-clause-work c = suffixed_from _ _ _ _ c.suffixed.ensures _ c.in_ok-work.ensures.work

pub returns-clause-operates : goal.returns-clause-operates
returns-clause-operates c = suffixed_operates _ _ _ _ c.suffixed.ensures c.in_ok-work.ensures.operates
