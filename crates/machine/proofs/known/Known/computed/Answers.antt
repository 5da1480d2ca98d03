-- `known::Known::computed`: the number is taken from wherever the operand is.
use Rattle.std.specs.Prelude.{refl, length}
use Rattle.std.proofs.lemmas.Result.{err_from_is_err_and}
use Rattle.machine.proofs.laws.gathering.Sorting.{made_take, made_taken}
use Rattle.machine.proofs.laws.operands.Locating.{spot_named}
use Rattle.machine.proofs.known.Known.computed.Goals as goal

pub held-value-requires : goal.held-value-requires
held-value-requires c = spot_named c.args.integers.now (length c.args.memory.now) c.args.self.entry c.args.self.instruction.operand _ c.in_ok-spot.ensures c.args.self.registers

pub returns-in_err-spot-clause-work : goal.returns-in_err-spot-clause-work
returns-in_err-spot-clause-work c =
    let p = err_from_is_err_and c.from_residual.result c.from_residual.ensures.1 in rw (p.1, p.2)
    (made_take _ _ c.args.self.next _ c.in_err-spot.ensures c.args.mmx.now c.args.integers.now c.args.memory.now _ _ refl)

pub returns-clause-work : goal.returns-clause-work
returns-clause-work c =
    made_taken _ _ c.args.self.next _ c.in_ok-spot.ensures c.args.mmx.now c.args.integers.now c.args.memory.now _ _ _ _ refl c.held-value.ensures c.work_of.ensures
