-- `quick::Opened::shifted`: a shift by an immediate.
use Rattle.basis.proofs.Names.{arith, rules}
use Rattle.machine.proofs.laws.quick.Working.{shifts_immediate}
use Rattle.machine.proofs.quick.Opened.shifted.Goals as goal

pub returns-then-allowed : goal.returns-then-allowed
returns-then-allowed c =
    let o = c.args.self.now in
    shifts_immediate _ _ _ _ o.modrm _ _ o.here o.named c.requires.0 (omega arith) _ c.shift_number-number.result c.in_ok-immediate.field-0.now _
    c.requires.1.0 c.requires.1.1 c.allowed.ensures c.if-allowed.true c.in_ok-immediate.ensures.lookup.3 c.shift_number-number.ensures (search rules)
