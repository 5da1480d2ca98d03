-- `quick::at_once`: the opcode was read.
use Rattle.std.specs.Prelude.{◌≡◌, ◌+◌, ◌≤◌, length, get_or}
use Rattle.std.proofs.lemmas.Grind.{common_steps}
use Rattle.basis.proofs.Names.{arith, ap}
use Rattle.machine.proofs.laws.quick.Joining.{found_after}
use Rattle.machine.proofs.quick.at_once.Goals as goal

pub returns : goal.returns
returns c =
    let code = c.args.code.now in
    let at = c.args.at in
    let read = c.in_ok-get.ensures.lookup in
    let room : at + 3 ≤ length code = grind (arith, common_steps, read, c.in-len3-up.len_at_least) in
    let first : get_or code at 0 ≡ 15 = grind (arith, common_steps, read, c.if-first-ne-ESCAPE.false) in
    let second : c.from.result ≡ get_or code (at + 1) 0 = grind (arith, common_steps, read, c.from.ensures) in
    found_after c.args.quick.now code at _ room first (ap (λ k. get_or c.args.quick.now k 0) second) _ _ _ _ c.gathered.ensures
