-- Where no digits remain, all are put.
use Rattle.std.specs.Prelude.{◌+◌}
use Rattle.basis.proofs.Names.{ap, arith}
use Rattle.printout.proofs.Numbers.{all_put, all_digits}
use Rattle.printout.proofs.put.Writer.put_digits.Goals as goal

pub returns : goal.returns
returns c =
    let turn = c.loop-i.invariant in
    all_put _ _ _ _ _ turn.same (ap (λ n. n + c.args.count) turn.stays) (all_digits _ _ _ _ _ _ _ _ turn.content (omega arith))
