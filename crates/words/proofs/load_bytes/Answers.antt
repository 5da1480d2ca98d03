-- A turn has room for one byte more, and passes it; in the end all bytes are passed.
use Rattle.std.specs.Prelude.{◌+◌, ◌-◌}
use Rattle.basis.proofs.Names.{arith}
use Rattle.words.proofs.Placing.{one_fits, all_passed}
use Rattle.words.proofs.load_bytes.Goals as goal

pub overflow_mul-value : goal.overflow_mul-value
overflow_mul-value c =
    record { fits = omega (arith, one_fits c.args.buffer.now (c.args.at + c.args.size) c.loop-i.i c.loop-i.value c.loop-i.invariant.1 c.type_inv.buffer (omega arith)) }

pub overflow_add-value : goal.overflow_add-value
overflow_add-value c =
    record {
      fits =
          omega
          (arith, c.from.ensures, (c.type_inv.buffer (c.loop-i.i - 1)).fits, one_fits c.args.buffer.now (c.args.at + c.args.size) c.loop-i.i c.loop-i.value c.loop-i.invariant.1 c.type_inv.buffer (omega arith));
    }

pub returns : goal.returns
returns c = all_passed c.args.buffer.now c.args.at c.args.size c.loop-i.i c.loop-i.value c.loop-i.invariant.1 (omega arith)
