-- `writer::has_bytes` meets its contract: its parts are those of the opcode's form.
use Rattle.codec.proofs.Checks.{has_parts}
use Rattle.codec.proofs.writer.has_bytes.Goals as goal

pub returns-then-opcode_fits : goal.returns-then-opcode_fits
returns-then-opcode_fits c = has_parts _ _ c.opcode_fits.ensures c.args.form _ c.requires c.if-opcode_fits.true c.parts_fit.ensures
