-- The shifted 1 is half of 2 ^ w.
use Rattle.std.specs.Prelude.{◌+◌, ◌-◌}
use Rattle.basis.proofs.Names.{ap₂, ◌∙◌, arith, pow_pos, pow_mono}
use Rattle.lanes.proofs.Powers.{half_is, halves}
use Rattle.lanes.proofs.lane.Width.half.Goals as goal

pub returns : goal.returns
returns c =
    let w = c.args.self.bits in
    let e = half_is w c.args.self.fills.0 c.args.self.fills.1 in
    (e, ap₂ ◌+◌ e e ∙ halves w c.args.self.fills.0, omega (arith, e, pow_pos (w - 1)), omega (arith, e, pow_mono {i = w - 1} {j = 63} (omega arith)))
