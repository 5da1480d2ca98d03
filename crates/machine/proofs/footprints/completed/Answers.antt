-- `footprints::completed`: its operand is where it may be, and the suffix says what is read.
use Rattle.std.specs.Prelude.{refl}
use Rattle.std.proofs.lemmas.Result.{err_from_is_err_and}
use Rattle.machine.proofs.laws.footprints.Suffixing.{two_operands_suffix, suffix_inside, suffix_outside}
use Rattle.machine.proofs.footprints.completed.Goals as goal

pub reach_operand-requires : goal.reach_operand-requires
reach_operand-requires c = (
  c.args.known.registers,
  (
    c.args.known.listed,
    two_operands_suffix c.args.machine c.args.memory.now c.args.known.entry c.args.known.instruction c.args.known.registers c.args.known.listed c.requires.0,
  ),
)

pub returns-in_err-reach : goal.returns-in_err-reach
returns-in_err-reach c =
    let p = err_from_is_err_and c.from_residual.result c.from_residual.ensures.1 in rw (p.1, p.2)
    (suffix_outside c.args.machine c.args.memory.now c.args.known.entry c.args.known.instruction c.args.known.registers c.args.known.listed c.requires.0 c.requires.1 _
    c.in_err-reach.ensures _ refl)

pub returns : goal.returns
returns c =
    suffix_inside c.args.machine c.args.memory.now c.args.known.entry c.args.known.instruction c.args.known.registers c.args.known.listed c.requires.0 c.requires.1 _
    c.in_ok-reach.ensures _ _ _ refl c.suffix_way-way.ensures c.footprint_of_way.ensures
