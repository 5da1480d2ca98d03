-- `footprints::suffixed`: it is refused as its work is.
use Rattle.std.specs.Prelude.{refl}
use Rattle.std.proofs.lemmas.Result.{err_from_is_err_and}
use Rattle.basis.proofs.Names.{arith}
use Rattle.machine.proofs.laws.footprints.Suffixing.{two_operands_suffix, suffix_refused, suffix_completes}
use Rattle.machine.proofs.footprints.suffixed.Goals as goal

pub suffixed-requires : goal.suffixed-requires
suffixed-requires c = two_operands_suffix c.args.machine c.args.memory.now c.args.known.entry c.args.known.instruction c.args.known.registers c.args.known.listed c.requires

pub returns-in_err-suffixed : goal.returns-in_err-suffixed
returns-in_err-suffixed c =
    let p = err_from_is_err_and c.from_residual.result c.from_residual.ensures.1 in rw (p.1, p.2)
    (suffix_refused c.args.machine c.args.memory.now c.args.known.entry c.args.known.instruction c.args.known.registers c.args.known.listed c.requires _ c.args.known.next c.in_err-suffixed.ensures.work refl)

pub completed-requires : goal.completed-requires
completed-requires c = (
  c.requires,
  suffix_completes c.args.machine c.args.memory.now c.args.known.entry c.args.known.instruction c.args.known.registers c.args.known.listed c.requires _ c.args.known.next c.in_ok-suffixed.ensures.work
      (λ h. omega (arith, h, c.in_ok-suffixed.ensures.operates)),
)
