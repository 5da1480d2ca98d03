-- `footprints::unmarked`: each way has its footprint, unless its operand is refused.
use Rattle.std.specs.Prelude.{refl}
use Rattle.std.proofs.lemmas.Result.{err_from_is_err_and}
use Rattle.machine.specs.State.{state_of}
use Rattle.machine.proofs.laws.footprints.Forms.{traced_few, traced_inside, traced_outside}
use Rattle.machine.proofs.footprints.unmarked.Goals as goal

pub returns-in_err-reach : goal.returns-in_err-reach
returns-in_err-reach c =
    let p = err_from_is_err_and c.from_residual.result c.from_residual.ensures.1 in rw (p.1, p.2)
    (traced_outside (state_of c.args.machine c.args.memory.now) _ c.args.known.instruction c.args.known.listed c.if-entry-eq-SUFFIXED.false _ c.way_of-way.ensures _ c.has_other.ensures
    c.if-has_other.true _ c.pointed-pointed.ensures _ c.in_err-reach.ensures _ refl)

pub returns-then-has_other : goal.returns-then-has_other
returns-then-has_other c =
    traced_inside (state_of c.args.machine c.args.memory.now) _ c.args.known.instruction c.args.known.listed c.if-entry-eq-SUFFIXED.false _ c.way_of-way.ensures _ c.has_other.ensures
    c.if-has_other.true _ c.pointed-pointed.ensures _ c.in_ok-reach.ensures _ _ refl c.footprint_of_way.ensures

pub returns : goal.returns
returns c =
    traced_few (state_of c.args.machine c.args.memory.now) _ c.args.known.instruction c.args.known.listed c.if-entry-eq-SUFFIXED.false _ c.way_of-way.ensures _ c.has_other.ensures _
    c.if-has_other.false c.footprint_of_way-2.ensures
