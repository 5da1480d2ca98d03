-- `reaches::reach_operand`: a register is a mask, bytes are a range, and a refusal is one.
use Rattle.std.specs.Prelude.{refl, length}
use Rattle.std.proofs.lemmas.Result.{err_from_is_err_and}
use Rattle.machine.specs.State.{state_of}
use Rattle.machine.proofs.laws.operands.Locating.{spot_named}
use Rattle.machine.proofs.laws.footprints.Reaching.{reach_inside, reach_outside}
use Rattle.machine.proofs.reaches.reach_operand.Goals as goal

pub places_at-places-requires : goal.places_at-places-requires
places_at-places-requires c = spot_named c.args.machine.integers (length c.args.memory.now) c.args.entry c.args.operand _ c.in_ok-spot.ensures c.requires.0

pub returns-in_err-spot : goal.returns-in_err-spot
returns-in_err-spot c =
    let p = err_from_is_err_and c.from_residual.result c.from_residual.ensures.1 in rw (p.1, p.2)
    (reach_outside (state_of c.args.machine c.args.memory.now) _ _ c.requires.1.0 c.requires.1.1 _ _ c.in_err-spot.ensures c.address_mask-registers.ensures _ refl)

pub returns : goal.returns
returns c =
    reach_inside (state_of c.args.machine c.args.memory.now) _ _ c.requires.1.0 c.requires.1.1 _ _ c.in_ok-spot.ensures c.address_mask-registers.ensures _ _ refl
    c.places_at-places.ensures
