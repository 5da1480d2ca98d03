-- `loops::traced`: each form has its footprint, and a jump where it leads one.
use Rattle.std.proofs.lemmas.Result.{err_from_is_err_and}
use Rattle.basis.proofs.Names.{arith}
use Rattle.machine.proofs.laws.loops.Looping.{traced_set, traced_add, traced_down, traced_jump, traced_outside}
use Rattle.machine.proofs.loops.traced.Goals as goal

pub returns-in_err-onward-in_default : goal.returns-in_err-onward-in_default
returns-in_err-onward-in_default c =
    let p = err_from_is_err_and c.from_residual.result c.from_residual.ensures.1 in rw (p.1, p.2)
    (traced_outside _ _ _ _ _ c.requires.1 (λ z. omega arith) (λ z. omega arith) (λ z. omega arith) _ c.in_err-onward-in_default.ensures)

pub returns-in-10 : goal.returns-in-10
returns-in-10 c = traced_set _ _ _ _ _ c.requires.1 _ c.in-10.is c.of_integer.ensures

pub returns-in-11 : goal.returns-in-11
returns-in-11 c = traced_add _ _ _ _ _ c.requires.1 _ c.in-11.is c.counting-footprint.ensures

pub returns-in-12 : goal.returns-in-12
returns-in-12 c = traced_down _ _ _ _ _ c.requires.1 _ c.in-12.is c.counting-footprint-in-12.ensures

pub returns-in_ok-onward-in_default : goal.returns-in_ok-onward-in_default
returns-in_ok-onward-in_default c =
    traced_jump _ _ _ _ _ c.requires.1 (λ z. omega arith) (λ z. omega arith) (λ z. omega arith) _ c.in_ok-onward-in_default.ensures
