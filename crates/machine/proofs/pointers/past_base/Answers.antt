-- `pointers::past_base`: the base alone.
use Rattle.std.specs.Prelude.{ℕ, ◌+◌, ◌^◌, ◌%◌, get_or}
use Rattle.basis.proofs.Names.{ap, arith}
use Rattle.machine.proofs.laws.pointers.Pointing.{base_bare}
use Rattle.machine.proofs.pointers.past_base.Goals as goal

pub returns : goal.returns
returns c =
    base_bare _ _ _ _ _ c.args.modrm _ (ap (λ (k : ℕ). (get_or c.args.integers.now k 0 + c.args.index) % 2 ^ 32) c.from.ensures)
    c.if-modrm-ge-DISPLACED.false c.if-base-eq-NO_BASE.false (omega arith) c.requires.0
