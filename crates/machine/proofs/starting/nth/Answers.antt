-- `starting::nth`: so many bytes.
use Rattle.std.specs.Prelude.{ℕ, ◌*◌, ◌^◌, ◌<◌}
use Rattle.basis.proofs.Names.{sym, subst}
use Rattle.words.proofs.Laws.{loaded_below}
use Rattle.machine.proofs.starting.nth.Goals as goal

pub returns-clause-below : goal.returns-clause-below
returns-clause-below c =
    subst (λ (n : ℕ). n < 256 ^ c.args.size) (sym c.load.ensures)
    (loaded_below c.args.field.now (c.args.size * c.args.k) c.args.size (λ i. (c.type_inv.field i).fits))
