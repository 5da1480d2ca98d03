-- What the field holds that stands there, or nothing.
use Rattle.std.specs.Prelude.{refl, List, ℕ}
use Rattle.basis.proofs.Names.{rules}
use denote.Bor.{Bor}
use Rattle.pagefile.proofs.Parts.{either_part}
use Rattle.pagefile.proofs.contents.Goals as goal

pub returns : goal.returns
returns c =
    rw c.unwrap_or.ensures
    (either_part _ _ _ c.well_formed-2.ensures _ c.remaining.ensures (search rules) (λ (b : Bor (List ℕ)). b.now) c.field.result _ refl c.field.ensures)
