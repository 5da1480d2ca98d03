-- `watch` meets its contract: each part of the run goes on from the one before, and what is traced between them are the two footprints.
use Rattle.basis.proofs.Names.{◌∙◌, arith}
use Rattle.studio.proofs.laws.whys.Watching.{carried_on, a_part, footprint_there}
use Rattle.studio.proofs.whys.watch.Goals as goal

pub go_on-far-requires : goal.go_on-far-requires
go_on-far-requires c = a_part _ _ _ _ _ c.requires.straight c.requires.ordered c.requires.within c.run-near.ensures

pub go_on-ran-requires : goal.go_on-ran-requires
go_on-ran-requires c =
    a_part _ _ _ _ _ c.requires.straight c.requires.within (omega arith) (c.go_on-far.ensures ∙ carried_on _ _ _ _ _ c.requires.ordered c.run-near.ensures)

pub returns : goal.returns
returns c =
    let comes = c.go_on-far.ensures ∙ carried_on _ _ _ _ _ c.requires.ordered c.run-near.ensures in
    record {
      runs = c.go_on-ran.ensures ∙ carried_on _ _ _ _ _ c.requires.within comes;
      first = c.trace-first.ensures ∙ footprint_there _ _ _ c.run-near.result _ c.run-near.ensures;
      second = c.trace-second.ensures ∙ footprint_there _ _ _ c.go_on-far.result _ comes;
    }
