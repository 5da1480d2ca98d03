-- `gathering::read`: its tests are those of a step, in their order, and then comes the work of the instruction, which for one of loops no mark stops.
use Rattle.std.specs.Prelude.{refl}
use Rattle.basis.proofs.Names.{ap, ◌∙◌}
use Rattle.works.specs.Works.{refused_work}
use Rattle.works.proofs.Numbered.{numbered}
use Rattle.machine.proofs.laws.gathering.Fetching.{names_registers, is_listed_lem, is_looping, gathered_same, gathered_unread, gathered_looped, gathered_barred, gathered_sorted}
use Rattle.machine.proofs.gathering.read.Goals as goal

pub returns-in-Err : goal.returns-in-Err
returns-in-Err c =
    gathered_same _ _ _ _ _ _ _ _ _ (c.refused.ensures ∙ ap refused_work c.number.ensures)
    (gathered_unread _ _ _ _ c.requires.0 c.in-Err.ensures _ _ _ _ _ c.requires.1.0 c.requires.1.1 _ refl)

pub looped-requires : goal.looped-requires
looped-requires c =
    (names_registers _ _ _ _ c.requires.0 c.in-Ok.ensures, is_looping _ _ _ _ c.requires.0 c.in-Ok.ensures c.if-instruction-ne-ESCAPE.true)

pub returns-then-instruction-ne-ESCAPE : goal.returns-then-instruction-ne-ESCAPE
returns-then-instruction-ne-ESCAPE c =
    gathered_same _ _ _ _ _ _ _ _ _ c.one_work.ensures
    (gathered_looped _ _ _ _ c.requires.0 c.in-Ok.ensures _ _ _ _ _ c.requires.1.0 c.requires.1.1 _ c.if-instruction-ne-ESCAPE.true c.looped.ensures)

pub returns-in-Some : goal.returns-in-Some
returns-in-Some c =
    gathered_same _ _ _ _ _ _ _ _ _ (c.refused-in-Some.ensures ∙ ap refused_work c.number-in-Some.ensures)
    (gathered_barred _ _ _ _ c.requires.0 c.in-Ok.ensures _ _ _ _ _ c.requires.1.0 c.requires.1.1 _ c.if-instruction-ne-ESCAPE.false _ c.in-Some.ensures
    (numbered _) refl)

pub invariant_of-known-clause-registers : goal.invariant_of-known-clause-registers
invariant_of-known-clause-registers c = names_registers _ _ _ _ c.requires.0 c.in-Ok.ensures

pub invariant_of-known-clause-listed : goal.invariant_of-known-clause-listed
invariant_of-known-clause-listed c = is_listed_lem _ _ _ _ c.requires.0 c.in-Ok.ensures c.if-instruction-ne-ESCAPE.false

pub returns-in-None : goal.returns-in-None
returns-in-None c =
    gathered_same _ _ _ _ _ _ _ _ _ c.one_work-in-None.ensures
    (gathered_sorted _ _ _ _ c.requires.0 c.in-Ok.ensures _ _ _ _ _ c.requires.1.0 c.requires.1.1 _ c.if-instruction-ne-ESCAPE.false _ c.in-None.ensures refl
    c.sorted.ensures)
