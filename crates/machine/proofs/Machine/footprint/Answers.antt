-- `Machine::footprint` meets its contract: its tests are those of a step, in their order, and then the instruction has its footprint.
use Rattle.std.specs.Prelude.{refl}
use Rattle.std.proofs.lemmas.Result.{err_from_is_err_and}
use Rattle.works.proofs.Numbered.{numbered}
use Rattle.machine.proofs.laws.gathering.Fetching.{names_registers, is_listed_lem, is_looping}
use Rattle.machine.proofs.laws.footprints.Tests.{traced_unread, traced_looped, traced_barred, traced_unbarred}
use Rattle.machine.proofs.Machine.footprint.Goals as goal

pub returns-in_err-found : goal.returns-in_err-found
returns-in_err-found c =
    let p = err_from_is_err_and c.from_residual.result c.from_residual.ensures.1 in rw (p.1, p.2)
    (traced_unread _ _ _ _ c.if-memory-gt-LONGEST_MEMORY.false c.if-code-gt-LONGEST_CODE.false _ c.table-table.ensures _ c.in_err-found.ensures)

pub traced-requires : goal.traced-requires
traced-requires c =
    (names_registers _ _ _ _ c.table-table.ensures c.in_ok-found.ensures, is_looping _ _ _ _ c.table-table.ensures c.in_ok-found.ensures c.if-instruction-ne-ESCAPE.true)

pub returns-then-instruction-ne-ESCAPE : goal.returns-then-instruction-ne-ESCAPE
returns-then-instruction-ne-ESCAPE c =
    traced_looped _ _ _ _ c.if-memory-gt-LONGEST_MEMORY.false c.if-code-gt-LONGEST_CODE.false _ _ c.table-table.ensures c.in_ok-found.ensures _
    c.if-instruction-ne-ESCAPE.true c.traced.ensures

pub returns-in-Some : goal.returns-in-Some
returns-in-Some c =
    traced_barred _ _ _ _ c.if-memory-gt-LONGEST_MEMORY.false c.if-code-gt-LONGEST_CODE.false _ _ c.table-table.ensures c.in_ok-found.ensures
    c.if-instruction-ne-ESCAPE.false _ _ c.barred-bar.ensures c.in-Some.ensures (numbered _)

pub invariant_of-known-clause-registers : goal.invariant_of-known-clause-registers
invariant_of-known-clause-registers c = names_registers _ _ _ _ c.table-table.ensures c.in_ok-found.ensures

pub invariant_of-known-clause-listed : goal.invariant_of-known-clause-listed
invariant_of-known-clause-listed c = is_listed_lem _ _ _ _ c.table-table.ensures c.in_ok-found.ensures c.if-instruction-ne-ESCAPE.false

pub returns-in-None : goal.returns-in-None
returns-in-None c =
    traced_unbarred _ _ _ _ c.if-memory-gt-LONGEST_MEMORY.false c.if-code-gt-LONGEST_CODE.false _ _ c.table-table.ensures c.in_ok-found.ensures
    c.if-instruction-ne-ESCAPE.false _ _ c.barred-bar.ensures c.in-None.ensures _ refl c.unmarked.ensures
