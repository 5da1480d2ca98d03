-- `known::Known::sorted`: each way has its work, wherever its operand is.
use Rattle.std.specs.Prelude.{refl}
use Rattle.std.proofs.lemmas.Result.{err_from_is_err_and}
use Rattle.basis.proofs.Names.{inl, inr}
use Rattle.machine.proofs.laws.gathering.Sorting.{does_store, does_load, does_compute, does_insert, does_shuffle}
use Rattle.machine.proofs.laws.gathering.Suffixing.{sorting}
use Rattle.machine.proofs.known.Known.sorted.Goals as goal

pub returns-in_err-spot-in-Stores : goal.returns-in_err-spot-in-Stores
returns-in_err-spot-in-Stores c =
    let p = err_from_is_err_and c.from_residual.result c.from_residual.ensures.1 in rw (p.1, p.2)
    (does_store _ _ _ _ c.args.self.instruction c.args.self.next c.args.self.registers c.args.self.listed _ c.way_of.ensures _ _ c.in-Stores.is c.in_err-spot-in-Stores.ensures refl)

pub returns-in-Empties : goal.returns-in-Empties
returns-in-Empties c = search sorting

pub returns-in-Passes : goal.returns-in-Passes
returns-in-Passes c = search sorting

pub returns-in-Shifts : goal.returns-in-Shifts
returns-in-Shifts c = search sorting

pub returns-in-Extracts : goal.returns-in-Extracts
returns-in-Extracts c = search sorting

pub returns-in_ok-spot-in-Stores : goal.returns-in_ok-spot-in-Stores
returns-in_ok-spot-in-Stores c =
    does_store _ _ _ _ c.args.self.instruction c.args.self.next c.args.self.registers c.args.self.listed _ c.way_of.ensures _ _ c.in-Stores.is c.in_ok-spot-in-Stores.ensures c.put.ensures

pub returns-in-Loads : goal.returns-in-Loads
returns-in-Loads c =
    elim c.in-Loads.is [ inl e ↦ does_load _ _ _ _ c.args.self.instruction c.args.self.next c.args.self.registers c.args.self.listed _ c.way_of.ensures _ e c.computed.ensures.work | inr e ↦ does_compute _ _ _ _ c.args.self.instruction c.args.self.next c.args.self.registers c.args.self.listed _ c.way_of.ensures _ e c.computed.ensures.work ]

-- what a suffix leaves of the work that has the operand's number;
-- that work's refusal, where it has one
pub returns-in-Suffixes : goal.returns-in-Suffixes
returns-in-Suffixes c = search sorting

pub returns-in-Inserts : goal.returns-in-Inserts
returns-in-Inserts c =
    elim c.in-Inserts.is [ inl e ↦ does_insert _ _ _ _ c.args.self.instruction c.args.self.next c.args.self.registers c.args.self.listed _ c.way_of.ensures _ e c.with_immediate.ensures | inr e ↦ does_shuffle _ _ _ _ c.args.self.instruction c.args.self.next c.args.self.registers c.args.self.listed _ c.way_of.ensures _ e c.with_immediate.ensures ]

pub returns-in-Masks : goal.returns-in-Masks
returns-in-Masks c = search sorting
