-- `quick::Opened::in_memory`: past the operand's bytes.
use Rattle.basis.proofs.Names.{rules}
use Rattle.machine.proofs.laws.quick.Operands.{loads_low, loads_quadword, stores_quadword, stores_doubleword, loads_doubleword}
use Rattle.machine.proofs.laws.quick.Working.{in_place, suffix_in_place}
use Rattle.machine.proofs.quick.Opened.in_memory.Goals as goal

pub returns-then-form-eq-LOW : goal.returns-then-form-eq-LOW
returns-then-form-eq-LOW c =
    let o = c.args.self.now in
    in_place _ _ _ _ o.modrm _ _ o.here o.named c.requires _ c.in_ok-pointer.ensures _
    (loads_low _ _ _ _ _ _ _ (search rules) c.load.ensures)

pub returns-then-form-ge-LOAD_Q : goal.returns-then-form-ge-LOAD_Q
returns-then-form-ge-LOAD_Q c =
    let o = c.args.self.now in
    in_place _ _ _ _ o.modrm _ _ o.here o.named c.requires _ c.in_ok-pointer.ensures _
    (loads_quadword _ _ _ _ _ _ _ (search rules) (search rules) c.load-then-form-ge-LOAD_Q.ensures)

pub returns-in-19 : goal.returns-in-19
returns-in-19 c =
    let o = c.args.self.now in
    in_place _ _ _ _ o.modrm _ _ o.here o.named c.requires _ c.in_ok-pointer.ensures _
    (stores_quadword _ _ _ _ _ _ _ c.in-19.is c.store.ensures)

pub returns-in-18 : goal.returns-in-18
returns-in-18 c =
    let o = c.args.self.now in
    in_place _ _ _ _ o.modrm _ _ o.here o.named c.requires _ c.in_ok-pointer.ensures _
    (loads_doubleword _ _ _ _ _ _ _ (search rules) c.load-in-18.ensures)

pub returns-in-17 : goal.returns-in-17
returns-in-17 c =
    let o = c.args.self.now in
    in_place _ _ _ _ o.modrm _ _ o.here o.named c.requires _ c.in_ok-pointer.ensures _
    (stores_doubleword _ _ _ _ _ _ _ (search rules) c.store-in-17.ensures)

pub returns-in_default : goal.returns-in_default
returns-in_default c =
    let o = c.args.self.now in
    suffix_in_place _ _ _ _ o.modrm _ _ o.here o.named c.requires _ c.in_ok-pointer.ensures _ (search rules) c.suffixed_in_memory.ensures
