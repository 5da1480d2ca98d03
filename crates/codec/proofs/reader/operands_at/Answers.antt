-- `reader::operands_at` meets its contract: a suffix is looked at last.
use Rattle.basis.proofs.Names.{sym, ap, ◌∙◌, arith}
use Rattle.codec.specs.Finding.{paper_of_found}
use Rattle.codec.proofs.Judging.{operands_plain, operands_listed, operands_refused}
use Rattle.codec.proofs.reader.operands_at.Goals as goal
use Rattle.codec.proofs.reader.operands_at.Goals.{else-opcode-eq-SUFFIXED-via-then-opcode-eq-SUFFIXED+else-not-is_suffix, else-opcode-eq-SUFFIXED-via-else-opcode-eq-SUFFIXED}

pub returns-in_err-found : goal.returns-in_err-found
returns-in_err-found c =
    let was = ap paper_of_found c.in_err-found.was in
    let refused = operands_refused c.args.opcode c.read_as.result c.read_as.ensures c.args.code.now c.args.at _ c.modrm_at.ensures _ was in
    grind (arith, refused)

pub returns : goal.returns
returns c =
    let was = ap paper_of_found c.in_ok-found.was in
    let read = sym was ∙ c.modrm_at.ensures in
    elim c.else-opcode-eq-SUFFIXED.branch [
      | else-opcode-eq-SUFFIXED-via-then-opcode-eq-SUFFIXED+else-not-is_suffix w ↦
          operands_listed _ _ c.read_as.ensures _ _ _ read w.if-opcode-eq-SUFFIXED.true (sym w.is_suffix.ensures ∙ w.if-not-is_suffix.false)
      | else-opcode-eq-SUFFIXED-via-else-opcode-eq-SUFFIXED w ↦
          operands_plain _ _ c.read_as.ensures _ _ _ read w.if-opcode-eq-SUFFIXED.false
    ]
