-- What remains of one of 3DNow's instructions, when its operands are gathered.
use Rattle.std.specs.Prelude.{cond, ℕ, eqb, Option, Some, None}
use Rattle.lanes.specs.Operations.{described, MOVE, PAVGB}
use Rattle.singles.specs.Siblings.{Sibling, PF2IW, PI2FW, PSWAPD, PAVGUSB, PFCMPGT, PFMAX, leave}
use Rattle.reorder.specs.Result.{Result, done, refused}
use Rattle.codec.specs.Opcodes.{suffixed_of}
use Rattle.manual.specs.Refusals.{half_unsupported}
use Rattle.works.specs.declared.Work.{Work}
use Rattle.works.specs.Works.{to_operate, work_of, refused_work}

-- what it leaves of what its register held and of the operand's number; but of PAVGUSB, which is PAVGB, that number itself
abbrev pub value_left : Sibling → ℕ → ℕ → Option ℕ
value_left PF2IW old source = leave PF2IW old source
value_left PI2FW old source = leave PI2FW old source
value_left PSWAPD old source = leave PSWAPD old source
value_left PAVGUSB old source = Some source
value_left PFCMPGT old source = leave PFCMPGT old source
value_left PFMAX old source = leave PFMAX old source

-- and the number of the operation that then remains
abbrev pub operation_left : Sibling → ℕ
operation_left PF2IW = (described MOVE).number
operation_left PI2FW = (described MOVE).number
operation_left PSWAPD = (described MOVE).number
operation_left PAVGUSB = (described PAVGB).number
operation_left PFCMPGT = (described MOVE).number
operation_left PFMAX = (described MOVE).number

-- the work of both: where nothing is left, 22
abbrev pub answered_work : ℕ → Option ℕ → ℕ → ℕ → Work
answered_work number (Some value) place next = work_of to_operate number place value next
answered_work number None place next = refused_work half_unsupported

abbrev pub sibling_work : Sibling → ℕ → ℕ → ℕ → ℕ → Work
sibling_work x old source place next = answered_work (operation_left x) (value_left x old source) place next

-- by the suffix, from a work that has the operand's number, unless that is refused
abbrev pub suffixed_work : ℕ → ℕ → Work → Work
suffixed_work suffix old work =
    cond (eqb work.what to_operate) (sibling_work (suffixed_of suffix).sibling old work.value work.place work.next) work

-- the same as the paper's answer: a work, or 22
abbrev pub answered : ℕ → Option ℕ → ℕ → ℕ → Result Work
answered number (Some value) place next = done (work_of to_operate number place value next)
answered number None place next = refused half_unsupported

abbrev pub suffixed_answer : ℕ → ℕ → Work → Result Work
suffixed_answer suffix old work =
    let x = (suffixed_of suffix).sibling in
    cond (eqb work.what to_operate) (answered (operation_left x) (value_left x old work.value) work.place work.next) (done work)
