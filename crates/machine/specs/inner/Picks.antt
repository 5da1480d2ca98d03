-- The works of the instructions that pick lanes.
use Rattle.std.specs.Prelude.{cond, List, ℕ, eqb, length}
use Rattle.lanes.specs.Operations.{operate, operate_three, described, MOVE, PINSRW, PSHUFW, PEXTRW, PMOVMSKB, MASKMOVQ}
use Rattle.words.specs.Buffer.{loaded}
use Rattle.manual.specs.Refusals.{outside_memory}
use Rattle.manual.specs.Addresses.{address}
use Rattle.manual.specs.Locations.{at_edi, lies_inside}
use Rattle.works.specs.declared.Work.{Work}
use Rattle.works.specs.Works.{to_operate, to_store, to_integer, work_of, refused_work}

-- what PINSRW, by its form's number, or else PSHUFW leaves of the old register, the operand's number and the immediate
abbrev pub picked_of : ℕ → ℕ → ℕ → ℕ → ℕ
picked_of form old value immediate = cond (eqb form 4) (operate_three PINSRW old value immediate) (operate PSHUFW value immediate)

-- it moves into the place of a work that has the operand's number, unless that is refused
abbrev pub picked_work : ℕ → ℕ → ℕ → Work → Work
picked_work form old immediate work =
    cond (eqb work.what to_operate)
    (work_of to_operate (described MOVE).number work.place (picked_of form old work.value immediate) work.next)
    work

-- what PEXTRW, by its form's number, or else PMOVMSKB leaves of an MMX register
abbrev pub extracted_of : ℕ → ℕ → ℕ → ℕ
extracted_of form value immediate = cond (eqb form 6) (operate PEXTRW value immediate) (operate PMOVMSKB value value)

abbrev pub extract_work : ℕ → ℕ → ℕ → ℕ → ℕ → Work
extract_work form value immediate register next = work_of to_integer 0 register (extracted_of form value immediate) next

-- what MASKMOVQ leaves of the eight bytes at EDI is stored there, unless one of them is outside the memory
abbrev pub mask_work : List ℕ → List ℕ → ℕ → ℕ → ℕ → Work
mask_work integers memory source mask next =
    let a = address integers at_edi in
    cond (lies_inside (length memory) 8 a)
    (work_of to_store 8 a (operate_three MASKMOVQ (loaded memory a 8) source mask) next)
    (refused_work outside_memory)
