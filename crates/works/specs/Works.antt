-- What remains to be done of an instruction, as plain numbers, and what doing it leaves.
use Rattle.std.specs.Prelude.{Result, Ok, Err, Bool, true, false, cond, List, ℕ, ◌%◌, ◌^◌, eqb, leb, get_or, set}
use Rattle.lanes.specs.Operations.{operation_of, operate}
use Rattle.words.specs.Buffer.{stored}
use Rattle.manual.specs.Refusals.{below_floor}
use Rattle.works.specs.declared.Work.{Work}
use Rattle.works.specs.declared.performing.Moved.{Moved}

-- what remains to be done, by the code's numbers
abbrev pub to_operate : ℕ
to_operate = 0

abbrev pub to_store : ℕ
to_store = 1

abbrev pub to_integer : ℕ
to_integer = 2

abbrev pub to_empty : ℕ
to_empty = 3

abbrev pub to_pass : ℕ
to_pass = 4

abbrev pub to_set : ℕ
to_set = 5

abbrev pub to_count : ℕ
to_count = 6

abbrev pub to_refuse : ℕ
to_refuse = 7

abbrev pub work_of : ℕ → ℕ → ℕ → ℕ → ℕ → Work
work_of what number place value next = record { what = what; number = number; place = place; value = value; next = next }

abbrev pub refused_work : ℕ → Work
refused_work refusal = work_of to_refuse refusal 0 0 0

-- how a step ended, and what is then in the registers and in the memory
pub record Left : Type 0 where
  pub answer : Result Moved ℕ
  pub mmx : List ℕ
  pub integers : List ℕ
  pub memory : List ℕ

abbrev pub left : Result Moved ℕ → List ℕ → List ℕ → List ℕ → Left
left answer registers integers memory = record { answer = answer; mmx = registers; integers = integers; memory = memory }

-- where the run goes on, the tag mark and the zero mark
abbrev pub moved_to : ℕ → Bool → Bool → Result Moved ℕ
moved_to next valid zero = Ok (record { next = next; valid = valid; zero = zero })

-- what a work leaves over a floor, with these two marks: an operation on an MMX register, a store, a move to an integer register, the tag mark set
-- empty, nothing, an integer register set, the same with the zero mark, or a refusal
unfoldable pub left_by : Work → ℕ → Bool → Bool → List ℕ → List ℕ → List ℕ → Left
left_by work floor valid zero registers integers memory =
    let register = work.place % 8 in
    let low = work.value % 2 ^ 32 in
    cond (eqb work.what to_operate)
    (left (moved_to work.next true zero) (set registers register (operate (operation_of work.number) (get_or registers register 0) work.value)) integers memory)
    (cond (eqb work.what to_store)
    (cond (leb floor work.place) (left (moved_to work.next true zero) registers integers (stored memory work.place work.number work.value))
    (left (Err below_floor) registers integers memory))
    (cond (eqb work.what to_integer) (left (moved_to work.next true zero) registers (set integers register low) memory)
    (cond (eqb work.what to_empty) (left (moved_to work.next false zero) registers integers memory)
    (cond (eqb work.what to_pass) (left (moved_to work.next valid zero) registers integers memory)
    (cond (eqb work.what to_set) (left (moved_to work.next valid zero) registers (set integers register low) memory)
    (cond (eqb work.what to_count) (left (moved_to work.next valid (eqb low 0)) registers (set integers register low) memory)
    (left (Err work.number) registers integers memory)))))))
