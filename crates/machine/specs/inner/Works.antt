-- The parts of the code's step in the words of the definitions: lent registers with marks are a machine, what remains to be done leaves a
-- state, and how a step ended is an outcome.
use Rattle.std.specs.Prelude.{◌≡◌, Bool, Ok, Err, true, cond, List, [], ◌∷◌, ℕ, ◌/◌, ◌%◌, ◌^◌, ◌<◌, ◌≤◌, eqb, leb, length, get_or}
use Rattle.std.specs.Prelude as code
use Rattle.basis.specs.Names.{Option, none, some}
use Rattle.lanes.specs.Operations.{Operation, operation_of, operate, described, MOVE, PINSRW, PSHUFW, PEXTRW, PMOVMSKB, MASKMOVQ}
use Rattle.words.specs.Buffer.{loaded, stored}
use Rattle.reorder.specs.Result.{Result, done, refused}
use Rattle.codec.specs.Forms.{Form, forms, is_among, memory_size}
use Rattle.codec.specs.Opcodes.{find}
use Rattle.codec.specs.Table.{form_of}
use Rattle.codec.specs.inner.Entries.{operation_in}
use Rattle.codec.specs.declared.Instruction.{Instruction}
use Rattle.codec.specs.declared.Kind.TheVariants.{Ordinary, Emms}
use Rattle.manual.specs.declared.Marks.{Marks}
use Rattle.manual.specs.Refusals.{below_floor}
use Rattle.manual.specs.State.{State, with_memory}
use Rattle.manual.specs.Places.{mmx, integer, zero_mark, look, put}
use Rattle.manual.specs.Kinds.{marked}
use Rattle.manual.specs.Effects.{Effect}
use Rattle.manual.specs.inner.Unmarked.{directly}
use Rattle.manual.specs.Instructions.{is_loop, effect_by}
use Rattle.manual.specs.Steps.{concluded, Outcome, completed, refused_with, step_at}
use Rattle.works.specs.declared.Work.{Work}
use Rattle.works.specs.declared.performing.Moved.{Moved}
use Rattle.works.specs.Bars.{barred_by}
use Rattle.works.specs.Works.{to_operate, to_store, to_integer, to_empty, to_pass, to_set, to_count, work_of, refused_work, Left, left}
use Rattle.machine.specs.declared.Machine.{Machine}
use Rattle.machine.specs.declared.operands.Spot.{Spot}
use Rattle.machine.specs.declared.operands.Spot.TheVariants.{Mmx, Integer, Bytes}
use Rattle.machine.specs.State.{state_of}
use Rattle.machine.specs.inner.Ways.{is_unstopped}

-- lent registers and marks
abbrev pub machine_of : List ℕ → List ℕ → Marks → Machine
machine_of registers integers marks = record { mmx = registers; integers = integers; marks = marks }

-- the marks with another tag mark and another zero mark
abbrev pub renewed : Marks → Bool → Bool → Marks
renewed marks valid zero = record { valid = valid; zero = zero; em = marks.em; ts = marks.ts; pending = marks.pending }

-- the refusal of the control marks, or 0 (`bar`), where they stop the form of this number; else 0
abbrev pub stopping_by : ℕ → ℕ → ℕ
stopping_by bar form = cond (is_unstopped form) 0 bar

-- the effect of an instruction by the table's entry for it
abbrev pub effect_in : ℕ → Instruction → Effect
effect_in entry i = effect_by (form_of (entry / 2 ^ 24)) (operation_in entry i.operand.reg) i

-- the forms that one operation alone has, with it
abbrev owners : List (ℕ × Operation)
owners =
    (4, PINSRW) ∷ (5, PSHUFW) ∷ (6, PEXTRW) ∷ (7, PMOVMSKB) ∷ (8, MASKMOVQ)
    ∷ (15, MOVE) ∷ (17, MOVE) ∷ (18, MOVE) ∷ (19, MOVE) ∷ (20, MOVE) ∷ []

-- the number of that operation
abbrev pub owned : ℕ → Option ℕ
owned form = find (λ x. eqb form x.0) (λ x. some (described x.1).number) none owners

-- the numbers of the forms in the table: all but those of loops
abbrev numbers_in : List Form → List ℕ
numbers_in [] = []
numbers_in (form ∷ rest) = cond (is_loop form.kind) (numbers_in rest) (form.number ∷ numbers_in rest)

abbrev pub numbers : List ℕ
numbers = numbers_in forms

abbrev pub is_listed : ℕ → Bool
is_listed form = is_among form numbers

-- what is said of every entry of the table that is read: its form is one of the list, and not absent; its size is the form's; and so is its
-- operation, where one alone has the form
pub record Listed (entry : ℕ) : Type 0 where
  pub listed : is_listed (entry / 2 ^ 24) ≡ true
  pub present : entry / 2 ^ 24 ≡ 0 → ⊥
  pub sized : entry / 2 ^ 16 % 256 ≡ memory_size (form_of (entry / 2 ^ 24))
  pub owns : (k : ℕ) → owned (entry / 2 ^ 24) ≡ some k → entry % 256 ≡ k

-- a value is put where an operand is
abbrev pub put_work : Result Spot → ℕ → ℕ → Work
put_work (done (Mmx k)) value next = work_of to_operate (described MOVE).number k value next
put_work (done (Integer k)) value next = work_of to_integer 0 k value next
put_work (done (Bytes a size)) value next = work_of to_store size a value next
put_work (refused n) value next = refused_work n

-- the number that an operand has
abbrev pub value_in : List ℕ → List ℕ → List ℕ → Spot → ℕ
value_in registers integers memory (Mmx k) = get_or registers k 0
value_in registers integers memory (Integer k) = get_or integers k 0
value_in registers integers memory (Bytes a size) = loaded memory a size

-- an operation on a register, with that number
abbrev pub take_work : List ℕ → List ℕ → List ℕ → ℕ → ℕ → Result Spot → ℕ → Work
take_work registers integers memory number place (done x) next = work_of to_operate number place (value_in registers integers memory x) next
take_work registers integers memory number place (refused n) next = refused_work n

-- what a work comes to over a floor, at a position, in a state: an operation on an MMX register, a store, a move to an integer register, the tag mark
-- set empty, nothing, an integer register set, the same with the zero mark, or a refusal
unfoldable pub performed : ℕ → Work → ℕ → State → Outcome
performed floor work at s =
    cond (eqb work.what to_operate)
    (completed work.next (marked Ordinary (put s (mmx work.place) (operate (operation_of work.number) (look s (mmx work.place)) work.value))))
    (cond (eqb work.what to_store)
    (cond (leb floor work.place) (completed work.next (marked Ordinary (with_memory s (stored s.memory work.place work.number work.value))))
    (refused_with below_floor at s))
    (cond (eqb work.what to_integer) (completed work.next (marked Ordinary (put s (integer work.place) (work.value % 2 ^ 32))))
    (cond (eqb work.what to_empty) (completed work.next (marked Emms s))
    (cond (eqb work.what to_pass) (completed work.next s)
    (cond (eqb work.what to_set) (completed work.next (put s (integer work.place) (work.value % 2 ^ 32)))
    (cond (eqb work.what to_count) (completed work.next (put (put s (integer work.place) (work.value % 2 ^ 32)) zero_mark (cond (eqb (work.value % 2 ^ 32) 0) 1 0)))
    (refused_with work.number at s)))))))

-- the registers that it names are there
pub record Sound (work : Work) : Type 0 where
  pub operates : work.what ≡ to_operate → work.place < 8
  pub moves : work.what ≡ to_integer → work.place < 8
  pub sets : work.what ≡ to_set → work.place < 8
  pub counts : work.what ≡ to_count → work.place < 8

-- with these registers and this memory a work does what an effect does, whatever the floor, the marks and the position, and goes on as `further` says
pub record Does (work : Work) (registers integers memory : List ℕ) (e : Effect) (further : Result ℕ) : Type 0 where
  pub sound : Sound work
  pub does : (floor : ℕ) (marks : Marks) (at : ℕ) → let s = state_of (machine_of registers integers marks) memory in performed floor work at s ≡ concluded at further s (directly floor e s)

-- a work does what the step at a position of the code does, over every floor in the memory and for all marks whose refusal is `bar` and whose zero
-- mark is `zero`
pub record Gathered (work : Work) (registers integers : List ℕ) (bar : ℕ) (zero : Bool) (code : List ℕ) (at : ℕ) (memory : List ℕ) : Type 0 where
  pub sound : Sound work
  pub steps : (floor : ℕ) → floor ≤ length memory → (marks : Marks) → bar ≡ barred_by marks → zero ≡ marks.zero → let s = state_of (machine_of registers integers marks) memory in performed floor work at s ≡ step_at floor code at s

-- what a step at a position has left, as an outcome with these marks
abbrev outcome_by : Marks → ℕ → code.Result Moved ℕ → List ℕ → List ℕ → List ℕ → Outcome
outcome_by marks at (Ok moved) registers integers memory =
    completed moved.next (state_of (machine_of registers integers (renewed marks moved.valid moved.zero)) memory)
outcome_by marks at (Err n) registers integers memory = refused_with n at (state_of (machine_of registers integers marks) memory)

abbrev pub outcome_of : Marks → ℕ → Left → Outcome
outcome_of marks at x = outcome_by marks at x.answer x.mmx x.integers x.memory

-- a step that ended so, with what is then in the lent registers and memory, is the step over a floor at a position of the code, for all marks whose
-- refusal is `bar`, whose tag mark is `valid` and whose zero mark is `zero`
pub record Advanced (answer : code.Result Moved ℕ) (registers integers : List ℕ) (bar : ℕ) (valid zero : Bool) (code : List ℕ) (at : ℕ) (memory : List ℕ) (floor : ℕ) (registers' integers' memory' : List ℕ) : Type 0 where
  pub ends : (marks : Marks) → bar ≡ barred_by marks → valid ≡ marks.valid → zero ≡ marks.zero
      → outcome_of marks at (left answer registers' integers' memory') ≡ step_at floor code at (state_of (machine_of registers integers marks) memory)
