-- The edges of loops: counted and nested ones, one that never ends, where jumps may lead, sums that wrap, marks, readings, and blocks without a jump.
use Rattle.std.specs.Prelude.{Bool, true, false, not, ◌&&◌, List, [], ◌∷◌, ◌++◌, ℕ, eqb, get_or, replicate}
use Rattle.reorder.specs.Run.{Answer, finished, spent, stopped}
use Rattle.manual.specs.declared.Marks.{Marks}
use Rattle.manual.specs.State.{State, zeroed}
use Rattle.manual.specs.Steps.{Outcome, completed, refused_with, step_at}
use Rattle.manual.specs.Runs.{run_of, has_no_jump}
use Rattle.manual.proofs.Marking.{controlled, clear}
use Rattle.manual.proofs.Edges.{over, done_with, refused_after, step_refused_by, tags_empty}

-- this number in EAX, 1 and 3 in the doublewords of MM1, eight bytes of memory, and these marks
abbrev start : ℕ → Marks → State
start eax marks =
    record { mmx = 0 ∷ 0x0000000100000003 ∷ replicate 6 0; integers = eax ∷ replicate 7 0; marks = marks; memory = replicate 8 0 }

-- no mark is set; the zero mark alone; EM alone; all control marks
abbrev none : Marks
none = clear false

abbrev zero : Marks
zero = zeroed none true

abbrev em : Marks
em = controlled none true false false

abbrev barred : Marks
barred = controlled none true true true

abbrev run_from : ℕ → Marks → List ℕ → Answer State
run_from eax marks code = run_of 0 code 4096 (start eax marks)

abbrev run : List ℕ → Answer State
run code = run_from 7 none code

-- what is left

abbrev same : Bool → Bool → Bool
same true b = b
same false b = not b

-- this number in an integer register, and these for the zero mark and the tag mark
abbrev left : ℕ → ℕ → Bool → Bool → State → Bool
left k value is_zero valid t = eqb (get_or t.integers k 0) value && same is_zero t.marks.zero && same valid t.marks.valid

-- this in EAX after one instruction, with the tags still empty
abbrev eax : ℕ → Bool → Answer State → Bool
eax value is_zero = done_with 1 (left 0 value is_zero false)

-- refused at the start: EAX, the zero mark and the tags are as they were
abbrev refuses : ℕ → Answer State → Bool
refuses number = refused_after number 0 (left 0 7 false false)

-- spent at a position, after so many instructions, in a state of which this holds
abbrev spent_at : ℕ → ℕ → (State → Bool) → Answer State → Bool
spent_at position total holds (finished at count t) = false
spent_at position total holds (spent at count t) = eqb at position && eqb count total && holds t
spent_at position total holds (stopped n at count t) = false

-- refused by this number at a position, after so many instructions, in a state of which this holds
abbrev refused_at : ℕ → ℕ → ℕ → (State → Bool) → Answer State → Bool
refused_at number position total holds (finished at count t) = false
refused_at number position total holds (spent at count t) = false
refused_at number position total holds (stopped n at count t) = eqb n number && eqb at position && eqb count total && holds t

-- a step goes on at a position
abbrev goes_to : ℕ → Outcome → Bool
goes_to position (completed at t) = eqb at position
goes_to position (refused_with n at t) = false

abbrev step_in : List ℕ → ℕ → Outcome
step_in code at = step_at 0 code at (start 7 none)

abbrev pub loop_edges : List Bool
loop_edges =
    -- MOV ECX, 10; PADDD MM0, MM1; DEC ECX; JNZ to the PADDD: one and ten times three instructions
    done_with 31 (λ t. eqb (get_or t.mmx 0 0) 0x0000000a0000001e && left 1 0 true true t)
    (run (0xb9 ∷ 0x0a ∷ 0 ∷ 0 ∷ 0 ∷ 0x0f ∷ 0xfe ∷ 0xc1 ∷ 0x49 ∷ 0x75 ∷ 0xfa ∷ []))
    -- MOV EDX, 3; MOV ECX, 2; ADD EAX, 5; DEC ECX; JNZ to the ADD; DEC EDX; JNZ to the second MOV
    ∷ done_with 28 (λ t. left 0 37 true false t && left 1 0 true false t && left 2 0 true false t)
    (run (0xba ∷ 3 ∷ 0 ∷ 0 ∷ 0 ∷ 0xb9 ∷ 2 ∷ 0 ∷ 0 ∷ 0 ∷ 0x83 ∷ 0xc0 ∷ 5 ∷ 0x49 ∷ 0x75 ∷ 0xfa ∷ 0x4a ∷ 0x75 ∷ 0xf2 ∷ []))
    -- DEC EAX; JNZ to 0
    ∷ done_with 14 (left 0 0 true false) (run (0x48 ∷ 0x75 ∷ 0xfd ∷ []))
    -- a jump to itself never ends: the whole budget is spent
    ∷ spent_at 0 3 (left 0 7 false false) (run_of 0 (0x75 ∷ 0xfe ∷ []) 3 (start 7 none))
    ∷ spent_at 0 100 (left 0 7 false false) (run_of 0 (0x75 ∷ 0xfe ∷ []) 100 (start 7 none))
    -- to the end is done, though the budget is used up; with none of it left before the jump it is spent, also where it would be 19
    ∷ done_with 1 (left 0 7 false false) (run_of 0 (0x75 ∷ 0 ∷ []) 1 (start 7 none))
    ∷ done_with 1 (left 0 7 false false) (run_of 0 (0x75 ∷ 1 ∷ 0x90 ∷ []) 1 (start 7 none))
    ∷ spent_at 0 0 (left 0 7 false false) (run_of 0 (0x75 ∷ 0 ∷ []) 0 (start 7 none))
    ∷ spent_at 0 0 (left 0 7 false false) (run_of 0 (0x75 ∷ 0xfd ∷ []) 0 (start 7 none))
    -- to -1, and one past the end
    ∷ refuses 19 (run (0x75 ∷ 0xfd ∷ []))
    ∷ refuses 19 (run (0x75 ∷ 1 ∷ []))
    -- as the second instruction, at position 1: what DEC EAX did stays
    ∷ refused_at 19 1 1 (left 0 6 false false) (run (0x48 ∷ 0x75 ∷ 0xfc ∷ []))
    -- a step at position 1, to the end
    ∷ goes_to 3 (step_in (0x48 ∷ 0x75 ∷ 0 ∷ []) 1)
    -- not taken, it completes wherever it would lead
    ∷ done_with 1 (left 0 7 true false) (run_from 7 zero (0x75 ∷ 0x80 ∷ []))
    ∷ done_with 1 (left 0 7 true false) (run_from 7 zero (0x75 ∷ 0x7f ∷ []))
    ∷ done_with 1 (left 0 7 true false) (run_from 7 zero (0x75 ∷ 0xfe ∷ []))
    -- by 127 and by -128, and one further each
    ∷ goes_to 129 (step_in (0x75 ∷ 0x7f ∷ replicate 127 0x90) 0)
    ∷ step_refused_by 19 (step_in (0x75 ∷ 0x7f ∷ replicate 126 0x90) 0)
    ∷ goes_to 0 (step_in (replicate 126 0x90 ++ 0x75 ∷ 0x80 ∷ []) 126)
    ∷ step_refused_by 19 (step_in (replicate 125 0x90 ++ 0x75 ∷ 0x80 ∷ []) 125)
    -- MOV EAX, 0275770F; JNZ into it, to its second byte: EMMS; JNZ to the end
    ∷ done_with 4 (left 0 0x0275770f false false) (run (0xb8 ∷ 0x0f ∷ 0x77 ∷ 0x75 ∷ 2 ∷ 0x75 ∷ 0xfa ∷ []))
    -- a jump over a prefix, to DEC EAX
    ∷ done_with 2 (left 0 6 false false) (run (0x75 ∷ 1 ∷ 0x66 ∷ 0x48 ∷ []))
    -- MOV takes all four bytes, and keeps the zero mark
    ∷ eax 0x12345678 false (run (0xb8 ∷ 0x78 ∷ 0x56 ∷ 0x34 ∷ 0x12 ∷ []))
    ∷ eax 5 true (run_from 7 zero (0xb8 ∷ 5 ∷ 0 ∷ 0 ∷ 0 ∷ []))
    ∷ eax 0 false (run (0xb8 ∷ 0 ∷ 0 ∷ 0 ∷ 0 ∷ []))
    ∷ done_with 1 (left 7 0xffffffff false false) (run (0xbf ∷ 0xff ∷ 0xff ∷ 0xff ∷ 0xff ∷ []))
    -- ADD of -1, 127 and -128 to EAX, and of 5 to ECX
    ∷ eax 0 true (run_from 1 none (0x83 ∷ 0xc0 ∷ 0xff ∷ []))
    ∷ eax 0x80 false (run_from 1 none (0x83 ∷ 0xc0 ∷ 0x7f ∷ []))
    ∷ eax 0 true (run_from 0x80 none (0x83 ∷ 0xc0 ∷ 0x80 ∷ []))
    ∷ eax 0xffffff80 false (run_from 0 none (0x83 ∷ 0xc0 ∷ 0x80 ∷ []))
    ∷ done_with 1 (left 1 5 false false) (run (0x83 ∷ 0xc1 ∷ 5 ∷ []))
    -- it wraps; a sum other than 0 clears the zero mark, and 0 plus 0 sets it
    ∷ eax 0 true (run_from 0xffffffff none (0x83 ∷ 0xc0 ∷ 1 ∷ []))
    ∷ eax 0x7e false (run_from 0xffffffff none (0x83 ∷ 0xc0 ∷ 0x7f ∷ []))
    ∷ eax 7 false (run_from 7 zero (0x83 ∷ 0xc0 ∷ 0 ∷ []))
    ∷ eax 0 true (run_from 0 none (0x83 ∷ 0xc0 ∷ 0 ∷ []))
    -- DEC of 0, of 1, of 101, and of 80000000 with the zero mark set
    ∷ eax 0xffffffff false (run_from 0 none (0x48 ∷ []))
    ∷ eax 0 true (run_from 1 none (0x48 ∷ []))
    ∷ eax 0x100 false (run_from 0x101 none (0x48 ∷ []))
    ∷ eax 0x7fffffff false (run_from 0x80000000 zero (0x48 ∷ []))
    -- MMX instructions and EMMS keep the zero mark: DEC EAX; PXOR MM0, MM0; EMMS
    ∷ done_with 3 (left 0 0 true false) (run_from 1 none (0x48 ∷ 0x0f ∷ 0xef ∷ 0xc0 ∷ 0x0f ∷ 0x77 ∷ []))
    -- the four keep the tags: empty, and after PXOR MM0, MM0 valid
    ∷ done_with 4 (left 0 3 false false) (run (0xb8 ∷ 5 ∷ 0 ∷ 0 ∷ 0 ∷ 0x48 ∷ 0x83 ∷ 0xc0 ∷ 0xff ∷ 0x75 ∷ 0 ∷ []))
    ∷ done_with 5 (left 0 3 false true) (run (0x0f ∷ 0xef ∷ 0xc0 ∷ 0xb8 ∷ 5 ∷ 0 ∷ 0 ∷ 0 ∷ 0x48 ∷ 0x83 ∷ 0xc0 ∷ 0xff ∷ 0x75 ∷ 0 ∷ []))
    -- EM, TS and pending don't stop them, and stay set; they stop the PADDD behind
    ∷ done_with 5 (λ t. left 1 0 true false t && t.marks.em && t.marks.ts && t.marks.pending) (run_from 7 barred (0xb9 ∷ 2 ∷ 0 ∷ 0 ∷ 0 ∷ 0x49 ∷ 0x75 ∷ 0xfd ∷ []))
    ∷ refused_after 7 2 (left 0 8 false false) (run_from 7 barred (0x83 ∷ 0xc0 ∷ 1 ∷ 0x75 ∷ 0 ∷ 0x0f ∷ 0xfe ∷ 0xc1 ∷ []))
    ∷ refuses 19 (run_from 7 barred (0x75 ∷ 0xfd ∷ []))
    -- with EM alone set DEC EAX completes, and no other mark is set then
    ∷ done_with 1 (λ t. left 0 6 false false t && t.marks.em && not t.marks.ts && not t.marks.pending) (run_from 7 em (0x48 ∷ []))
    -- 1, 20 and 2 refuse them too; of 4,096 bytes the last is read
    ∷ refused_after 1 0 tags_empty (run_of 0 (0x48 ∷ []) 1 (over (replicate 32769 0)))
    ∷ refuses 20 (run_of 9 (0x48 ∷ []) 1 (start 7 none))
    ∷ refuses 2 (run_of 0 (replicate 4097 0x48) 1 (start 7 none))
    ∷ goes_to 4096 (step_in (replicate 4096 0x48) 4095)
    ∷ step_refused_by 2 (step_in (replicate 4097 0x48) 4095)
    -- over a floor of all the memory they complete
    ∷ done_with 3 (left 0 6 false false) (run_of 8 (0x83 ∷ 0xc0 ∷ 0 ∷ 0x48 ∷ 0x75 ∷ 0 ∷ []) 4096 (start 7 none))
    -- code that ends inside MOV, ADD and JNZ is 3
    ∷ refuses 3 (run (0xb8 ∷ []))
    ∷ refuses 3 (run (0xb8 ∷ 0 ∷ 0 ∷ 0 ∷ []))
    ∷ refuses 3 (run (0x83 ∷ []))
    ∷ refuses 3 (run (0x83 ∷ 0xc0 ∷ []))
    ∷ refuses 3 (run (0x75 ∷ []))
    -- 83 in another form is 6, at its ModRM byte: memory, with an SIB byte to come, and digits 1 and 7
    ∷ refuses 6 (run (0x83 ∷ 0x00 ∷ []))
    ∷ refuses 6 (run (0x83 ∷ 0x44 ∷ []))
    ∷ refuses 6 (run (0x83 ∷ 0xc8 ∷ []))
    ∷ refuses 6 (run (0x83 ∷ 0xf8 ∷ []))
    -- the first bytes beside theirs are 5, and a prefix before one is 4
    ∷ refuses 5 (run (0x47 ∷ []))
    ∷ refuses 5 (run (0x50 ∷ []))
    ∷ refuses 5 (run (0x74 ∷ 0 ∷ []))
    ∷ refuses 5 (run (0x76 ∷ 0 ∷ []))
    ∷ refuses 5 (run (0x82 ∷ 0xc0 ∷ 0 ∷ []))
    ∷ refuses 5 (run (0x84 ∷ 0xc0 ∷ 0 ∷ []))
    ∷ refuses 5 (run (0xb7 ∷ 0 ∷ 0 ∷ 0 ∷ 0 ∷ []))
    ∷ refuses 5 (run (0xc0 ∷ 0 ∷ 0 ∷ 0 ∷ 0 ∷ []))
    ∷ refuses 4 (run (0x66 ∷ 0x48 ∷ []))
    -- reading from 0 onward reaches a jump at 0, and behind PXOR MM0, MM0
    ∷ not (has_no_jump (0x75 ∷ 0 ∷ []))
    ∷ not (has_no_jump (0x0f ∷ 0xef ∷ 0xc0 ∷ 0x75 ∷ 0xfb ∷ []))
    -- and none in MOV's immediate, in PCMPEQW MM0, MM0, behind what is not read, and where the code ends inside it
    ∷ has_no_jump (0xb8 ∷ 0x75 ∷ 0 ∷ 0x75 ∷ 0 ∷ 0x48 ∷ [])
    ∷ has_no_jump (0x0f ∷ 0x75 ∷ 0xc0 ∷ [])
    ∷ has_no_jump (0x90 ∷ 0x75 ∷ 0 ∷ [])
    ∷ has_no_jump (0x75 ∷ [])
    -- a code of 4,096 bytes is read, one of 4,097 is not
    ∷ not (has_no_jump (0x75 ∷ 0 ∷ replicate 4094 0))
    ∷ has_no_jump (0x75 ∷ 0 ∷ replicate 4095 0)
    ∷ []
