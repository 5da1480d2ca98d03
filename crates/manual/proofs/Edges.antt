-- The edges of steps and runs: each a block, run from a state over eight bytes of memory, and how it ends.
use Rattle.std.specs.Prelude.{Bool, true, false, not, ◌&&◌, List, [], ◌∷◌, ◌++◌, map, ℕ, eqb, get_or, replicate}
use Rattle.basis.specs.Names.{flatten}
use Rattle.words.specs.Number.{number}
use Rattle.reorder.specs.Run.{Answer, finished, spent, stopped}
use Rattle.manual.specs.State.{State}
use Rattle.manual.specs.Steps.{Outcome, completed, refused_with, step_at}
use Rattle.manual.specs.Runs.{run_of}
use Rattle.manual.proofs.Marking.{controlled, clear}

-- the bytes 10 to 17 hex in the memory, all ones in MM0, these numbers in EAX and ECX, 4 in ESP and EBP, the tag mark empty, and these control marks
abbrev start : ℕ → ℕ → Bool → Bool → Bool → State
start eax ecx em ts pending =
    record {
      mmx = 0xffffffffffffffff ∷ replicate 7 0;
      integers = eax ∷ ecx ∷ 0 ∷ 0 ∷ 4 ∷ 4 ∷ 0 ∷ 0 ∷ [];
      marks = controlled (clear false) em ts pending;
      memory = 0x10 ∷ 0x11 ∷ 0x12 ∷ 0x13 ∷ 0x14 ∷ 0x15 ∷ 0x16 ∷ 0x17 ∷ [];
    }

-- nothing in the registers, over a memory
abbrev pub over : List ℕ → State
over memory = record { mmx = replicate 8 0; integers = replicate 8 0; marks = clear false; memory = memory }

abbrev run : List ℕ → Answer State
run code = run_of 0 code 4096 (start 0 0 false false false)

-- the same over a floor
abbrev run_over : ℕ → List ℕ → Answer State
run_over floor code = run_of floor code 4096 (start 0 0 false false false)

abbrev run_with : ℕ → ℕ → List ℕ → Answer State
run_with eax ecx code = run_of 0 code 4096 (start eax ecx false false false)

-- done after so many instructions, in a state of which this holds
abbrev pub done_with : ℕ → (State → Bool) → Answer State → Bool
done_with total holds (finished at count t) = eqb count total && holds t
done_with total holds (spent at count t) = false
done_with total holds (stopped n at count t) = false

-- refused by this number after so many instructions, in a state of which this holds
abbrev pub refused_after : ℕ → ℕ → (State → Bool) → Answer State → Bool
refused_after number total holds (finished at count t) = false
refused_after number total holds (spent at count t) = false
refused_after number total holds (stopped n at count t) = eqb n number && eqb count total && holds t

abbrev spent_after : ℕ → Answer State → Bool
spent_after total (finished at count t) = false
spent_after total (spent at count t) = eqb count total
spent_after total (stopped n at count t) = false

abbrev pub step_refused_by : ℕ → Outcome → Bool
step_refused_by number (completed at t) = false
step_refused_by number (refused_with n at t) = eqb n number

-- what is left

abbrev mm0 : ℕ → State → Bool
mm0 value t = eqb (get_or t.mmx 0 0) value && t.marks.valid

abbrev eax : ℕ → State → Bool
eax value t = eqb (get_or t.integers 0 0) value && t.marks.valid

abbrev memory : ℕ → State → Bool
memory value t = eqb (number t.memory) value && t.marks.valid

abbrev pub tags_empty : State → Bool
tags_empty t = not t.marks.valid

-- MM0 and the memory are as they were, and the tags still empty
abbrev unchanged : State → Bool
unchanged t =
    eqb (get_or t.mmx 0 0) 0xffffffffffffffff && eqb (number t.memory) 0x1716151413121110 && not t.marks.valid

-- a MOVQ from address 0 completes
abbrev reaches_zero : Answer State → Bool
reaches_zero = done_with 1 (mm0 0x1716151413121110)

abbrev completes : Answer State → Bool
completes = done_with 1 (λ t. t.marks.valid)

abbrev refuses : ℕ → Answer State → Bool
refuses number = refused_after number 0 unchanged

-- a MOVQ from an operand, by its bytes from the ModRM byte on, and a MOVQ to it are both refused
abbrev refuses_both : ℕ → List ℕ → Bool
refuses_both number operand = refuses number (run (0x0f ∷ 0x6f ∷ operand)) && refuses number (run (0x0f ∷ 0x7f ∷ operand))

-- a prefetch of FFFFFFFF, by its ModRM byte
abbrev far : ℕ → List ℕ
far modrm = 0x0f ∷ 0x18 ∷ modrm ∷ replicate 4 0xff

-- the edges of document 01
abbrev pub edges : List Bool
edges =
    -- MOVQ at 0 completes, at 1 is 10
    reaches_zero (run (0x0f ∷ 0x6f ∷ 0x05 ∷ 0 ∷ 0 ∷ 0 ∷ 0 ∷ []))
    ∷ refuses 10 (run (0x0f ∷ 0x6f ∷ 0x05 ∷ 1 ∷ 0 ∷ 0 ∷ 0 ∷ []))
    -- PUNPCKLBW at 4 completes, at 5 is 10
    ∷ completes (run (0x0f ∷ 0x60 ∷ 0x05 ∷ 4 ∷ 0 ∷ 0 ∷ 0 ∷ []))
    ∷ refuses 10 (run (0x0f ∷ 0x60 ∷ 0x05 ∷ 5 ∷ 0 ∷ 0 ∷ 0 ∷ []))
    -- a store at 1 is 10, and writes none of its bytes
    ∷ refuses 10 (run (0x0f ∷ 0x7f ∷ 0x05 ∷ 1 ∷ 0 ∷ 0 ∷ 0 ∷ []))
    -- EAX = FFFFFFFF with displacement 1 reaches 0, EAX = 1 with displacement -1 too
    ∷ reaches_zero (run_with 0xffffffff 0 (0x0f ∷ 0x6f ∷ 0x40 ∷ 0x01 ∷ []))
    ∷ reaches_zero (run_with 1 0 (0x0f ∷ 0x6f ∷ 0x40 ∷ 0xff ∷ []))
    -- address FFFFFFFC is 10: the operand itself never wraps
    ∷ refuses 10 (run (0x0f ∷ 0x6f ∷ 0x05 ∷ 0xfc ∷ 0xff ∷ 0xff ∷ 0xff ∷ []))
    -- the sum has 32 bits, no fewer: address 80000000 is 10
    ∷ refuses 10 (run_with 0x80000000 0 (0x0f ∷ 0x6f ∷ 0x00 ∷ []))
    -- a displacement byte is signed from 80 on; one of 32 bits stands for itself
    ∷ reaches_zero (run_with 0x80 0 (0x0f ∷ 0x6f ∷ 0x40 ∷ 0x80 ∷ []))
    ∷ reaches_zero (run_with 0xffffff81 0 (0x0f ∷ 0x6f ∷ 0x40 ∷ 0x7f ∷ []))
    ∷ reaches_zero (run_with 0xffffff80 0 (0x0f ∷ 0x6f ∷ 0x80 ∷ 0x80 ∷ 0 ∷ 0 ∷ 0 ∷ []))
    -- EAX plus ECX times 1, 2, 4 and 8
    ∷ reaches_zero (run_with 0xffffffff 1 (0x0f ∷ 0x6f ∷ 0x04 ∷ 0x08 ∷ []))
    ∷ reaches_zero (run_with 0xfffffffe 1 (0x0f ∷ 0x6f ∷ 0x04 ∷ 0x48 ∷ []))
    ∷ reaches_zero (run_with 0xfffffffc 1 (0x0f ∷ 0x6f ∷ 0x04 ∷ 0x88 ∷ []))
    ∷ reaches_zero (run_with 0xfffffff8 1 (0x0f ∷ 0x6f ∷ 0x04 ∷ 0xc8 ∷ []))
    -- EAX + ECX * 8 + 8 wraps
    ∷ reaches_zero (run_with 0 0x1fffffff (0x0f ∷ 0x6f ∷ 0x44 ∷ 0xc8 ∷ 0x08 ∷ []))
    -- index 100 is none, at any scale; base 100 is ESP, which is 4
    ∷ reaches_zero (run_with 0 0 (0x0f ∷ 0x6f ∷ 0x04 ∷ 0xe0 ∷ []))
    ∷ reaches_zero (run_with 0 0 (0x0f ∷ 0x6f ∷ 0x44 ∷ 0x24 ∷ 0xfc ∷ []))
    -- at mod 00, rm 101 and base 101 are none; at mod 01 and 10 they are EBP, which is 4
    ∷ reaches_zero (run (0x0f ∷ 0x6f ∷ 0x05 ∷ 0 ∷ 0 ∷ 0 ∷ 0 ∷ []))
    ∷ reaches_zero (run (0x0f ∷ 0x6f ∷ 0x04 ∷ 0x25 ∷ 0 ∷ 0 ∷ 0 ∷ 0 ∷ []))
    ∷ reaches_zero (run (0x0f ∷ 0x6f ∷ 0x45 ∷ 0xfc ∷ []))
    ∷ reaches_zero (run (0x0f ∷ 0x6f ∷ 0x85 ∷ 0xfc ∷ 0xff ∷ 0xff ∷ 0xff ∷ []))
    ∷ reaches_zero (run (0x0f ∷ 0x6f ∷ 0x44 ∷ 0x25 ∷ 0xfc ∷ []))
    ∷ reaches_zero (run (0x0f ∷ 0x6f ∷ 0x84 ∷ 0x25 ∷ 0xfc ∷ 0xff ∷ 0xff ∷ 0xff ∷ []))
    -- MOVD to MMX clears the upper half; MOVD from MMX takes the low half
    ∷ done_with 1 (mm0 5) (run_with 5 0 (0x0f ∷ 0x6e ∷ 0xc0 ∷ []))
    ∷ done_with 1 (eax 0xffffffff) (run (0x0f ∷ 0x7e ∷ 0xc0 ∷ []))
    ∷ done_with 2 (eax 5) (run_with 5 0 (0x0f ∷ 0x6e ∷ 0xc0 ∷ 0x0f ∷ 0x7e ∷ 0xc0 ∷ []))
    ∷ done_with 1 (memory 0xffffffff13121110) (run (0x0f ∷ 0x7e ∷ 0x05 ∷ 4 ∷ 0 ∷ 0 ∷ 0 ∷ []))
    -- a store writes each byte to its own place
    ∷ done_with 2 (memory 0x0403020113121110) (run_with 0x04030201 0 (0x0f ∷ 0x6e ∷ 0xc0 ∷ 0x0f ∷ 0x7e ∷ 0x05 ∷ 4 ∷ 0 ∷ 0 ∷ 0 ∷ []))
    -- at mod 11, rm 100 is MM4: no SIB byte
    ∷ done_with 1 (mm0 0) (run (0x0f ∷ 0x6f ∷ 0xc4 ∷ []))
    -- a prefix is 4; 0F 71 00 is 6, 0F 71 D0 is 3
    ∷ refuses 4 (run (0x66 ∷ []))
    ∷ refuses 6 (run (0x0f ∷ 0x71 ∷ 0x00 ∷ []))
    ∷ refuses 3 (run (0x0f ∷ 0x71 ∷ 0xd0 ∷ []))
    -- EM before TS before pending before the operand, and after the reading
    ∷ refuses 7 (run_of 0 (0x0f ∷ 0x77 ∷ []) 1 (start 0 0 true true true))
    ∷ refuses 8 (run_of 0 (0x0f ∷ 0x77 ∷ []) 1 (start 0 0 false true true))
    ∷ refuses 9 (run_of 0 (0x0f ∷ 0x6f ∷ 0x05 ∷ 1 ∷ 0 ∷ 0 ∷ 0 ∷ []) 1 (start 0 0 false false true))
    ∷ refuses 3 (run_of 0 (0x0f ∷ 0x6f ∷ []) 1 (start 0 0 true false false))
    -- 1 before 2, and 2 before the bytes are read; 32,768 bytes of memory and 4,096 of code are not too long
    ∷ refused_after 1 0 tags_empty (run_of 0 (replicate 4097 0x90) 1 (over (replicate 32769 0)))
    ∷ refused_after 2 0 tags_empty (run_of 0 (replicate 4097 0x90) 1 (over (replicate 32768 0)))
    ∷ refused_after 5 0 tags_empty (run_of 0 (replicate 4096 0x90) 1 (over []))
    ∷ step_refused_by 1 (step_at 0 (replicate 4097 0x90) 0 (over (replicate 32769 0)))
    -- EMMS sets the tags empty
    ∷ done_with 2 tags_empty (run (0x0f ∷ 0xef ∷ 0xc0 ∷ 0x0f ∷ 0x77 ∷ []))
    -- done before spent before a step
    ∷ done_with 0 unchanged (run_of 0 [] 0 (start 0 0 false false false))
    ∷ spent_after 0 (run_of 0 (0x90 ∷ []) 0 (start 0 0 false false false))
    ∷ done_with 1 tags_empty (run_of 0 (0x0f ∷ 0x77 ∷ []) 1 (start 0 0 false false false))
    ∷ step_refused_by 3 (step_at 0 (0x0f ∷ 0x77 ∷ []) 2 (start 0 0 false false false))
    -- PXOR MM0, MM0 stays done where the instruction after it is refused
    ∷ refused_after 5 1 (mm0 0) (run (0x0f ∷ 0xef ∷ 0xc0 ∷ 0x90 ∷ []))
    ∷ []

-- the edges of manual 000's instructions
abbrev pub extension_edges : List Bool
extension_edges =
    -- a form that is not listed is 6 at its ModRM byte, before what would follow; else code that ends is 3: PEXTRW, PSHUFW
    refuses 6 (run (0x0f ∷ 0xc5 ∷ 0x00 ∷ []))
    ∷ refuses 3 (run (0x0f ∷ 0xc5 ∷ 0xc0 ∷ []))
    ∷ refuses 3 (run (0x0f ∷ 0x70 ∷ 0xc1 ∷ []))
    -- MOVNTQ of registers, MASKMOVQ and PMOVMSKB of memory
    ∷ refuses 6 (run (0x0f ∷ 0xe7 ∷ 0xc0 ∷ []))
    ∷ refuses 6 (run (0x0f ∷ 0xf7 ∷ 0x00 ∷ []))
    ∷ refuses 6 (run (0x0f ∷ 0xd7 ∷ 0x00 ∷ []))
    -- 18 before a register, before /4, and before /4 with an SIB byte to come; then before the code's end
    ∷ refuses 6 (run (0x0f ∷ 0x18 ∷ 0xc0 ∷ []))
    ∷ refuses 6 (run (0x0f ∷ 0x18 ∷ 0x20 ∷ []))
    ∷ refuses 6 (run (0x0f ∷ 0x18 ∷ 0x24 ∷ []))
    ∷ refuses 3 (run (0x0f ∷ 0x18 ∷ []))
    ∷ refuses 3 (run (0x0f ∷ 0x18 ∷ 0x04 ∷ []))
    -- AE before another byte than F8: another digit, another rm, memory; then before the code's end
    ∷ refuses 6 (run (0x0f ∷ 0xae ∷ 0xe8 ∷ []))
    ∷ refuses 6 (run (0x0f ∷ 0xae ∷ 0xf0 ∷ []))
    ∷ refuses 6 (run (0x0f ∷ 0xae ∷ 0xf9 ∷ []))
    ∷ refuses 6 (run (0x0f ∷ 0xae ∷ 0x38 ∷ []))
    ∷ refuses 6 (run (0x0f ∷ 0xae ∷ 0x3c ∷ []))
    ∷ refuses 3 (run (0x0f ∷ 0xae ∷ []))
    -- MASKMOVQ at EDI = 0: with all ones for a mask all bytes, with 0 none, with 80007FFF those of FF and 80
    ∷ done_with 1 (memory 0xffffffffffffffff) (run (0x0f ∷ 0xf7 ∷ 0xc0 ∷ []))
    ∷ done_with 1 (memory 0x1716151413121110) (run (0x0f ∷ 0xf7 ∷ 0xc1 ∷ []))
    ∷ done_with 2 (memory 0x17161514ff1211ff) (run_with 0x80007fff 0 (0x0f ∷ 0x6e ∷ 0xc8 ∷ 0x0f ∷ 0xf7 ∷ 0xc1 ∷ []))
    -- and at EDI = FFFF, by PEXTRW EDI, MM0, 0, it is 10, with a mask of 0 too
    ∷ refused_after 10 1 (memory 0x1716151413121110) (run (0x0f ∷ 0xc5 ∷ 0xf8 ∷ 0 ∷ 0x0f ∷ 0xf7 ∷ 0xc1 ∷ []))
    -- PINSRW MM0, [6], 1 takes two bytes; at 7 it is 10
    ∷ done_with 1 (mm0 0xffffffff1716ffff) (run (0x0f ∷ 0xc4 ∷ 0x05 ∷ 6 ∷ 0 ∷ 0 ∷ 0 ∷ 1 ∷ []))
    ∷ refuses 10 (run (0x0f ∷ 0xc4 ∷ 0x05 ∷ 7 ∷ 0 ∷ 0 ∷ 0 ∷ 1 ∷ []))
    -- PINSRW MM0, EAX, 6 takes the low word, and goes by the immediate's low two bits; so does PEXTRW EAX, MM0, 6, after MOVQ MM0, [0]
    ∷ done_with 1 (mm0 0xffff5678ffffffff) (run_with 0x12345678 0 (0x0f ∷ 0xc4 ∷ 0xc0 ∷ 6 ∷ []))
    ∷ done_with 2 (eax 0x1514) (run (0x0f ∷ 0x6f ∷ 0x05 ∷ 0 ∷ 0 ∷ 0 ∷ 0 ∷ 0x0f ∷ 0xc5 ∷ 0xc0 ∷ 6 ∷ []))
    -- PEXTRW EAX, MM0, 0 and PMOVMSKB EAX, MM0 clear the upper bits
    ∷ done_with 1 (eax 0xffff) (run_with 0xffffffff 0 (0x0f ∷ 0xc5 ∷ 0xc0 ∷ 0 ∷ []))
    ∷ done_with 1 (eax 0xff) (run_with 0xffffffff 0 (0x0f ∷ 0xd7 ∷ 0xc0 ∷ []))
    -- PSHUFW MM0, [0], 1B turns the words round; MOVNTQ [0], MM0
    ∷ done_with 1 (mm0 0x1110131215141716) (run (0x0f ∷ 0x70 ∷ 0x05 ∷ 0 ∷ 0 ∷ 0 ∷ 0 ∷ 0x1b ∷ []))
    ∷ done_with 1 (memory 0xffffffffffffffff) (run (0x0f ∷ 0xe7 ∷ 0x05 ∷ 0 ∷ 0 ∷ 0 ∷ 0 ∷ []))
    -- /0 to /3 at FFFFFFFF, and SFENCE, complete though EM, TS and pending are set, and leave everything; PMOVMSKB is 7
    ∷ done_with 5 unchanged (run_of 0 (flatten (map far (0x05 ∷ 0x0d ∷ 0x15 ∷ 0x1d ∷ [])) ++ 0x0f ∷ 0xae ∷ 0xf8 ∷ []) 4096 (start 0 0 true true true))
    ∷ refuses 7 (run_of 0 (0x0f ∷ 0xd7 ∷ 0xc0 ∷ []) 1 (start 0 0 true false false))
    -- after PXOR MM0, MM0 a prefetch and SFENCE keep the tags valid, and after EMMS empty
    ∷ done_with 3 (mm0 0) (run (0x0f ∷ 0xef ∷ 0xc0 ∷ 0x0f ∷ 0x18 ∷ 0x00 ∷ 0x0f ∷ 0xae ∷ 0xf8 ∷ []))
    ∷ done_with 4 tags_empty (run (0x0f ∷ 0xef ∷ 0xc0 ∷ 0x0f ∷ 0x77 ∷ 0x0f ∷ 0x18 ∷ 0x00 ∷ 0x0f ∷ 0xae ∷ 0xf8 ∷ []))
    ∷ []

-- the edges of Req 04: operands that miss the memory, by a base register of the stack and by others (ESP and EBP are 4)
abbrev pub stack_edges : List Bool
stack_edges =
    -- [EBP + 0] is 14, [2] is 10, [EAX + EBP] is 10, [ESP] is 14, [0 + EBP * 1] is 10, [ESP + EBP] is 14
    refuses_both 14 (0x45 ∷ 0 ∷ [])
    ∷ refuses_both 10 (0x05 ∷ 2 ∷ 0 ∷ 0 ∷ 0 ∷ [])
    ∷ refuses_both 10 (0x04 ∷ 0x28 ∷ [])
    ∷ refuses_both 14 (0x04 ∷ 0x24 ∷ [])
    ∷ refuses_both 10 (0x04 ∷ 0x2d ∷ 0 ∷ 0 ∷ 0 ∷ 0 ∷ [])
    ∷ refuses_both 14 (0x04 ∷ 0x2c ∷ [])
    -- base 101 without an index at mod 00 is 10
    ∷ refuses_both 10 (0x04 ∷ 0x25 ∷ 1 ∷ 0 ∷ 0 ∷ 0 ∷ [])
    -- rm 101, base 101 and base 100 with a displacement byte and with one of 32 bits are 14
    ∷ refuses_both 14 (0x45 ∷ 0xfb ∷ [])
    ∷ refuses_both 14 (0x85 ∷ 1 ∷ 0 ∷ 0 ∷ 0 ∷ [])
    ∷ refuses_both 14 (0x44 ∷ 0x05 ∷ 1 ∷ [])
    ∷ refuses_both 14 (0x84 ∷ 0x05 ∷ 1 ∷ 0 ∷ 0 ∷ 0 ∷ [])
    ∷ refuses_both 14 (0x44 ∷ 0x24 ∷ 1 ∷ [])
    ∷ refuses_both 14 (0x84 ∷ 0x24 ∷ 1 ∷ 0 ∷ 0 ∷ 0 ∷ [])
    -- an index of EBP with a displacement is 10
    ∷ refuses_both 10 (0x44 ∷ 0x28 ∷ 1 ∷ [])
    ∷ refuses_both 10 (0x84 ∷ 0xa8 ∷ 1 ∷ 0 ∷ 0 ∷ 0 ∷ [])
    -- PUNPCKLBW MM0, [EBP] takes four bytes; at [EBP + 1] it is 14
    ∷ completes (run (0x0f ∷ 0x60 ∷ 0x45 ∷ 0 ∷ []))
    ∷ refuses 14 (run (0x0f ∷ 0x60 ∷ 0x45 ∷ 1 ∷ []))
    -- PADDB MM0, [ESP], PINSRW MM0, [EBP + 4], 1, PSHUFW MM0, [ESP], 0 and MOVNTQ [ESP], MM0
    ∷ refuses 14 (run (0x0f ∷ 0xfc ∷ 0x04 ∷ 0x24 ∷ []))
    ∷ refuses 14 (run (0x0f ∷ 0xc4 ∷ 0x45 ∷ 4 ∷ 1 ∷ []))
    ∷ refuses 14 (run (0x0f ∷ 0x70 ∷ 0x04 ∷ 0x24 ∷ 0 ∷ []))
    ∷ refuses 14 (run (0x0f ∷ 0xe7 ∷ 0x04 ∷ 0x24 ∷ []))
    -- MASKMOVQ MM5, MM4 at EDI = FFFF is 10, whatever registers its ModRM byte names
    ∷ refused_after 10 1 (memory 0x1716151413121110) (run (0x0f ∷ 0xc5 ∷ 0xf8 ∷ 0 ∷ 0x0f ∷ 0xf7 ∷ 0xec ∷ []))
    -- MOVD MM0, ESP and MOVD EBP, MM0 have no memory operand; PREFETCHNTA [ESP + 7F] and [EBP + 7F] complete
    ∷ done_with 1 (mm0 4) (run (0x0f ∷ 0x6e ∷ 0xc4 ∷ []))
    ∷ completes (run (0x0f ∷ 0x7e ∷ 0xc5 ∷ []))
    ∷ done_with 2 unchanged (run (0x0f ∷ 0x18 ∷ 0x44 ∷ 0x24 ∷ 0x7f ∷ 0x0f ∷ 0x18 ∷ 0x45 ∷ 0x7f ∷ []))
    -- the control marks come before 14
    ∷ refuses 9 (run_of 0 (0x0f ∷ 0x6f ∷ 0x45 ∷ 0 ∷ []) 1 (start 0 0 false false true))
    ∷ []

-- the edges of Req 08: runs and steps over a floor
abbrev pub floor_edges : List Bool
floor_edges =
    -- a floor above the memory's length is 20, before 2 and after 1; at its length it is not, and then 2 is due
    refused_after 20 0 tags_empty (run_of 5 (replicate 5000 0x90) 1 (over (replicate 4 0)))
    ∷ step_refused_by 20 (step_at 5 (replicate 5000 0x90) 0 (over (replicate 4 0)))
    ∷ refused_after 1 0 tags_empty (run_of 32770 (replicate 5000 0x90) 1 (over (replicate 32769 0)))
    ∷ step_refused_by 1 (step_at 32770 (replicate 5000 0x90) 0 (over (replicate 32769 0)))
    ∷ refused_after 2 0 tags_empty (run_of 4 (replicate 5000 0x90) 1 (over (replicate 4 0)))
    ∷ step_refused_by 2 (step_at 4 (replicate 5000 0x90) 0 (over (replicate 4 0)))
    -- and before done and 3
    ∷ refuses 20 (run_over 9 [])
    ∷ step_refused_by 20 (step_at 9 [] 0 (start 0 0 false false false))
    ∷ done_with 0 unchanged (run_over 8 [])
    -- MOVD [0], [1] and [3], MM0 over floor 4 end before it, straddle it, and start one byte below: 21, and no byte is written; at [4] it completes
    ∷ refuses 21 (run_over 4 (0x0f ∷ 0x7e ∷ 0x05 ∷ 0 ∷ 0 ∷ 0 ∷ 0 ∷ []))
    ∷ refuses 21 (run_over 4 (0x0f ∷ 0x7e ∷ 0x05 ∷ 1 ∷ 0 ∷ 0 ∷ 0 ∷ []))
    ∷ refuses 21 (run_over 4 (0x0f ∷ 0x7e ∷ 0x05 ∷ 3 ∷ 0 ∷ 0 ∷ 0 ∷ []))
    ∷ done_with 1 (memory 0xffffffff13121110) (run_over 4 (0x0f ∷ 0x7e ∷ 0x05 ∷ 4 ∷ 0 ∷ 0 ∷ 0 ∷ []))
    -- MOVQ [0], MM0 over floors 1 and 7; MOVNTQ
    ∷ refuses 21 (run_over 1 (0x0f ∷ 0x7f ∷ 0x05 ∷ 0 ∷ 0 ∷ 0 ∷ 0 ∷ []))
    ∷ refuses 21 (run_over 7 (0x0f ∷ 0x7f ∷ 0x05 ∷ 0 ∷ 0 ∷ 0 ∷ 0 ∷ []))
    ∷ refuses 21 (run_over 1 (0x0f ∷ 0xe7 ∷ 0x05 ∷ 0 ∷ 0 ∷ 0 ∷ 0 ∷ []))
    -- MASKMOVQ at EDI = 0, with a mask of all ones, and with a mask of 0
    ∷ refuses 21 (run_over 1 (0x0f ∷ 0xf7 ∷ 0xc0 ∷ []))
    ∷ refuses 21 (run_over 1 (0x0f ∷ 0xf7 ∷ 0xc1 ∷ []))
    -- over a floor at the memory's length every store is 21
    ∷ refuses 21 (run_over 8 (0x0f ∷ 0x7e ∷ 0x05 ∷ 4 ∷ 0 ∷ 0 ∷ 0 ∷ []))
    ∷ refuses 21 (run_over 8 (0x0f ∷ 0x7f ∷ 0x05 ∷ 0 ∷ 0 ∷ 0 ∷ 0 ∷ []))
    ∷ refuses 21 (run_over 8 (0x0f ∷ 0xe7 ∷ 0x05 ∷ 0 ∷ 0 ∷ 0 ∷ 0 ∷ []))
    ∷ refuses 21 (run_over 8 (0x0f ∷ 0xf7 ∷ 0xc1 ∷ []))
    -- and all may be read: MOVQ MM0, [0]; PINSRW MM0, [6], 1; PSHUFW MM0, [0], 1B
    ∷ reaches_zero (run_over 8 (0x0f ∷ 0x6f ∷ 0x05 ∷ 0 ∷ 0 ∷ 0 ∷ 0 ∷ []))
    ∷ done_with 1 (mm0 0xffffffff1716ffff) (run_over 8 (0x0f ∷ 0xc4 ∷ 0x05 ∷ 6 ∷ 0 ∷ 0 ∷ 0 ∷ 1 ∷ []))
    ∷ done_with 1 (mm0 0x1110131215141716) (run_over 8 (0x0f ∷ 0x70 ∷ 0x05 ∷ 0 ∷ 0 ∷ 0 ∷ 0 ∷ 0x1b ∷ []))
    -- registers are no memory: MOVD EAX, MM0 and MOVQ MM0, MM4 by the store forms
    ∷ done_with 1 (eax 0xffffffff) (run_over 8 (0x0f ∷ 0x7e ∷ 0xc0 ∷ []))
    ∷ done_with 1 (mm0 0) (run_over 8 (0x0f ∷ 0x7f ∷ 0xe0 ∷ []))
    -- nor does a prefetch write
    ∷ done_with 1 unchanged (run_over 8 (0x0f ∷ 0x18 ∷ 0x05 ∷ 0 ∷ 0 ∷ 0 ∷ 0 ∷ []))
    -- 10 and 14 before 21: MOVQ [1], MM0 and [EBP], MM0; MOVD [EBP], MM0 misses nothing
    ∷ refuses 10 (run_over 8 (0x0f ∷ 0x7f ∷ 0x05 ∷ 1 ∷ 0 ∷ 0 ∷ 0 ∷ []))
    ∷ refuses 14 (run_over 8 (0x0f ∷ 0x7f ∷ 0x45 ∷ 0 ∷ []))
    ∷ refuses 21 (run_over 8 (0x0f ∷ 0x7e ∷ 0x45 ∷ 0 ∷ []))
    -- 7 and 9 before 21
    ∷ refuses 7 (run_of 8 (0x0f ∷ 0x7f ∷ 0x05 ∷ 0 ∷ 0 ∷ 0 ∷ 0 ∷ []) 1 (start 0 0 true true true))
    ∷ refuses 9 (run_of 8 (0x0f ∷ 0x7f ∷ 0x05 ∷ 0 ∷ 0 ∷ 0 ∷ 0 ∷ []) 1 (start 0 0 false false true))
    -- in the second turn too: MOVD [4], MM0 stays done, and MOVD [0], MM0 is refused
    ∷ refused_after 21 1 (memory 0xffffffff13121110) (run_over 4 (0x0f ∷ 0x7e ∷ 0x05 ∷ 4 ∷ 0 ∷ 0 ∷ 0 ∷ 0x0f ∷ 0x7e ∷ 0x05 ∷ 0 ∷ 0 ∷ 0 ∷ 0 ∷ []))
    -- a step
    ∷ step_refused_by 21 (step_at 1 (0x0f ∷ 0x77 ∷ 0x0f ∷ 0x7f ∷ 0x05 ∷ 0 ∷ 0 ∷ 0 ∷ 0 ∷ []) 2 (start 0 0 false false false))
    ∷ []
