-- 3DNow: a plate for each of the six, its readings, refusal 22 in each place and in its order, and the halves at the tables' borders.
use Rattle.std.specs.Prelude.{Bool, true, false, not, ◌&&◌, List, [], ◌∷◌, ◌++◌, ℕ, eqb, get_or, replicate}
use Rattle.words.specs.Number.{bytes, number}
use Rattle.reorder.specs.Run.{Answer}
use Rattle.manual.specs.State.{State}
use Rattle.manual.specs.Runs.{run_of}
use Rattle.manual.proofs.Marking.{controlled, clear}
use Rattle.manual.proofs.Edges.{done_with, refused_after, step_refused_by}
use Rattle.manual.specs.Steps.{step_at}

-- these numbers in MM0 and MM1, the second in memory from 4 on too, all of its 12 bytes; 8 in EAX, 5 in ESP; the tag mark empty, and these control marks
abbrev under : Bool → Bool → Bool → ℕ → ℕ → State
under em ts pending destination source =
    record {
      mmx = destination ∷ source ∷ replicate 6 0;
      integers = 8 ∷ 0 ∷ 0 ∷ 0 ∷ 5 ∷ 0 ∷ 0 ∷ 0 ∷ [];
      marks = controlled (clear false) em ts pending;
      memory = replicate 4 0 ++ bytes 8 source;
    }

abbrev start : ℕ → ℕ → State
start = under false false false

-- MM0 with MM1, and MM0 with [EAX - 4], by the suffix
abbrev in_registers : ℕ → List ℕ
in_registers suffix = 0x0f ∷ 0x0f ∷ 0xc1 ∷ suffix ∷ []

abbrev in_memory : ℕ → List ℕ
in_memory suffix = 0x0f ∷ 0x0f ∷ 0x40 ∷ 0xfc ∷ suffix ∷ []

abbrev run : List ℕ → State → Answer State
run code s = run_of 0 code 4096 s

-- this is in MM0, and the tags are valid
abbrev mm0 : ℕ → State → Bool
mm0 value t = eqb (get_or t.mmx 0 0) value && t.marks.valid

-- both leave this
abbrev leaves : ℕ → ℕ → ℕ → ℕ → Bool
leaves suffix destination source result =
    done_with 1 (mm0 result) (run (in_registers suffix) (start destination source)) && done_with 1 (mm0 result) (run (in_memory suffix) (start destination source))

-- MM0, MM1 and the memory are as they were, and the tags still empty
abbrev unchanged : ℕ → ℕ → State → Bool
unchanged destination source t =
    eqb (get_or t.mmx 0 0) destination && eqb (get_or t.mmx 1 0) source && eqb (number t.memory) (number (replicate 4 0 ++ bytes 8 source)) && not t.marks.valid

-- both are refused by 22, and change nothing
abbrev unsupported : ℕ → ℕ → ℕ → Bool
unsupported suffix destination source =
    refused_after 22 0 (unchanged destination source) (run (in_registers suffix) (start destination source))
    && refused_after 22 0 (unchanged destination source) (run (in_memory suffix) (start destination source))

-- refused at the start by this number, whatever PFMAX's operands are: all ones
abbrev refuses : ℕ → List ℕ → Bool
refuses n code = refused_after n 0 (λ t. true) (run code (start 0xffffffffffffffff 0xffffffffffffffff))

abbrev barred : ℕ → Bool → Bool → Bool → List ℕ → Bool
barred n em ts pending code = refused_after n 0 (λ t. true) (run code (under em ts pending 0xffffffffffffffff 0xffffffffffffffff))

abbrev pub sibling_plates : List Bool
sibling_plates =
    -- PF2IW: -1.5 and 32768; 2.99 and -32768.5
    leaves 0x1c 0 0xbfc0000047000000 0xffffffff00007fff
    ∷ leaves 0x1c 0 0x403f5c29c7000080 0x00000002ffff8000
    -- PI2FW: -1 and 32767, with other numbers above them
    ∷ leaves 0x0c 0 0x1234ffffabcd7fff 0xbf80000046fffe00
    -- PSWAPD
    ∷ leaves 0xbb 0 0x0123456789abcdef 0x89abcdef01234567
    -- PAVGUSB: 003's illustration of eight means
    ∷ leaves 0xbf 0xffff010f0070079a 0xff00ff100144f7a8 0xff808010015a7fa1
    -- PFCMPGT: 2 and 1; -1 and -2
    ∷ leaves 0xa0 0x40000000bf800000 0x3f800000c0000000 0xffffffffffffffff
    ∷ leaves 0xa0 0x3f800000c0000000 0x40000000bf800000 0
    -- PFMAX: 1 and 2; -1 and -2
    ∷ leaves 0xa4 0x3f800000bf800000 0x40000000c0000000 0x40000000bf800000
    ∷ []

abbrev pub sibling_edges : List Bool
sibling_edges =
    -- the suffix is looked for after the operands: 0F 0F C0 is 3, 0F 0F C0 B4 is 5, 0F 0F 04 is 3; 0F 0D and 0F 0E stay 5
    refuses 3 (0x0f ∷ 0x0f ∷ 0xc0 ∷ [])
    ∷ refuses 5 (0x0f ∷ 0x0f ∷ 0xc0 ∷ 0xb4 ∷ [])
    ∷ refuses 3 (0x0f ∷ 0x0f ∷ 0x04 ∷ [])
    ∷ refuses 5 (0x0f ∷ 0x0d ∷ 0xc0 ∷ 0xa4 ∷ [])
    ∷ refuses 5 (0x0f ∷ 0x0e ∷ 0xc0 ∷ 0xa4 ∷ [])
    -- a displacement byte that is a suffix is no suffix; one of four bytes comes before it too
    ∷ refuses 3 (0x0f ∷ 0x0f ∷ 0x40 ∷ 0xa4 ∷ [])
    ∷ refuses 5 (0x0f ∷ 0x0f ∷ 0x40 ∷ 0xa4 ∷ 0x00 ∷ [])
    ∷ refuses 3 (0x0f ∷ 0x0f ∷ 0x05 ∷ 0 ∷ 0 ∷ 0 ∷ 0 ∷ [])
    -- 3 and 5 come before 7 and 10
    ∷ barred 3 true false false (0x0f ∷ 0x0f ∷ 0xc1 ∷ [])
    ∷ barred 5 true false false (0x0f ∷ 0x0f ∷ 0xc1 ∷ 0xb4 ∷ [])
    ∷ refuses 5 (0x0f ∷ 0x0f ∷ 0x00 ∷ 0xb4 ∷ [])
    -- PFMAX and PFCMPGT are refused by 22 for any half of their two operands, PF2IW for any of its source: infinities, and what is no number
    ∷ unsupported 0xa4 0x7f800000 0
    ∷ unsupported 0xa4 0xff80000000000000 0
    ∷ unsupported 0xa4 0 0x7fc00000
    ∷ unsupported 0xa4 0 0xffc0000000000000
    ∷ unsupported 0xa0 0x7f800000 0
    ∷ unsupported 0xa0 0xff80000000000000 0
    ∷ unsupported 0xa0 0 0x7fc00000
    ∷ unsupported 0xa0 0 0xffc0000000000000
    ∷ unsupported 0x1c 0 0x7f800001
    ∷ unsupported 0x1c 0 0xff80000000000000
    -- no other is, and PF2IW not for its destination
    ∷ leaves 0x1c 0xffffffffffffffff 0 0
    ∷ leaves 0x0c 0xffffffffffffffff 0xffffffffffffffff 0xbf800000bf800000
    ∷ leaves 0xbb 0xffffffffffffffff 0xff8000007f800000 0x7f800000ff800000
    ∷ leaves 0xbf 0xffffffffffffffff 0xff8000007f800000 0xffc08080bfc08080
    -- 22 comes after 7, 8 and 9, after 10, where the destination alone is unsupported too, and after 14
    ∷ barred 7 true true true (in_registers 0xa4)
    ∷ barred 8 false true true (in_registers 0xa4)
    ∷ barred 9 false false true (in_registers 0xa4)
    ∷ refuses 10 (0x0f ∷ 0x0f ∷ 0x00 ∷ 0xa4 ∷ [])
    ∷ refuses 14 (0x0f ∷ 0x0f ∷ 0x04 ∷ 0x24 ∷ 0xa4 ∷ [])
    -- a floor does not come before it: none of them writes memory
    ∷ step_refused_by 22 (step_at 12 (in_memory 0xa4) 0 (start 0 0x7f800000))
    -- what was done before it stays: PSWAPD MM0, MM1, then PFMAX MM0, MM1
    ∷ refused_after 22 1 (mm0 0x7f800000) (run (in_registers 0xbb ++ in_registers 0xa4) (start 0 0x7f80000000000000))
    -- the largest and the least numbers are numbers, and what is below is zero: 7F7FFFFF, 00800000, 007FFFFF, 80000001
    ∷ leaves 0xa4 0x7f7fffff00800000 0x807fffff80000001 0x7f7fffff00800000
    ∷ leaves 0xa4 0x007fffff80000001 0xff7fffff80800000 0
    ∷ leaves 0xa4 0x007fffff80000000 0x80000001007fffff 0
    ∷ leaves 0xa0 0x007fffff00800000 0x8000000100000001 0x00000000ffffffff
    ∷ leaves 0xa0 0x80000001007fffff 0xff7fffff80800000 0xffffffffffffffff
    -- 46FFFE00, 47000000, C7000000, C7000100
    ∷ leaves 0x1c 0 0x46fffe0047000000 0x00007fff00007fff
    ∷ leaves 0x1c 0 0xc7000000c7000100 0xffff8000ffff8000
    ∷ []
