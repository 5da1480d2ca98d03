-- The plates of document 01 and of manual 000, from bytes: a block of one instruction over MM0 and MM1, run whole.
use Rattle.std.specs.Prelude.{Bool, false, ◌&&◌, List, [], ◌∷◌, ℕ, eqb, get_or, replicate}
use Rattle.reorder.specs.Run.{Answer, finished, spent, stopped}
use Rattle.manual.specs.State.{State}
use Rattle.manual.specs.Runs.{run_of}
use Rattle.manual.proofs.Marking.{clear}

-- two numbers in MM0 and MM1, the tag mark, and nothing else
abbrev pub start : ℕ → ℕ → Bool → State
start destination source valid =
    record { mmx = destination ∷ source ∷ replicate 6 0; integers = replicate 8 0; marks = clear valid; memory = [] }

-- done after one instruction, with this in MM0
abbrev leaves : Answer State → ℕ → Bool
leaves (finished at count t) result = eqb count 1 && eqb (get_or t.mmx 0 0) result
leaves (spent at count t) result = false
leaves (stopped n at count t) result = false

-- refused at the start by this number
abbrev stopped_by : Answer State → ℕ → Bool
stopped_by (finished at count t) number = false
stopped_by (spent at count t) number = false
stopped_by (stopped n at count t) number = eqb n number && eqb at 0 && eqb count 0

-- bytes, destination, source, what is left
abbrev plate : List ℕ → ℕ → ℕ → ℕ → Bool
plate code destination source result = leaves (run_of 0 code 4096 (start destination source false)) result

-- the plates of document 01
abbrev pub plates : List Bool
plates =
    -- PADDSB
    plate (0x0f ∷ 0xec ∷ 0xc1 ∷ []) 0xd2 0x88 0x80
    ∷ plate (0x0f ∷ 0xec ∷ 0xc1 ∷ []) 0x53 0xec 0x3f
    ∷ plate (0x0f ∷ 0xec ∷ 0xc1 ∷ []) 0x77 0x14 0x7f
    -- PADDD
    ∷ plate (0x0f ∷ 0xfe ∷ 0xc1 ∷ []) 0xfff05c43 0x000fa3be 0x00000001
    -- PCMPGTD
    ∷ plate (0x0f ∷ 0x66 ∷ 0xc1 ∷ []) 0x0000ba15 0x0000ba14 0xffffffff
    ∷ plate (0x0f ∷ 0x66 ∷ 0xc1 ∷ []) 0x00000001 0xffffffff 0xffffffff
    -- PSRLD, PSRLQ by 16
    ∷ plate (0x0f ∷ 0x72 ∷ 0xd0 ∷ 16 ∷ []) 0xfff00000 0 0x0000fff0
    ∷ plate (0x0f ∷ 0x73 ∷ 0xd0 ∷ 16 ∷ []) 0x000fa3be01234567 0 0x0000000fa3be0123
    -- PSRAW by 16
    ∷ plate (0x0f ∷ 0xe1 ∷ 0xc1 ∷ []) 0x8000 16 0xffff
    -- PSLLW
    ∷ plate (0x0f ∷ 0xf1 ∷ 0xc1 ∷ []) 0xffffffffffffffff 0x0000000100000000 0
    -- PMULHW
    ∷ plate (0x0f ∷ 0xe5 ∷ 0xc1 ∷ []) 0x8000 0x8000 0x4000
    -- PMADDWD
    ∷ plate (0x0f ∷ 0xf5 ∷ 0xc1 ∷ []) 0x8000800080008000 0x8000800080008000 0x8000000080000000
    -- PACKUSWB
    ∷ plate (0x0f ∷ 0x67 ∷ 0xc1 ∷ []) 0xffffffffffffffff 0xffffffffffffffff 0
    -- digit 0 of 71 is not listed
    ∷ stopped_by (run_of 0 (0x0f ∷ 0x71 ∷ 0xc0 ∷ 0x01 ∷ []) 4096 (start 0 0 false)) 6
    -- the letter's question: of 0001 and FFFF, PCMPGTW finds 0001 the greater
    ∷ plate (0x0f ∷ 0x65 ∷ 0xc1 ∷ []) 0x0001 0xffff 0xffff
    ∷ []

-- and of manual 000
abbrev pub extension_plates : List Bool
extension_plates =
    -- 000's illustration: PAVGB
    plate (0x0f ∷ 0xe0 ∷ 0xc1 ∷ []) 0xffff010f0070079a 0xff00ff100144f7a8 0xff808010015a7fa1
    -- PAVGW, PMAXSW, PMAXUB, PMINSW, PMINUB, PMULHUW, PSADBW
    ∷ plate (0x0f ∷ 0xe3 ∷ 0xc1 ∷ []) 0xffff0001ffff7ffe 0xffff0000000080ff 0xffff00018000807f
    ∷ plate (0x0f ∷ 0xee ∷ 0xc1 ∷ []) 0x8000ffff00017fff 0x7fff000080000000 0x7fff000000017fff
    ∷ plate (0x0f ∷ 0xde ∷ 0xc1 ∷ []) 0x00ff807f01fe0a0b 0xff00817e02fd0b0a 0xffff817f02fe0b0b
    ∷ plate (0x0f ∷ 0xea ∷ 0xc1 ∷ []) 0x8000ffff00017fff 0x7fff000080000000 0x8000ffff80000000
    ∷ plate (0x0f ∷ 0xda ∷ 0xc1 ∷ []) 0x00ff807f01fe0a0b 0xff00817e02fd0b0a 0x0000807e01fd0a0a
    ∷ plate (0x0f ∷ 0xe4 ∷ 0xc1 ∷ []) 0xffff8000ffff0001 0xffff800000020001 0xfffe400000010000
    ∷ plate (0x0f ∷ 0xf6 ∷ 0xc1 ∷ []) 0xff00ff00ff00ff00 0x00ff00ff00ff00ff 0x7f8
    ∷ []
