-- The table of footprints: for each form of instruction, which places its step reads and writes; footprints over floors, and of instructions in a
-- run.
use Rattle.std.specs.Prelude.{true, false, List, [], ◌∷◌, ◌++◌, ℕ, replicate}
use Rattle.reorder.specs.Result.{Result, done, refused}
use Rattle.reorder.specs.Footprint.{Footprint}
use Rattle.codec.specs.declared.Kind.{Kind}
use Rattle.codec.specs.declared.Kind.TheVariants.{Ordinary, Emms, Silent}
use Rattle.manual.specs.declared.Marks.{Marks}
use Rattle.manual.specs.State.{State, zeroed}
use Rattle.manual.specs.Places.{Place, mmx, integer, zero_mark}
use Rattle.manual.specs.Locations.{bytes_from}
use Rattle.manual.proofs.Marking.{controlled, clear}
use Rattle.manual.proofs.Loops.{touching}

-- an infinity in MM7, 8 in EAX, 2 in ECX, 20 in EDI, 32 bytes of memory, and these marks
abbrev under : Marks → State
under marks =
    record { mmx = replicate 7 0 ++ 0x7f800000 ∷ []; integers = 8 ∷ 2 ∷ 0 ∷ 0 ∷ 0 ∷ 0 ∷ 0 ∷ 20 ∷ []; marks = marks; memory = replicate 32 0 }

-- no mark is set
abbrev pub here : State
here = under (clear false)

-- all control marks are
abbrev pub barred : State
barred = under (controlled (clear false) true true true)

-- the zero mark is
abbrev pub counted : State
counted = under (zeroed (clear false) true)

-- an instruction's bytes, and the footprint of its step or the step's refusal
abbrev Line : Type 0
Line = List ℕ × Result (Footprint Place Kind)

-- bytes, what the step reads, what it writes
abbrev uses : List ℕ → List Place → List Place → Line
uses code reads writes = (code, done (record { reads = reads; writes = writes; kind = Ordinary }))

-- the same of one of loops
abbrev loops : List ℕ → List Place → List Place → Line
loops code reads writes = (code, done (touching reads writes))

-- the bytes of an instruction that touches nothing
abbrev passes : List ℕ → Line
passes code = (code, done (record { reads = []; writes = []; kind = Silent }))

abbrev pub footprints : List Line
footprints =
    -- PADDB MM1, MM2, and PXOR MM1, MM1
    uses (0x0f ∷ 0xfc ∷ 0xca ∷ []) (mmx 1 ∷ mmx 2 ∷ []) (mmx 1 ∷ [])
    ∷ uses (0x0f ∷ 0xef ∷ 0xc9 ∷ []) (mmx 1 ∷ mmx 1 ∷ []) (mmx 1 ∷ [])
    -- PADDB and PUNPCKLBW MM1, [EAX + ECX * 2 + 4]
    ∷ uses (0x0f ∷ 0xfc ∷ 0x4c ∷ 0x48 ∷ 4 ∷ []) (integer 0 ∷ integer 1 ∷ mmx 1 ∷ bytes_from 16 8) (mmx 1 ∷ [])
    ∷ uses (0x0f ∷ 0x60 ∷ 0x4c ∷ 0x48 ∷ 4 ∷ []) (integer 0 ∷ integer 1 ∷ mmx 1 ∷ bytes_from 16 4) (mmx 1 ∷ [])
    -- MOVD MM1, EDX, and MM1, [EAX + 4]
    ∷ uses (0x0f ∷ 0x6e ∷ 0xca ∷ []) (integer 2 ∷ []) (mmx 1 ∷ [])
    ∷ uses (0x0f ∷ 0x6e ∷ 0x48 ∷ 4 ∷ []) (integer 0 ∷ bytes_from 12 4) (mmx 1 ∷ [])
    -- MOVD EDX, MM1, and [EAX + 4], MM1
    ∷ uses (0x0f ∷ 0x7e ∷ 0xca ∷ []) (mmx 1 ∷ []) (integer 2 ∷ [])
    ∷ uses (0x0f ∷ 0x7e ∷ 0x48 ∷ 4 ∷ []) (integer 0 ∷ mmx 1 ∷ []) (bytes_from 12 4)
    -- MOVQ MM1, MM2, in both forms
    ∷ uses (0x0f ∷ 0x6f ∷ 0xca ∷ []) (mmx 2 ∷ []) (mmx 1 ∷ [])
    ∷ uses (0x0f ∷ 0x7f ∷ 0xd1 ∷ []) (mmx 2 ∷ []) (mmx 1 ∷ [])
    -- MOVQ MM1, [EAX + 4], and [EAX + 4], MM1
    ∷ uses (0x0f ∷ 0x6f ∷ 0x48 ∷ 4 ∷ []) (integer 0 ∷ bytes_from 12 8) (mmx 1 ∷ [])
    ∷ uses (0x0f ∷ 0x7f ∷ 0x48 ∷ 4 ∷ []) (integer 0 ∷ mmx 1 ∷ []) (bytes_from 12 8)
    -- PFMAX, PFCMPGT and PAVGUSB MM1, MM2, and PFMAX MM1, [EAX + 4]
    ∷ uses (0x0f ∷ 0x0f ∷ 0xca ∷ 0xa4 ∷ []) (mmx 1 ∷ mmx 2 ∷ []) (mmx 1 ∷ [])
    ∷ uses (0x0f ∷ 0x0f ∷ 0xca ∷ 0xa0 ∷ []) (mmx 1 ∷ mmx 2 ∷ []) (mmx 1 ∷ [])
    ∷ uses (0x0f ∷ 0x0f ∷ 0xca ∷ 0xbf ∷ []) (mmx 1 ∷ mmx 2 ∷ []) (mmx 1 ∷ [])
    ∷ uses (0x0f ∷ 0x0f ∷ 0x48 ∷ 4 ∷ 0xa4 ∷ []) (integer 0 ∷ mmx 1 ∷ bytes_from 12 8) (mmx 1 ∷ [])
    -- PF2IW, PI2FW and PSWAPD MM1, MM2, and PF2IW MM1, [EAX + 4]: their destination is not read
    ∷ uses (0x0f ∷ 0x0f ∷ 0xca ∷ 0x1c ∷ []) (mmx 2 ∷ []) (mmx 1 ∷ [])
    ∷ uses (0x0f ∷ 0x0f ∷ 0xca ∷ 0x0c ∷ []) (mmx 2 ∷ []) (mmx 1 ∷ [])
    ∷ uses (0x0f ∷ 0x0f ∷ 0xca ∷ 0xbb ∷ []) (mmx 2 ∷ []) (mmx 1 ∷ [])
    ∷ uses (0x0f ∷ 0x0f ∷ 0x48 ∷ 4 ∷ 0x1c ∷ []) (integer 0 ∷ bytes_from 12 8) (mmx 1 ∷ [])
    -- PFMAX MM1, MM7, of which a half is unsupported, and PSWAPD MM1, MM7; PFMAX MM1, [EAX + 25]; an unlisted suffix, and none
    ∷ (0x0f ∷ 0x0f ∷ 0xcf ∷ 0xa4 ∷ [], refused 22)
    ∷ uses (0x0f ∷ 0x0f ∷ 0xcf ∷ 0xbb ∷ []) (mmx 7 ∷ []) (mmx 1 ∷ [])
    ∷ (0x0f ∷ 0x0f ∷ 0x48 ∷ 25 ∷ 0xa4 ∷ [], refused 10)
    ∷ (0x0f ∷ 0x0f ∷ 0xcf ∷ 0xa5 ∷ [], refused 5)
    ∷ (0x0f ∷ 0x0f ∷ 0xcf ∷ [], refused 3)
    -- PSRLW MM2, 3
    ∷ uses (0x0f ∷ 0x71 ∷ 0xd2 ∷ 3 ∷ []) (mmx 2 ∷ []) (mmx 2 ∷ [])
    -- EMMS
    ∷ (0x0f ∷ 0x77 ∷ [], done (record { reads = []; writes = []; kind = Emms }))
    -- PEXTRW EDX, MM1, 3, and PMOVMSKB EDX, MM1
    ∷ uses (0x0f ∷ 0xc5 ∷ 0xd1 ∷ 3 ∷ []) (mmx 1 ∷ []) (integer 2 ∷ [])
    ∷ uses (0x0f ∷ 0xd7 ∷ 0xd1 ∷ []) (mmx 1 ∷ []) (integer 2 ∷ [])
    -- PINSRW MM1, EDX, 3, and MM1, [EAX + 4], 3
    ∷ uses (0x0f ∷ 0xc4 ∷ 0xca ∷ 3 ∷ []) (mmx 1 ∷ integer 2 ∷ []) (mmx 1 ∷ [])
    ∷ uses (0x0f ∷ 0xc4 ∷ 0x48 ∷ 4 ∷ 3 ∷ []) (integer 0 ∷ mmx 1 ∷ bytes_from 12 2) (mmx 1 ∷ [])
    -- PSHUFW MM1, MM2, 3, and MM1, [EAX + 4], 3
    ∷ uses (0x0f ∷ 0x70 ∷ 0xca ∷ 3 ∷ []) (mmx 2 ∷ []) (mmx 1 ∷ [])
    ∷ uses (0x0f ∷ 0x70 ∷ 0x48 ∷ 4 ∷ 3 ∷ []) (integer 0 ∷ bytes_from 12 8) (mmx 1 ∷ [])
    -- PAVGB MM1, [EAX + 4], and MOVNTQ [EAX + 4], MM1
    ∷ uses (0x0f ∷ 0xe0 ∷ 0x48 ∷ 4 ∷ []) (integer 0 ∷ mmx 1 ∷ bytes_from 12 8) (mmx 1 ∷ [])
    ∷ uses (0x0f ∷ 0xe7 ∷ 0x48 ∷ 4 ∷ []) (integer 0 ∷ mmx 1 ∷ []) (bytes_from 12 8)
    -- MASKMOVQ MM1, MM2: all eight bytes, though the mask is 0 (EDI stands behind what is taken and behind what is given)
    ∷ uses (0x0f ∷ 0xf7 ∷ 0xca ∷ []) (integer 7 ∷ integer 7 ∷ bytes_from 20 8 ++ mmx 1 ∷ mmx 2 ∷ []) (bytes_from 20 8)
    -- PREFETCHT0 [EAX + ECX * 8 + 80000000], which is far outside, and SFENCE
    ∷ passes (0x0f ∷ 0x18 ∷ 0x8c ∷ 0xc8 ∷ 0 ∷ 0 ∷ 0 ∷ 0x80 ∷ [])
    ∷ passes (0x0f ∷ 0xae ∷ 0xf8 ∷ [])
    -- MOVQ MM1, [EAX + EAX], and MM1, [0]
    ∷ uses (0x0f ∷ 0x6f ∷ 0x0c ∷ 0x00 ∷ []) (integer 0 ∷ integer 0 ∷ bytes_from 16 8) (mmx 1 ∷ [])
    ∷ uses (0x0f ∷ 0x6f ∷ 0x0d ∷ 0 ∷ 0 ∷ 0 ∷ 0 ∷ []) (bytes_from 0 8) (mmx 1 ∷ [])
    -- MOVQ MM7, [EAX + 16]: the memory's last bytes
    ∷ uses (0x0f ∷ 0x6f ∷ 0x78 ∷ 16 ∷ []) (integer 0 ∷ bytes_from 24 8) (mmx 7 ∷ [])
    -- MOV EDX, 5; ADD EDX, 1; DEC EDX; JNZ to itself, which is taken, and to the end
    ∷ loops (0xba ∷ 5 ∷ 0 ∷ 0 ∷ 0 ∷ []) [] (integer 2 ∷ [])
    ∷ loops (0x83 ∷ 0xc2 ∷ 1 ∷ []) (integer 2 ∷ []) (integer 2 ∷ zero_mark ∷ [])
    ∷ loops (0x4a ∷ []) (integer 2 ∷ []) (integer 2 ∷ zero_mark ∷ [])
    ∷ loops (0x75 ∷ 0xfe ∷ []) (zero_mark ∷ []) []
    ∷ loops (0x75 ∷ 0 ∷ []) (zero_mark ∷ []) []
    -- the step's refusal: JNZ to -1 and to one past the end
    ∷ (0x75 ∷ 0xfd ∷ [], refused 19)
    ∷ (0x75 ∷ 1 ∷ [], refused 19)
    -- MOVQ MM1, [EAX + 17], from [EAX + EBP + 17] and from [EBP + 25], MOVQ [ESP + 25], MM1, and at the code's end
    ∷ (0x0f ∷ 0x6f ∷ 0x48 ∷ 17 ∷ [], refused 10)
    ∷ (0x0f ∷ 0x6f ∷ 0x4c ∷ 0x28 ∷ 17 ∷ [], refused 10)
    ∷ (0x0f ∷ 0x6f ∷ 0x4d ∷ 25 ∷ [], refused 14)
    ∷ (0x0f ∷ 0x7f ∷ 0x4c ∷ 0x24 ∷ 25 ∷ [], refused 14)
    ∷ ([], refused 3)
    ∷ []

-- where all control marks are set: the same prefetch and SFENCE, PADDB MM1, MM2, EMMS, and those of loops
abbrev pub where_barred : List Line
where_barred =
    passes (0x0f ∷ 0x18 ∷ 0x8c ∷ 0xc8 ∷ 0 ∷ 0 ∷ 0 ∷ 0x80 ∷ [])
    ∷ passes (0x0f ∷ 0xae ∷ 0xf8 ∷ [])
    ∷ (0x0f ∷ 0xfc ∷ 0xca ∷ [], refused 7)
    ∷ (0x0f ∷ 0x77 ∷ [], refused 7)
    ∷ loops (0xba ∷ 5 ∷ 0 ∷ 0 ∷ 0 ∷ []) [] (integer 2 ∷ [])
    ∷ loops (0x83 ∷ 0xc2 ∷ 1 ∷ []) (integer 2 ∷ []) (integer 2 ∷ zero_mark ∷ [])
    ∷ loops (0x4a ∷ []) (integer 2 ∷ []) (integer 2 ∷ zero_mark ∷ [])
    ∷ loops (0x75 ∷ 0xfe ∷ []) (zero_mark ∷ []) []
    ∷ []

-- where the zero mark is set a jump is not taken, and has a footprint wherever it would lead
abbrev pub where_counted : List Line
where_counted =
    loops (0x75 ∷ 0xfe ∷ []) (zero_mark ∷ []) []
    ∷ loops (0x75 ∷ 0xfd ∷ []) (zero_mark ∷ []) []
    ∷ loops (0x75 ∷ 1 ∷ []) (zero_mark ∷ []) []
    ∷ []

-- over a floor: MOVQ [EAX + 4], MM1, where the floor is at its first byte and behind it; a load below the floor; a floor above the memory
abbrev pub over_floors : List (ℕ × Line)
over_floors =
    (12, uses (0x0f ∷ 0x7f ∷ 0x48 ∷ 4 ∷ []) (integer 0 ∷ mmx 1 ∷ []) (bytes_from 12 8))
    ∷ (13, (0x0f ∷ 0x7f ∷ 0x48 ∷ 4 ∷ [], refused 21))
    ∷ (32, uses (0x0f ∷ 0x6f ∷ 0x48 ∷ 4 ∷ []) (integer 0 ∷ bytes_from 12 8) (mmx 1 ∷ []))
    ∷ (33, (0x0f ∷ 0x6f ∷ 0x48 ∷ 4 ∷ [], refused 20))
    ∷ []

-- a floor, a block, the number of an instruction, and its footprint in the block's run over that floor
abbrev pub in_runs : List (ℕ × List ℕ × ℕ × Result (Footprint Place Kind))
in_runs =
    -- MOVD ECX, MM0, which is 0, and then MOVQ MM1, [EAX + ECX * 8], at 8 and no more at 24
    (0, 0x0f ∷ 0x7e ∷ 0xc1 ∷ 0x0f ∷ 0x6f ∷ 0x0c ∷ 0xc8 ∷ [], 1, done (record { reads = integer 0 ∷ integer 1 ∷ bytes_from 8 8; writes = mmx 1 ∷ []; kind = Ordinary }))
    -- DEC EAX; JNZ to it: instructions 2 and 3 are the same two again
    ∷ (0, 0x48 ∷ 0x75 ∷ 0xfd ∷ [], 2, done (touching (integer 0 ∷ []) (integer 0 ∷ zero_mark ∷ [])))
    ∷ (0, 0x48 ∷ 0x75 ∷ 0xfd ∷ [], 3, done (touching (zero_mark ∷ []) []))
    -- DEC EAX; JNZ to the end
    ∷ (0, 0x48 ∷ 0x75 ∷ 0 ∷ [], 1, done (touching (zero_mark ∷ []) []))
    -- the step's own refusal: 90 is 5, a prefix after EMMS is 4, and past the last instruction the code ends
    ∷ (0, 0x90 ∷ [], 0, refused 5)
    ∷ (0, 0x0f ∷ 0x77 ∷ 0x66 ∷ [], 1, refused 4)
    ∷ (0, 0x0f ∷ 0x77 ∷ [], 1, refused 3)
    ∷ (0, 0x0f ∷ 0x77 ∷ [], 9, refused 3)
    -- code that is too long is 2, wherever it is asked about
    ∷ (0, replicate 4097 0x90, 0, refused 2)
    -- where the floor refuses MOVQ [0], MM0, a run does not come to the EMMS behind it
    ∷ (1, 0x0f ∷ 0x7f ∷ 0x05 ∷ 0 ∷ 0 ∷ 0 ∷ 0 ∷ 0x0f ∷ 0x77 ∷ [], 1, refused 21)
    ∷ []
