-- Illustrations of manuals 004 and 000, for what document 01's plates leave out, and examples of our own where their numbers tell too little or are
-- none.
use Rattle.std.specs.Prelude.{ℕ, Bool, true, ◌&&◌, List, [], ◌∷◌, eqb}
use Rattle.lanes.specs.Operations.{Operation, PUNPCKLWD, PACKSSWB, PACKSSDW, PCMPGTW, PUNPCKHBW, PUNPCKHWD, PUNPCKHDQ, MOVE, PCMPEQB, PSRLW, PSRLQ, PSRAD, PSLLD, PMULLW, PMULHW, PMADDWD, PSUBUSB, PSUBUSW, PADDUSB, PADDUSW, PSUBSB, PSUBSW, PANDN, PSUBB, MASKMOVQ, PAVGB, PAVGW, PEXTRW, PINSRW, PMAXSW, PMAXUB, PMINSW, PMINUB, PMOVMSKB, PMULHUW, PSADBW, PSHUFW, KEEP, operate, operate_three}

-- an operation, its destination, its source, and what it leaves; or with a third number before that
pub data Illustration : Type 0 where
  shows : Operation → ℕ → ℕ → ℕ → Illustration
  shows_three : Operation → ℕ → ℕ → ℕ → ℕ → Illustration

abbrev pub hold : List Illustration → Bool
hold [] = true
hold (shows operation destination source result ∷ rest) = eqb (operate operation destination source) result && hold rest
hold (shows_three operation destination source third result ∷ rest) = eqb (operate_three operation destination source third) result && hold rest

abbrev pub illustrations : List Illustration
illustrations =
    -- the halves, the order of lanes, signs, and an unsigned clamp
    shows PACKSSWB 0xFF020085007E81CF 0x007E7F00EF9DFF88 0x7E7F8088807F7E80
    ∷ shows PCMPGTW 0xDA14800000011243 0x00018000FFFF1234 0x00000000FFFFFFFF
    ∷ shows PCMPEQB 0xDD1542FF80EEA114 0xDB1543FF80CEA104 0x00FF00FFFF00FF00
    ∷ shows PMULLW 0xD25053217007FFFF 0x8807EC220FF9FFFF 0x403076625FCF0001
    ∷ shows PUNPCKHWD 0x403076625FCF0001 0x1569F98C06FD0000 0x15694030F98C7662
    ∷ shows PUNPCKLWD 0x403076625FCF0001 0x1569F98C06FD0000 0x06FD5FCF00000001
    ∷ shows PADDUSB 0x7FD253427770079A 0x8188EC0E1444F7A8 0xFFFFFF508BB4FEFF
    -- the same at another width: the number of lanes in a half, and the clamps
    ∷ shows PACKSSDW 0xFFFF8002000001FC 0x8000000200008000 0x80007FFF800201FC
    ∷ shows PADDUSW 0x7E108000FFFE1234 0x7000800000154567 0xEE10FFFFFFFF579B
    -- which words PMADDWD multiplies
    ∷ shows PMADDWD 0xFFFE7FFF7007FFFF 0x00027FFF0FF9FFFF 0x3FFEFFFD06FD5FD0
    -- shifts that leave bits
    ∷ shows PSLLD 0x000FA3BE01234567 8 0x0FA3BE0023456700
    ∷ shows PSRAD 0xFFF0000001230000 16 0xFFFFFFF000000123
    ∷ shows PSRLW 0x8800EC220FF9FF00 8 0x008800EC000F00FF
    -- single lanes of subtractions
    ∷ shows PSUBB 0x53079A 0xECF7A8 0x6710F2
    ∷ shows PSUBSB 0x8242 0x0FC1 0x807F
    ∷ shows PSUBSW 0x53218007 0xD3200FF9 0x7FFF8000
    ∷ shows PSUBUSW 0x00005321 0x0000EC22 0
    -- our own: subtractions that clamp nothing
    ∷ shows PSUBSB 0x10F0 0x0110 0x0FE0
    ∷ shows PSUBUSB 0x10F0 0x0110 0x0FE0
    -- the high half of eight lanes, and of two
    ∷ shows PUNPCKHBW 0x8192A3B4C5D6E7F8 0 0x0081009200A300B4
    ∷ shows PUNPCKHDQ 0x8192A3B4C5D6E7F8 0 0x8192A3B4
    -- the count's highest bit counts too
    ∷ shows PSRLQ 0xFFFFFFFFFFFFFFFF 0x8000000000000000 0
    -- PMULHW keeps the high half as it is, of products whose low half is 8000 or more too: 0181 times 0100 is 00018100, FFFF times 0001 is FFFFFFFF
    ∷ shows PMULHW 0x0181FFFF 0x01000001 0x0001FFFF
    -- PANDN inverts its destination
    ∷ shows PANDN 0xF0F0F0F0F0F0F0F0 0xFFFF0000FFFF0000 0x0F0F00000F0F0000
    -- 000's: means that are rounded up, and of sums that do not fit
    ∷ shows PAVGB 0xFFFF010F0070079A 0xFF00FF100144F7A8 0xFF808010015A7FA1
    -- our own: the same at another width, where 00FF and 0100 have the mean 0100
    ∷ shows PAVGW 0xFFFF000000FF8000 0xFFFF000101000001 0xFFFF000101004001
    -- the greatest and the least of the same lanes: signed, where 8000 is below 0001 and 0102 below 0201; unsigned, where 7F is below 80
    ∷ shows PMAXSW 0x80000001FFFE0102 0x00018000FFFF0201 0x00010001FFFF0201
    ∷ shows PMINSW 0x80000001FFFE0102 0x00018000FFFF0201 0x80008000FFFE0102
    ∷ shows PMAXUB 0x807F00FF0102A00B 0x7F80FF00020120B0 0x8080FFFF0202A0B0
    ∷ shows PMINUB 0x807F00FF0102A00B 0x7F80FF00020120B0 0x7F7F00000101200B
    -- PMULHUW's words have no sign: FFFF times FFFF is FFFE0001, FFFF times 0001 is 0000FFFF
    ∷ shows PMULHUW 0xFFFFFFFF80000181 0xFFFF000180000100 0xFFFE000040000001
    -- distances in both directions, of all bytes, in a sum beyond a byte; and without sign, where 80 and 7F are 1 apart
    ∷ shows PSADBW 0xFF00FF00FF00FF00 0x00FF00FF00FF00FF 0x07F8
    ∷ shows PSADBW 0x8000000000000010 0x7F00000000000001 0x0010
    -- a word by its place, which counts round
    ∷ shows PEXTRW 0x8192A3B4C5D6E7F8 0 0xE7F8
    ∷ shows PEXTRW 0x8192A3B4C5D6E7F8 3 0x8192
    ∷ shows PEXTRW 0x8192A3B4C5D6E7F8 6 0xA3B4
    -- the low word of the source in that place, and no more of it
    ∷ shows_three PINSRW 0x8192A3B4C5D6E7F8 0x0123456789ABCDEF 1 0x8192A3B4CDEFE7F8
    ∷ shows_three PINSRW 0x8192A3B4C5D6E7F8 0x0123456789ABCDEF 6 0x8192CDEFC5D6E7F8
    -- each word the next one up; one word twice, and one not at all
    ∷ shows PSHUFW 0x8192A3B4C5D6E7F8 0x39 0xE7F88192A3B4C5D6
    ∷ shows PSHUFW 0x8192A3B4C5D6E7F8 0x71 0xC5D68192E7F8C5D6
    -- top bits alone, the lowest byte's lowest; the second number is not looked at
    ∷ shows PMOVMSKB 0x80FF007F8101C000 0x7F 0xCA
    -- the mask's top bits alone
    ∷ shows_three MASKMOVQ 0x8192A3B4C5D6E7F8 0x0123456789ABCDEF 0x807FFF0001C0FE40 0x019245B4C5ABCDF8
    -- of two numbers a third is not looked at
    ∷ shows_three PSUBB 0x53079A 0xECF7A8 1 0x6710F2
    -- the source, and the destination, which what goes by a third number keeps without one
    ∷ shows MOVE 1 2 2
    ∷ shows KEEP 1 2 1
    ∷ shows MASKMOVQ 1 2 1
    ∷ shows PINSRW 1 2 1
    ∷ []
