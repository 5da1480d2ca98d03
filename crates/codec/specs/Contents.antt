-- The instructions: manual 004's 47 headings and the 16 of manual 000, in the order of their tables of contents, each with its opcode bytes, forms
-- and operations; the six of 3DNow; and the four of loops. Reading, writing, effects and footprints all go by these lists.
use Rattle.std.specs.Prelude.{ℕ, List, [], ◌∷◌, ◌++◌}
use Rattle.basis.specs.Names.{String, Option, none, some}
use Rattle.lanes.specs.Operations.{Operation, PUNPCKLBW, PUNPCKLWD, PUNPCKLDQ, PACKSSWB, PACKUSWB, PACKSSDW, PCMPGTB, PCMPGTW, PCMPGTD, PUNPCKHBW, PUNPCKHWD, PUNPCKHDQ, MOVE, PCMPEQB, PCMPEQW, PCMPEQD, PSRLW, PSRLD, PSRLQ, PSRAW, PSRAD, PSLLW, PSLLD, PSLLQ, PMULLW, PMULHW, PMADDWD, PSUBUSB, PSUBUSW, PADDUSB, PADDUSW, PSUBSB, PSUBSW, PADDSB, PADDSW, PAND, PANDN, POR, PXOR, PSUBB, PSUBW, PSUBD, PADDB, PADDW, PADDD, MASKMOVQ, PAVGB, PAVGW, PEXTRW, PINSRW, PMAXSW, PMAXUB, PMINSW, PMINUB, PMOVMSKB, PMULHUW, PSADBW, PSHUFW, KEEP}
use Rattle.singles.specs.Siblings.{Sibling, PF2IW, PI2FW, PSWAPD, PAVGUSB, PFCMPGT, PFMAX}
use Rattle.codec.specs.Forms.{Form, alone, mmreg1·imm8/2/4/6, mmreg1·imm8/2/6, reg32←mmreg2+imm8, mmreg1·reg32/mem16+imm8, mmreg1←mmreg2/mem64+imm8, reg32←mmreg2, edi·mmreg1·mmreg2, mem8/0/1/2/3, alone/7, reg32←imm32, reg32·imm8/0, reg32·alone, rel8off, mem64←mmreg1, mmreg1·mmreg2/mem64+suffix, reg32/mem32←mmreg1, mmreg1←reg32/mem32, mmreg2/mem64←mmreg1, mmreg1·mmreg2/mem32, mmreg1·mmreg2/mem64, mmreg1←mmreg2/mem64}

-- a line of a heading: the byte after 0F, the digit that reg must be, if any, the form, and the operation (MOVE leaves the source, KEEP computes
-- nothing)
pub record Line : Type 0 where
  pub second : ℕ
  pub digit : Option ℕ
  pub form : Form
  pub operation : Operation

abbrev line : ℕ → Form → Operation → Line
line second form operation = record { second = second; digit = none; form = form; operation = operation }

-- a line with a digit, as 0F 72 /6
abbrev line/digit : ℕ → ℕ → Form → Operation → Line
line/digit second digit form operation = record { second = second; digit = some digit; form = form; operation = operation }

pub data Heading : Type 0 where
  heading : String → List Line → Heading

-- Manual 004; a heading's name is for the reader: its bytes decide. PCMPGTD goes by its heading, though its text names another; the low unpacks have
-- mem32 since revision D
abbrev pub contents : List Heading
contents =
    heading "EMMS" (line 0x77 alone KEEP ∷ [])
    ∷ heading "MOVD" (line 0x6e mmreg1←reg32/mem32 MOVE ∷ line 0x7e reg32/mem32←mmreg1 MOVE ∷ [])
    ∷ heading "MOVQ" (line 0x6f mmreg1←mmreg2/mem64 MOVE ∷ line 0x7f mmreg2/mem64←mmreg1 MOVE ∷ [])
    ∷ heading "PACKSSDW" (line 0x6b mmreg1·mmreg2/mem64 PACKSSDW ∷ [])
    ∷ heading "PACKSSWB" (line 0x63 mmreg1·mmreg2/mem64 PACKSSWB ∷ [])
    ∷ heading "PACKUSWB" (line 0x67 mmreg1·mmreg2/mem64 PACKUSWB ∷ [])
    ∷ heading "PADDB" (line 0xfc mmreg1·mmreg2/mem64 PADDB ∷ [])
    ∷ heading "PADDD" (line 0xfe mmreg1·mmreg2/mem64 PADDD ∷ [])
    ∷ heading "PADDSB" (line 0xec mmreg1·mmreg2/mem64 PADDSB ∷ [])
    ∷ heading "PADDSW" (line 0xed mmreg1·mmreg2/mem64 PADDSW ∷ [])
    ∷ heading "PADDUSB" (line 0xdc mmreg1·mmreg2/mem64 PADDUSB ∷ [])
    ∷ heading "PADDUSW" (line 0xdd mmreg1·mmreg2/mem64 PADDUSW ∷ [])
    ∷ heading "PADDW" (line 0xfd mmreg1·mmreg2/mem64 PADDW ∷ [])
    ∷ heading "PAND" (line 0xdb mmreg1·mmreg2/mem64 PAND ∷ [])
    ∷ heading "PANDN" (line 0xdf mmreg1·mmreg2/mem64 PANDN ∷ [])
    ∷ heading "PCMPEQB" (line 0x74 mmreg1·mmreg2/mem64 PCMPEQB ∷ [])
    ∷ heading "PCMPEQD" (line 0x76 mmreg1·mmreg2/mem64 PCMPEQD ∷ [])
    ∷ heading "PCMPEQW" (line 0x75 mmreg1·mmreg2/mem64 PCMPEQW ∷ [])
    ∷ heading "PCMPGTB" (line 0x64 mmreg1·mmreg2/mem64 PCMPGTB ∷ [])
    ∷ heading "PCMPGTD" (line 0x66 mmreg1·mmreg2/mem64 PCMPGTD ∷ [])
    ∷ heading "PCMPGTW" (line 0x65 mmreg1·mmreg2/mem64 PCMPGTW ∷ [])
    ∷ heading "PMADDWD" (line 0xf5 mmreg1·mmreg2/mem64 PMADDWD ∷ [])
    ∷ heading "PMULHW" (line 0xe5 mmreg1·mmreg2/mem64 PMULHW ∷ [])
    ∷ heading "PMULLW" (line 0xd5 mmreg1·mmreg2/mem64 PMULLW ∷ [])
    ∷ heading "POR" (line 0xeb mmreg1·mmreg2/mem64 POR ∷ [])
    ∷ heading "PSLLD" (line 0xf2 mmreg1·mmreg2/mem64 PSLLD ∷ line/digit 0x72 6 mmreg1·imm8/2/4/6 PSLLD ∷ [])
    ∷ heading "PSLLQ" (line 0xf3 mmreg1·mmreg2/mem64 PSLLQ ∷ line/digit 0x73 6 mmreg1·imm8/2/6 PSLLQ ∷ [])
    ∷ heading "PSLLW" (line 0xf1 mmreg1·mmreg2/mem64 PSLLW ∷ line/digit 0x71 6 mmreg1·imm8/2/4/6 PSLLW ∷ [])
    ∷ heading "PSRAD" (line 0xe2 mmreg1·mmreg2/mem64 PSRAD ∷ line/digit 0x72 4 mmreg1·imm8/2/4/6 PSRAD ∷ [])
    ∷ heading "PSRAW" (line 0xe1 mmreg1·mmreg2/mem64 PSRAW ∷ line/digit 0x71 4 mmreg1·imm8/2/4/6 PSRAW ∷ [])
    ∷ heading "PSRLD" (line 0xd2 mmreg1·mmreg2/mem64 PSRLD ∷ line/digit 0x72 2 mmreg1·imm8/2/4/6 PSRLD ∷ [])
    ∷ heading "PSRLQ" (line 0xd3 mmreg1·mmreg2/mem64 PSRLQ ∷ line/digit 0x73 2 mmreg1·imm8/2/6 PSRLQ ∷ [])
    ∷ heading "PSRLW" (line 0xd1 mmreg1·mmreg2/mem64 PSRLW ∷ line/digit 0x71 2 mmreg1·imm8/2/4/6 PSRLW ∷ [])
    ∷ heading "PSUBB" (line 0xf8 mmreg1·mmreg2/mem64 PSUBB ∷ [])
    ∷ heading "PSUBD" (line 0xfa mmreg1·mmreg2/mem64 PSUBD ∷ [])
    ∷ heading "PSUBSB" (line 0xe8 mmreg1·mmreg2/mem64 PSUBSB ∷ [])
    ∷ heading "PSUBSW" (line 0xe9 mmreg1·mmreg2/mem64 PSUBSW ∷ [])
    ∷ heading "PSUBUSB" (line 0xd8 mmreg1·mmreg2/mem64 PSUBUSB ∷ [])
    ∷ heading "PSUBUSW" (line 0xd9 mmreg1·mmreg2/mem64 PSUBUSW ∷ [])
    ∷ heading "PSUBW" (line 0xf9 mmreg1·mmreg2/mem64 PSUBW ∷ [])
    ∷ heading "PUNPCKHBW" (line 0x68 mmreg1·mmreg2/mem64 PUNPCKHBW ∷ [])
    ∷ heading "PUNPCKHDQ" (line 0x6a mmreg1·mmreg2/mem64 PUNPCKHDQ ∷ [])
    ∷ heading "PUNPCKHWD" (line 0x69 mmreg1·mmreg2/mem64 PUNPCKHWD ∷ [])
    ∷ heading "PUNPCKLBW" (line 0x60 mmreg1·mmreg2/mem32 PUNPCKLBW ∷ [])
    ∷ heading "PUNPCKLDQ" (line 0x62 mmreg1·mmreg2/mem32 PUNPCKLDQ ∷ [])
    ∷ heading "PUNPCKLWD" (line 0x61 mmreg1·mmreg2/mem32 PUNPCKLWD ∷ [])
    ∷ heading "PXOR" (line 0xef mmreg1·mmreg2/mem64 PXOR ∷ [])
    ∷ []

-- Manual 000, its extensions to the MMX instruction set
abbrev pub extensions : List Heading
extensions =
    heading "MASKMOVQ" (line 0xf7 edi·mmreg1·mmreg2 MASKMOVQ ∷ [])
    ∷ heading "MOVNTQ" (line 0xe7 mem64←mmreg1 MOVE ∷ [])
    ∷ heading "PAVGB" (line 0xe0 mmreg1·mmreg2/mem64 PAVGB ∷ [])
    ∷ heading "PAVGW" (line 0xe3 mmreg1·mmreg2/mem64 PAVGW ∷ [])
    ∷ heading "PEXTRW" (line 0xc5 reg32←mmreg2+imm8 PEXTRW ∷ [])
    ∷ heading "PINSRW" (line 0xc4 mmreg1·reg32/mem16+imm8 PINSRW ∷ [])
    ∷ heading "PMAXSW" (line 0xee mmreg1·mmreg2/mem64 PMAXSW ∷ [])
    ∷ heading "PMAXUB" (line 0xde mmreg1·mmreg2/mem64 PMAXUB ∷ [])
    ∷ heading "PMINSW" (line 0xea mmreg1·mmreg2/mem64 PMINSW ∷ [])
    ∷ heading "PMINUB" (line 0xda mmreg1·mmreg2/mem64 PMINUB ∷ [])
    ∷ heading "PMOVMSKB" (line 0xd7 reg32←mmreg2 PMOVMSKB ∷ [])
    ∷ heading "PMULHUW" (line 0xe4 mmreg1·mmreg2/mem64 PMULHUW ∷ [])
    ∷ heading "PREFETCHNTA - PREFETCHT0 - PREFETCHT1 - PREFETCHT2"
    (line/digit 0x18 0 mem8/0/1/2/3 KEEP ∷ line/digit 0x18 1 mem8/0/1/2/3 KEEP ∷ line/digit 0x18 2 mem8/0/1/2/3 KEEP ∷ line/digit 0x18 3 mem8/0/1/2/3 KEEP ∷ [])
    ∷ heading "PSADBW" (line 0xf6 mmreg1·mmreg2/mem64 PSADBW ∷ [])
    ∷ heading "PSHUFW" (line 0x70 mmreg1←mmreg2/mem64+imm8 PSHUFW ∷ [])
    ∷ heading "SFENCE" (line/digit 0xae 7 alone/7 KEEP ∷ [])
    ∷ []

abbrev pub lines_of : List Heading → List Line
lines_of [] = []
lines_of (heading name lines ∷ rest) = lines ++ lines_of rest

-- 3DNow's second byte, which the six share
abbrev pub three_dnow : ℕ
three_dnow = 0x0f

abbrev pub lines : List Line
lines = lines_of contents ++ lines_of extensions ++ line three_dnow mmreg1·mmreg2/mem64+suffix KEEP ∷ []

-- an instruction of 3DNow: its suffix, the form whose operands it uses, and which of the six it is
pub record Suffixed : Type 0 where
  pub name : String
  pub suffix : ℕ
  pub form : Form
  pub sibling : Sibling

abbrev suffixed : String → ℕ → Form → Sibling → Suffixed
suffixed name suffix form sibling = record { name = name; suffix = suffix; form = form; sibling = sibling }

abbrev pub maximum : Suffixed
maximum = suffixed "PFMAX" 0xa4 mmreg1·mmreg2/mem64 PFMAX

-- Manual 000's, then manual 003's that Req 10 adds, each in its order
abbrev pub siblings : List Suffixed
siblings =
    suffixed "PF2IW" 0x1c mmreg1←mmreg2/mem64 PF2IW
    ∷ suffixed "PI2FW" 0x0c mmreg1←mmreg2/mem64 PI2FW
    ∷ suffixed "PSWAPD" 0xbb mmreg1←mmreg2/mem64 PSWAPD
    ∷ suffixed "PAVGUSB" 0xbf mmreg1·mmreg2/mem64 PAVGUSB
    ∷ suffixed "PFCMPGT" 0xa0 mmreg1·mmreg2/mem64 PFCMPGT
    ∷ maximum
    ∷ []

-- an instruction of one opcode byte: the first such byte, and how many there are from it on (8 where the last three bits name a register, else 1)
pub record OneByte : Type 0 where
  pub name : String
  pub first : ℕ
  pub count : ℕ
  pub form : Form

abbrev single : String → ℕ → ℕ → Form → OneByte
single name first count form = record { name = name; first = first; count = count; form = form }

abbrev pub jump_if_not_zero : ℕ
jump_if_not_zero = 0x75

-- The AMD64 manual's that Req 07 adds, in the manual's order
abbrev pub loops : List OneByte
loops =
    single "ADD" 0x83 1 reg32·imm8/0
    ∷ single "DEC" 0x48 8 reg32·alone
    ∷ single "JNZ" jump_if_not_zero 1 rel8off
    ∷ single "MOV" 0xb8 8 reg32←imm32
    ∷ []
