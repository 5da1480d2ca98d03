-- The packed operations by the manuals' headings, those of 004 in the order of document 01's table of opcode bytes, those of 000 in its own, with MOVE,
-- which leaves the source, and KEEP, which leaves the destination: the number, lane width and rule of each.
use Rattle.std.specs.Prelude.{ℕ, List, [], ◌∷◌, get_or}
use Rattle.basis.specs.Names.{bit_and, bit_or, bit_xor}
use Rattle.lanes.specs.Signed.{clamp_signed, clamp_unsigned}
use Rattle.lanes.specs.Rules.{packed, pairwise, sum, difference, sum_signed, difference_signed, sum_unsigned, difference_unsigned, equal, greater, product_low, product_high, product_sum, pack, unpack_low, unpack_high, and_not, shift, left, right, right_signed, blend, mean, extract, insert, maximum_signed, maximum_unsigned, minimum_signed, minimum_unsigned, top_bits, product_high_unsigned, distances, shuffle}

pub data Operation : Type 0 where
  PUNPCKLBW PUNPCKLWD PUNPCKLDQ : Operation
  PACKSSWB PACKUSWB PACKSSDW : Operation
  PCMPGTB PCMPGTW PCMPGTD : Operation
  PUNPCKHBW PUNPCKHWD PUNPCKHDQ : Operation
  MOVE : Operation
  PCMPEQB PCMPEQW PCMPEQD : Operation
  PSRLW PSRLD PSRLQ PSRAW PSRAD PSLLW PSLLD PSLLQ : Operation
  PMULLW PMULHW PMADDWD : Operation
  PSUBUSB PSUBUSW PADDUSB PADDUSW : Operation
  PSUBSB PSUBSW PADDSB PADDSW : Operation
  PAND PANDN POR PXOR : Operation
  PSUBB PSUBW PSUBD PADDB PADDW PADDD : Operation
  MASKMOVQ : Operation
  PAVGB PAVGW : Operation
  PEXTRW PINSRW : Operation
  PMAXSW PMAXUB PMINSW PMINUB : Operation
  PMOVMSKB PMULHUW PSADBW PSHUFW : Operation
  KEEP : Operation

-- what there is to say of an operation: its number, the width of its lanes in bits, and what it leaves of its destination and its source; or, where a
-- third number says which lanes of the source are taken, of all three
pub record Described : Type 0 where
  pub number : ℕ
  pub width : ℕ
  pub leaves : ℕ → ℕ → ℕ
  pub leaves_of_three : ℕ → ℕ → ℕ → ℕ

-- of two numbers, by a function; a third is not looked at
abbrev of_two : ℕ → ℕ → (ℕ → ℕ → ℕ) → Described
of_two number width f = record { number = number; width = width; leaves = f; leaves_of_three = λ destination source third. f destination source }

-- a rule in lanes of a width; and a function of the whole registers
abbrev in_lanes : ℕ → ℕ → (ℕ → ℕ → ℕ → ℕ → ℕ) → Described
in_lanes number width rule = of_two number width (packed rule width)

abbrev of_registers : ℕ → (ℕ → ℕ → ℕ) → Described
of_registers number f = of_two number 64 f

-- a rule that goes by a third number, in lanes of a width; without one the destination is kept
abbrev by_third : ℕ → ℕ → (ℕ → ℕ → ℕ → ℕ → ℕ → ℕ) → Described
by_third number width rule =
    record {
      number = number;
      width = width;
      leaves = λ destination source. destination;
      leaves_of_three = λ destination source third. packed (rule third) width destination source;
    }

abbrev pub described : Operation → Described
described PUNPCKLBW = in_lanes 0 8 unpack_low
described PUNPCKLWD = in_lanes 1 16 unpack_low
described PUNPCKLDQ = in_lanes 2 32 unpack_low
described PACKSSWB = in_lanes 3 8 (pack clamp_signed)
described PACKUSWB = in_lanes 4 8 (pack clamp_unsigned)
described PACKSSDW = in_lanes 5 16 (pack clamp_signed)
described PCMPGTB = in_lanes 6 8 (pairwise greater)
described PCMPGTW = in_lanes 7 16 (pairwise greater)
described PCMPGTD = in_lanes 8 32 (pairwise greater)
described PUNPCKHBW = in_lanes 9 8 unpack_high
described PUNPCKHWD = in_lanes 10 16 unpack_high
described PUNPCKHDQ = in_lanes 11 32 unpack_high
-- MOVD and MOVQ leave the source
described MOVE = of_registers 12 (λ destination source. source)
described PCMPEQB = in_lanes 13 8 (pairwise equal)
described PCMPEQW = in_lanes 14 16 (pairwise equal)
described PCMPEQD = in_lanes 15 32 (pairwise equal)
described PSRLW = in_lanes 16 16 (shift right)
described PSRLD = in_lanes 17 32 (shift right)
described PSRLQ = in_lanes 18 64 (shift right)
described PSRAW = in_lanes 19 16 (shift right_signed)
described PSRAD = in_lanes 20 32 (shift right_signed)
described PSLLW = in_lanes 21 16 (shift left)
described PSLLD = in_lanes 22 32 (shift left)
described PSLLQ = in_lanes 23 64 (shift left)
described PMULLW = in_lanes 24 16 (pairwise product_low)
described PMULHW = in_lanes 25 16 (pairwise product_high)
described PMADDWD = in_lanes 26 32 (pairwise product_sum)
described PSUBUSB = in_lanes 27 8 (pairwise difference_unsigned)
described PSUBUSW = in_lanes 28 16 (pairwise difference_unsigned)
described PADDUSB = in_lanes 29 8 (pairwise sum_unsigned)
described PADDUSW = in_lanes 30 16 (pairwise sum_unsigned)
described PSUBSB = in_lanes 31 8 (pairwise difference_signed)
described PSUBSW = in_lanes 32 16 (pairwise difference_signed)
described PADDSB = in_lanes 33 8 (pairwise sum_signed)
described PADDSW = in_lanes 34 16 (pairwise sum_signed)
described PAND = of_registers 35 bit_and
described PANDN = of_registers 36 and_not
described POR = of_registers 37 bit_or
described PXOR = of_registers 38 bit_xor
described PSUBB = in_lanes 39 8 (pairwise difference)
described PSUBW = in_lanes 40 16 (pairwise difference)
described PSUBD = in_lanes 41 32 (pairwise difference)
described PADDB = in_lanes 42 8 (pairwise sum)
described PADDW = in_lanes 43 16 (pairwise sum)
described PADDD = in_lanes 44 32 (pairwise sum)
-- the third number is the mask
described MASKMOVQ = by_third 45 8 blend
described PAVGB = in_lanes 46 8 (pairwise mean)
described PAVGW = in_lanes 47 16 (pairwise mean)
-- the second number is the place; of PINSRW the third
described PEXTRW = of_two 48 16 (extract 16)
described PINSRW = by_third 49 16 insert
described PMAXSW = in_lanes 50 16 (pairwise maximum_signed)
described PMAXUB = in_lanes 51 8 (pairwise maximum_unsigned)
described PMINSW = in_lanes 52 16 (pairwise minimum_signed)
described PMINUB = in_lanes 53 8 (pairwise minimum_unsigned)
described PMOVMSKB = of_two 54 8 (λ source second. top_bits 8 source)
described PMULHUW = in_lanes 55 16 (pairwise product_high_unsigned)
described PSADBW = of_two 56 8 (distances 8)
-- the second number is the order
described PSHUFW = in_lanes 57 16 shuffle
-- an instruction that computes nothing keeps its destination
described KEEP = of_registers 255 (λ destination source. destination)

unfoldable pub operate : Operation → ℕ → ℕ → ℕ
operate operation = (described operation).leaves

unfoldable pub operate_three : Operation → ℕ → ℕ → ℕ → ℕ
operate_three operation = (described operation).leaves_of_three

-- each at its number; KEEP, 255, stands past the end
abbrev pub operations : List Operation
operations =
    PUNPCKLBW ∷ PUNPCKLWD ∷ PUNPCKLDQ ∷ PACKSSWB ∷ PACKUSWB ∷ PACKSSDW ∷ PCMPGTB ∷ PCMPGTW ∷ PCMPGTD
    ∷ PUNPCKHBW ∷ PUNPCKHWD ∷ PUNPCKHDQ ∷ MOVE ∷ PCMPEQB ∷ PCMPEQW ∷ PCMPEQD
    ∷ PSRLW ∷ PSRLD ∷ PSRLQ ∷ PSRAW ∷ PSRAD ∷ PSLLW ∷ PSLLD ∷ PSLLQ ∷ PMULLW ∷ PMULHW ∷ PMADDWD
    ∷ PSUBUSB ∷ PSUBUSW ∷ PADDUSB ∷ PADDUSW ∷ PSUBSB ∷ PSUBSW ∷ PADDSB ∷ PADDSW
    ∷ PAND ∷ PANDN ∷ POR ∷ PXOR ∷ PSUBB ∷ PSUBW ∷ PSUBD ∷ PADDB ∷ PADDW ∷ PADDD
    ∷ MASKMOVQ ∷ PAVGB ∷ PAVGW ∷ PEXTRW ∷ PINSRW ∷ PMAXSW ∷ PMAXUB ∷ PMINSW ∷ PMINUB ∷ PMOVMSKB ∷ PMULHUW ∷ PSADBW ∷ PSHUFW ∷ []

-- the operation that a number names; one that names none keeps the destination
abbrev pub operation_of : ℕ → Operation
operation_of number = get_or operations number KEEP
