-- A second opinion on the lists of instructions: document 01's table of opcode bytes, manual 000's, and the AMD64 manual's loop instructions, each in
-- its own order, with its words on operands. Each instruction has the effect that its row says, for every operand and immediate: by computation.
use Rattle.std.specs.Prelude.{◌≡◌, refl, Bool, cond, not, ◌&&◌, List, [], ◌∷◌, ◌++◌, map, ℕ, ◌+◌, ◌%◌, ◌^◌, eqb, leb, length}
use Rattle.basis.specs.Names.{flatten, bit_and, bit_or, bit_xor}
use Rattle.basis.proofs.Names.{zero-add}
use Rattle.lanes.specs.Signed.{clamp_signed, clamp_unsigned}
use Rattle.lanes.specs.Rules.{packed, pairwise, sum, difference, sum_signed, difference_signed, sum_unsigned, difference_unsigned, equal, greater, product_low, product_high, product_sum, pack, unpack_low, unpack_high, and_not, shift, left, right, right_signed, blend, mean, extract, insert, maximum_signed, maximum_unsigned, minimum_signed, minimum_unsigned, top_bits, product_high_unsigned, distances, shuffle}
use Rattle.lanes.specs.Operations.{described, operate, operate_three}
use Rattle.singles.specs.Siblings.{pf2iw, pi2fw, pswapd, pfcmpgt, pfmax, leave}
use Rattle.codec.specs.Forms.{is_among, is_absent, has_operand, immediate_size}
use Rattle.codec.specs.Opcodes.{escape, form_at, operation_at, suffixed_of, form_of_first}
use Rattle.codec.specs.Table.{listed}
use Rattle.codec.specs.Reads.{instruction_of}
use Rattle.codec.specs.declared.Operand.{Operand}
use Rattle.codec.specs.declared.Kind.TheVariants.{Emms, Silent, Loop}
use Rattle.reorder.specs.Result.{done}
use Rattle.manual.specs.Addresses.{address_of}
use Rattle.manual.specs.Locations.{Location, mmx_register, integer_register, memory, zero_operand, rm_of, at_edi}
use Rattle.manual.specs.Effects.{Effect}
use Rattle.manual.specs.Instructions.{supported, effect_of}
use Rattle.manual.proofs.Shapes.{both, both_or, move, move_or, three, bare}

-- "the reg field names the MMX register and r/m the other operand": at mod 11 a register, else bytes in memory

abbrev mmx_of_reg : Operand → Location
mmx_of_reg w = mmx_register w.reg

abbrev mmx_or : ℕ → Operand → Location
mmx_or size w = cond (eqb w.mode 3) (mmx_register w.rm) (memory (address_of w) size)

abbrev integer_or : ℕ → Operand → Location
integer_or size w = cond (eqb w.mode 3) (integer_register w.rm) (memory (address_of w) size)

-- a row's effects, with an operand

-- "a destination register is also read", and the memory operand is 8 bytes, or 4
abbrev eight : (ℕ → ℕ → ℕ) → Operand → Effect
eight f w = both f (mmx_of_reg w) (mmx_or 8 w)

abbrev four : (ℕ → ℕ → ℕ) → Operand → Effect
four f w = both f (mmx_of_reg w) (mmx_or 4 w)

-- "except by MOVD and MOVQ"; "7E and 7F write to r/m"; of an MMX register, MOVD stores the low doubleword
abbrev copies : (ℕ → ℕ) → (Operand → Location) → (Operand → Location) → Operand → Effect
copies f destination source w = move f (destination w) (source w)

abbrev unchanged : ℕ → ℕ
unchanged x = x

abbrev low_half : ℕ → ℕ
low_half x = x % 2 ^ 32

-- document 01's table
abbrev table : List (ℕ × (Operand → Effect))
table =
    -- 60 61 62: PUNPCKLBW, PUNPCKLWD, PUNPCKLDQ
    (0x60, four (packed unpack_low 8)) ∷ (0x61, four (packed unpack_low 16)) ∷ (0x62, four (packed unpack_low 32))
    -- 63 67 6B: PACKSSWB, PACKUSWB, PACKSSDW
    ∷ (0x63, eight (packed (pack clamp_signed) 8)) ∷ (0x67, eight (packed (pack clamp_unsigned) 8)) ∷ (0x6b, eight (packed (pack clamp_signed) 16))
    -- 64 65 66: PCMPGTB, W, D
    ∷ (0x64, eight (packed (pairwise greater) 8)) ∷ (0x65, eight (packed (pairwise greater) 16)) ∷ (0x66, eight (packed (pairwise greater) 32))
    -- 68 69 6A: PUNPCKHBW, PUNPCKHWD, PUNPCKHDQ
    ∷ (0x68, eight (packed unpack_high 8)) ∷ (0x69, eight (packed unpack_high 16)) ∷ (0x6a, eight (packed unpack_high 32))
    -- 6E 7E: MOVD to MMX, MOVD from MMX
    ∷ (0x6e, copies unchanged mmx_of_reg (integer_or 4)) ∷ (0x7e, copies low_half (integer_or 4) mmx_of_reg)
    -- 6F 7F: MOVQ load form, MOVQ store form
    ∷ (0x6f, copies unchanged mmx_of_reg (mmx_or 8)) ∷ (0x7f, copies unchanged (mmx_or 8) mmx_of_reg)
    -- 74 75 76: PCMPEQB, W, D
    ∷ (0x74, eight (packed (pairwise equal) 8)) ∷ (0x75, eight (packed (pairwise equal) 16)) ∷ (0x76, eight (packed (pairwise equal) 32))
    -- 77: EMMS
    ∷ (0x77, λ w. bare Emms)
    -- D1 D2 D3, E1 E2, F1 F2 F3: PSRLW D Q, PSRAW D, PSLLW D Q
    ∷ (0xd1, eight (packed (shift right) 16)) ∷ (0xd2, eight (packed (shift right) 32)) ∷ (0xd3, eight (packed (shift right) 64))
    ∷ (0xe1, eight (packed (shift right_signed) 16)) ∷ (0xe2, eight (packed (shift right_signed) 32))
    ∷ (0xf1, eight (packed (shift left) 16)) ∷ (0xf2, eight (packed (shift left) 32)) ∷ (0xf3, eight (packed (shift left) 64))
    -- D5 E5 F5: PMULLW, PMULHW, PMADDWD
    ∷ (0xd5, eight (packed (pairwise product_low) 16)) ∷ (0xe5, eight (packed (pairwise product_high) 16)) ∷ (0xf5, eight (packed (pairwise product_sum) 32))
    -- D8 D9, DC DD: PSUBUSB W, PADDUSB W
    ∷ (0xd8, eight (packed (pairwise difference_unsigned) 8)) ∷ (0xd9, eight (packed (pairwise difference_unsigned) 16))
    ∷ (0xdc, eight (packed (pairwise sum_unsigned) 8)) ∷ (0xdd, eight (packed (pairwise sum_unsigned) 16))
    -- E8 E9, EC ED: PSUBSB W, PADDSB W
    ∷ (0xe8, eight (packed (pairwise difference_signed) 8)) ∷ (0xe9, eight (packed (pairwise difference_signed) 16))
    ∷ (0xec, eight (packed (pairwise sum_signed) 8)) ∷ (0xed, eight (packed (pairwise sum_signed) 16))
    -- DB DF EB EF: PAND, PANDN, POR, PXOR
    ∷ (0xdb, eight bit_and) ∷ (0xdf, eight and_not) ∷ (0xeb, eight bit_or) ∷ (0xef, eight bit_xor)
    -- F8 F9 FA, FC FD FE: PSUBB W D, PADDB W D
    ∷ (0xf8, eight (packed (pairwise difference) 8)) ∷ (0xf9, eight (packed (pairwise difference) 16)) ∷ (0xfa, eight (packed (pairwise difference) 32))
    ∷ (0xfc, eight (packed (pairwise sum) 8)) ∷ (0xfd, eight (packed (pairwise sum) 16)) ∷ (0xfe, eight (packed (pairwise sum) 32)) ∷ []

-- "mmreg2" and "reg32": a register in any case

abbrev mmx_of_rm : Operand → Location
mmx_of_rm w = mmx_register w.rm

abbrev integer_of_reg : Operand → Location
integer_of_reg w = integer_register w.reg

-- manual 000's Table 2, in its order: with an operand and an immediate
abbrev extension : List (ℕ × (Operand → ℕ → Effect))
extension =
    -- MASKMOVQ mmreg1, mmreg2 (edi): the bytes of mmreg1 whose bytes in mmreg2 have their top bit set, to the 8 bytes at EDI
    (0xf7, λ w immediate. three (λ destination source mask. packed (blend mask) 8 destination source) (memory at_edi 8) (mmx_of_reg w) (mmx_of_rm w))
    -- MOVNTQ mem64, mmreg1 (at mod 11, which is refused by 6, a register)
    ∷ (0xe7, λ w immediate. copies unchanged (mmx_or 8) mmx_of_reg w)
    -- PAVGB, PAVGW mmreg1, mmreg2/mem64
    ∷ (0xe0, λ w immediate. eight (packed (pairwise mean) 8) w) ∷ (0xe3, λ w immediate. eight (packed (pairwise mean) 16) w)
    -- PEXTRW reg32, mmreg, imm8: the upper bits cleared
    ∷ (0xc5, λ w immediate. copies (λ x. low_half (extract 16 x immediate)) integer_of_reg mmx_of_rm w)
    -- PINSRW mmreg, reg32/mem16, imm8
    ∷ (0xc4, λ w immediate. both (packed (insert immediate) 16) (mmx_of_reg w) (integer_or 2 w))
    -- PMAXSW, PMAXUB, PMINSW, PMINUB mmreg1, mmreg2/mem64
    ∷ (0xee, λ w immediate. eight (packed (pairwise maximum_signed) 16) w) ∷ (0xde, λ w immediate. eight (packed (pairwise maximum_unsigned) 8) w)
    ∷ (0xea, λ w immediate. eight (packed (pairwise minimum_signed) 16) w) ∷ (0xda, λ w immediate. eight (packed (pairwise minimum_unsigned) 8) w)
    -- PMOVMSKB reg32, mmreg: the upper bits cleared
    ∷ (0xd7, λ w immediate. copies (λ x. low_half (top_bits 8 x)) integer_of_reg mmx_of_rm w)
    -- PMULHUW mmreg1, mmreg2/mem64
    ∷ (0xe4, λ w immediate. eight (packed (pairwise product_high_unsigned) 16) w)
    -- PREFETCHNTA, T0, T1, T2 mem8
    ∷ (0x18, λ w immediate. bare Silent)
    -- PSADBW mmreg1, mmreg2/mem64
    ∷ (0xf6, λ w immediate. eight (distances 8) w)
    -- PSHUFW mmreg1, mmreg2/mem64, imm8
    ∷ (0x70, λ w immediate. copies (λ x. packed shuffle 16 x immediate) mmx_of_reg (mmx_or 8) w)
    -- SFENCE
    ∷ (0xae, λ w immediate. bare Silent) ∷ []

-- 3DNow, by the suffix after 0F 0F and the operands: manual 000's Table 1, of which Req 10 names PF2IW, PI2FW and PSWAPD, then manual 003, of which it
-- names PAVGUSB, PFCMPGT and PFMAX (003's Table 2 prints A4 beside another name; PFMAX's own page has it)
abbrev suffix_table : List (ℕ × (Operand → Effect))
suffix_table =
    -- "PF2IW, PI2FW and PSWAPD don't read their destination"
    (0x1c, λ w. move_or (λ x. supported (pf2iw x)) (mmx_of_reg w) (mmx_or 8 w))
    ∷ (0x0c, λ w. copies pi2fw mmx_of_reg (mmx_or 8) w)
    ∷ (0xbb, λ w. copies pswapd mmx_of_reg (mmx_or 8) w)
    -- 000: PAVGB is the same
    ∷ (0xbf, λ w. eight (packed (pairwise mean) 8) w)
    ∷ (0xa0, λ w. both_or (λ x y. supported (pfcmpgt x y)) (mmx_of_reg w) (mmx_or 8 w))
    ∷ (0xa4, λ w. both_or (λ x y. supported (pfmax x y)) (mmx_of_reg w) (mmx_or 8 w)) ∷ []

-- "immediate shifts of W, D, Q: /2 right logical, /4 right arithmetic (71 and 72 only), /6 left": the byte, the digit, and what the register becomes
-- by a count
abbrev shifts : List (ℕ × (ℕ × (ℕ → ℕ → ℕ)))
shifts =
    (0x71, (2, packed (shift right) 16)) ∷ (0x71, (4, packed (shift right_signed) 16)) ∷ (0x71, (6, packed (shift left) 16))
    ∷ (0x72, (2, packed (shift right) 32)) ∷ (0x72, (4, packed (shift right_signed) 32)) ∷ (0x72, (6, packed (shift left) 32))
    ∷ (0x73, (2, packed (shift right) 64)) ∷ (0x73, (6, packed (shift left) 64)) ∷ []

abbrev with_digit : ℕ → Operand → Operand
with_digit digit w =
    record { mode = w.mode; reg = digit; rm = w.rm; scale = w.scale; index = w.index; base = w.base; displacement = w.displacement }

abbrev table_bytes : List ℕ
table_bytes = 0x71 ∷ 0x72 ∷ 0x73 ∷ map (λ (x : ℕ × (Operand → Effect)). x.0) table

abbrev extension_bytes : List ℕ
extension_bytes = map (λ (x : ℕ × (Operand → ℕ → Effect)). x.0) extension

-- and 3DNow's second byte
abbrev is_listed : ℕ → Bool
is_listed b = is_among b (0x0f ∷ table_bytes ++ extension_bytes)

pub record Agrees : Type 0 where
  -- "That is 52 second bytes"; 000's are 16, with 3DNow's together 69 different ones, and the list has no other
  pub count : length table_bytes ≡ 52
  pub count_of_extension : length extension_bytes ≡ 16
  pub together : length (flatten (listed (λ b. cond (is_listed b) (b ∷ []) []) 0 256)) ≡ 69
  pub bytes : listed is_listed 0 256 ≡ listed (λ b. not (is_absent (form_at b))) 0 256
  pub effects : (w : Operand) (immediate : ℕ)
      → map (λ (x : ℕ × (Operand → Effect)). effect_of (instruction_of escape x.0 w immediate)) table
      ≡ map (λ (x : ℕ × (Operand → Effect)). x.1 w) table
  pub effects_of_extension : (w : Operand) (immediate : ℕ)
      → map (λ (x : ℕ × (Operand → ℕ → Effect)). effect_of (instruction_of escape x.0 w immediate)) extension
      ≡ map (λ (x : ℕ × (Operand → ℕ → Effect)). x.1 w immediate) extension
  -- 3DNow has six suffixes, and the list has no other
  pub suffixes : (form_at 0x0f).suffixes ≡ flatten (listed (λ b. cond (is_among b (map (λ (x : ℕ × (Operand → Effect)). x.0) suffix_table)) (b ∷ []) []) 0 256)
  pub effects_of_suffixes : (w : Operand)
      → map (λ (x : ℕ × (Operand → Effect)). effect_of (instruction_of escape 0x0f w x.0)) suffix_table
      ≡ map (λ (x : ℕ × (Operand → Effect)). x.1 w) suffix_table
  -- "All but EMMS have a ModRM byte; 71-73 then have one immediate byte", and of 000's so have PINSRW, PEXTRW and PSHUFW; so is a suffix
  pub operand_bytes_lem : listed (λ b. has_operand (form_at b)) 0 256 ≡ listed (λ b. is_listed b && not (eqb b 0x77)) 0 256
  pub immediates : listed (λ b. immediate_size (form_at b)) 0 256 ≡ listed (λ b. cond (is_among b (0x71 ∷ 0x72 ∷ 0x73 ∷ 0xc4 ∷ 0xc5 ∷ 0x70 ∷ 0x0f ∷ [])) 1 0) 0 256
  -- the lane widths of the table: of 71 to 73, then in the order of the rows
  pub widths : map (λ b. (described (operation_at b 2)).width) table_bytes
      ≡ 16 ∷ 32 ∷ 64 ∷ 8 ∷ 16 ∷ 32 ∷ 8 ∷ 8 ∷ 16 ∷ 8 ∷ 16 ∷ 32 ∷ 8 ∷ 16 ∷ 32 ∷ 64 ∷ 64 ∷ 64 ∷ 64 ∷ 8 ∷ 16 ∷ 32 ∷ 64
      ∷ 16 ∷ 32 ∷ 64 ∷ 16 ∷ 32 ∷ 16 ∷ 32 ∷ 64 ∷ 16 ∷ 16 ∷ 32 ∷ 8 ∷ 16 ∷ 8 ∷ 16 ∷ 8 ∷ 16 ∷ 8 ∷ 16 ∷ 64 ∷ 64 ∷ 64 ∷ 64 ∷ 8 ∷ 16 ∷ 32 ∷ 8 ∷ 16 ∷ 32 ∷ []
  pub widths_of_extension : map (λ b. (described (operation_at b 2)).width) extension_bytes
      ≡ 8 ∷ 64 ∷ 8 ∷ 16 ∷ 16 ∷ 16 ∷ 16 ∷ 8 ∷ 16 ∷ 8 ∷ 8 ∷ 16 ∷ 64 ∷ 8 ∷ 16 ∷ 64 ∷ []
  -- "and shift the register named by rm"
  pub shifted : (w : Operand) (immediate : ℕ)
      → map (λ (x : ℕ × (ℕ × (ℕ → ℕ → ℕ))). effect_of (instruction_of escape x.0 (with_digit x.1.0 w) immediate)) shifts
      ≡ map (λ (x : ℕ × (ℕ × (ℕ → ℕ → ℕ))). move (λ y. x.1.1 y immediate) (mmx_register w.rm) (mmx_register w.rm)) shifts

pub agrees : Agrees
unfolding flatten operate operate_three leave form_at operation_at suffixed_of rm_of effect_of
agrees =
    record {
      count = refl;
      count_of_extension = refl;
      together = refl;
      bytes = refl;
      effects = λ w immediate. refl;
      effects_of_extension = λ w immediate. refl;
      suffixes = refl;
      effects_of_suffixes = λ w. refl;
      operand_bytes_lem = refl;
      immediates = refl;
      widths = refl;
      widths_of_extension = refl;
      shifted = λ w immediate. refl;
    }

-- a row of loops: the first byte, the operands that are read and those that are written, and what those become, from the immediate and the number
-- that is read, if one is
record Row : Type 0 where
  byte : ℕ
  reads : Operand → List Location
  writes : Operand → List Location
  left : ℕ → ℕ → List ℕ

abbrev row : ℕ → (Operand → List Location) → (Operand → List Location) → (ℕ → ℕ → List ℕ) → Row
row byte reads writes left = record { byte = byte; reads = reads; writes = writes; left = left }

-- a sum of 32 bits, and the zero mark
abbrev summed : ℕ → List ℕ
summed sum = low_half sum ∷ cond (eqb (low_half sum) 0) 1 0 ∷ []

-- ADD reg32, imm8 (83 /0): the byte is extended by its sign
abbrev adds : Row
adds =
    row 0x83 (λ w. integer_register w.rm ∷ []) (λ w. integer_register w.rm ∷ zero_operand ∷ [])
    (λ immediate x. summed (x + cond (leb 0x80 immediate) (immediate + 0xffffff00) immediate))

-- DEC reg32 (48 +rd)
abbrev decrements : ℕ → ℕ → Row
decrements byte k = row byte (λ w. integer_register k ∷ []) (λ w. integer_register k ∷ zero_operand ∷ []) (λ immediate x. summed (x + 0xffffffff))

-- JNZ rel8off (75)
abbrev jumps : Row
jumps = row 0x75 (λ w. zero_operand ∷ []) (λ w. []) (λ immediate x. [])

-- MOV reg32, imm32 (B8 +rd)
abbrev moves : ℕ → ℕ → Row
moves byte k = row byte (λ w. []) (λ w. integer_register k ∷ []) (λ immediate x. low_half immediate ∷ [])

-- in the AMD64 manual's order
abbrev loop_table : List Row
loop_table =
    adds
    ∷ decrements 0x48 0 ∷ decrements 0x49 1 ∷ decrements 0x4a 2 ∷ decrements 0x4b 3
    ∷ decrements 0x4c 4 ∷ decrements 0x4d 5 ∷ decrements 0x4e 6 ∷ decrements 0x4f 7
    ∷ jumps
    ∷ moves 0xb8 0 ∷ moves 0xb9 1 ∷ moves 0xba 2 ∷ moves 0xbb 3 ∷ moves 0xbc 4 ∷ moves 0xbd 5 ∷ moves 0xbe 6 ∷ moves 0xbf 7 ∷ []

abbrev loop_bytes : List ℕ
loop_bytes = map (λ x. x.byte) loop_table

abbrev effect_of_first : Row → Operand → ℕ → Effect
effect_of_first x w immediate = effect_of (instruction_of x.byte 0 w immediate)

pub record LoopsAgree : Type 0 where
  -- no other first byte than these has a form
  pub count : length loop_bytes ≡ 18
  pub bytes : listed (λ b. is_among b loop_bytes) 0 256 ≡ listed (λ b. not (is_absent (form_of_first b))) 0 256
  -- 83 alone has a ModRM byte; ADD and JNZ have one immediate byte, MOV four
  pub operand_bytes_lem : listed (λ b. has_operand (form_of_first b)) 0 256 ≡ listed (λ b. eqb b 0x83) 0 256
  pub immediates : listed (λ b. immediate_size (form_of_first b)) 0 256
      ≡ listed (λ b. cond (is_among b (0x83 ∷ 0x75 ∷ [])) 1 (cond (leb 0xb8 b && leb b 0xbf) 4 0)) 0 256
  pub read : (w : Operand) (immediate : ℕ) → map (λ y. (effect_of_first y w immediate).takes) loop_table ≡ map (λ y. y.reads w) loop_table
  pub written : (w : Operand) (immediate : ℕ) → map (λ y. (effect_of_first y w immediate).gives) loop_table ≡ map (λ y. y.writes w) loop_table
  pub kinds : (w : Operand) (immediate : ℕ) → map (λ y. (effect_of_first y w immediate).kind) loop_table ≡ map (λ y. Loop) loop_table
  -- one number is handed for each operand that is read
  pub left : (w : Operand) (immediate x : ℕ)
      → map (λ y. let e = effect_of_first y w immediate in e.value (map (λ z. x) e.takes)) loop_table ≡ map (λ y. done (y.left immediate x)) loop_table

pub loops_agree : LoopsAgree
unfolding form_of_first effect_of
loops_agree =
    record {
      count = refl;
      bytes = refl;
      operand_bytes_lem = refl;
      immediates = refl;
      read = λ w immediate. refl;
      written = λ w immediate. refl;
      kinds = λ w immediate. refl;
      left = λ w immediate x. simp zero-add;
    }
