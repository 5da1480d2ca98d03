-- What the writer leaves, computed: in a buffer that is longer than the instruction, as long, and shorter; and of a record without bytes. What the
-- reader and the writer give of loops, and of 3DNow's suffixes.
use Rattle.std.specs.Prelude.{◌≡◌, refl, [], ◌∷◌, ℕ, Ok, Err}
use Rattle.codec.specs.declared.Instruction.{Instruction}
use Rattle.codec.specs.declared.Operand.{Operand}
use Rattle.refusals.specs.declared.Refusal.TheVariants.{NoBytes}
use Rattle.codec.specs.Answers.{good, refused, wrote, refused_with, paper_of_writing}
use Rattle.codec.specs.Forms.{allows}
use Rattle.codec.specs.Opcodes.{form_at, form_of_first}
use Rattle.codec.specs.Operands.{has_sib, displacement_size, no_operand}
use Rattle.codec.specs.Reads.{instruction_of, immediate_reader, displacement_reader, sib_reader, modrm_reader, form_reader, first_reader, second_reader, instruction_reader, read_part}
use Rattle.codec.specs.Fits.{sib_fits, operand_fits, operand_is_zero, parts_fit, opcode_fits, has_bytes}
use Rattle.codec.specs.Writes.{sib_bytes, displacement_bytes, operand_bytes, parts_bytes, bytes_of, write_to}

-- the operand of two registers, or of a digit and a register
abbrev registers : ℕ → ℕ → Operand
registers reg rm = record { mode = 3; reg = reg; rm = rm; scale = 0; index = 0; base = 0; displacement = 0 }

-- MOVQ MM1, [EBX + ESI * 4 - 16], and the same with another number in reg
abbrev load : ℕ → Instruction
load reg =
    instruction_of 0x0f 0x6f (record { mode = 1; reg = reg; rm = 4; scale = 2; index = 6; base = 3; displacement = 0xf0 }) 0

-- PSRLD MM2, 5
abbrev shift : Instruction
shift =
    instruction_of 0x0f 0x72 (registers 2 2) 5

pub record WrittenExamples : Type 0 where
  -- the instruction at the buffer's start, with its length; what stands after it stays
  pub longer : write_to (load 1) (1 ∷ 2 ∷ 3 ∷ 4 ∷ 5 ∷ 6 ∷ 7 ∷ []) ≡ wrote 5 (0x0f ∷ 0x6f ∷ 0x4c ∷ 0xb3 ∷ 0xf0 ∷ 6 ∷ 7 ∷ [])
  pub as_long : write_to shift (1 ∷ 2 ∷ 3 ∷ 4 ∷ []) ≡ wrote 4 (0x0f ∷ 0x72 ∷ 0xd2 ∷ 5 ∷ [])
  -- 12, and the buffer as it was
  pub shorter : write_to shift (1 ∷ 2 ∷ 3 ∷ []) ≡ refused_with 12 (1 ∷ 2 ∷ 3 ∷ [])
  -- register 8: 11, before 12
  pub no_bytes : write_to (load 8) (1 ∷ []) ≡ refused_with 11 (1 ∷ [])
  -- the paper's answer for what is handed back: the number, or the length
  pub paper : (paper_of_writing (Err NoBytes) (1 ∷ []) ≡ refused_with 11 (1 ∷ [])) × (paper_of_writing (Ok 4) (1 ∷ []) ≡ wrote 4 (1 ∷ []))

pub written : WrittenExamples
unfolding allows form_at has_sib displacement_size sib_fits operand_fits operand_is_zero parts_fit opcode_fits has_bytes sib_bytes displacement_bytes operand_bytes parts_bytes bytes_of write_to
written = record { longer = refl; as_long = refl; shorter = refl; no_bytes = refl; paper = (refl, refl) }

-- MOV EAX, 12345678 hex
abbrev move : Instruction
move = instruction_of 0xb8 0 no_operand 0x12345678

pub record LoopExamples : Type 0 where
  -- the immediate's bytes are the lowest first, and all four must be there
  pub moves : read_part (0xb8 ∷ 0x78 ∷ 0x56 ∷ 0x34 ∷ 0x12 ∷ 0x90 ∷ []) ≡ good move 5
  pub move_ends : read_part (0xb8 ∷ 0 ∷ 0 ∷ 0 ∷ []) ≡ refused 3
  -- ADD ECX, -1; another mod and another digit are barred before the immediate is looked for
  pub adds : read_part (0x83 ∷ 0xc1 ∷ 0xff ∷ []) ≡ good (instruction_of 0x83 0 (registers 0 1) 0xff) 3
  pub add_ends : (read_part (0x83 ∷ []) ≡ refused 3) × (read_part (0x83 ∷ 0xc0 ∷ []) ≡ refused 3)
  pub add_barred : (read_part (0x83 ∷ 0x00 ∷ []) ≡ refused 6) × (read_part (0x83 ∷ 0xc8 ∷ []) ≡ refused 6)
  -- DEC ECX is one byte
  pub decrements : read_part (0x49 ∷ []) ≡ good (instruction_of 0x49 0 no_operand 0) 1
  pub jumps : read_part (0x75 ∷ 0xfe ∷ []) ≡ good (instruction_of 0x75 0 no_operand 0xfe) 2
  pub jump_ends : read_part (0x75 ∷ []) ≡ refused 3
  -- after 0F, 75 is PCMPEQW's byte, and 83 is none
  pub escaped : read_part (0x0f ∷ 0x75 ∷ 0xc0 ∷ []) ≡ good (instruction_of 0x0f 0x75 (registers 0 0) 0) 3
  pub not_listed : read_part (0x0f ∷ 0x83 ∷ 0xc0 ∷ 0 ∷ []) ≡ refused 5
  -- written back; with another second byte than 0 a record has no bytes
  pub moved : write_to move (1 ∷ 2 ∷ 3 ∷ 4 ∷ 5 ∷ 6 ∷ []) ≡ wrote 5 (0xb8 ∷ 0x78 ∷ 0x56 ∷ 0x34 ∷ 0x12 ∷ 6 ∷ [])
  pub decremented : write_to (instruction_of 0x49 0 no_operand 0) (1 ∷ []) ≡ wrote 1 (0x49 ∷ [])
  pub no_second : write_to (instruction_of 0x49 1 no_operand 0) (1 ∷ 2 ∷ []) ≡ refused_with 11 (1 ∷ 2 ∷ [])

pub of_loops : LoopExamples
unfolding allows form_at form_of_first has_sib displacement_size immediate_reader displacement_reader sib_reader modrm_reader form_reader first_reader second_reader instruction_reader operand_fits operand_is_zero parts_fit opcode_fits has_bytes sib_bytes displacement_bytes operand_bytes parts_bytes bytes_of write_to
of_loops = record {
  moves = refl;
  move_ends = refl;
  adds = refl;
  add_ends = (refl, refl);
  add_barred = (refl, refl);
  decrements = refl;
  jumps = refl;
  jump_ends = refl;
  escaped = refl;
  not_listed = refl;
  moved = refl;
  decremented = refl;
  no_second = refl;
}

-- PSWAPD MM1, [EBX + ESI * 4 - 16], and the same with another suffix
abbrev swap : ℕ → Instruction
swap suffix = instruction_of 0x0f 0x0f (record { mode = 1; reg = 1; rm = 4; scale = 2; index = 6; base = 3; displacement = 0xf0 }) suffix

pub record SuffixExamples : Type 0 where
  -- the suffix is the last byte, after the displacement, and the record's immediate as it stood
  pub swaps : read_part (0x0f ∷ 0x0f ∷ 0x4c ∷ 0xb3 ∷ 0xf0 ∷ 0xbb ∷ 0x90 ∷ []) ≡ good (swap 0xbb) 6
  pub maximum : read_part (0x0f ∷ 0x0f ∷ 0xc1 ∷ 0xa4 ∷ []) ≡ good (instruction_of 0x0f 0x0f (registers 0 1) 0xa4) 4
  -- 3 while a byte is missing, the suffix too
  pub ends : (read_part (0x0f ∷ 0x0f ∷ []) ≡ refused 3) × ((read_part (0x0f ∷ 0x0f ∷ 0xc0 ∷ []) ≡ refused 3) × (read_part (0x0f ∷ 0x0f ∷ 0x04 ∷ []) ≡ refused 3))
  -- 5 for a suffix that is not listed: PFMUL's; and for the second bytes beside 0F
  pub unlisted : read_part (0x0f ∷ 0x0f ∷ 0xc0 ∷ 0xb4 ∷ []) ≡ refused 5
  pub beside : (read_part (0x0f ∷ 0x0d ∷ []) ≡ refused 5) × (read_part (0x0f ∷ 0x0e ∷ []) ≡ refused 5)
  -- written back; a record with that suffix has no bytes
  pub swapped : write_to (swap 0xbb) (1 ∷ 2 ∷ 3 ∷ 4 ∷ 5 ∷ 6 ∷ 7 ∷ []) ≡ wrote 6 (0x0f ∷ 0x0f ∷ 0x4c ∷ 0xb3 ∷ 0xf0 ∷ 0xbb ∷ 7 ∷ [])
  pub no_suffix : write_to (swap 0xb4) (1 ∷ []) ≡ refused_with 11 (1 ∷ [])

pub of_suffixes : SuffixExamples
unfolding allows form_at form_of_first has_sib displacement_size immediate_reader displacement_reader sib_reader modrm_reader form_reader first_reader second_reader instruction_reader sib_fits operand_fits operand_is_zero parts_fit opcode_fits has_bytes sib_bytes displacement_bytes operand_bytes parts_bytes bytes_of write_to
of_suffixes = record {
  swaps = refl;
  maximum = refl;
  ends = (refl, (refl, refl));
  unlisted = refl;
  beside = (refl, refl);
  swapped = refl;
  no_suffix = refl;
}
