-- The customer's example: the bytes of its file, and the whole text that is printed of it. Then a page of all five fields whose first instruction is
-- refused, so that its text shows what the fields hold; and the refusals of files.
use Rattle.std.specs.Prelude.{◌≡◌, refl, true, false, List, [], ◌∷◌, ◌++◌, map, ℕ, ltb, length, replicate, take}
use Rattle.basis.proofs.Names.{ap}
use Rattle.words.specs.Buffer.{loaded}
use Rattle.reorder.proofs.Permutation.{from}
use Rattle.codec.specs.Opcodes.{form_at, operation_at}
use Rattle.codec.specs.Reads.{immediate_reader, form_reader, second_reader, instruction_reader}
use Rattle.manual.specs.State.{is_too_long, zeroed}
use Rattle.manual.specs.Instructions.{effect_of, execute}
use Rattle.manual.specs.Runs.{read, run_of}
use Rattle.manual.proofs.Computed.{computed}
use Rattle.manual.proofs.Marking.{controlled, clear}
use Rattle.machine.specs.Starts.{marks_of, start_of}
use Rattle.pagefile.specs.Fields.{may_hold}
use Rattle.pagefile.specs.Parsing.{size, holds, remaining, well_formed, contents_of, code_of, memory_of, page_of}
use Rattle.printout.specs.Characters.{ascii, digits, places, decimal}
use Rattle.printout.specs.Lines.{answer, first_line, register_lines, mmx_lines, integer_lines, tags_line, zero_line, memory_line, byte_lines, report_text, refusal_text}
use Rattle.printout.proofs.Example.{lines}
use Rattle.player.specs.Page.{state_text, answer_text, run_in, well_formed_text, page_text}

abbrev file : List ℕ
file = 0x01 ∷ 0x03 ∷ 0x00 ∷ 0x0F ∷ 0xFC ∷ 0xC1 ∷ 0x03 ∷ 0x40 ∷ 0x00 ∷ 0xFF ∷ (replicate 7 0 ++ (0x02 ∷ replicate 55 0))

pub example : page_text file
    ≡ lines
    ("done 1 at 3"
    ∷ "mm0 0000000000000001"
    ∷ "mm1 0000000000000002"
    ∷ "mm2 0000000000000000"
    ∷ "mm3 0000000000000000"
    ∷ "mm4 0000000000000000"
    ∷ "mm5 0000000000000000"
    ∷ "mm6 0000000000000000"
    ∷ "mm7 0000000000000000"
    ∷ "eax 00000000"
    ∷ "ecx 00000000"
    ∷ "edx 00000000"
    ∷ "ebx 00000000"
    ∷ "esp 00000000"
    ∷ "ebp 00000000"
    ∷ "esi 00000000"
    ∷ "edi 00000000"
    ∷ "tags valid"
    ∷ "zero 0"
    ∷ "memory 0"
    ∷ [])
unfolding loaded may_hold size holds remaining well_formed contents_of page_of start_of state_text run_in well_formed_text page_text report_text answer first_line register_lines mmx_lines integer_lines tags_line zero_line memory_line byte_lines decimal digits places
example = ap answer_text computed.customer

-- EMMS, 17 bytes of memory, the MMX registers, the integer registers, and these marks
abbrev marked : ℕ → List ℕ
marked marks =
    (0x01 ∷ 0x02 ∷ 0x00 ∷ 0x0F ∷ 0x77 ∷ [])
    ++ (0x02 ∷ 0x11 ∷ 0x00 ∷ from 0xA0 17)
    ++ (0x03 ∷ 0x40 ∷ 0x00 ∷ from 0x01 64)
    ++ (0x04 ∷ 0x20 ∷ 0x00 ∷ from 0x41 32)
    ++ (0x05 ∷ 0x01 ∷ 0x00 ∷ marks ∷ [])

-- EM, with the tags valid and the zero mark set
pub every_field : page_text (marked 0x19)
    ≡ lines
    ("refused 7 0 at 0"
    ∷ "mm0 0807060504030201"
    ∷ "mm1 100F0E0D0C0B0A09"
    ∷ "mm2 1817161514131211"
    ∷ "mm3 201F1E1D1C1B1A19"
    ∷ "mm4 2827262524232221"
    ∷ "mm5 302F2E2D2C2B2A29"
    ∷ "mm6 3837363534333231"
    ∷ "mm7 403F3E3D3C3B3A39"
    ∷ "eax 44434241"
    ∷ "ecx 48474645"
    ∷ "edx 4C4B4A49"
    ∷ "ebx 504F4E4D"
    ∷ "esp 54535251"
    ∷ "ebp 58575655"
    ∷ "esi 5C5B5A59"
    ∷ "edi 605F5E5D"
    ∷ "tags valid"
    ∷ "zero 1"
    ∷ "memory 17"
    ∷ "A0 A1 A2 A3 A4 A5 A6 A7 A8 A9 AA AB AC AD AE AF"
    ∷ "B0"
    ∷ [])
unfolding loaded may_hold size holds remaining well_formed contents_of page_of start_of form_at operation_at immediate_reader form_reader second_reader instruction_reader effect_of execute read run_of state_text run_in well_formed_text page_text report_text answer first_line register_lines mmx_lines integer_lines tags_line zero_line memory_line byte_lines decimal digits places
every_field = refl

-- TS, and pending
pub other_marks : map (λ marks. take 9 (page_text (marked marks))) (0x02 ∷ 0x04 ∷ []) ≡ ascii "refused 8" ∷ ascii "refused 9" ∷ []
unfolding loaded may_hold size holds remaining well_formed contents_of page_of start_of form_at operation_at immediate_reader form_reader second_reader instruction_reader effect_of execute read run_of state_text run_in well_formed_text page_text report_text answer first_line decimal digits places
other_marks = refl

-- the marks byte, bit by bit: EM, TS, pending, the tag mark, the zero mark
pub each_mark : map marks_of (0x01 ∷ 0x02 ∷ 0x04 ∷ 0x08 ∷ 0x10 ∷ [])
    ≡ controlled (clear false) true false false
    ∷ controlled (clear false) false true false
    ∷ controlled (clear false) false false true
    ∷ clear true
    ∷ zeroed (clear false) true
    ∷ []
each_mark = refl

-- a stray byte: 13 alone
pub stray : page_text (0x00 ∷ []) ≡ lines ("refused 13" ∷ [])
unfolding may_hold size remaining well_formed contents_of page_of page_text refusal_text decimal digits places
stray = refl

-- 1 alone where the memory is too long, whatever the code is; then 2 alone where the code is
pub memory_refused : (marks : ℕ) (file : List ℕ) → is_too_long (memory_of file) ≡ true → well_formed_text marks file ≡ lines ("refused 1" ∷ [])
unfolding well_formed_text refusal_text decimal digits places
memory_refused marks file long = rw long refl

pub code_refused : (marks : ℕ) (file : List ℕ) → is_too_long (memory_of file) ≡ false → ltb 4096 (length (code_of file)) ≡ true
    → well_formed_text marks file ≡ lines ("refused 2" ∷ [])
unfolding well_formed_text refusal_text decimal digits places
code_refused marks file fits long = rw (fits, long) refl
