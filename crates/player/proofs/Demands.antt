-- The customer's three demands in the letter's words, each sentence with the theorems that keep it.

-- 1. "Every code block, register setting, lent memory and file gets an answer, and every call ends." No public function asks for anything, and a
-- function that is proved ends; each contract allows one answer; and no text is cut.
pub use Rattle.lanes.proofs.Allowed.{operate_one, extract_one, insert_one, shuffle_one, top_bits_one, blend_one}
pub use Rattle.singles.proofs.Allowed.{maximum_one, greater_one, to_words_one, from_words_one, swapped_one, of_one as singles_of_one}
pub use Rattle.words.proofs.Allowed.{load_one, store_one}
pub use Rattle.codec.proofs.Allowed.{allowed_one, is_suffix_one, table_one, read_from_one, read_one, write_one}
pub use Rattle.works.proofs.Allowed.{work_of_one, refused_one, barred_one, table_one as open_table_one, is_inside_one, extended_one, miss_of_one, target_of_one, of_suffix_one, suffixed_one, perform_one}
pub use Rattle.machine.proofs.Allowed.{from_page_one, step_one, run_one, footprint_one, meets_one}
pub use Rattle.pagefile.proofs.Allowed.{read_one as page_one, code_one, memory_one, mmx_registers_one, integer_registers_one}
pub use Rattle.printout.proofs.Allowed.{buffer_one, report_one, refusal_one}
pub use Rattle.player.proofs.Allowed.{play_one}
pub use Rattle.player.proofs.Whole.{whole}
-- "Bad input is refused by the numbers in document 01": 2 to 6 of reading, 11 and 12 of writing, 1 to 10 of a step, 13 of a file, each given exactly
-- when document 01 says, 14 of a step, when document 02's Req 04 says, 19, when Req 07 does, 20 and 21, when Req 08 does, and 22, when Req 10 does;
-- and whichever function is asked, the number is the same.
pub use Rattle.codec.proofs.Exactly.{reading_exactly, twelve_exactly}
pub use Rattle.codec.proofs.Sixes.{six_in_words}
pub use Rattle.codec.proofs.Theorems.{eleven_exactly}
pub use Rattle.manual.proofs.Exactly.{step_exactly}
pub use Rattle.manual.proofs.StackBases.{fourteen_in_words}
pub use Rattle.manual.proofs.JumpTargets.{nineteen_in_words}
pub use Rattle.manual.proofs.Stores.{twenty_one_in_words, stores_exactly}
pub use Rattle.manual.proofs.ReadPairs.{twenty_two_in_words}
pub use Rattle.machine.proofs.Agreeing.{reading_as_step, footprint_as_step, run_as_step}
pub use Rattle.pagefile.proofs.Meaning.{thirteen_exactly}
-- "A refused instruction changes no register, mark or memory byte; a refused run keeps what earlier instructions did."
pub use Rattle.manual.proofs.Refusals.{refused_step, refused_run}
-- 2. "Reading, writing and running agree with AMD's multimedia manual for all 47 of its instructions", and by document 02's Req 01 with manual 000
-- for the 19 that it adds, by Req 07 with the AMD64 manual for the four of loops, and by Req 10 with manuals 000 and 003 for six of 3DNow. The
-- definitions are computed from the lists of their headings, which are complete and say what document 01's table, manual 000's, the AMD64 manual's and
-- the six suffixes say; each cell of the six's tables is computed.
pub use Rattle.codec.proofs.Headings.{complete}
pub use Rattle.codec.proofs.OpcodeBytes.{first_byte_count, second_bytes}
pub use Rattle.manual.proofs.OpcodeTable.{agrees, loops_agree}
pub use Rattle.singles.proofs.Illustrations.{illustrations-hold}
pub use Rattle.singles.proofs.Failing.{fails_where, leaves_where}
-- "Each instruction form has exactly the bytes the manual gives it, and those bytes give that form back."
pub use Rattle.codec.proofs.Theorems.{read_writes_back, written-reads_back, reading_in_range}
-- "Each completed step leaves exactly the registers, memory and tag mark the manual states": the contract of `Machine::step` is an equation with the
-- definition, and a run's turn is a step; the plates; what the definition says of tags, and that prefetches and SFENCE touch nothing; and that a step
-- goes by what its footprint reads and changes what it writes.
pub use Rattle.manual.proofs.Turns.{turn}
pub use Rattle.manual.proofs.Computed.{computed}
pub use Rattle.manual.proofs.Uses.{tag_after, emms_leaves, silent_passes, goes_by_reads, step_alike, changes_writes, footprint_exactly}
-- 3. "Put its instructions in any other order that keeps, for each pair whose footprints meet in that run, the earlier one earlier. .. the new block
-- also runs to its end, in as many instructions, and leaves exactly the registers, tag mark and memory." Of a block without a jump, and the zero mark
-- too, by Req 07. Over the definitions, and over calls of the program's own functions; such calls can be had; which blocks have a jump: those in
-- which reading from 0 onward comes to 75 and a byte; and which instructions meet: EMMS every other but prefetches and SFENCE, which meet none; ADD and
-- DEC each other and a jump.
pub use Rattle.manual.proofs.Demand3.{demand_3, footprint-asked, rearranged_parts}
pub use Rattle.manual.proofs.Reaching.{reaches_jump_exactly, has_no_jump_exactly}
pub use Rattle.manual.proofs.Meeting.{meets_exactly, meeting_symmetric, silent_meets_none, emms_meets_loops, counts_meet, jump_meets_counts, jumps_apart}
pub use Rattle.machine.proofs.Positions.{meet_at}
pub use Rattle.machine.proofs.Program.{demand_3_run, recorded}
-- Document 02, Req 07: what MOV, ADD, DEC and JNZ leave, read and write, whatever the marks; the zero mark is written by ADD and DEC alone; every
-- instruction but a jump that is taken goes on behind itself, and such a jump at the position after it plus the signed byte; a run without a jump is
-- not spent.
pub use Rattle.manual.proofs.Loops.{mov_leaves, add-leaves, dec_leaves, jump_leaves, mov_touches, add_touches, dec_touches, jump_touches}
pub use Rattle.manual.proofs.ZeroMark.{zero_kept}
pub use Rattle.manual.proofs.Jumps.{no_jump, not_taken, forward, backward}
pub use Rattle.player.proofs.Unspent.{unspent}
-- Document 02, Req 08: "no byte below it may be written, though all may be read". None is changed, by a step or by a run, over the definitions and in
-- the memory that is lent to the program; a step over a floor is the step over floor 0, or refused; and over floor 0 neither 20 nor 21 is given.
pub use Rattle.manual.proofs.Floors.{step_keeps, run_keeps, step_or_refused}
pub use Rattle.manual.proofs.Bounds.{step_zero, run_zero}
pub use Rattle.machine.proofs.Floors.{step_keeps_memory, run_keeps_memory}
