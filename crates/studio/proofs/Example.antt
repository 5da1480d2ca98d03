-- Questions with their answers: of the example block of demand 3, and of a block with EMMS, loop instructions and a jump. Computed.
use Rattle.std.specs.Prelude.{◌≡◌, refl, false, List, [], ◌∷◌, ℕ, replicate}
use Rattle.lanes.specs.Lane.{lane, build, register}
use Rattle.lanes.specs.Signed.{wrap, clamp, clamp_unsigned}
use Rattle.lanes.specs.Rules.{packed, pairwise, sum_unsigned}
use Rattle.lanes.specs.Operations.{operate}
use Rattle.reorder.specs.Run.{stopped}
use Rattle.codec.specs.Forms.{allows}
use Rattle.codec.specs.Opcodes.{form_at, operation_at, form_of_first}
use Rattle.codec.specs.Operands.{has_sib, displacement_size}
use Rattle.codec.specs.Reads.{immediate_reader, displacement_reader, sib_reader, modrm_reader, form_reader, refusal_of, first_reader, second_reader, instruction_reader, read_at}
use Rattle.manual.specs.State.{State}
use Rattle.manual.specs.Places.{mmx, integer, byte, zero_mark}
use Rattle.manual.specs.Addresses.{displacement_of, base_of, address_of, address}
use Rattle.manual.specs.Locations.{rm_of}
use Rattle.manual.specs.Instructions.{effect_of, execute, footprint}
use Rattle.manual.specs.Jumps.{onward_by}
use Rattle.manual.specs.Steps.{instruction_at}
use Rattle.manual.specs.Runs.{read, run_of}
use Rattle.manual.specs.Footprints.{footprint_at}
use Rattle.manual.proofs.Marking.{clear}
use Rattle.manual.proofs.Example.{block, start, final}
use Rattle.studio.specs.declared.Manner.TheVariants.{BothWrite, WriteRead, ReadWrite}
use Rattle.studio.specs.Meetings.{Meeting, apart, emms, met_at}
use Rattle.studio.specs.Whys.{refusal, instead, told, asked, why_not}

-- what is told of two instructions of the example block
abbrev Tells : ℕ → ℕ → Meeting → Type 0
Tells i j meeting = why_not block i j start ≡ told meeting final

-- a block of other instructions
abbrev others : List ℕ
others =
    -- 0: MOVD EAX, MM0
    0x0f ∷ 0x7e ∷ 0xc0
    -- 1: MOVD MM0, EAX
    ∷ 0x0f ∷ 0x6e ∷ 0xc0
    -- 2: MOVD MM1, EAX
    ∷ 0x0f ∷ 0x6e ∷ 0xc8
    -- 3: DEC ECX
    ∷ 0x49
    -- 4: DEC EDX
    ∷ 0x4a
    -- 5: EMMS
    ∷ 0x0f ∷ 0x77
    -- 6: SFENCE
    ∷ 0x0f ∷ 0xae ∷ 0xf8
    ∷ []

-- EAX, ECX, EDX and MM1, with 9 in MM0 and no memory
abbrev with : ℕ → ℕ → ℕ → ℕ → State
with eax ecx edx mm1 =
    record { mmx = 9 ∷ mm1 ∷ replicate 6 0; integers = eax ∷ ecx ∷ edx ∷ replicate 5 0; marks = clear false; memory = [] }

abbrev TellsOther : ℕ → ℕ → Meeting → Type 0
TellsOther i j meeting = why_not others i j (with 0 5 7 0) ≡ told meeting (with 9 4 6 9)

pub record Examples : Type 0 where
  -- both write MM0, which the later reads too; in either order of the numbers
  pub both_write : Tells 0 1 (met_at (mmx 0) BothWrite)
  pub turned : Tells 1 0 (met_at (mmx 0) BothWrite)
  -- 2 stores what 1 makes, and 4 reads it
  pub stored : Tells 1 2 (met_at (mmx 0) WriteRead)
  pub loaded : Tells 2 4 (met_at (byte 8) WriteRead)
  -- two loads do not meet
  pub loads : Tells 0 3 apart
  -- MM0 is lower than EAX, which 0 writes and 1 reads
  pub lower : TellsOther 0 1 (met_at (mmx 0) ReadWrite)
  pub in_integer : TellsOther 0 2 (met_at (integer 0) WriteRead)
  pub in_zero_mark : TellsOther 3 4 (met_at zero_mark BothWrite)
  -- EMMS meets what shares no place with it, but not SFENCE
  pub empties : TellsOther 2 5 emms
  pub silent : TellsOther 5 6 apart
  -- two equal numbers; one that is the count
  pub equal : why_not block 1 1 start ≡ refusal 29 final
  pub past : why_not block 5 0 start ≡ refusal 29 final
  -- the run's refusal before 29, and 30 before both
  pub damaged : why_not (0x0f ∷ []) 1 1 start ≡ instead (stopped 3 0 0 start)
  pub jumps : why_not (0x75 ∷ 0x00 ∷ 0x0f ∷ []) 1 1 start ≡ refusal 30 start
  -- a jump behind what reading refuses is not reached
  pub unreached : why_not (0x90 ∷ 0x75 ∷ 0x00 ∷ []) 0 1 start ≡ instead (stopped 5 0 0 start)

pub examples : Examples
unfolding lane build register wrap clamp clamp_unsigned packed pairwise sum_unsigned operate allows form_at operation_at form_of_first has_sib displacement_size immediate_reader displacement_reader sib_reader modrm_reader form_reader refusal_of first_reader second_reader instruction_reader read_at displacement_of base_of address_of address rm_of effect_of execute footprint onward_by instruction_at read run_of footprint_at asked why_not
examples =
    record {
      both_write = refl;
      turned = refl;
      stored = refl;
      loaded = refl;
      loads = refl;
      lower = refl;
      in_integer = refl;
      in_zero_mark = refl;
      empties = refl;
      silent = refl;
      equal = refl;
      past = refl;
      damaged = refl;
      jumps = refl;
      unreached = refl;
    }
