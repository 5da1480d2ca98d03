-- What the code knows of an instruction that it has read and gathered at once.
use Rattle.std.specs.Prelude.{◌≡◌, true, List, ℕ, ◌+◌, ◌/◌, ◌^◌, ◌<◌, leb, length, get_or, drop, Result, Ok}
use Rattle.reorder.specs.Result.{done}
use Rattle.codec.specs.Opcodes.{escape}
use Rattle.words.specs.Buffer.{loaded}
use Rattle.codec.specs.Forms.{accepts}
use Rattle.codec.specs.Table.{form_of}
use Rattle.codec.specs.Reader.{reads}
use Rattle.codec.specs.Reads.{form_reader}
use Rattle.codec.specs.Finding.{found}
use Rattle.codec.specs.declared.Found.{Found}
use Rattle.works.specs.declared.Work.{Work}
use Rattle.works.specs.Works.{to_operate, work_of}
use Rattle.works.specs.Siblings.{suffixed_work}
use Rattle.machine.specs.inner.Works.{effect_in, Listed, Does}

-- a work does what was found, where that has an entry of our table
pub record Quick (work : Work) (registers integers memory : List ℕ) (reading : Result Found ℕ) : Type 0 where
  pub x : Found
  pub passed : Ok x ≡ reading
  pub present : x.entry / 2 ^ 24 ≡ 0 → ⊥
  pub escaped : x.instruction.first ≡ escape
  pub does : Listed x.entry → Does work registers integers memory (effect_in x.entry x.instruction) (done x.next)

-- what is found at a position after an opcode, by the table's entry for it
abbrev pub after_opcode : ℕ → ℕ → List ℕ → ℕ → Result Found ℕ
after_opcode entry second code at = found entry (reads (form_reader (form_of (entry / 2 ^ 24)) escape second) at (drop at code))

-- a work does what is found there, whatever the second byte that has this entry
pub record QuickAfter (work : Work) (registers integers memory : List ℕ) (entry : ℕ) (code : List ℕ) (at : ℕ) : Type 0 where
  pub quick : (second : ℕ) → Quick work registers integers memory (after_opcode entry second code at)

-- a work with so many bytes at an address, which all lie in memory
pub record Within (work made : Work) (address size room : ℕ) : Type 0 where
  pub is : work ≡ made
  pub inside : leb (address + size) room ≡ true

-- the work of a suffix, which stands at a position of the code, with what the register at a place held and the operand's number
pub record SuffixAt (work : Work) (old place value : ℕ) (code : List ℕ) (at : ℕ) : Type 0 where
  pub room : at < length code
  pub listed : accepts (form_of 16) (get_or code at 0) ≡ true
  pub is : work ≡ suffixed_work (get_or code at 0) old (work_of to_operate 0 place value (at + 1))

-- the same, where the operand is in memory, with all its bytes
pub record SuffixInMemory (work : Work) (old place : ℕ) (memory : List ℕ) (address : ℕ) (code : List ℕ) (at : ℕ) : Type 0 where
  pub suffixed : SuffixAt work old place (loaded memory address 8) code at
  pub inside : leb (address + 8) (length memory) ≡ true
