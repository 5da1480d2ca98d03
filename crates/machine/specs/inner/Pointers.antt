-- What the code knows of an operand in memory when it has read its bytes.
use Rattle.std.specs.Prelude.{◌≡◌, List, ℕ, ◌+◌, ◌%◌, ◌^◌, ◌≤◌, length, take, drop}
use Rattle.words.specs.Number.{number}
use Rattle.codec.specs.Forms.{Form}
use Rattle.codec.specs.Operands.{operand_of}
use Rattle.codec.specs.Reader.{reads}
use Rattle.codec.specs.Reads.{immediate_reader, sib_reader}
use Rattle.codec.specs.Finding.{found}
use Rattle.manual.specs.Addresses.{displacement_of, address_of, address}
use Rattle.machine.specs.declared.pointers.Pointer.{Pointer}

-- past a displacement of so many bytes, which a mode extends, added to a start
pub record Displaced (p : Pointer) (start mode size : ℕ) (code : List ℕ) (at : ℕ) : Type 0 where
  pub room : at + size ≤ length code
  pub next : p.next ≡ at + size
  pub address : p.address ≡ (start + displacement_of mode (number (take size (drop at code))) % 2 ^ 32) % 2 ^ 32

-- past all that a ModRM byte asks for: an SIB byte (or 0) and a displacement, which are those that the reader reads
pub record Points (p : Pointer) (integers code : List ℕ) (at modrm : ℕ) : Type 0 where
  pub sib : ℕ
  pub displacement : ℕ
  pub read : (form : Form) (first second entry : ℕ)
      → found entry (reads (immediate_reader form first second (operand_of modrm sib displacement)) p.next (drop p.next code))
      ≡ found entry (reads (sib_reader form first second modrm) at (drop at code))
  pub room : p.next ≤ length code
  pub address : p.address ≡ address integers (address_of (operand_of modrm sib displacement))
