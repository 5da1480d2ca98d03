-- The address of an operand in memory: base plus index times scale plus displacement, in 32 bits.
use Rattle.std.specs.Prelude.{Bool, false, cond, ◌&&◌, ◌||◌, List, [], ◌∷◌, ◌++◌, ℕ, ◌+◌, ◌*◌, ◌-◌, ◌^◌, ◌%◌, eqb, leb, get_or}
use Rattle.basis.specs.Names.{Option, none, some}
use Rattle.codec.specs.Operands.{has_sib}
use Rattle.codec.specs.declared.Operand.{Operand}

-- an address by its parts: the numbers of the base and index registers, the scale's two bits, and 32 bits of displacement
pub record Address : Type 0 where
  pub base : Option ℕ
  pub index : Option ℕ
  pub scale : ℕ
  pub displacement : ℕ

-- a signed byte in 32 bits
abbrev pub signed_byte : ℕ → ℕ
signed_byte byte = cond (leb 128 byte) (byte + (2 ^ 32 - 2 ^ 8)) byte

-- at mod 01 the displacement is a signed byte
unfoldable pub displacement_of : ℕ → ℕ → ℕ
displacement_of mode displacement = cond (eqb mode 1) (signed_byte displacement) displacement

-- at mod 00, 101 is no base
unfoldable pub base_of : ℕ → ℕ → Option ℕ
base_of mode register = cond (eqb mode 0 && eqb register 5) none (some register)

-- index 100 is no index
unfoldable pub index_of : ℕ → Option ℕ
index_of register = cond (eqb register 4) none (some register)

-- with an SIB byte, base and index are named there; else rm is the base
unfoldable pub address_of : Operand → Address
address_of w =
    cond (has_sib w.mode w.rm)
    (record {
      base = base_of w.mode w.base;
      index = index_of w.index;
      scale = w.scale;
      displacement = displacement_of w.mode w.displacement;
    })
    (record {
      base = base_of w.mode w.rm;
      index = none;
      scale = 0;
      displacement = displacement_of w.mode w.displacement;
    })

-- whether there is a base register, and it is one of the stack's: ESP, which is 4, or EBP, which is 5
abbrev pub is_stack_base : Option ℕ → Bool
is_stack_base none = false
is_stack_base (some k) = eqb k 4 || eqb k 5

-- what a register adds to the sum, if there is one
abbrev pub register_part : List ℕ → Option ℕ → ℕ
register_part integers none = 0
register_part integers (some k) = get_or integers k 0

-- with these integer registers: base plus index times 1, 2, 4 or 8 plus displacement; the sum wraps at 2^32
unfoldable pub address : List ℕ → Address → ℕ
address integers a =
    (register_part integers a.base + register_part integers a.index * 2 ^ a.scale + a.displacement) % 2 ^ 32

-- the integer registers that an address is made of
abbrev pub registers_of : Option ℕ → List ℕ
registers_of none = []
registers_of (some k) = k ∷ []

abbrev pub address_registers : Address → List ℕ
address_registers a = registers_of a.base ++ registers_of a.index
