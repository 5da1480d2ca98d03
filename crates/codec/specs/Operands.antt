-- Where an operand is: the fields of the ModRM and SIB bytes, and which parts a mode has.
use Rattle.std.specs.Prelude.{ℕ, ◌+◌, ◌*◌, ◌/◌, ◌%◌, Bool, not, ◌&&◌, ◌||◌, cond, eqb}
use Rattle.codec.specs.declared.Operand.{Operand}

-- a ModRM byte is mod, reg and rm, and an SIB byte scale, index and base, of 2, 3 and 3 bits
abbrev pub upper : ℕ → ℕ
upper byte = byte / 64

abbrev pub middle : ℕ → ℕ
middle byte = byte / 8 % 8

abbrev pub lower : ℕ → ℕ
lower byte = byte % 8

abbrev pub joined : ℕ → ℕ → ℕ → ℕ
joined high mid low = high * 64 + mid * 8 + low

-- rm 100 has an SIB byte, where mod is not 11
unfoldable pub has_sib : ℕ → ℕ → Bool
has_sib mode rm = not (eqb mode 3) && eqb rm 4

-- the bytes of the displacement: one at mod 01, four at mod 10, and at mod 00 four with rm 101 or with SIB base 101
unfoldable pub displacement_size : ℕ → ℕ → ℕ → ℕ
displacement_size mode rm base =
    cond (eqb mode 1) 1
    (cond (eqb mode 2) 4
    (cond (eqb mode 0 && (eqb rm 5 || (eqb rm 4 && eqb base 5))) 4 0))

-- the operand of a ModRM byte, an SIB byte (0 where there is none) and a displacement
abbrev pub operand_of : ℕ → ℕ → ℕ → Operand
operand_of modrm sib displacement =
    record {
      mode = upper modrm;
      reg = middle modrm;
      rm = lower modrm;
      scale = upper sib;
      index = middle sib;
      base = lower sib;
      displacement = displacement;
    }

-- the operand of a form that has none
abbrev pub no_operand : Operand
no_operand =
    record { mode = 0; reg = 0; rm = 0; scale = 0; index = 0; base = 0; displacement = 0 }
