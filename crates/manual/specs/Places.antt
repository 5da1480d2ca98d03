-- The places that steps read and write: MMX registers, integer registers, single memory bytes, the zero mark.
use Rattle.std.specs.Prelude.{Bool, true, cond, List, map, ℕ, eqb, leb, get_or, set}
use Rattle.codec.specs.Fits.{all}
use Rattle.manual.specs.State.{State, with_mmx, with_integer, with_memory, with_zero}

pub data Place : Type 0 where
  mmx integer byte : ℕ → Place
  zero_mark : Place

-- what stands in a place: in the zero mark 1 or 0
abbrev pub look : State → Place → ℕ
look s (mmx k) = get_or s.mmx k 0
look s (integer k) = get_or s.integers k 0
look s (byte a) = get_or s.memory a 0
look s zero_mark = cond s.marks.zero 1 0

-- the state with a number put into a place
abbrev pub put : State → Place → ℕ → State
put s (mmx k) value = with_mmx s k value
put s (integer k) value = with_integer s k value
put s (byte a) value = with_memory s (set s.memory a value)
put s zero_mark value = with_zero s (eqb value 1)

-- a place that may be written over a floor: any but a byte below it
abbrev pub is_writable : ℕ → Place → Bool
is_writable floor (mmx k) = true
is_writable floor (integer k) = true
is_writable floor (byte a) = leb floor a
is_writable floor zero_mark = true

abbrev pub all_writable : ℕ → List Place → Bool
all_writable floor ps = all (map (is_writable floor) ps)
