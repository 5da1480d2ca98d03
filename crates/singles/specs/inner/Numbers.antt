-- The same tables over the numbers that halves stand for.
use Rattle.std.specs.Prelude.{ℕ, ◌-◌, ◌^◌, cond, eqb, Float, Option, Some, None}
use Rattle.basis.specs.Names.{binary32, of_bits, to_unsigned, neg, lt}
use Rattle.singles.specs.Ranges.{exponent}
use Rattle.singles.specs.declared.classes.Class.{Class}
use Rattle.singles.specs.declared.classes.Class.TheVariants.{Zero, Normal, Unsupported}

-- the class of a half that stands for a number
unfoldable pub sort : ℕ → Float → Class
sort half number = cond (eqb (exponent half) 0xFF) Unsupported (cond (eqb (exponent half) 0x00) Zero (Normal number))

unfoldable pub class_of : ℕ → Class
class_of half = sort half (of_bits binary32 half)

-- the numbers that the code compares with: +0, -1, 32768 and -32768
abbrev pub plus_zero : Float
plus_zero = of_bits binary32 0x0000_0000

abbrev pub minus_one : Float
minus_one = of_bits binary32 0xBF80_0000

abbrev pub upper_end : Float
upper_end = of_bits binary32 0x4700_0000

abbrev pub lower_end : Float
lower_end = of_bits binary32 0xC700_0000

-- 003, Table 10
unfoldable pub greater : Class → Class → Option ℕ
greater Zero Zero = Some 0
greater Zero (Normal y) = Some (cond (lt y plus_zero) 0xFFFF_FFFF 0)
greater Zero Unsupported = None
greater (Normal x) Zero = Some (cond (lt plus_zero x) 0xFFFF_FFFF 0)
greater (Normal x) (Normal y) = Some (cond (lt y x) 0xFFFF_FFFF 0)
greater (Normal x) Unsupported = None
greater Unsupported y = None

-- 003, Table 11, of two halves and their classes
unfoldable pub maximum : ℕ → ℕ → Class → Class → Option ℕ
maximum a b Zero Zero = Some 0
maximum a b Zero (Normal y) = Some (cond (lt plus_zero y) b 0)
maximum a b Zero Unsupported = None
maximum a b (Normal x) Zero = Some (cond (lt plus_zero x) a 0)
maximum a b (Normal x) (Normal y) = Some (cond (lt y x) a b)
maximum a b (Normal x) Unsupported = None
maximum a b Unsupported y = None

-- 000, Table 3: the rows of a normal number, and all rows
unfoldable pub rounded : Float → ℕ
rounded x =
    cond (lt minus_one x) (cond (lt x upper_end) (to_unsigned 64 x) 0x7FFF) (cond (lt lower_end x) (2 ^ 32 - to_unsigned 64 (neg x)) 0xFFFF_8000)

unfoldable pub word : Class → Option ℕ
word Zero = Some 0
word (Normal x) = Some (rounded x)
word Unsupported = None
