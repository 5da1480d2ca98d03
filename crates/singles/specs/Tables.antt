-- What the manuals' tables give for a half: 003's Tables 10 and 11, rows source 1, which is the destination, and columns source 2; 000's Table 3; and
-- PI2FW, which has none.
use Rattle.std.specs.Prelude.{ℕ, ◌+◌, ◌-◌, ◌*◌, ◌/◌, ◌%◌, ◌^◌, Bool, true, false, cond, ltb, Option, Some, None}
use Rattle.basis.specs.Names.{binary32, to_bits, of_int}
use Rattle.lanes.specs.Signed.{signed}
use Rattle.singles.specs.Ranges.{exponent, Range, zero_range, normal_range, unsupported_range, range_of, is_negative, magnitude}

-- note *** of both, by the two signs: source 1 is positive and source 2 negative; or both are negative and source 1 is smaller in magnitude; or both
-- are positive and source 1 is greater in magnitude
abbrev pub exceeds_by : Bool → Bool → ℕ → ℕ → Bool
exceeds_by false true magnitude1 magnitude2 = true
exceeds_by true true magnitude1 magnitude2 = ltb magnitude1 magnitude2
exceeds_by false false magnitude1 magnitude2 = ltb magnitude2 magnitude1
exceeds_by true false magnitude1 magnitude2 = false

unfoldable pub exceeds : ℕ → ℕ → Bool
exceeds source1 source2 = exceeds_by (is_negative source1) (is_negative source2) (magnitude source1) (magnitude source2)

-- 003, Table 10 (PFCMPGT)
unfoldable pub greater_cell : Range → Range → ℕ → ℕ → Option ℕ
greater_cell zero_range zero_range source1 source2 = Some 0x0000_0000
greater_cell zero_range normal_range source1 source2 = Some (cond (is_negative source2) 0xFFFF_FFFF 0x0000_0000)
greater_cell zero_range unsupported_range source1 source2 = None
greater_cell normal_range zero_range source1 source2 = Some (cond (is_negative source1) 0x0000_0000 0xFFFF_FFFF)
greater_cell normal_range normal_range source1 source2 = Some (cond (exceeds source1 source2) 0xFFFF_FFFF 0x0000_0000)
greater_cell normal_range unsupported_range source1 source2 = None
greater_cell unsupported_range zero_range source1 source2 = None
greater_cell unsupported_range normal_range source1 source2 = None
greater_cell unsupported_range unsupported_range source1 source2 = None

unfoldable pub greater_half : ℕ → ℕ → Option ℕ
greater_half source1 source2 = greater_cell (range_of source1) (range_of source2) source1 source2

-- 003, Table 11 (PFMAX)
unfoldable pub maximum_cell : Range → Range → ℕ → ℕ → Option ℕ
maximum_cell zero_range zero_range source1 source2 = Some 0x0000_0000
maximum_cell zero_range normal_range source1 source2 = Some (cond (is_negative source2) 0x0000_0000 source2)
maximum_cell zero_range unsupported_range source1 source2 = None
maximum_cell normal_range zero_range source1 source2 = Some (cond (is_negative source1) 0x0000_0000 source1)
maximum_cell normal_range normal_range source1 source2 = Some (cond (exceeds source1 source2) source1 source2)
maximum_cell normal_range unsupported_range source1 source2 = None
maximum_cell unsupported_range zero_range source1 source2 = None
maximum_cell unsupported_range normal_range source1 source2 = None
maximum_cell unsupported_range unsupported_range source1 source2 = None

unfoldable pub maximum_half : ℕ → ℕ → Option ℕ
maximum_half source1 source2 = maximum_cell (range_of source1) (range_of source2) source1 source2

-- a normal half's magnitude in units of 2 ^ -150: 1 and the fraction are a whole number of 2 ^ -23, and the exponent is biased by 127
abbrev pub units : ℕ → ℕ
units half = (2 ^ 23 + half % 2 ^ 23) * 2 ^ exponent half

-- and rounded to zero
unfoldable pub whole_part : ℕ → ℕ
whole_part half = units half / 2 ^ 150

-- 000, Table 3 (PF2IW), the rows of a normal number: whether its magnitude is below 1, and below 32768, which its whole part tells; whether it is
-- negative; and its whole part
abbrev pub word_row : Bool → Bool → Bool → ℕ → ℕ
word_row true below32768 negative whole = 0
word_row false true true whole = 2 ^ 32 - whole
word_row false true false whole = whole
word_row false false false whole = 0x0000_7FFF
word_row false false true whole = 0xFFFF_8000

unfoldable pub word_cell : Range → ℕ → Option ℕ
word_cell zero_range source = Some 0
word_cell normal_range source = Some (word_row (ltb (whole_part source) 1) (ltb (whole_part source) 32768) (is_negative source) (whole_part source))
word_cell unsupported_range source = None

unfoldable pub word_half : ℕ → Option ℕ
word_half source = word_cell (range_of source) source

-- 000, PI2FW: the low word of a half, signed, as a single-precision number
unfoldable pub single_of : ℕ → ℕ
single_of source = to_bits binary32 (of_int binary32 (signed 16 (source % 2 ^ 16)))
