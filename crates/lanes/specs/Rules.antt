-- What each family of packed instructions leaves, once over the lane width w, in the order of document 01's section of that name; then those of
-- manual 000, in its order.
use Rattle.std.specs.Prelude.{ℕ, zero, suc, ◌+◌, ◌-◌, ◌*◌, ◌/◌, ◌%◌, ◌^◌, min, Bool, cond, ltb, eqb, ℤ, pos, ◌+ℤ◌, ◌-ℤ◌, ◌*ℤ◌}
use Rattle.basis.specs.Names.{lt_z, shr_z, bit_and}
use Rattle.lanes.specs.Lane.{lane, build, register, top_bit}
use Rattle.lanes.specs.Signed.{signed, wrap, clamp_signed, clamp_unsigned}

-- A rule gives lane i of the result, of w bits, from the whole destination and source: rule w destination source i.

-- the whole result
unfoldable pub packed : (ℕ → ℕ → ℕ → ℕ → ℕ) → ℕ → ℕ → ℕ → ℕ
packed rule w destination source = register w (rule w destination source)

-- the rule of an operation on a lane a of the destination and the same lane b of the source
unfoldable pub pairwise : (ℕ → ℕ → ℕ → ℕ) → ℕ → ℕ → ℕ → ℕ → ℕ
pairwise operation w destination source i = operation w (lane w i destination) (lane w i source)

-- PADD, PSUB: wrap in their lane

unfoldable pub sum : ℕ → ℕ → ℕ → ℕ
sum w a b = wrap w (pos a +ℤ pos b)

unfoldable pub difference : ℕ → ℕ → ℕ → ℕ
difference w a b = wrap w (pos a -ℤ pos b)

-- PADDS, PSUBS: signed, clamped

unfoldable pub sum_signed : ℕ → ℕ → ℕ → ℕ
sum_signed w a b = wrap w (clamp_signed w (signed w a +ℤ signed w b))

unfoldable pub difference_signed : ℕ → ℕ → ℕ → ℕ
difference_signed w a b = wrap w (clamp_signed w (signed w a -ℤ signed w b))

-- PADDUS, PSUBUS: unsigned, clamped

unfoldable pub sum_unsigned : ℕ → ℕ → ℕ → ℕ
sum_unsigned w a b = wrap w (clamp_unsigned w (pos a +ℤ pos b))

unfoldable pub difference_unsigned : ℕ → ℕ → ℕ → ℕ
difference_unsigned w a b = wrap w (clamp_unsigned w (pos a -ℤ pos b))

-- PCMPEQ, PCMPGT: all ones or all zeros; PCMPGT is signed, destination against source

abbrev pub all_ones : ℕ → Bool → ℕ
all_ones w t = cond t (2 ^ w - 1) 0

unfoldable pub equal : ℕ → ℕ → ℕ → ℕ
equal w a b = all_ones w (eqb a b)

unfoldable pub greater : ℕ → ℕ → ℕ → ℕ
greater w a b = all_ones w (lt_z (signed w b) (signed w a))

-- PMULL, PMULH: the low and the high half of the signed product

abbrev pub product : ℕ → ℕ → ℕ → ℤ
product w a b = signed w a *ℤ signed w b

unfoldable pub product_low : ℕ → ℕ → ℕ → ℕ
product_low w a b = wrap w (product w a b)

unfoldable pub product_high : ℕ → ℕ → ℕ → ℕ
product_high w a b = wrap w (shr_z (product w a b) (2 ^ w))

-- PMADD: the two signed products of each pair of lanes of half the width, added, wrapping

unfoldable pub product_sum : ℕ → ℕ → ℕ → ℕ
product_sum w a b =
    let h = w / 2 in
    wrap w (product h (lane h 0 a) (lane h 0 b) +ℤ product h (lane h 1 a) (lane h 1 b))

-- PACK: signed lanes of twice the width, clamped; the destination's go to the low half, the source's to the high half

unfoldable pub pack : (ℕ → ℤ → ℤ) → ℕ → ℕ → ℕ → ℕ → ℕ
pack clamped w destination source i =
    let n = 32 / w in
    wrap w (clamped w (signed (w + w) (lane (w + w) (i % n) (cond (ltb i n) destination source))))

-- PUNPCK: the lanes from the first one of the half on, in turn, the destination's before the source's; the low half starts at lane 0,
-- the high half after 32 bits

unfoldable pub unpack : ℕ → ℕ → ℕ → ℕ → ℕ → ℕ
unpack first w destination source i = lane w (first + i / 2) (cond (eqb (i % 2) 0) destination source)

abbrev pub unpack_low : ℕ → ℕ → ℕ → ℕ → ℕ
unpack_low = unpack 0

abbrev pub unpack_high : ℕ → ℕ → ℕ → ℕ → ℕ
unpack_high w = unpack (32 / w) w

-- PANDN: (not destination) and source

unfoldable pub and_not : ℕ → ℕ → ℕ
and_not destination source = bit_and (2 ^ 64 - 1 - destination) source

-- PSLL, PSRL, PSRA: the count is the whole source; from w on it moves every bit out, and PSRA fills with the sign

unfoldable pub shift : (ℕ → ℕ → ℕ → ℕ) → ℕ → ℕ → ℕ → ℕ → ℕ
shift operation w destination count i = operation w (lane w i destination) (min count w)

unfoldable pub left : ℕ → ℕ → ℕ → ℕ
left w a count = a * 2 ^ count % 2 ^ w

unfoldable pub right : ℕ → ℕ → ℕ → ℕ
right w a count = a / 2 ^ count

unfoldable pub right_signed : ℕ → ℕ → ℕ → ℕ
right_signed w a count = wrap w (shr_z (signed w a) (2 ^ count))

-- MASKMOVQ: the source's lanes where the mask's have their top bit set, else the destination's

unfoldable pub blend : ℕ → ℕ → ℕ → ℕ → ℕ → ℕ
blend mask w destination source i = cond (eqb (top_bit w mask i) 1) (lane w i source) (lane w i destination)

-- PAVG: the mean of unsigned lanes, rounded up

unfoldable pub mean : ℕ → ℕ → ℕ → ℕ
mean w a b = (a + b + 1) / 2

-- PEXTR: one lane, the place counted round the register's lanes (of four words, by its low two bits)

unfoldable pub extract : ℕ → ℕ → ℕ → ℕ
extract w source place = lane w (place % (64 / w)) source

-- PINSR: the low w bits of the source in that lane, and the destination's other lanes

unfoldable pub insert : ℕ → ℕ → ℕ → ℕ → ℕ → ℕ
insert place w destination source i = cond (eqb i (place % (64 / w))) (source % 2 ^ w) (lane w i destination)

-- PMAX, PMIN: the greater and the lesser of two lanes, signed or unsigned

unfoldable pub maximum_signed : ℕ → ℕ → ℕ → ℕ
maximum_signed w a b = cond (lt_z (signed w b) (signed w a)) a b

unfoldable pub maximum_unsigned : ℕ → ℕ → ℕ → ℕ
maximum_unsigned w a b = cond (ltb b a) a b

unfoldable pub minimum_signed : ℕ → ℕ → ℕ → ℕ
minimum_signed w a b = cond (lt_z (signed w b) (signed w a)) b a

unfoldable pub minimum_unsigned : ℕ → ℕ → ℕ → ℕ
minimum_unsigned w a b = cond (ltb b a) b a

-- PMOVMSK: the lanes' top bits, side by side

unfoldable pub top_bits : ℕ → ℕ → ℕ
top_bits w source = build 1 (64 / w) (top_bit w source)

-- PMULHU: the high half of the unsigned product

unfoldable pub product_high_unsigned : ℕ → ℕ → ℕ → ℕ
product_high_unsigned w a b = a * b / 2 ^ w

-- PSAD: the distances of the unsigned lanes, added up; the sum is the whole result

unfoldable pub distance : ℕ → ℕ → ℕ
distance a b = cond (ltb a b) (b - a) (a - b)

-- f 0 + f 1 + .., so many
unfoldable pub total : ℕ → (ℕ → ℕ) → ℕ
total zero f = 0
total (suc n) f = f n + total n f

unfoldable pub distances : ℕ → ℕ → ℕ → ℕ
distances w destination source = total (64 / w) (λ i. distance (lane w i destination) (lane w i source))

-- PSHUF: lane i is that lane of the source which the order's i-th digit names; a digit has as many values as there are lanes

unfoldable pub shuffle : ℕ → ℕ → ℕ → ℕ → ℕ
shuffle w source order i = let n = 64 / w in lane w (order / n ^ i % n) source
