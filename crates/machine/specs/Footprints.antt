-- A footprint in the form that the program hands out: registers as masks, memory bytes as a range, the zero mark; and the test whether two of them
-- meet.
use Rattle.std.specs.Prelude.{Bool, true, false, not, ◌&&◌, ◌||◌, List, [], ◌∷◌, ◌++◌, ℕ, ◌+◌, ◌^◌, eqb, ltb, length, get_or, Ok, Err}
use Rattle.std.specs.Prelude as code
use Rattle.basis.specs.Names.{bit_and, bit_or}
use Rattle.reorder.specs.Result.{Result, done, refused, map_result}
use Rattle.reorder.specs.Footprint as places
use Rattle.codec.specs.declared.Kind.{Kind}
use Rattle.manual.specs.State.{State}
use Rattle.manual.specs.Places.{Place, mmx, integer, byte, zero_mark}
use Rattle.manual.specs.Kinds.{kinds_meet}
use Rattle.manual.specs.Footprints.{footprint_at}
use Rattle.machine.specs.declared.Places.{Places}
use Rattle.machine.specs.declared.Footprint.{Footprint}
use Rattle.refusals.specs.declared.Refusal.{Refusal}
use Rattle.refusals.specs.Numbers.{number_of}

-- the number of a place of one sort, in a list of one or none: MMX registers, integer registers, memory bytes

abbrev pub mmx_number : Place → List ℕ
mmx_number (mmx k) = k ∷ []
mmx_number (integer k) = []
mmx_number (byte a) = []
mmx_number zero_mark = []

abbrev pub integer_number : Place → List ℕ
integer_number (mmx k) = []
integer_number (integer k) = k ∷ []
integer_number (byte a) = []
integer_number zero_mark = []

abbrev pub byte_number : Place → List ℕ
byte_number (mmx k) = []
byte_number (integer k) = []
byte_number (byte a) = a ∷ []
byte_number zero_mark = []

-- the numbers of all places of a sort
abbrev pub numbers_of : (Place → List ℕ) → List Place → List ℕ
numbers_of number [] = []
numbers_of number (p ∷ ps) = number p ++ numbers_of number ps

abbrev pub bytes_of : List Place → List ℕ
bytes_of ps = numbers_of byte_number ps

-- whether the zero mark is among them

abbrev pub is_zero_mark : Place → Bool
is_zero_mark (mmx k) = false
is_zero_mark (integer k) = false
is_zero_mark (byte a) = false
is_zero_mark zero_mark = true

abbrev pub has_zero_mark : List Place → Bool
has_zero_mark [] = false
has_zero_mark (p ∷ ps) = is_zero_mark p || has_zero_mark ps

-- bit k is set for each k
abbrev pub mask : List ℕ → ℕ
mask [] = 0
mask (k ∷ ks) = bit_or (2 ^ k) (mask ks)

abbrev pub set_of : List Place → Places
set_of ps =
    record {
      mmx = mask (numbers_of mmx_number ps);
      integers = mask (numbers_of integer_number ps);
      start = get_or (bytes_of ps) 0 0;
      length = length (bytes_of ps);
      zero = has_zero_mark ps;
    }

abbrev pub masked : places.Footprint Place Kind → Footprint
masked f = record { reads = set_of f.reads; writes = set_of f.writes; kind = f.kind }

-- what the footprint of the step at a position answers: over floor 0
unfoldable pub masked_at : List ℕ → ℕ → State → Result Footprint
masked_at code at s = map_result masked (footprint_at 0 code at s)

-- the paper's answer for each case of the footprint's
abbrev pub paper_of_footprint : code.Result Footprint Refusal → Result Footprint
paper_of_footprint (Ok f) = done f
paper_of_footprint (Err refusal) = refused (number_of refusal)

-- the m bytes from a on and the n bytes from b on have one in common
unfoldable pub overlap : ℕ → ℕ → ℕ → ℕ → Bool
overlap a m b n = ltb 0 m && ltb 0 n && ltb a (b + n) && ltb b (a + m)

-- there is a place in both
unfoldable pub share : Places → Places → Bool
share p q =
    not (eqb (bit_and p.mmx q.mmx) 0)
    || not (eqb (bit_and p.integers q.integers) 0)
    || overlap p.start p.length q.start q.length
    || (p.zero && q.zero)

-- one writes a place that the other reads or writes, or their kinds meet: either is EMMS, and neither a prefetch or SFENCE
unfoldable pub meet : Footprint → Footprint → Bool
meet f g =
    kinds_meet f.kind g.kind
    || share f.writes g.reads
    || share f.writes g.writes
    || share f.reads g.writes

-- the same of what may be footprints: a refused step has none, and meets none
abbrev pub meet_test : Result (places.Footprint Place Kind) → Result (places.Footprint Place Kind) → Bool
meet_test (done f) (done g) = meet (masked f) (masked g)
meet_test (done f) (refused n) = false
meet_test (refused n) g = false
