-- Where two instructions meet, by footprints as masks and ranges: the places that two sets share, and which of two meetings is named first.
use Rattle.std.specs.Prelude.{Result, Ok, Err, Bool, true, false, cond, ◌&&◌, List, find, Option, Some, None, ℕ, ◌+◌, ◌/◌, ◌%◌, ◌^◌, eqb, leb, ltb}
use Rattle.std.specs.List.{range_with_len}
use Rattle.manual.specs.Places.{Place, mmx, integer, byte, zero_mark}
use Rattle.manual.specs.Kinds.{kinds_meet}
use Rattle.machine.specs.declared.Places.{Places}
use Rattle.machine.specs.declared.Footprint.{Footprint}
use Rattle.refusals.specs.declared.Refusal.{Refusal}
use Rattle.studio.specs.declared.Manner.{Manner}
use Rattle.studio.specs.declared.Manner.TheVariants.{BothWrite, WriteRead, ReadWrite}
use Rattle.studio.specs.Meetings.{Meeting, apart, emms, met_at, lowest, all_places}

-- the registers of one sort
abbrev pub registers : List ℕ
registers = range_with_len 0 8

-- register k is in a mask
abbrev pub in_mask : ℕ → ℕ → Bool
in_mask mask k = eqb (mask / 2 ^ k % 2) 1

-- byte a is in a range
abbrev pub in_range : ℕ → ℕ → ℕ → Bool
in_range start size a = leb start a && ltb a (start + size)

-- a place is in a set of places
abbrev pub within : Places → Place → Bool
within x (mmx k) = in_mask x.mmx k
within x (integer k) = in_mask x.integers k
within x (byte a) = in_range x.start x.length a
within x zero_mark = x.zero

-- a place is in both of two sets
unfoldable pub is_shared : Places → Places → Place → Bool
is_shared one other p = within one p && within other p

-- at a place, if there is one, in a manner
abbrev pub meeting_there : Manner → Option Place → Meeting
meeting_there x None = apart
meeting_there x (Some p) = met_at p x

-- at the lowest place that is in both of two sets, in a manner
unfoldable pub lowest_meeting : ℕ → Manner → Places → Places → Meeting
lowest_meeting n x one other = meeting_there x (find (is_shared one other) (all_places n))

-- a place is lower than another
abbrev pub is_lower : Place → Place → Bool
is_lower (mmx j) (mmx k) = ltb j k
is_lower (mmx j) (integer k) = true
is_lower (mmx j) (byte a) = true
is_lower (mmx j) zero_mark = true
is_lower (integer j) (mmx k) = false
is_lower (integer j) (integer k) = ltb j k
is_lower (integer j) (byte a) = true
is_lower (integer j) zero_mark = true
is_lower (byte a) (mmx k) = false
is_lower (byte a) (integer k) = false
is_lower (byte a) (byte b) = ltb a b
is_lower (byte a) zero_mark = true
is_lower zero_mark q = false

-- a manner's place among the three
abbrev pub rank : Manner → ℕ
rank BothWrite = 0
rank WriteRead = 1
rank ReadWrite = 2

-- a place with a manner comes before another
abbrev pub is_before : Place → Manner → Place → Manner → Bool
is_before p x q y = cond (is_lower p q) true (cond (is_lower q p) false (ltb (rank x) (rank y)))

-- the first of two meetings: EMMS before any place
abbrev pub first_of : Meeting → Meeting → Meeting
first_of apart m = m
first_of emms m = emms
first_of (met_at p x) apart = met_at p x
first_of (met_at p x) emms = emms
first_of (met_at p x) (met_at q y) = cond (is_before q y p x) (met_at q y) (met_at p x)

unfoldable pub meeting_in : ℕ → Footprint → Footprint → Meeting
meeting_in n f g =
    cond (kinds_meet f.kind g.kind) emms
    (lowest (within f.writes) (within f.reads) (within g.writes) (within g.reads) (all_places n))

-- a refused step meets none
abbrev pub meeting_by : ℕ → Result Footprint Refusal → Result Footprint Refusal → Meeting
meeting_by n (Ok f) (Ok g) = meeting_in n f g
meeting_by n (Ok f) (Err m) = apart
meeting_by n (Err m) g = apart
