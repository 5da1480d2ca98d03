-- Where two instructions meet, and how: EMMS before any place; else the lowest place, and there the first of three manners that holds.
use Rattle.std.specs.Prelude.{Bool, true, false, cond, ◌&&◌, ◌||◌, List, [], ◌∷◌, ◌++◌, map, ℕ, eqb, Option, Some, None}
use Rattle.reorder.specs.Result.{Result, done, refused}
use Rattle.reorder.specs.Footprint as places
use Rattle.codec.specs.declared.Kind.{Kind}
use Rattle.manual.specs.Places.{Place, mmx, integer, byte, zero_mark}
use Rattle.manual.specs.Kinds.{kinds_meet}
use Rattle.manual.specs.Locations.{bytes_from}
use Rattle.studio.specs.declared.Place as declared
use Rattle.studio.specs.declared.Place.TheVariants.{Mmx, Integer, Byte, ZeroMark}
use Rattle.studio.specs.declared.Manner.{Manner}
use Rattle.studio.specs.declared.Manner.TheVariants.{BothWrite, WriteRead, ReadWrite}
use Rattle.studio.specs.declared.Meeting as handed
use Rattle.studio.specs.declared.Meeting.TheVariants.{Emms, At}

-- the places of a machine with n bytes of memory, in document 02's order: MMX registers, integer registers, memory bytes, each ascending, and the
-- zero mark

abbrev pub eight : (ℕ → Place) → List Place
eight place = map place (0 ∷ 1 ∷ 2 ∷ 3 ∷ 4 ∷ 5 ∷ 6 ∷ 7 ∷ [])

abbrev pub all_places : ℕ → List Place
all_places n = eight mmx ++ eight integer ++ bytes_from 0 n ++ zero_mark ∷ []

-- what two instructions are to each other: they do not meet; one is EMMS; or they meet at a place, in a manner
pub data Meeting : Type 0 where
  apart emms : Meeting
  met_at : Place → Manner → Meeting

-- by the places that the earlier writes and reads, and those that the later does
module _ (writes reads later_writes later_reads : Place → Bool) where
  -- at a place, the first that holds: both write; the earlier writes, the later reads; the earlier reads, the later writes; else what follows
  abbrev pub meeting_at : Place → Meeting → Meeting
  meeting_at p follows =
      cond (writes p && later_writes p) (met_at p BothWrite)
      (cond (writes p && later_reads p) (met_at p WriteRead)
      (cond (reads p && later_writes p) (met_at p ReadWrite)
      follows))

  -- at the first of these places where they meet
  abbrev pub lowest : List Place → Meeting
  lowest [] = apart
  lowest (p ∷ ps) = meeting_at p (lowest ps)

-- two places are one
abbrev pub is_same : Place → Place → Bool
is_same (mmx j) (mmx k) = eqb j k
is_same (mmx j) (integer k) = false
is_same (mmx j) (byte a) = false
is_same (mmx j) zero_mark = false
is_same (integer j) (mmx k) = false
is_same (integer j) (integer k) = eqb j k
is_same (integer j) (byte a) = false
is_same (integer j) zero_mark = false
is_same (byte a) (mmx k) = false
is_same (byte a) (integer k) = false
is_same (byte a) (byte b) = eqb a b
is_same (byte a) zero_mark = false
is_same zero_mark (mmx k) = false
is_same zero_mark (integer k) = false
is_same zero_mark (byte b) = false
is_same zero_mark zero_mark = true

-- a place is among others
abbrev pub among : List Place → Place → Bool
among [] p = false
among (q ∷ qs) p = is_same p q || among qs p

-- of the footprints of an earlier and a later step, in a memory of n bytes; a refused step has none, and meets none
abbrev pub meeting_of : ℕ → Result (places.Footprint Place Kind) → Result (places.Footprint Place Kind) → Meeting
meeting_of n (done f) (done g) =
    cond (kinds_meet f.kind g.kind) emms
    (lowest (among f.writes) (among f.reads) (among g.writes) (among g.reads) (all_places n))
meeting_of n (done f) (refused m) = apart
meeting_of n (refused m) g = apart

-- the paper's place and meeting for each case of the code's

abbrev pub paper_of_place : declared.Place → Place
paper_of_place (Mmx k) = mmx k
paper_of_place (Integer k) = integer k
paper_of_place (Byte a) = byte a
paper_of_place ZeroMark = zero_mark

abbrev pub paper_of_meeting : Option handed.Meeting → Meeting
paper_of_meeting None = apart
paper_of_meeting (Some Emms) = emms
paper_of_meeting (Some (At place manner)) = met_at (paper_of_place place) manner
