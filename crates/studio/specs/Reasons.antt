-- When each answer to a question is due, in document 02's words, with 01's rule for what meets.
use Rattle.std.specs.Prelude.{◌≡◌, true, ◌⊎◌, List, ℕ, ◌<◌, ◌≤◌}
use Rattle.basis.specs.Names.{Memᴰ as In}
use Rattle.reorder.specs.Result.{done}
use Rattle.reorder.specs.Run.{Answer, finished, spent, stopped}
use Rattle.reorder.specs.Footprint.{Footprint}
use Rattle.codec.specs.declared.Kind.{Kind}
use Rattle.manual.specs.State.{State}
use Rattle.manual.specs.Places.{Place, mmx, integer, byte, zero_mark}
use Rattle.manual.specs.Kinds.{KindsMeet}
use Rattle.manual.specs.Runs.{run_of, reaches_jump, has_no_jump}
use Rattle.manual.specs.Footprints.{footprint_in_run, Meets}
use Rattle.studio.specs.declared.Manner.{Manner}
use Rattle.studio.specs.declared.Manner.TheVariants.{BothWrite, WriteRead, ReadWrite}
use Rattle.studio.specs.Refusals.{numbers_wrong, block_jumps}
use Rattle.studio.specs.Meetings as answers
use Rattle.studio.specs.Whys.{budget, Reply, refusal, instead, told}

-- "MMX registers, integer registers, memory bytes, each ascending", and the zero mark, "the last": the one place is lower than the other
abbrev pub Lower : Place → Place → Type 0
Lower (mmx j) (mmx k) = j < k
Lower (mmx j) (integer k) = Unit {0}
Lower (mmx j) (byte a) = Unit {0}
Lower (mmx j) zero_mark = Unit {0}
Lower (integer j) (mmx k) = ⊥
Lower (integer j) (integer k) = j < k
Lower (integer j) (byte a) = Unit {0}
Lower (integer j) zero_mark = Unit {0}
Lower (byte a) (mmx k) = ⊥
Lower (byte a) (integer k) = ⊥
Lower (byte a) (byte b) = a < b
Lower (byte a) zero_mark = Unit {0}
Lower zero_mark q = ⊥

-- by the footprints of an earlier and a later step
module _ (f g : Footprint Place Kind) where
  -- "both write; the earlier writes, the later reads; the earlier reads, the later writes", at a place
  abbrev pub MeetsAt : Manner → Place → Type 0
  MeetsAt BothWrite p = In p f.writes × In p g.writes
  MeetsAt WriteRead p = In p f.writes × In p g.reads
  MeetsAt ReadWrite p = In p f.reads × In p g.writes

  -- "the first that holds"
  abbrev pub FirstAt : Manner → Place → Type 0
  FirstAt BothWrite p = MeetsAt BothWrite p
  FirstAt WriteRead p = (¬ MeetsAt BothWrite p) × MeetsAt WriteRead p
  FirstAt ReadWrite p = (¬ MeetsAt BothWrite p) × (¬ MeetsAt WriteRead p) × MeetsAt ReadWrite p

  -- none holds
  abbrev pub ApartAt : Place → Type 0
  ApartAt p = (manner : Manner) → ¬ MeetsAt manner p

-- "The numbers may come in either order": the earlier and the later of two that differ
pub data Sorted (i j : ℕ) : ℕ → ℕ → Type 0 where
  ascending : i < j → Sorted i j i j
  descending : j < i → Sorted i j j i

-- a block without a jump that runs to its end, with budget 4,096 and over floor 0, in so many instructions and in this state
pub record Runs (code : List ℕ) (s : State) (total : ℕ) (t : State) : Type 0 where
  pub straight : has_no_jump code ≡ true
  pub end : ℕ
  pub runs : run_of 0 code budget s ≡ finished end total t

-- two of its instructions, with the footprints of the earlier and the later in the states where they run
pub record Pair (code : List ℕ) (i j : ℕ) (s t : State) (f g : Footprint Place Kind) : Type 0 where
  pub total : ℕ
  pub run : Runs code s total t
  pub low : ℕ
  pub high : ℕ
  pub sorted : Sorted i j low high
  pub below : high < total
  pub earlier : footprint_in_run 0 code s low ≡ done f
  pub later : footprint_in_run 0 code s high ≡ done g

-- a run that isn't done
abbrev pub Undone : Answer State → Type 0
Undone (finished at total t) = ⊥
Undone (spent at count t) = Unit {0}
Undone (stopped n at count t) = Unit {0}

pub data Due (code : List ℕ) (i j : ℕ) (s : State) : Reply → Type 0 where
  -- reading from 0 onward reaches a jump
  thirty : reaches_jump code ≡ true → Due code i j s (refusal block_jumps s)
  -- the run isn't done
  undone : (a : Answer State) → has_no_jump code ≡ true → run_of 0 code budget s ≡ a → Undone a → Due code i j s (instead a)
  -- two equal numbers, or one that is not below the count
  twenty_nine : (total : ℕ) (t : State) → Runs code s total t → (i ≡ j) ⊎ (total ≤ i) ⊎ (total ≤ j) → Due code i j s (refusal numbers_wrong t)
  -- the two do not meet
  apart : (t : State) (f g : Footprint Place Kind) → Pair code i j s t f g → ¬ Meets (done f) (done g) → Due code i j s (told answers.apart t)
  -- one is EMMS, and the other no prefetch or SFENCE
  emms : (t : State) (f g : Footprint Place Kind) → Pair code i j s t f g → KindsMeet f.kind g.kind → Due code i j s (told answers.emms t)
  -- the lowest place where they meet, in the first manner that holds there
  met_at : (t : State) (f g : Footprint Place Kind) → Pair code i j s t f g → ¬ KindsMeet f.kind g.kind → (p : Place) (manner : Manner) → FirstAt f g manner p
      → ((q : Place) → Lower q p → ApartAt f g q) → Due code i j s (told (answers.met_at p manner) t)
