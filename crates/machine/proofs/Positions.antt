-- The footprint of the step at a position, with nothing assumed of it: its ranges say which bytes it reads and writes, and the program's test of
-- two is true exactly where they meet.
use Rattle.std.specs.Prelude.{◌≡◌, true, List, ℕ, ◌+◌, ◌≤◌, ◌<◌, length, ◌↔◌}
use Rattle.basis.specs.Names.{Memᴰ as In}
use Rattle.basis.proofs.Names.{subst}
use Rattle.reorder.specs.Result.{Result, done, refused, and_then, provided}
use Rattle.reorder.specs.Footprint as places
use Rattle.reorder.specs.Run.{Fetched, position_reached, state_reached}
use Rattle.codec.specs.declared.Instruction.{Instruction}
use Rattle.codec.specs.declared.Kind.{Kind}
use Rattle.manual.specs.State.{State}
use Rattle.manual.specs.Places.{Place, byte}
use Rattle.manual.specs.Instructions.{footprint}
use Rattle.manual.specs.Jumps.{next}
use Rattle.manual.specs.Steps.{instruction_at}
use Rattle.manual.specs.Runs.{run_of}
use Rattle.manual.specs.Footprints.{footprint_at, footprint_in_run, Meets}
use Rattle.machine.specs.declared.Places.{Places}
use Rattle.machine.specs.Footprints.{masked, meet}
use Rattle.machine.proofs.laws.meetings.Ranges.{OneRange, RangedFootprint, ranged}
use Rattle.machine.proofs.laws.meetings.Masking.{byte_masked}
use Rattle.machine.proofs.laws.meetings.Meeting.{meet_exactly}

-- wherever the run goes on
ranged_onward : (o : Result (places.Footprint Place Kind)) (further : Result ℕ) → RangedFootprint o → RangedFootprint (provided o further)
ranged_onward (done f) (done position) h = h
ranged_onward (done f) (refused n) h = tt
ranged_onward (refused n) further h = tt

ranged_at : (floor : ℕ) (code : List ℕ) (at : ℕ) (s : State) → RangedFootprint (footprint_at floor code at s)
unfolding footprint_at
ranged_at floor code at s = by (instruction_at floor code at s)
  where
    by : (o : Result (Fetched Instruction))
        → RangedFootprint (and_then o (λ r. provided (footprint floor r.instruction s) (next (length code) r.instruction s (at + r.size))))
    by (done r) = ranged_onward (footprint floor r.instruction s) (next (length code) r.instruction s (at + r.size)) (ranged floor s r.instruction)
    by (refused n) = tt

-- a byte lies in the range of these places
abbrev pub Covers : Places → ℕ → Type 0
Covers p a = (p.start ≤ a) × (a < p.start + p.length)

module _ (code : List ℕ) (at : ℕ) (s : State) (f : places.Footprint Place Kind) (e : footprint_at 0 code at s ≡ done f) where
  one_range : OneRange f
  one_range = subst RangedFootprint e (ranged_at 0 code at s)

  -- the ranges of what is read and of what is written cover the bytes that are, and no other
  pub reads_bytes : (a : ℕ) → Covers (masked f).reads a ↔ In (byte a) f.reads
  reads_bytes a = byte_masked a f.reads one_range.reads

  pub writes_bytes : (a : ℕ) → Covers (masked f).writes a ↔ In (byte a) f.writes
  writes_bytes a = byte_masked a f.writes one_range.writes

-- the footprints of two steps, wherever they stand
pub meet_at : (code code' : List ℕ) (at at' : ℕ) (s s' : State) (f g : places.Footprint Place Kind)
    → footprint_at 0 code at s ≡ done f → footprint_at 0 code' at' s' ≡ done g → (meet (masked f) (masked g) ≡ true) ↔ Meets (done f) (done g)
meet_at code code' at at' s s' f g ef eg = meet_exactly f g (one_range code at s f ef) (one_range code' at' s' g eg)

-- and of the step that a run has come to
pub ranged_run : (floor : ℕ) (code : List ℕ) (start : State) (k : ℕ) → RangedFootprint (footprint_in_run floor code start k)
ranged_run floor code start k = let answer = run_of floor code k start in ranged_at floor code (position_reached answer) (state_reached answer)
