-- The example block by the program's test: the pairs that meet in its run, an order that keeps them, to which demand 3 applies, and one that does
-- not. Computed.
use Rattle.std.specs.Prelude.{◌≡◌, refl, Bool, true, false, cond, List, [], ◌∷◌, ◌++◌, ℕ, zero, suc}
use Rattle.basis.proofs.Names.{arith}
use Rattle.lanes.specs.Lane.{lane, build, register}
use Rattle.lanes.specs.Signed.{clamp, clamp_unsigned}
use Rattle.lanes.specs.Rules.{packed, pairwise, sum_unsigned}
use Rattle.lanes.specs.Operations.{operate}
use Rattle.reorder.specs.Order.{NewOrder, Keeps}
use Rattle.reorder.specs.Run.{finished}
use Rattle.reorder.specs.Block.{rearranged}
use Rattle.reorder.proofs.Permutation.{permutation_order}
use Rattle.reorder.proofs.Turning.{turns, keeps_unturned}
use Rattle.codec.specs.Forms.{allows}
use Rattle.codec.specs.Opcodes.{form_at, operation_at}
use Rattle.codec.specs.Operands.{has_sib, displacement_size}
use Rattle.codec.specs.Reads.{immediate_reader, displacement_reader, sib_reader, modrm_reader, form_reader, second_reader, instruction_reader, read_at}
use Rattle.manual.specs.Addresses.{displacement_of, base_of, address_of, address}
use Rattle.manual.specs.Locations.{rm_of}
use Rattle.manual.specs.Instructions.{effect_of, execute, footprint}
use Rattle.manual.specs.Jumps.{onward_by}
use Rattle.manual.specs.Steps.{instruction_at}
use Rattle.manual.specs.Runs.{read, run_of}
use Rattle.manual.specs.Footprints.{footprint_at, footprint_in_run, Meets}
use Rattle.manual.proofs.Example.{block, start, final, allowed, forbidden}
use Rattle.manual.proofs.Computed.{computed}
use Rattle.manual.proofs.Demand3.{demand_3}
use Rattle.machine.specs.Footprints.{overlap, share, meet, meet_test}
use Rattle.machine.proofs.laws.meetings.Meeting.{meet_test_exactly}
use Rattle.machine.proofs.Positions.{ranged_run}

-- two instructions of the block meet in its run: by their places, and by the program's test

abbrev MeetInRun : ℕ → ℕ → Type 0
MeetInRun i j = Meets (footprint_in_run 0 block start i) (footprint_in_run 0 block start j)

abbrev meet_in_run : ℕ → ℕ → Bool
meet_in_run i j = meet_test (footprint_in_run 0 block start i) (footprint_in_run 0 block start j)

-- the later ones from j on, so many, that meet i
abbrev meeting_with : ℕ → ℕ → ℕ → List (ℕ × ℕ)
meeting_with i j zero = []
meeting_with i j (suc more) = cond (meet_in_run i j) ((i, j) ∷ meeting_with i (suc j) more) (meeting_with i (suc j) more)

-- all pairs that meet, from i on, with so many after it
abbrev meeting_from : ℕ → ℕ → List (ℕ × ℕ)
meeting_from i zero = []
meeting_from i (suc more) = meeting_with i (suc i) (suc more) ++ meeting_from (suc i) more

pub record Found : Type 0 where
  -- the pairs that meet
  pub pairs : meeting_from 0 4 ≡ (0, 1) ∷ (0, 2) ∷ (1, 2) ∷ (2, 4) ∷ (3, 4) ∷ []
  -- the allowed order turns none of them round, the forbidden one this
  pub unturned : turns meet_in_run allowed ≡ false
  pub turned : meet_in_run 2 4 ≡ true

-- (footprints are taken where a run of so many instructions comes to, so these compute runs)
pub found : Found
unfolding lane build register clamp clamp_unsigned packed pairwise sum_unsigned operate allows form_at operation_at has_sib displacement_size immediate_reader displacement_reader sib_reader modrm_reader form_reader second_reader instruction_reader read_at displacement_of base_of address_of address rm_of effect_of onward_by execute footprint instruction_at read run_of footprint_at overlap share meet
found = record { pairs = refl; unturned = refl; turned = refl }

-- the allowed order is one, and keeps every pair that meets
pub allowed_new : NewOrder 5 allowed
allowed_new =
    permutation_order 5 allowed
    (0 ∷ 1 ∷ 2 ∷ [], 4 ∷ [], refl, ([], 1 ∷ 2 ∷ 4 ∷ [], refl, ([], 2 ∷ 4 ∷ [], refl, ([], 4 ∷ [], refl, ([], [], refl, refl)))))

pub allowed_keeps : Keeps 5 allowed MeetInRun
allowed_keeps i j p q earlier j_in p_in q_in at_p at_q m =
    keeps_unturned meet_in_run allowed found.unturned i j p q earlier j_in p_in q_in at_p at_q
    ((meet_test_exactly (footprint_in_run 0 block start i) (footprint_in_run 0 block start j) (ranged_run 0 block start i) (ranged_run 0 block start j)).1 m)

-- so demand 3 says what it leaves, and its run is not looked at
pub allowed_leaves : run_of 0 (rearranged read block allowed) 4096 start ≡ finished 17 5 final
allowed_leaves = demand_3 0 block allowed 4096 17 5 start final computed.straight computed.block allowed_new allowed_keeps

-- the forbidden order is one, and turns 2 and 4 round
pub forbidden_new : NewOrder 5 forbidden
forbidden_new =
    permutation_order 5 forbidden
    ([], 1 ∷ 2 ∷ 3 ∷ 4 ∷ [], refl, ([], 2 ∷ 3 ∷ 4 ∷ [], refl, (2 ∷ [], 4 ∷ [], refl, (2 ∷ [], [], refl, ([], [], refl, refl)))))

pub forbidden_turns : Keeps 5 forbidden MeetInRun → ⊥
forbidden_turns keeps =
    let m : MeetInRun 2 4 =
    (meet_test_exactly (footprint_in_run 0 block start 2) (footprint_in_run 0 block start 4) (ranged_run 0 block start 2) (ranged_run 0 block start 4)).0 found.turned in
    omega (arith, keeps 2 4 4 3 (omega arith) (omega arith) (omega arith) (omega arith) refl refl m)
