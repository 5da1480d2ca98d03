-- Demand 3 with the test that the program computes: of a block without a jump, the order need keep the pairs that it finds to meet, and no other.
use Rattle.std.specs.Prelude.{◌≡◌, true, List, ℕ}
use Rattle.reorder.specs.Order.{NewOrder, Keeps}
use Rattle.reorder.specs.Run.{finished}
use Rattle.reorder.specs.Block.{rearranged}
use Rattle.manual.specs.State.{State}
use Rattle.manual.specs.Runs.{read, run_of, has_no_jump}
use Rattle.manual.specs.Footprints.{footprint_in_run}
use Rattle.manual.proofs.Demand3.{demand_3}
use Rattle.machine.specs.Footprints.{meet_test}
use Rattle.machine.proofs.laws.meetings.Meeting.{meet_test_exactly}
use Rattle.machine.proofs.Positions.{ranged_run}

pub demand_3_tested : (floor : ℕ) (code order : List ℕ) (budget end total : ℕ) (start final : State)
    → has_no_jump code ≡ true
    → run_of floor code budget start ≡ finished end total final
    → NewOrder total order
    → Keeps total order (λ i j. meet_test (footprint_in_run floor code start i) (footprint_in_run floor code start j) ≡ true)
    → run_of floor (rearranged read code order) budget start ≡ finished end total final
demand_3_tested floor code order budget end total start final straight h new keeps =
    demand_3 floor code order budget end total start final straight h new
    (λ i j p q earlier j_in p_in q_in at_p at_q meets.
    keeps i j p q earlier j_in p_in q_in at_p at_q
    ((meet_test_exactly (footprint_in_run floor code start i) (footprint_in_run floor code start j) (ranged_run floor code start i) (ranged_run floor code start j)).1 meets))
