-- Demand 3 of the program itself, of a block without a jump: over calls of Machine::run, Machine::footprint and meets, by what they hand back; and
-- such calls can be had.
use Rattle.std.specs.Prelude.{Ok, ◌≡◌, refl, Bool, true, List, [], map, ℕ, suc, ◌≤◌, ◌<◌}
use Rattle.basis.specs.Names.{flatten}
use Rattle.basis.proofs.Names.{sym, ap, ap₂, ◌∙◌, false≢true, arith}
use Rattle.reorder.specs.Result.{Result, done, refused, map_result}
use Rattle.reorder.specs.Order.{NewOrder, Keeps}
use Rattle.reorder.specs.Footprint as places
use Rattle.reorder.specs.Run.{finished, position_reached, state_reached}
use Rattle.reorder.specs.Block.{rearranged}
use Rattle.reorder.proofs.Permutation.{order_below}
use Rattle.codec.specs.declared.Kind.{Kind}
use Rattle.codec.specs.declared.Kind.TheVariants.{Ordinary}
use Rattle.manual.specs.State.{State}
use Rattle.manual.specs.Places.{Place}
use Rattle.manual.specs.Runs.{read, run_of, has_no_jump}
use Rattle.manual.specs.Footprints.{footprint_at, footprint_in_run}
use Rattle.manual.proofs.Demand3.{position_in_run, part, map_alike, footprint-asked, has_footprint, rearranged_parts}
use Rattle.machine.specs.declared.Machine.{Machine}
use Rattle.machine.specs.declared.Footprint.{Footprint}
use Rattle.machine.specs.declared.End.{End}
use Rattle.machine.specs.declared.End.TheVariants.{Done, Spent, Refused}
use Rattle.machine.specs.declared.Ran.{Ran}
use Rattle.machine.specs.State.{state_of}
use Rattle.machine.specs.Runs.{paper_of_end, paper_of_run}
use Rattle.machine.specs.Footprints.{masked, masked_at, meet, meet_test}
use Rattle.machine.proofs.Tested.{demand_3_tested}
use Rattle.machine.proofs.Allowed.{After, machine_in, run_back, run_handed, run_given}
use Rattle.machine.proofs.Calls.{RunCall, FootprintCall, MeetsCall, run_says, footprint_says, meets_says, run_there, footprint_there, meets_there}

-- what a run has come to, by what it handed back

pub position_handed : (e : End) (at count : ℕ) (s : State) → position_reached (paper_of_end e at count s) ≡ at
position_handed Done at count s = refl
position_handed Spent at count s = refl
position_handed (Refused n) at count s = refl

pub state_handed : (e : End) (at count : ℕ) (s : State) → state_reached (paper_of_end e at count s) ≡ s
state_handed Done at count s = refl
state_handed Spent at count s = refl
state_handed (Refused n) at count s = refl

module _ (machine : Machine) (code memory : List ℕ) (floor k : ℕ) (answer : Ran) (after : List ℕ) (call : RunCall machine code memory floor k answer after) where
  called : run_of floor code k (state_of machine memory) ≡ paper_of_run answer after
  called = sym (run_says machine code memory floor k answer after call)

  position_called : position_in_run floor code (state_of machine memory) k ≡ answer.at
  position_called = ap position_reached called ∙ position_handed answer.end answer.at answer.count (state_of answer.machine after)

  state_called : state_reached (run_of floor code k (state_of machine memory)) ≡ state_of answer.machine after
  state_called = ap state_reached called ∙ state_handed answer.end answer.at answer.count (state_of answer.machine after)

  -- so the footprint that is asked for there is asked for on what it handed back
  footprint_called : footprint_at 0 code (position_in_run floor code (state_of machine memory) k) (state_reached (run_of floor code k (state_of machine memory)))
      ≡ footprint_at 0 code answer.at (state_of answer.machine after)
  footprint_called = ap₂ (footprint_at 0 code) position_called state_called

-- the program's test of two footprints is its test of what it handed out of them
handed_test : (x y : Result (places.Footprint Place Kind)) (f g : Footprint) → map_result masked x ≡ done f → map_result masked y ≡ done g → meet_test x y ≡ meet f g
handed_test (done a) (done b) f g ex ey = let same : masked a ≡ f = cc in let same' : masked b ≡ g = cc in ap₂ meet same same'
handed_test (done a) (refused n) f g ex ey = absurd (false≢true (cc))
handed_test (refused n) y f g ex ey = absurd (false≢true (cc))

-- What a studio has in hand of a block: a run of it that was done; for each k up to the count, a run of k instructions from the same start; for
-- each k below it, the footprint handed out at the position, on the machine and over the memory that this run handed back; and for each pair of
-- them whether they meet.
pub record Recorded (machine : Machine) (code memory : List ℕ) (floor budget : ℕ) (whole : Ran) (after : List ℕ) : Type 1 where
  pub ran : RunCall machine code memory floor budget whole after
  pub ended : whole.end ≡ Done
  pub runs : ℕ → Ran
  pub memories : ℕ → List ℕ
  pub run_of_lem : (k : ℕ) → k ≤ whole.count → RunCall machine code memory floor k (runs k) (memories k)
  pub footprints : ℕ → Footprint
  pub footprint_of_lem : (k : ℕ) → k < whole.count → FootprintCall (runs k).machine code (runs k).at (memories k) (Ok (footprints k))
  pub meeting : ℕ → ℕ → Bool
  pub meeting_of_lem : (i j : ℕ) → i < j → j < whole.count → MeetsCall (footprints i) (footprints j) (meeting i j)

module _ (machine : Machine) (code memory : List ℕ) (floor budget : ℕ) (whole : Ran) (after : List ℕ) (known : Recorded machine code memory floor budget whole after)
    (straight : has_no_jump code ≡ true) where
  -- the block in a new order: of each instruction the bytes from where the run before it came to, to where the run with it did
  abbrev pub moved : List ℕ → List ℕ
  moved order = flatten (map (λ k. part code (known.runs k).at (known.runs (suc k)).at) order)

  abbrev start : State
  start = state_of machine memory

  finishes : run_of floor code budget start ≡ finished whole.at whole.count (state_of whole.machine after)
  finishes = sym (run_says machine code memory floor budget whole after known.ran) ∙ ap (λ e. paper_of_end e whole.at whole.count (state_of whole.machine after)) known.ended

  position_of : (k : ℕ) → k ≤ whole.count → position_in_run floor code start k ≡ (known.runs k).at
  position_of k b = position_called machine code memory floor k (known.runs k) (known.memories k) (known.run_of_lem k b)

  masked-footprint : (k : ℕ) → k < whole.count → map_result masked (footprint_in_run floor code start k) ≡ done (known.footprints k)
  unfolding masked_at
  masked-footprint k b =
      ap (map_result masked)
      (footprint-asked floor code budget whole.at whole.count start (state_of whole.machine after) finishes k b
      ∙ footprint_called machine code memory floor k (known.runs k) (known.memories k) (known.run_of_lem k (omega arith)))
      ∙ sym (footprint_says (known.runs k).machine code (known.runs k).at (known.memories k) (Ok (known.footprints k)) (known.footprint_of_lem k b))

  same_block : (order : List ℕ) → NewOrder whole.count order → rearranged read code order ≡ moved order
  same_block order new =
      rearranged_parts floor code budget whole.at whole.count start (state_of whole.machine after) straight finishes order new
      ∙ ap flatten (map_alike _ _ order (λ k m.
      let b : k < whole.count = order_below whole.count order new k m in
      ap₂ (part code) (position_of k (omega arith)) (position_of (suc k) (omega arith))))

  -- DEMAND 3: the block in an order that keeps the pairs which `meets` found to meet, run from the same machine and memory with the same
  -- budget, is done too, with the same count, position, machine and memory
  pub demand_3_run : (order : List ℕ) (again : Ran) (after' : List ℕ)
      → NewOrder whole.count order → Keeps whole.count order (λ i j. known.meeting i j ≡ true)
      → RunCall machine (moved order) memory floor budget again after'
      → (again ≡ whole) × (after' ≡ after)
  demand_3_run order again after' new keeps call = run_given again whole after' after
      (run_says machine (moved order) memory floor budget again after' call
      ∙ ap (λ (c : List ℕ). run_of floor c budget start) (sym (same_block order new))
      ∙ demand_3_tested floor code order budget whole.at whole.count start (state_of whole.machine after) straight finishes new kept
      ∙ sym finishes ∙ sym (run_says machine code memory floor budget whole after known.ran))
    where
      kept : Keeps whole.count order (λ i j. meet_test (footprint_in_run floor code start i) (footprint_in_run floor code start j) ≡ true)
      kept i j p q earlier j_in p_in q_in at_p at_q m =
          keeps i j p q earlier j_in p_in q_in at_p at_q
          (meets_says (known.footprints i) (known.footprints j) (known.meeting i j) (known.meeting_of_lem i j earlier j_in)
          ∙ sym (handed_test (footprint_in_run floor code start i) (footprint_in_run floor code start j) (known.footprints i) (known.footprints j) (masked-footprint i (omega arith)) (masked-footprint j j_in))
          ∙ m)

-- What is recorded can be had of every block whose run is done.
module _ (machine : Machine) (code memory : List ℕ) (floor budget end total : ℕ) (final : State)
    (h : run_of floor code budget (state_of machine memory) ≡ finished end total final) where
  -- what a run of so many instructions hands back
  abbrev handed : ℕ → After Ran
  handed k = run_back (run_of floor code k (state_of machine memory))

  handed_run : (k : ℕ) → RunCall machine code memory floor k (handed k).answer (handed k).memory
  handed_run k = run_there machine code memory floor k (handed k).answer (handed k).memory (run_handed (run_of floor code k (state_of machine memory)))

  -- the footprint that is handed out of a result (of a refusal, which there is none of below the count, this stands in)
  handed_out : Result (places.Footprint Place Kind) → Footprint
  handed_out (done f) = masked f
  handed_out (refused n) = masked (record { reads = []; writes = []; kind = Ordinary })

  handed_footprint : (k : ℕ) → k < total
      → FootprintCall (handed k).answer.machine code (handed k).answer.at (handed k).memory (Ok (handed_out (footprint_in_run floor code (state_of machine memory) k)))
  unfolding handed_out masked_at
  handed_footprint k b =
      let (f, e) = has_footprint floor code budget end total (state_of machine memory) final h k b in
      footprint_there (handed k).answer.machine code (handed k).answer.at (handed k).memory _
      (ap (λ o. done (handed_out o)) e
      ∙ ap (map_result masked)
      (sym e
      ∙ footprint-asked floor code budget end total (state_of machine memory) final h k b
      ∙ footprint_called machine code memory floor k (handed k).answer (handed k).memory (handed_run k)))

  pub recorded : Recorded machine code memory floor budget (record { end = Done; at = end; count = total; machine = machine_in final }) final.memory
  recorded =
      record {
        ran = run_there machine code memory floor budget _ _ (sym h);
        ended = refl;
        runs = λ k. (handed k).answer;
        memories = λ k. (handed k).memory;
        run_of_lem = λ k b. handed_run k;
        footprints = λ k. handed_out (footprint_in_run floor code (state_of machine memory) k);
        footprint_of_lem = handed_footprint;
        meeting = λ i j. meet (handed_out (footprint_in_run floor code (state_of machine memory) i)) (handed_out (footprint_in_run floor code (state_of machine memory) j));
        meeting_of_lem = λ i j earlier b. meets_there _ _;
      }
