-- Demand 3, from the reordering theorem: the machine obeys the laws of places, reading is local, and a run goes on behind what is no jump.
use Rattle.std.specs.Prelude.{◌≡◌, refl, true, false, List, [], ◌∷◌, map, ℕ, suc, ◌+◌, ◌-◌, ◌<◌, ltb, length, get_or, take, drop}
use Rattle.basis.specs.Names.{flatten, Memᴰ as In}
use Rattle.basis.proofs.Names.{sym, ap, ap₂, subst, subst₂, ◌∙◌, false≢true, Memᴰ-head as here, Memᴰ-tail as later, not-true, zero-add, arith}
use Rattle.reorder.specs.Result.{Result, done, and_then, provided}
use Rattle.reorder.specs.Order.{NewOrder, Keeps}
use Rattle.reorder.specs.Footprint.{Footprint}
use Rattle.reorder.specs.Run.{Fetched, finished, spent, position_reached, state_reached, run}
use Rattle.reorder.specs.Block.{pieces_of, rearranged, reaches}
use Rattle.reorder.proofs.Results.{provided_done}
use Rattle.reorder.proofs.Reordering.{Swap}
use Rattle.reorder.proofs.Swapping.{swap}
use Rattle.reorder.proofs.Permutation.{order_below}
use Rattle.reorder.proofs.Rows.{footprint_in_code}
use Rattle.reorder.proofs.Rearranging.{reordered_block}
use Rattle.reorder.proofs.Along.{Reached, reached, Comes, comes_to}
use Rattle.codec.specs.Reads.{longest_code}
use Rattle.codec.specs.declared.Instruction.{Instruction}
use Rattle.codec.specs.declared.Kind.{Kind}
use Rattle.manual.specs.State.{State, frozen}
use Rattle.manual.specs.Places.{Place, look, put}
use Rattle.manual.specs.Kinds.{marked, KindsMeet}
use Rattle.manual.specs.Effects.{via, plan}
use Rattle.manual.specs.Instructions.{effect_of, execute, footprint}
use Rattle.manual.specs.Jumps.{is_jump, next}
use Rattle.manual.specs.Reasons.{Fits}
use Rattle.manual.specs.Runs.{read, run_of, has_no_jump}
use Rattle.manual.specs.Footprints.{footprint_at, footprint_in_run, Meets}
use Rattle.manual.proofs.Laws.{laws, local}
use Rattle.manual.proofs.Locality.{local_reader}
use Rattle.manual.proofs.Jumps.{goes_on}
use Rattle.manual.proofs.Turns.{fits_zero, still_fits, of_run, instruction_here}
use Rattle.manual.proofs.Floors.{footprint_zero}
use Rattle.manual.proofs.Bounds.{Bounds, Bounded, run_bounded}
use Rattle.manual.proofs.Uses.{completes_footprint}

-- two instructions that don't meet change places
execute_swap : (floor : ℕ) → Swap State Instruction (Result (Footprint Place Kind)) (execute floor) (footprint floor) Meets
unfolding execute footprint
execute_swap floor a b = swap look put marked frozen KindsMeet laws via (plan floor) (local floor) (effect_of a) (effect_of b)

-- where a run of k instructions comes to, and the part of a code from one position to another

abbrev pub position_in_run : ℕ → List ℕ → State → ℕ → ℕ
position_in_run floor code start k = position_reached (run_of floor code k start)

abbrev pub part : List ℕ → ℕ → ℕ → List ℕ
part code from to = take (to - from) (drop from code)

-- functions that agree on a list
pub map_alike : (f g : ℕ → List ℕ) (ks : List ℕ) → ((k : ℕ) → In k ks → f k ≡ g k) → map f ks ≡ map g ks
map_alike f g [] h = refl
map_alike f g (k ∷ ks) h = ap₂ (λ (x : List ℕ) (xs : List (List ℕ)). x ∷ xs) (h k (here refl)) (map_alike f g ks (λ j m. h j (later m)))

-- reading a block without a jump reaches none
pub straight : (code : List ℕ) → ltb longest_code (length code) ≡ false → has_no_jump code ≡ true → reaches read is_jump code ≡ false
straight code fits h = not-true (reaches read is_jump code) (simp fits at h)

-- Of a run that finishes

module _ (floor : ℕ) (code : List ℕ) (budget end total : ℕ) (start final : State) (h : run_of floor code budget start ≡ finished end total final) where
  -- the tests of its start are passed
  pub fitting : Fits floor start × (ltb longest_code (length code) ≡ false) × (run read (execute floor) next budget code start ≡ finished end total final)
  fitting =
      of_run floor code start (λ runs. runs budget ≡ finished end total final → Fits floor start × (ltb longest_code (length code) ≡ false) × (run read (execute floor) next budget code start ≡ finished end total final))
      (λ n e f. absurd (false≢true (cc))) (λ fits code_fits ran. (fits, code_fits, ran)) h

  -- what a run of k instructions comes to, k below the count
  pub reaching : (k : ℕ) → k < total → Reached read (execute floor) next code 0 0 start k
  reaching k b =
      let (fits, code_fits, ran) = fitting in reached read (execute floor) next budget code 0 0 end total start final ran k (omega arith)

  ran_to : (k at : ℕ) (s : State) → run read (execute floor) next k code start ≡ spent at k s → run_of floor code k start ≡ spent at k s
  unfolding run_of
  ran_to k at s r = let (fits, code_fits, ran) = fitting in simp (fits.memory_fits, fits.floor_fits, code_fits) r

  -- where a run of k instructions comes to an instruction, and goes on
  module _ (k at : ℕ) (s : State) (ran : run_of floor code k start ≡ spent at k s) where
    -- memory and floor fit there
    fits_there : Fits floor s
    fits_there =
        let (fits, code_fits, whole) = fitting in
        let bounds : Bounds code k start at k s = subst (Bounded code k start) ran (run_bounded floor code k start) in
        still_fits floor start s bounds.kept fits

    -- the footprint there, over a floor that fits, is that of the instruction which stands there
    footprint_there : (found : Fetched Instruction) (further : ℕ) → read (drop at code) ≡ done found
        → next (length code) found.instruction s (at + found.size) ≡ done further → (height : ℕ) → Fits height s
        → footprint_at height code (position_reached (run_of floor code k start)) (state_reached (run_of floor code k start)) ≡ footprint height found.instruction s
    unfolding footprint_at
    footprint_there found further stands onward height there_fits =
        let (fits, code_fits, whole) = fitting in
        ap (λ a. footprint_at height code (position_reached a) (state_reached a)) ran
        ∙ ap (λ o. and_then o (λ r. provided (footprint height r.instruction s) (next (length code) r.instruction s (at + r.size))))
        (instruction_here height code at s there_fits code_fits ∙ stands)
        ∙ ap (provided (footprint height found.instruction s)) onward
        ∙ provided_done (footprint height found.instruction s) further

  -- the footprint of the step that a run of k instructions comes to is the one that is asked for, over floor 0
  pub footprint-asked : (k : ℕ) → k < total
      → footprint_in_run floor code start k ≡ footprint_at 0 code (position_reached (run_of floor code k start)) (state_reached (run_of floor code k start))
  footprint-asked k b =
      let c = reaching k b in
      let r = ran_to k c.at c.state (c.ran ∙ ap (λ (n : ℕ). spent c.at n c.state) (zero-add k)) in
      let fits = fits_there k c.at c.state r in
      let (t, does) = c.completes in
      footprint_there k c.at c.state r c.found c.further c.stands c.onward floor fits
      ∙ sym (footprint_zero floor c.found.instruction c.state t does)
      ∙ sym (footprint_there k c.at c.state r c.found c.further c.stands c.onward 0 (fits_zero floor c.state fits))

  -- and there is one, since the step there completes
  pub has_footprint : (k : ℕ) → k < total → (f : Footprint Place Kind) × (footprint_in_run floor code start k ≡ done f)
  has_footprint k b =
      let c = reaching k b in
      let r = ran_to k c.at c.state (c.ran ∙ ap (λ (n : ℕ). spent c.at n c.state) (zero-add k)) in
      let (t, does) = c.completes in
      let (f, e) = completes_footprint floor c.found.instruction c.state t does in
      (f, footprint_there k c.at c.state r c.found c.further c.stands c.onward floor (fits_there k c.at c.state r) ∙ e)

-- Of one without a jump

module _ (floor : ℕ) (code : List ℕ) (budget end total : ℕ) (start final : State) (no_jump : has_no_jump code ≡ true)
    (h : run_of floor code budget start ≡ finished end total final) where
  -- what a run of k instructions comes to, k below the count
  pub comes : (k : ℕ) → k < total → Comes read (execute floor) next (footprint floor) code start k
  comes k b =
      let (fits, code_fits, ran) = fitting floor code budget end total start final h in
      comes_to read (execute floor) next (footprint floor) is_jump local_reader goes_on code budget end total start final (straight code code_fits no_jump) ran k b

  -- its footprint is that of piece k of the code
  footprint_along : (k : ℕ) → k < total → footprint_in_run floor code start k ≡ footprint_in_code read (execute floor) (footprint floor) code start k
  footprint_along k b =
      let c = comes k b in
      let r = ran_to floor code budget end total start final h k c.at c.state c.ran in
      footprint_there floor code budget end total start final h k c.at c.state r c.found (c.at + c.found.size) c.stands c.onward floor
      (fits_there floor code budget end total start final h k c.at c.state r)
      ∙ sym c.footprint_same

  -- instruction k has the bytes from where a run of k instructions comes to, to where the next one does
  part_along : (k : ℕ) → k < total → get_or (pieces_of read code) k [] ≡ part code (position_in_run floor code start k) (position_in_run floor code start (suc k))
  unfolding run_of
  part_along k b =
      let (fits, code_fits, ran) = fitting floor code budget end total start final h in
      let c = comes k b in
      let here : position_in_run floor code start k ≡ c.at = ap position_reached (ran_to floor code budget end total start final h k c.at c.state c.ran) in
      let there : position_in_run floor code start (suc k) ≡ c.at + c.found.size = simp (fits.memory_fits, fits.floor_fits, code_fits) c.behind in
      let size : c.found.size ≡ position_in_run floor code start (suc k) - position_in_run floor code start k = omega arith in
      c.piece ∙ ap₂ (λ (n at : ℕ). take n (drop at code)) size (sym here)

  -- so the block in a new order is these parts in that order
  pub rearranged_parts : (order : List ℕ) → NewOrder total order
      → rearranged read code order ≡ flatten (map (λ k. part code (position_in_run floor code start k) (position_in_run floor code start (suc k))) order)
  rearranged_parts order new = ap flatten (map_alike _ _ order (λ k m. part_along k (order_below total order new k m)))

-- "Take a straight block that runs to its end from some starting state and memory. Put its instructions in any other order that keeps, for each
-- pair whose footprints meet in that run, the earlier one earlier. From the same state and memory, with the same budget, the new block also runs
-- to its end, in as many instructions, and leaves exactly the registers, tag mark and memory that the manual's rules give for the original." A
-- straight block is one without a jump, and the zero mark is left too.
pub demand_3 : (floor : ℕ) (code order : List ℕ) (budget end total : ℕ) (start final : State)
    → has_no_jump code ≡ true
    → run_of floor code budget start ≡ finished end total final
    → NewOrder total order
    → Keeps total order (λ i j. Meets (footprint_in_run floor code start i) (footprint_in_run floor code start j))
    → run_of floor (rearranged read code order) budget start ≡ finished end total final
unfolding run_of
demand_3 floor code order budget end total start final no_jump h new keeps =
    let (fits, code_fits, ran) = fitting floor code budget end total start final h in
    let along = footprint_along floor code budget end total start final no_jump h in
    let kept : Keeps total order (λ i j. Meets (footprint_in_code read (execute floor) (footprint floor) code start i) (footprint_in_code read (execute floor) (footprint floor) code start j)) =
    λ i j p q earlier j_in p_in q_in at_p at_q meets.
    keeps i j p q earlier j_in p_in q_in at_p at_q (subst₂ Meets (sym (along i (omega arith))) (sym (along j j_in)) meets) in
    let (as_long, runs) =
    reordered_block read is_jump local_reader (execute floor) next goes_on (footprint floor) Meets (execute_swap floor) code order budget end total start final
    (straight code code_fits no_jump) ran new kept in
    let new_fits : ltb longest_code (length (rearranged read code order)) ≡ false = ap (ltb longest_code) as_long ∙ code_fits in
    rw (fits.memory_fits, fits.floor_fits, new_fits) runs
