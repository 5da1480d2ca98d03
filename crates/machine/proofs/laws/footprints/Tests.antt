-- The tests before the footprint, in the order of a step's: the memory's length, the reader's, where an instruction of loops goes on, the control
-- marks. Rules for their answers.
use Rattle.std.specs.Prelude.{◌≡◌, refl, List, ℕ, ◌-◌, ◌/◌, ◌^◌, ◌+◌, ◌≤◌, ◌<◌, length}
use Rattle.basis.proofs.Names.{sym, ap, ◌∙◌, arith, rules, lt-ltb}
use Rattle.reorder.specs.Result.{Result, refused, and_then, map_result, provided}
use Rattle.reorder.specs.Plan.{Plan}
use Rattle.reorder.specs.Footprint.{footprint_in}
use Rattle.reorder.proofs.Results.{provided_done, provided-map}
use Rattle.std.specs.Prelude.{Ok, Err}
use Rattle.codec.specs.Answers.{Decoded, good}
use Rattle.codec.specs.Answers as decoded
use Rattle.codec.specs.Opcodes.{escape}
use Rattle.codec.specs.Finding.{find_with}
use Rattle.codec.specs.Refusals.{code_too_long}
use Rattle.codec.specs.Table.{opcode_table}
use Rattle.codec.specs.Reads.{longest_code, read_at}
use Rattle.codec.specs.declared.Found.{Found}
use Rattle.codec.specs.declared.Kind.{Kind}
use Rattle.codec.proofs.OurTable.{read_long, read_next, read_on, read_stop}
use Rattle.manual.specs.Refusals.{memory_too_long}
use Rattle.manual.specs.State.{State, longest_memory}
use Rattle.manual.specs.Places.{Place, look}
use Rattle.manual.specs.Kinds.{heeded}
use Rattle.manual.specs.Effects.{Effect, unless_marked, via}
use Rattle.manual.specs.Instructions.{effect_of, footprint}
use Rattle.manual.specs.Jumps.{onward_by, next}
use Rattle.manual.specs.Steps.{result_of, instruction_at}
use Rattle.manual.specs.Footprints.{footprint_at}
use Rattle.manual.proofs.Jumps.{no_jump}
use Rattle.manual.proofs.Marking.{past_marks}
use Rattle.manual.proofs.Turns.{within_limits}
use Rattle.manual.proofs.Floors.{placed_zero}
use Rattle.machine.specs.declared.Footprint.{Footprint}
use Rattle.machine.specs.declared.Machine.{Machine}
use Rattle.machine.specs.State.{state_of}
use Rattle.machine.specs.Footprints.{masked, masked_at}
use Rattle.machine.specs.inner.Reaches.{unmarked_footprint}
use Rattle.works.specs.Bars.{barred_by}
use Rattle.machine.specs.inner.Works.{stopping_by, effect_in}
use Rattle.machine.specs.inner.Loops.{loop_footprint}
use Rattle.machine.proofs.laws.gathering.Fetching.{names_registers, is_listed_lem, is_looping, effect_found, kind_found}
use Rattle.machine.proofs.laws.loops.Looping.{loop_footprint_lem}
use Rattle.machine.proofs.laws.gathering.Testing.{unbarred_by, barred_by_lem, stopped_by}

-- past the memory's length
module _ (code : List ℕ) (at : ℕ) (machine : Machine) (memory : List ℕ) where
  abbrev here : State
  here = state_of machine memory

  pub traced_long : longest_memory < length memory → refused memory_too_long ≡ masked_at code at here
  unfolding masked_at footprint_at instruction_at
  traced_long h = simp (lt-ltb longest_memory (length memory) h)

  module _ (short : length memory ≤ longest_memory) where
    by_reading : (z : Decoded) → z ≡ read_at code at
        → masked_at code at here
        ≡ map_result masked (and_then (result_of z) (λ r. provided (footprint 0 r.instruction here) (next (length code) r.instruction here (at + r.size))))
    unfolding masked_at footprint_at instruction_at
    by_reading z e = let fits = within_limits 0 here short (omega arith) in simp (fits.memory_fits, fits.floor_fits, ← e)

    pub traced_code_long : longest_code < length code → refused code_too_long ≡ masked_at code at here
    traced_code_long h = sym (by_reading (decoded.refused code_too_long) (read_long code at h))

    -- with our table
    module _ (fits : length code ≤ longest_code) (table : List ℕ) (ours : table ≡ opcode_table) where
      pub traced_unread : (n : ℕ) → Err n ≡ find_with table code at → refused n ≡ masked_at code at here
      traced_unread n e = sym (by_reading (decoded.refused n) (read_stop code at n table ours e fits))

    module _ (fits : length code ≤ longest_code) (table : List ℕ) (x : Found) (ours : table ≡ opcode_table) (e : Ok x ≡ find_with table code at) where
      abbrev answered : Result Footprint
      answered = unmarked_footprint (effect_in x.entry x.instruction) here

      -- where the run goes on
      abbrev further : Result ℕ
      further = next (length code) x.instruction here x.next

      behind : at + (x.next - at) ≡ x.next
      behind = omega (arith, read_next code at x table ours e)

      traced_found : masked_at code at here ≡ unless_marked (heeded (effect_in x.entry x.instruction).kind machine.marks) (provided answered further)
      unfolding footprint unmarked_footprint
      traced_found =
          by_reading (good x.instruction (x.next - at)) (read_on code at x table ours e fits)
          ∙ ap (λ (n : ℕ). map_result masked (provided (footprint 0 x.instruction here) (next (length code) x.instruction here n))) behind
          ∙ provided-map masked (footprint 0 x.instruction here) further
          ∙ past_marks (λ (o : Result (Plan Place Kind)). provided (map_result masked (footprint_in look (via (effect_of x.instruction)) here o)) further) (λ n. refl)
          (heeded (effect_of x.instruction).kind machine.marks) _
          ∙ ap (λ (o : Result (Plan Place Kind)). unless_marked (heeded (effect_of x.instruction).kind machine.marks) (provided (map_result masked (footprint_in look (via (effect_of x.instruction)) here o)) further))
          (placed_zero (effect_of x.instruction) here)
          ∙ ap (λ (y : Effect). unless_marked (heeded y.kind machine.marks) (provided (unmarked_footprint y here) further)) (sym (effect_found table code at x ours e))

      -- one of loops, by its own footprint
      pub traced_looped : (o : Result Footprint) → (x.instruction.first ≡ escape → ⊥)
          → o ≡ map_result (λ position. loop_footprint (x.entry / 2 ^ 24) x.instruction) (onward_by (length code) x.instruction machine.marks.zero x.next)
          → o ≡ masked_at code at here
      traced_looped o other p =
          p
          ∙ sym (traced_found
          ∙ ap (λ (k : Kind). unless_marked (heeded k machine.marks) (provided answered further)) (kind_found table code at x ours e other)
          ∙ ap (λ (y : Result Footprint). provided y further) (loop_footprint_lem x.entry x.instruction (is_looping table code at x ours e other) here))

      -- the number of the marks that stop it, or 0, where its first byte is 0F
      module _ (escaped : x.instruction.first ≡ escape) (bar stop : ℕ) (found : bar ≡ barred_by machine.marks) (stopping : stop ≡ stopping_by bar (x.entry / 2 ^ 24)) where
        stops_it_lem : stop ≡ barred_by (heeded (effect_in x.entry x.instruction).kind machine.marks)
        stops_it_lem = stopping ∙ ap (λ (k : ℕ). stopping_by k (x.entry / 2 ^ 24)) found ∙ sym (stopped_by (x.entry / 2 ^ 24) machine.marks x.instruction.immediate)

        traced_behind : masked_at code at here ≡ unless_marked (heeded (effect_in x.entry x.instruction).kind machine.marks) answered
        traced_behind =
            traced_found
            ∙ ap (unless_marked (heeded (effect_in x.entry x.instruction).kind machine.marks))
            (ap (provided answered) (no_jump (length code) x.instruction here x.next (λ z. omega (arith, escaped))) ∙ provided_done answered x.next)

        pub traced_barred : (stop ≡ 0 → ⊥) → refused stop ≡ masked_at code at here
        traced_barred h = ap refused stops_it_lem ∙ sym (traced_behind ∙ barred_by_lem _ _ (λ z. h (stops_it_lem ∙ z)))

        pub traced_unbarred : (r : Result Footprint) → stop ≡ 0 → r ≡ answered → r ≡ masked_at code at here
        traced_unbarred r h p = p ∙ sym (traced_behind ∙ unbarred_by _ _ (sym stops_it_lem ∙ h))

pub ruleset position_rules = (rules, names_registers, is_listed_lem, is_looping, traced_looped, traced_long, traced_code_long, traced_unread, traced_barred, traced_unbarred)
