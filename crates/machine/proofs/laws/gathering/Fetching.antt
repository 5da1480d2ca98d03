-- The step at a position, from what the code has found there: the reader's refusal, the work of an instruction of loops, the refusal of the control
-- marks, or the work of any other.
use Rattle.std.specs.Prelude.{◌≡◌, refl, Bool, false, cond, List, ℕ, ◌+◌, ◌/◌, ◌^◌, ◌≤◌, length, get_or, drop, Result, Ok, Err}
use Rattle.basis.proofs.Names.{sym, ap, subst, ◌∙◌, arith, eq-eqb, ne_eqb, le-ltb}
use Rattle.reorder.specs.Result.{done, case_of}
use Rattle.reorder.specs.Result as outcome
use Rattle.codec.specs.Forms.{is_absent}
use Rattle.codec.specs.Opcodes.{escape, form_at, form_of_first, form_for}
use Rattle.codec.proofs.Bytes.{opcode_passes, ordinary_suffix, used_kind}
use Rattle.codec.specs.inner.Fields.{Registers}
use Rattle.codec.specs.Table.{entry_of_first, opcode_table}
use Rattle.codec.specs.Reads.{longest_code, read_part}
use Rattle.codec.specs.Finding.{entry_for, found_in, find_with}
use Rattle.codec.specs.declared.Found.{Found}
use Rattle.codec.specs.declared.Instruction.{Instruction}
use Rattle.codec.specs.declared.Kind.{Kind}
use Rattle.codec.specs.declared.Kind.TheVariants.{Loop}
use Rattle.codec.specs.Answers.{Decoded, good, refused}
use Rattle.codec.proofs.Readers.{Holds, moved}
use Rattle.codec.proofs.Given.{Known, Refusal, reads_known}
use Rattle.codec.proofs.OurTable.{found_ours}
use Rattle.codec.proofs.Theorems.{found_registers}
use Rattle.manual.specs.declared.Marks.{Marks}
use Rattle.manual.specs.State.{State, longest_memory}
use Rattle.manual.specs.Kinds.{heeded}
use Rattle.manual.specs.Effects.{Effect, unless_marked}
use Rattle.manual.specs.inner.Unmarked.{directly}
use Rattle.manual.specs.Instructions.{effect_of, execute}
use Rattle.manual.specs.Jumps.{onward_by, next}
use Rattle.manual.specs.Steps.{concluded, refused_with, result_of, step_at}
use Rattle.manual.specs.Runs.{read}
use Rattle.manual.proofs.Jumps.{no_jump}
use Rattle.manual.proofs.Turns.{within_limits, instruction_here}
use Rattle.manual.proofs.Direct.{marks_first}
use Rattle.works.specs.declared.Work.{Work}
use Rattle.machine.specs.State.{state_of}
use Rattle.works.specs.Bars.{barred_by}
use Rattle.works.specs.Works.{refused_work}
use Rattle.machine.specs.inner.Works.{machine_of, stopping_by, effect_in, Listed, performed, Does, Gathered}
use Rattle.machine.specs.inner.Loops.{Looping, Loops}
use Rattle.machine.proofs.laws.gathering.Listing.{entry_listed, entry_looping, effect_is, loop_kind}
use Rattle.machine.proofs.laws.gathering.Soundness.{sound_refusal}
use Rattle.machine.proofs.laws.gathering.Testing.{unbarred_by, barred_by_lem, stopped_by}

-- an effect where no mark stops its kind
abbrev heedfully : ℕ → Effect → State → outcome.Result State
heedfully floor e s = unless_marked (heeded e.kind s.marks) (directly floor e s)

module _ (code : List ℕ) (at : ℕ) where
  -- within the limits
  module _ (floor : ℕ) (s : State) (code_fits : length code ≤ longest_code) (memory_fits : length s.memory ≤ longest_memory) (floor_fits : floor ≤ length s.memory) where
    step_reads : (z : Decoded) → read_part (drop at code) ≡ z
        → step_at floor code at s
        ≡ case_of (result_of z) (λ n. refused_with n at s) (λ r. concluded at (next (length code) r.instruction s (at + r.size)) s (execute floor r.instruction s))
    unfolding step_at read
    step_reads z r =
        simp (instruction_here floor code at s (within_limits floor s memory_fits floor_fits) (le-ltb longest_code (length code) code_fits), r)

module _ (table code : List ℕ) (at : ℕ) (x : Found) (ours : table ≡ opcode_table) (e : Ok x ≡ find_with table code at) where
  -- what is found is the defined reading, as far on as the position
  found_is : (z : Decoded) → read_part (drop at code) ≡ z → Ok x ≡ found_in opcode_table (moved at z)
  found_is = found_ours code at (Ok x) table ours e

  pub names_registers : Registers x.instruction.operand
  names_registers = found_registers table code at x e

  -- an instruction as it is found
  abbrev known : Instruction → ℕ → Found
  known i n = record { entry = entry_for opcode_table i; instruction = i; next = n }

  -- what holds of each instruction that is known holds of what was found
  found_known : (P : Found → Type 0) → ((i : Instruction) (n : ℕ) → Known form_at i → P (known i n)) → P x
  found_known P h = by (read_part (drop at code)) refl (reads_known form_at 0 (drop at code))
    where
      by : (z : Decoded) → read_part (drop at code) ≡ z → Holds (Known form_at) Refusal z → P x
      by (good i n) r g =
          let f : Ok x ≡ Ok (known i (at + n)) = found_is (good i n) r in
          let is : known i (at + n) ≡ x = cc in
          subst P is (h i (at + n) g)
      by (refused n) r g =
          let f : Ok x ≡ Err n = found_is (refused n) r in
          absurd (cc)

  pub is_listed_lem : x.instruction.first ≡ escape → Listed x.entry
  is_listed_lem =
      found_known (λ y. y.instruction.first ≡ escape → Listed y.entry)
      (λ i n g h.
      subst (λ (t : Bool). Listed (cond t (get_or opcode_table i.second 0) (entry_of_first i.first))) (sym (eq-eqb i.first escape h))
      (entry_listed i.second (simp (eq-eqb i.first escape h) at g.present)))

  other_known : (i : Instruction) → Known form_at i → (i.first ≡ escape → ⊥) → is_absent (form_of_first i.first) ≡ false
  other_known i g h = simp (ne_eqb i.first escape h) at g.present

  pub is_looping : (x.instruction.first ≡ escape → ⊥) → Looping x.entry x.instruction
  is_looping =
      found_known (λ y. (y.instruction.first ≡ escape → ⊥) → Looping y.entry y.instruction)
      (λ i n g h.
      subst (λ (t : Bool). Looping (cond t (get_or opcode_table i.second 0) (entry_of_first i.first)) i) (sym (ne_eqb i.first escape h))
      (entry_looping i (other_known i g h)))

  pub effect_found : effect_in x.entry x.instruction ≡ effect_of x.instruction
  effect_found = found_known (λ y. effect_in y.entry y.instruction ≡ effect_of y.instruction) (λ i n g. effect_is i g.registers)

  -- the kind of one of loops
  pub kind_found : (x.instruction.first ≡ escape → ⊥) → (effect_in x.entry x.instruction).kind ≡ Loop
  unfolding effect_of
  kind_found h =
      ap (λ (y : Effect). y.kind) effect_found
      ∙ found_known (λ y. (y.instruction.first ≡ escape → ⊥) → (effect_of y.instruction).kind ≡ Loop) (λ i n g other. of i (other_known i g other) other) h
    where
      of : (i : Instruction) → is_absent (form_of_first i.first) ≡ false → (i.first ≡ escape → ⊥) → (effect_of i).kind ≡ Loop
      of i there other =
          used_kind (form_for i.first i.second) i.immediate (opcode_passes ordinary_suffix refl refl refl i.first i.second)
          ∙ ap (λ (t : Bool). (cond t (form_at i.second) (form_of_first i.first)).kind) (ne_eqb i.first escape other) ∙ loop_kind i.first there

  -- within the limits
  module _ (floor : ℕ) (s : State) (code_fits : length code ≤ longest_code) (memory_fits : length s.memory ≤ longest_memory) (floor_fits : floor ≤ length s.memory) where
    -- where the run goes on
    abbrev further : outcome.Result ℕ
    further = next (length code) x.instruction s x.next

    step_found : step_at floor code at s ≡ concluded at further s (heedfully floor (effect_in x.entry x.instruction) s)
    unfolding execute
    step_found = by (read_part (drop at code)) refl (reads_known form_at 0 (drop at code))
      where
        by : (z : Decoded) → read_part (drop at code) ≡ z → Holds (Known form_at) Refusal z
            → step_at floor code at s ≡ concluded at further s (heedfully floor (effect_in x.entry x.instruction) s)
        by (good i n) r g =
            let f : Ok x ≡ Ok (known i (at + n)) = found_is (good i n) r in
            let is : known i (at + n) ≡ x = cc in
            step_reads code at floor s code_fits memory_fits floor_fits (good i n) r
            ∙ ap (concluded at (next (length code) i s (at + n)) s) (marks_first floor s (effect_of i))
            ∙ ap (λ (y : Effect). concluded at (next (length code) i s (at + n)) s (heedfully floor y s)) (sym (effect_is i g.registers))
            ∙ ap (λ (y : Found). concluded at (next (length code) y.instruction s y.next) s (heedfully floor (effect_in y.entry y.instruction) s)) is
        by (refused n) r g =
            let f : Ok x ≡ Err n = found_is (refused n) r in
            absurd (cc)

    -- of one with first byte 0F: behind it
    step_behind : x.instruction.first ≡ escape → step_at floor code at s ≡ concluded at (done x.next) s (heedfully floor (effect_in x.entry x.instruction) s)
    step_behind escaped =
        step_found
        ∙ ap (λ (o : outcome.Result ℕ). concluded at o s (heedfully floor (effect_in x.entry x.instruction) s))
        (no_jump (length code) x.instruction s x.next (λ z. omega (arith, escaped)))

  -- over lent registers and memory, with the number of the control marks and the zero mark
  module _ (registers integers m : List ℕ) (bar : ℕ) (zero : Bool) (code_fits : length code ≤ longest_code) (memory_fits : length m ≤ longest_memory) (work : Work) where
    abbrev state : Marks → State
    state marks = state_of (machine_of registers integers marks) m

    -- one of loops was found
    pub gathered_looped : (x.instruction.first ≡ escape → ⊥)
        → Loops work integers (effect_in x.entry x.instruction) (onward_by (length code) x.instruction zero x.next) → Gathered work registers integers bar zero code at m
    gathered_looped other l =
        record {
          sound = (l.does registers m).sound;
          steps = λ floor low marks b z.
              (l.does registers m).does floor marks at
              ∙ ap (λ (t : Bool). concluded at (onward_by (length code) x.instruction t x.next) (state marks) (directly floor (effect_in x.entry x.instruction) (state marks))) z
              ∙ sym (step_found floor (state marks) code_fits memory_fits low
              ∙ ap (λ (k : Kind). concluded at (onward_by (length code) x.instruction marks.zero x.next) (state marks) (unless_marked (heeded k marks) (directly floor (effect_in x.entry x.instruction) (state marks))))
              (kind_found other));
        }

    -- one with first byte 0F was found
    module _ (escaped : x.instruction.first ≡ escape) (stop : ℕ) (stopping : stop ≡ stopping_by bar (x.entry / 2 ^ 24)) where
      -- the number of the marks that stop it
      stops_it_lem : (marks : Marks) → bar ≡ barred_by marks → stop ≡ barred_by (heeded (effect_in x.entry x.instruction).kind marks)
      stops_it_lem marks b = stopping ∙ ap (λ (k : ℕ). stopping_by k (x.entry / 2 ^ 24)) b ∙ sym (stopped_by (x.entry / 2 ^ 24) marks x.instruction.immediate)

      pub gathered_barred : (stop ≡ 0 → ⊥) → work ≡ refused_work stop → Gathered work registers integers bar zero code at m
      unfolding performed
      gathered_barred h w =
          subst (λ (y : Work). Gathered y registers integers bar zero code at m) (sym w)
          (record {
            sound = sound_refusal stop;
            steps = λ floor low marks b z.
                ap (λ (k : ℕ). refused_with k at (state marks)) (stops_it_lem marks b)
                ∙ sym (step_behind floor (state marks) code_fits memory_fits low escaped ∙ ap (concluded at (done x.next) (state marks)) (barred_by_lem _ _ (λ z. h (stops_it_lem marks b ∙ z))));
          })

      pub gathered_sorted : stop ≡ 0 → Does work registers integers m (effect_in x.entry x.instruction) (done x.next)
          → Gathered work registers integers bar zero code at m
      gathered_sorted h d =
          record {
            sound = d.sound;
            steps = λ floor low marks b z.
                d.does floor marks at
                ∙ sym (step_behind floor (state marks) code_fits memory_fits low escaped ∙ ap (concluded at (done x.next) (state marks)) (unbarred_by _ _ (sym (stops_it_lem marks b) ∙ h)));
          }

-- nothing was found
module _ (table code : List ℕ) (at n : ℕ) (ours : table ≡ opcode_table) (e : Err n ≡ find_with table code at) (registers integers m : List ℕ) (bar : ℕ) (zero : Bool)
    (code_fits : length code ≤ longest_code) (memory_fits : length m ≤ longest_memory) (work : Work) where
  pub gathered_unread : work ≡ refused_work n → Gathered work registers integers bar zero code at m
  unfolding performed
  gathered_unread w = subst (λ (y : Work). Gathered y registers integers bar zero code at m) (sym w) (by (read_part (drop at code)) refl (reads_known form_at 0 (drop at code)))
    where
      by : (z : Decoded) → read_part (drop at code) ≡ z → Holds (Known form_at) Refusal z → Gathered (refused_work n) registers integers bar zero code at m
      by (good i k) r g =
          let f = found_ours code at (Err n) table ours e (good i k) r in
          absurd (cc)
      by (refused k) r g =
          let f : ◌≡◌ {A = Result Found ℕ} (Err n) (Err k) = found_ours code at (Err n) table ours e (refused k) r in
          let is : n ≡ k = cc in
          record {
            sound = sound_refusal n;
            steps = λ floor low marks b z.
                let s = state_of (machine_of registers integers marks) m in
                ap (λ (j : ℕ). refused_with j at s) is ∙ sym (step_reads code at floor s code_fits memory_fits low (refused k) r);
          }

-- a work that is another
pub gathered_same : (work made : Work) (registers integers : List ℕ) (bar : ℕ) (zero : Bool) (code : List ℕ) (at : ℕ) (m : List ℕ) → work ≡ made
    → Gathered made registers integers bar zero code at m → Gathered work registers integers bar zero code at m
gathered_same work made registers integers bar zero code at m e g = subst (λ (y : Work). Gathered y registers integers bar zero code at m) (sym e) g
