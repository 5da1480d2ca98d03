-- The footprint says what a step uses: the step goes by what its footprint reads alone, and so does where it goes on; and it changes what it writes
-- alone. For both are made from one plan.
use Rattle.std.specs.Prelude.{◌≡◌, refl, Bool, true, false, cond, ◌&&◌, ◌||◌, List, [], ◌∷◌, ℕ, ◌+◌, eqb, leb, ltb, length, get_or, drop}
use Rattle.basis.specs.Names.{Memᴰ as In}
use Rattle.basis.proofs.Names.{sym, ap, ap₂, ◌∙◌, subst, subst₂, false≢true, or-false, Memᴰ-head as here, eqb-true}
use Rattle.words.proofs.Laws.{and_both}
use Rattle.reorder.specs.Result.{Result, done, refused, case_of, and_then, map_result, provided}
use Rattle.reorder.specs.Plan.{Plan, looks, puts, perform as performed}
use Rattle.reorder.specs.Footprint.{Footprint, footprint_of as of_plan, footprint_in, asked}
use Rattle.reorder.specs.Run.{Fetched}
use Rattle.reorder.proofs.Results.{provided_done}
use Rattle.reorder.proofs.Swapping.{completed as planned}
use Rattle.reorder.proofs.Honest.{Alike, asked_reads, honest, untouched}
use Rattle.codec.specs.Forms.{absent, is_among, reg32←imm32, reg32·imm8/0, reg32·alone, rel8off}
use Rattle.codec.specs.Contents.{Line, lines}
use Rattle.codec.specs.Opcodes.{escape, form_at, form_of_first, form_for, operation_for}
use Rattle.codec.specs.declared.Instruction.{Instruction}
use Rattle.codec.specs.inner.Entries.{is_ordinary}
use Rattle.codec.proofs.Bytes.{found_has, opcode_passes, ordinary, ordinary_suffix, used_kind, among}
use Rattle.codec.specs.declared.Kind.{Kind}
use Rattle.codec.specs.declared.Kind.TheVariants.{Ordinary, Emms, Silent, Loop}
use Rattle.codec.specs.Reads.{read_at}
use Rattle.manual.specs.Refusals.{memory_too_long, floor_too_high}
use Rattle.manual.specs.State.{State, with_tag, longest_memory, frozen}
use Rattle.manual.specs.Places.{Place, mmx, integer, byte, zero_mark, look, put}
use Rattle.manual.specs.Kinds.{marked, KindsMeet}
use Rattle.manual.specs.Effects.{Effect, plan_on, unless_marked, via, plan, perform, footprint_of}
use Rattle.manual.specs.Instructions.{effect_by, effect_of, execute, footprint}
use Rattle.manual.specs.Jumps.{is_jump, next}
use Rattle.manual.specs.Steps.{Outcome, completed, refused_with, result_of, concluded, instruction_at, step_at}
use Rattle.manual.specs.Footprints.{footprint_at}
use Rattle.manual.proofs.Laws.{laws, zero_seen, local}
use Rattle.manual.proofs.Marking.{past_marks}
use Rattle.manual.proofs.Jumps.{goes_on, by_zero_mark}
use Rattle.manual.proofs.Refusals.{step_executed}
use Rattle.manual.proofs.Floors.{plan_on_lem}
use Rattle.manual.proofs.Loops.{jump_touches}
use Rattle.manual.proofs.Shapes.{bare}

-- the places whose contents an instruction goes by in a state, whether it is refused or not
abbrev pub asked_by : ℕ → Instruction → State → List Place
asked_by floor i s = asked (via (effect_of i)) (plan floor (effect_of i) s)

-- where it has a footprint, these are the places that the footprint reads
pub asked_is_read : (floor : ℕ) (i : Instruction) (s : State) (f : Footprint Place Kind) → footprint floor i s ≡ done f → asked_by floor i s ≡ f.reads
unfolding footprint
asked_is_read floor i s f e = asked_reads look (via (effect_of i)) s (plan floor (effect_of i) s) f e

-- two states that agree on what is frozen (the control marks, the memory's length, as many registers) and on these places: one footprint or
-- one refusal, and the same is left in what the footprint writes
pub goes_by_reads : (floor : ℕ) (i : Instruction) (s s' : State) → frozen s ≡ frozen s' → ((p : Place) → In p (asked_by floor i s) → look s p ≡ look s' p)
    → (footprint floor i s' ≡ footprint floor i s) × Alike look (footprint floor i s) (execute floor i s) (execute floor i s')
unfolding execute footprint
goes_by_reads floor i s s' f h = honest look put marked frozen KindsMeet laws via (plan floor) (local floor) (effect_of i) s s' f h

-- so a step that completes does so in every state that agrees on what is frozen and on what its footprint reads, with the same footprint, and
-- leaves the same in what it writes
pub completes_alike : (floor : ℕ) (i : Instruction) (s s' t : State) (f : Footprint Place Kind) → execute floor i s ≡ done t → footprint floor i s ≡ done f
    → frozen s ≡ frozen s' → ((p : Place) → In p f.reads → look s p ≡ look s' p)
    → (t' : State) × (execute floor i s' ≡ done t') × (footprint floor i s' ≡ done f) × ((p : Place) → In p f.writes → look t p ≡ look t' p)
completes_alike floor i s s' t f e ef same agree =
    let reads : asked_by floor i s ≡ f.reads = asked_is_read floor i s f ef in
    let (ef', alike) = goes_by_reads floor i s s' same (λ p m. agree p (subst (In p) reads m)) in
    go (execute floor i s') refl (ef' ∙ ef) (subst₂ (λ x y. Alike look x y (execute floor i s')) ef e alike)
  where
    go : (o : Result State) → execute floor i s' ≡ o → footprint floor i s' ≡ done f → Alike look (done f) (done t) o
        → (t' : State) × (execute floor i s' ≡ done t') × (footprint floor i s' ≡ done f) × ((p : Place) → In p f.writes → look t p ≡ look t' p)
    go (done t') e' ef' alike = (t', e', ef', alike)
    go (refused n) e' ef' alike = absurd alike

-- where a run goes on goes by those places too: a jump reads the zero mark
pub goes_on_alike : (floor length behind : ℕ) (i : Instruction) (s s' : State) → ((p : Place) → In p (asked_by floor i s) → look s p ≡ look s' p)
    → next length i s behind ≡ next length i s' behind
goes_on_alike floor length behind i s s' agree = by (is_jump i) refl
  where
    by : (t : Bool) → is_jump i ≡ t → next length i s behind ≡ next length i s' behind
    by true e =
        let reads = asked_is_read floor i s _ (jump_touches floor i s (eqb-true i.first 0x75 e)) in
        by_zero_mark length i s s' behind (zero_seen s s' (agree zero_mark (subst (In zero_mark) (sym reads) (here refl))))
    by false e = goes_on i e length s behind ∙ sym (goes_on i e length s' behind)

-- and so does the whole step: it completes in both states, goes on at one position, and leaves the same in what it writes
pub step_alike : (floor : ℕ) (code : List ℕ) (at further : ℕ) (s s' t : State) (f : Footprint Place Kind) → step_at floor code at s ≡ completed further t
    → footprint_at floor code at s ≡ done f → frozen s ≡ frozen s' → ((p : Place) → In p f.reads → look s p ≡ look s' p)
    → (t' : State) × (step_at floor code at s' ≡ completed further t') × ((p : Place) → In p f.writes → look t p ≡ look t' p)
unfolding step_at footprint_at instruction_at
step_alike floor code at further s s' t f e ef same agree =
    let x = step_executed floor code at further s t e in
    let i = x.found.instruction in
    let its : footprint floor i s ≡ done f = sym (provided_done (footprint floor i s) further) ∙ (simp (x.stands, x.goes_on) at ef) in
    let (t', ex, ef', writes) = completes_alike floor i s s' t f x.executes its same agree in
    let stands : instruction_at floor code at s' ≡ done x.found =
    sym (λ j. cond (ltb longest_memory (same j).memory) (refused memory_too_long) (cond (ltb (same j).memory floor) (refused floor_too_high) (result_of (read_at code at)))) ∙ x.stands in
    let on : next (length code) i s' (at + x.found.size) ≡ done further =
    sym (goes_on_alike floor (length code) (at + x.found.size) i s s' (λ p m. agree p (subst (In p) (asked_is_read floor i s f its) m))) ∙ x.goes_on in
    (t', simp (stands, ex, on), writes)

-- nothing else changes: no place but those that the footprint writes, no control mark, not the memory's length
pub changes_writes : (floor : ℕ) (i : Instruction) (s t : State) (f : Footprint Place Kind) → execute floor i s ≡ done t → footprint floor i s ≡ done f
    → (frozen t ≡ frozen s) × ((p : Place) → ¬ In p f.writes → look t p ≡ look s p)
unfolding execute footprint
changes_writes floor i s t f e h = untouched look put marked frozen KindsMeet laws via (plan floor) (effect_of i) s t f e h

-- where a step completes, there is a footprint
pub completes_footprint : (floor : ℕ) (i : Instruction) (s t : State) → execute floor i s ≡ done t → (f : Footprint Place Kind) × (footprint floor i s ≡ done f)
unfolding execute footprint
completes_footprint floor i s t e =
    let (pl, vs, ep, em, et) = planned look put marked via (plan floor) (effect_of i) s t e in
    (of_plan (via (effect_of i)) pl, simp (ep, em))

-- and a footprint is that of a plan
pub footprint_planned : (floor : ℕ) (i : Instruction) (s : State) (f : Footprint Place Kind) → footprint floor i s ≡ done f
    → (pl : Plan Place Kind) × (plan floor (effect_of i) s ≡ done pl) × (of_plan (via (effect_of i)) pl ≡ f)
unfolding footprint
footprint_planned floor i s f h = planning (plan floor (effect_of i) s) refl h
  where
    Planned : Type 0
    Planned = (pl : Plan Place Kind) × (plan floor (effect_of i) s ≡ done pl) × (of_plan (via (effect_of i)) pl ≡ f)

    making : (pl : Plan Place Kind) → plan floor (effect_of i) s ≡ done pl → (o : Result (List ℕ)) → map_result (λ values. of_plan (via (effect_of i)) pl) o ≡ done f → Planned
    making pl e (refused n) h = absurd (false≢true (cc))
    making pl e (done values) h = (pl, e, cc)

    planning : (o : Result (Plan Place Kind)) → plan floor (effect_of i) s ≡ o → footprint_in look (via (effect_of i)) s o ≡ done f → Planned
    planning (refused n) e h = absurd (false≢true (cc))
    planning (done pl) e h = making pl e (pl.make (looks look s pl.source)) h

-- the tag mark that a kind leaves, from the one before
abbrev pub tag_of : Kind → Bool → Bool
tag_of Ordinary valid = true
tag_of Emms valid = false
tag_of Silent valid = valid
tag_of Loop valid = valid

tag_marked : (k : Kind) (s : State) → (marked k s).marks.valid ≡ tag_of k s.marks.valid
tag_marked Ordinary s = refl
tag_marked Emms s = refl
tag_marked Silent s = refl
tag_marked Loop s = refl

-- what is put into places leaves the tag mark
puts_tag : (s : State) (ps : List Place) (values : List ℕ) → (puts put s ps values).marks.valid ≡ s.marks.valid
puts_tag s [] values = refl
puts_tag s (p ∷ ps) values = puts_tag (put s p (get_or values 0 0)) ps (drop 1 values) ∙ one p (get_or values 0 0)
  where
    one : (p : Place) (value : ℕ) → (put s p value).marks.valid ≡ s.marks.valid
    one (mmx k) value = refl
    one (integer k) value = refl
    one (byte a) value = refl
    one zero_mark value = refl

-- a plan has its effect's kind
plan_kind : (floor : ℕ) (e : Effect) (s : State) (pl : Plan Place Kind) → plan floor e s ≡ done pl → pl.kind ≡ e.kind
plan_kind floor e s pl h = sym (ap (λ (p : Plan Place Kind). p.kind) (plan_on_lem floor e s pl h).same)

-- EMMS is 0F 77
abbrev pub is_emms : ℕ → ℕ → Bool
is_emms first second = eqb first escape && eqb second 0x77

-- prefetches and SFENCE are 0F 18 and 0F AE
abbrev pub silent_bytes : List ℕ
silent_bytes = 0x18 ∷ 0xae ∷ []

abbrev pub is_silent : ℕ → ℕ → Bool
is_silent first second = eqb first escape && is_among second silent_bytes

-- those of loops are 83, 48 to 4F, 75, and B8 to BF
abbrev pub is_loop_byte : ℕ → Bool
is_loop_byte first =
    (leb 0x83 first && ltb first 0x84) || (leb 0x48 first && ltb first 0x50) || (leb 0x75 first && ltb first 0x76) || (leb 0xb8 first && ltb first 0xc0)

-- the kind of the opcode bytes
abbrev pub kind_at : ℕ → ℕ → Kind
kind_at first second = cond (is_emms first second) Emms (cond (is_silent first second) Silent (cond (is_loop_byte first) Loop Ordinary))

-- which the list says too: 77 has the kind of EMMS, 18 and AE that of what touches nothing, and no other second byte has another than the usual kind
byte_kind : (second : ℕ) → (form_at second).kind ≡ cond (eqb second 0x77) Emms (cond (is_among second silent_bytes) Silent Ordinary)
unfolding form_at
byte_kind second = by (eqb second 0x77) (is_among second silent_bytes) refl refl
  where
    by : (a b : Bool) → eqb second 0x77 ≡ a → is_among second silent_bytes ≡ b → (form_at second).kind ≡ cond a Emms (cond b Silent Ordinary)
    by true b e f = ap (λ (k : ℕ). (form_at k).kind) (eqb-true second 0x77 e)
    by false true e f = among (λ k. (form_at k).kind ≡ Silent) second silent_bytes f refl refl
    by false false e f =
        found_has (λ x. x.form) absent (λ form. form.kind ≡ Ordinary) (λ x. eqb second x.second)
        (λ x. is_ordinary x.form.kind || (eqb x.second 0x77 || is_among x.second silent_bytes)) refl other lines refl
      where
        other : (x : Line) → eqb second x.second ≡ true → (is_ordinary x.form.kind || (eqb x.second 0x77 || is_among x.second silent_bytes)) ≡ true
            → x.form.kind ≡ Ordinary
        other x g h =
            let same : x.second ≡ second = sym (eqb-true second x.second g) in
            ordinary x.form.kind (sym (or-false (is_ordinary x.form.kind)) ∙ (simp (e, f) at (rw same at h)))

-- an instruction has the kind of its opcode bytes
kind_exactly : (i : Instruction) → (effect_of i).kind ≡ kind_at i.first i.second
unfolding effect_of form_of_first
kind_exactly i =
    used_kind (form_for i.first i.second) i.immediate (opcode_passes ordinary_suffix refl refl refl i.first i.second) ∙ by (eqb i.first escape) refl
  where
    n : ℕ
    n = i.first

    first : (a b c d : Bool) → (cond a reg32·imm8/0 (cond b reg32·alone (cond c rel8off (cond d reg32←imm32 absent)))).kind ≡ cond (a || b || c || d) Loop Ordinary
    first true b c d = refl
    first false true c d = refl
    first false false true d = refl
    first false false false true = refl
    first false false false false = refl

    by : (t : Bool) → eqb n escape ≡ t → (form_for n i.second).kind ≡ kind_at n i.second
    by true e = rw (eqb-true n escape e) (byte_kind i.second)
    by false e = simp e (first (leb 0x83 n && ltb n 0x84) (leb 0x48 n && ltb n 0x50) (leb 0x75 n && ltb n 0x76) (leb 0xb8 n && ltb n 0xc0))

-- and so has its footprint
pub footprint_kind : (floor : ℕ) (i : Instruction) (s : State) (f : Footprint Place Kind) → footprint floor i s ≡ done f → f.kind ≡ kind_at i.first i.second
footprint_kind floor i s f h =
    let (pl, planned_so, same) = footprint_planned floor i s f h in
    ap (λ (g : Footprint Place Kind). g.kind) (sym same) ∙ plan_kind floor (effect_of i) s pl planned_so ∙ kind_exactly i

-- "Every completed instruction but EMMS sets it valid; EMMS sets it empty"; prefetches, SFENCE and those of loops keep it
pub tag_after : (floor : ℕ) (i : Instruction) (s t : State) → execute floor i s ≡ done t → t.marks.valid ≡ tag_of (kind_at i.first i.second) s.marks.valid
unfolding execute
tag_after floor i s t e =
    let (pl, vs, ep, em, et) = planned look put marked via (plan floor) (effect_of i) s t e in
    ap (λ (u : State). u.marks.valid) et
    ∙ tag_marked pl.kind (puts put s pl.target vs)
    ∙ ap₂ tag_of (plan_kind floor (effect_of i) s pl ep ∙ kind_exactly i) (puts_tag s pl.target vs)

-- "EMMS sets it empty and changes nothing else": what it leaves is the state with the tag mark empty, unless a control mark refuses it
pub emms_leaves : (floor : ℕ) (i : Instruction) (s : State) → i.first ≡ 0x0f → i.second ≡ 0x77
    → execute floor i s ≡ unless_marked s.marks (done (with_tag s false))
unfolding execute effect_of form_at
emms_leaves floor i s first second =
    ap₂ (λ (m n : ℕ). perform floor (effect_by (form_for m n) (operation_for m n i.operand.reg) i) s) first second
    ∙ past_marks (performed look put marked s) (λ n. refl) s.marks (done (plan_on (bare Emms) [] []))

-- prefetches and SFENCE touch nothing, not even tags, ignore the control marks, never give 10, 14 or 21, and have an empty footprint
pub silent_passes : (floor : ℕ) (i : Instruction) (s : State) → is_silent i.first i.second ≡ true
    → (execute floor i s ≡ done s) × (footprint floor i s ≡ done (record { reads = []; writes = []; kind = Silent }))
unfolding execute footprint effect_of form_at
silent_passes floor i s h =
    let (first, second) = and_both (eqb i.first escape) _ h in
    subst (λ (m : ℕ). Passing m i.second) (sym (eqb-true i.first escape first)) (among (Passing escape) i.second silent_bytes second (refl, refl) (refl, refl))
  where
    Passing : ℕ → ℕ → Type 0
    Passing m n = let e = effect_by (form_for m n) (operation_for m n i.operand.reg) i in
        (perform floor e s ≡ done s) × (footprint_of floor e s ≡ done (record { reads = []; writes = []; kind = Silent }))

-- an outcome and a footprint go together: both there, or both refused by one number
abbrev pub Together : Outcome → Result (Footprint Place Kind) → Type 0
Together (completed at t) (done f) = Unit {0}
Together (completed at t) (refused n) = ⊥
Together (refused_with m at t) (done f) = ⊥
Together (refused_with m at t) (refused n) = m ≡ n

-- a step has a footprint exactly where it completes; else the footprint's refusal is the step's
pub footprint_exactly : (floor : ℕ) (code : List ℕ) (at : ℕ) (s : State) → Together (step_at floor code at s) (footprint_at floor code at s)
unfolding step_at footprint_at execute footprint
footprint_exactly floor code at s = reading (instruction_at floor code at s)
  where
    making : (further : Result ℕ) (o : Result (List ℕ)) (leave : List ℕ → State) (touch : List ℕ → Footprint Place Kind)
        → Together (concluded at further s (map_result leave o)) (provided (map_result touch o) further)
    making (done position) (done values) leave touch = tt
    making (refused n) (done values) leave touch = refl
    making further (refused n) leave touch = refl

    planning : (further : Result ℕ) (r : Fetched Instruction) (o : Result (Plan Place Kind)) → plan floor (effect_of r.instruction) s ≡ o
        → Together (concluded at further s (execute floor r.instruction s)) (provided (footprint floor r.instruction s) further)
    planning further r (done pl) e = simp e (making further (pl.make (looks look s pl.source)) _ _)
    planning further r (refused n) e = simp e refl

    reading : (o : Result (Fetched Instruction))
        → Together (case_of o (λ n. refused_with n at s) (λ r. concluded at (next (length code) r.instruction s (at + r.size)) s (execute floor r.instruction s)))
        (and_then o (λ r. provided (footprint floor r.instruction s) (next (length code) r.instruction s (at + r.size))))
    reading (refused n) = refl
    reading (done r) = planning (next (length code) r.instruction s (at + r.size)) r (plan floor (effect_of r.instruction) s) refl
