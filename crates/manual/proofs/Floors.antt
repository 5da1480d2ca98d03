-- A floor keeps the bytes below it: no step and no run changes one, whatever the block does. And a step over it is the step over floor 0, or refused.
use Rattle.std.specs.Prelude.{◌≡◌, refl, ◌⊎◌, Bool, true, false, cond, ◌&&◌, List, [], ◌∷◌, ◌++◌, ℕ, zero, suc, ◌+◌, ◌<◌, ◌≤◌, leb, length, get_or, take, drop}
use Rattle.basis.proofs.Names.{sym, ap, ◌∙◌, inl, inr, false≢true, arith, and-true, le-leb, leb-true, take-set-le}
use Rattle.words.proofs.Laws.{and_both}
use Rattle.reorder.specs.Result.{Result, done, refused, case_of, and_then, map_result}
use Rattle.reorder.specs.Plan.{Plan, puts, perform as performed}
use Rattle.reorder.specs.Footprint.{footprint_in}
use Rattle.reorder.specs.Run.{Fetched, Answer, state_reached, run_from}
use Rattle.reorder.proofs.Swapping.{completed as planned}
use Rattle.reorder.proofs.Endings.{by_turns}
use Rattle.codec.specs.Reads.{read_at}
use Rattle.codec.specs.declared.Instruction.{Instruction}
use Rattle.codec.specs.declared.Kind.{Kind}
use Rattle.codec.specs.declared.Kind.TheVariants.{Ordinary, Emms, Silent, Loop}
use Rattle.manual.specs.Refusals.{floor_too_high, below_floor}
use Rattle.manual.specs.State.{State, is_too_long, is_too_high}
use Rattle.manual.specs.Places.{Place, mmx, integer, byte, zero_mark, look, put, is_writable, all_writable}
use Rattle.manual.specs.Kinds.{marked, heeded}
use Rattle.manual.specs.Locations.{bytes_from}
use Rattle.manual.specs.Effects.{Effect, places_of_all, plan_on, placed, guarded, placed_above, via, plan}
use Rattle.manual.specs.Instructions.{effect_of, execute, footprint}
use Rattle.manual.specs.Jumps.{next}
use Rattle.manual.specs.Steps.{Outcome, completed, refused_with, result_of, concluded, instruction_at, step_at}
use Rattle.manual.specs.Runs.{read, run_of}
use Rattle.manual.proofs.Marking.{by_marks}
use Rattle.manual.proofs.Turns.{fits_zero, of_run}
use Rattle.manual.proofs.Refusals.{refused_step, step_executed}

-- Places that may be written

-- over floor 0 all may
all_zero : (ps : List Place) → all_writable 0 ps ≡ true
all_zero [] = refl
all_zero (mmx k ∷ ps) = all_zero ps
all_zero (integer k ∷ ps) = all_zero ps
all_zero (byte a ∷ ps) = ap (λ (t : Bool). t && all_writable 0 ps) (le-leb 0 a (omega arith)) ∙ all_zero ps
all_zero (zero_mark ∷ ps) = all_zero ps

-- those of an operand may exactly if its first byte may
pub writable_bytes : (floor size a : ℕ) → 0 < size → all_writable floor (bytes_from a size) ≡ leb floor a
writable_bytes floor zero a some = absurd (omega arith)
writable_bytes floor (suc zero) a some = and-true (leb floor a)
writable_bytes floor (suc (suc size)) a some =
    ap (λ (t : Bool). leb floor a && t) (writable_bytes floor (suc size) (a + 1) (omega arith)) ∙ by (leb floor a) refl
  where
    by : (t : Bool) → leb floor a ≡ t → (t && leb floor (a + 1)) ≡ t
    by true t = let low : floor ≤ a = leb-true floor a t in le-leb floor (a + 1) (omega arith)
    by false t = refl

-- those of two lists
pub writable_both : (floor : ℕ) (ps qs : List Place) → all_writable floor (ps ++ qs) ≡ (all_writable floor ps && all_writable floor qs)
writable_both floor [] qs = refl
writable_both floor (p ∷ ps) qs = by (is_writable floor p) (writable_both floor ps qs)
  where
    by : (t : Bool) → all_writable floor (ps ++ qs) ≡ (all_writable floor ps && all_writable floor qs)
        → (t && all_writable floor (ps ++ qs)) ≡ ((t && all_writable floor ps) && all_writable floor qs)
    by true e = e
    by false e = refl

-- The floor does nothing but refuse

-- what is made of a test's two answers
pub past_test : {A B : Type 0} (f : A → B) (t : Bool) (x y : A) → f (cond t x y) ≡ cond t (f x) (f y)
past_test f true x y = refl
past_test f false x y = refl

guarded_zero : (p : Plan Place Kind) → guarded 0 p ≡ done p
guarded_zero p = ap (λ (t : Bool). cond t (done p) (refused below_floor)) (all_zero p.target)

-- over floor 0 nothing
pub placed_zero : (e : Effect) (s : State) → placed_above 0 e s ≡ placed e s
placed_zero e s = by (placed e s)
  where
    by : (o : Result (Plan Place Kind)) → and_then o (guarded 0) ≡ o
    by (done p) = guarded_zero p
    by (refused n) = refl

-- over another only by 21: a plan is what it is over floor 0
plan_or_below : (floor : ℕ) (e : Effect) (s : State) → (plan floor e s ≡ plan 0 e s) ⊎ (plan floor e s ≡ refused below_floor)
plan_or_below floor e s =
    by_marks (λ a b. (a ≡ b) ⊎ (a ≡ refused below_floor)) (λ n. inl refl) (heeded e.kind s.marks) (placed_above floor e s) (placed_above 0 e s) (by (placed e s))
  where
    tested : (t : Bool) (p : Plan Place Kind) → let o = cond t (done p) (refused below_floor) in (o ≡ guarded 0 p) ⊎ (o ≡ refused below_floor)
    tested true p = inl (sym (guarded_zero p))
    tested false p = inr refl

    by : (o : Result (Plan Place Kind)) → (and_then o (guarded floor) ≡ and_then o (guarded 0)) ⊎ (and_then o (guarded floor) ≡ refused below_floor)
    by (done p) = tested (all_writable floor p.target) p
    by (refused n) = inl refl

-- an instruction that completes over a floor has there the footprint that it has over floor 0
pub footprint_zero : (floor : ℕ) (i : Instruction) (s t : State) → execute floor i s ≡ done t → footprint 0 i s ≡ footprint floor i s
unfolding execute footprint
footprint_zero floor i s t e = by (plan_or_below floor (effect_of i) s)
  where
    by : (plan floor (effect_of i) s ≡ plan 0 (effect_of i) s) ⊎ (plan floor (effect_of i) s ≡ refused below_floor)
        → footprint_in look (via (effect_of i)) s (plan 0 (effect_of i) s) ≡ footprint_in look (via (effect_of i)) s (plan floor (effect_of i) s)
    by (inl same) = ap (footprint_in look (via (effect_of i)) s) (sym same)
    by (inr below) = absurd (false≢true (cc (ap (performed look put marked s) below)))

-- a step over a floor is the step over floor 0, or it is refused by 20 or 21
pub step_or_refused : (floor : ℕ) (code : List ℕ) (at : ℕ) (s : State)
    → (step_at floor code at s ≡ step_at 0 code at s) ⊎ ((step_at floor code at s ≡ refused_with floor_too_high at s) ⊎ (step_at floor code at s ≡ refused_with below_floor at s))
unfolding step_at instruction_at execute
step_or_refused floor code at s = tests (is_too_long s.memory) (is_too_high floor s.memory) refl refl
  where
    -- what comes of a reading, over a floor
    step : ℕ → Result (Fetched Instruction) → Outcome
    step height o =
        case_of o (λ n. refused_with n at s) (λ r. concluded at (next (length code) r.instruction s (at + r.size)) s (execute height r.instruction s))

    Goal : Type 0
    Goal = (step_at floor code at s ≡ step_at 0 code at s) ⊎ ((step_at floor code at s ≡ refused_with floor_too_high at s) ⊎ (step_at floor code at s ≡ refused_with below_floor at s))

    planning : (r : Fetched Instruction) → (plan floor (effect_of r.instruction) s ≡ plan 0 (effect_of r.instruction) s) ⊎ (plan floor (effect_of r.instruction) s ≡ refused below_floor)
        → (step floor (done r) ≡ step 0 (done r)) ⊎ (step floor (done r) ≡ refused_with below_floor at s)
    planning r (inl same) = inl (ap (λ o. concluded at (next (length code) r.instruction s (at + r.size)) s (performed look put marked s o)) same)
    planning r (inr below) = inr (ap (λ o. concluded at (next (length code) r.instruction s (at + r.size)) s (performed look put marked s o)) below)

    reading : (o : Result (Fetched Instruction)) → (step floor o ≡ step 0 o) ⊎ (step floor o ≡ refused_with below_floor at s)
    reading (refused n) = inl refl
    reading (done r) = planning r (plan_or_below floor (effect_of r.instruction) s)

    found : Result (Fetched Instruction)
    found = result_of (read_at code at)

    joined : step_at floor code at s ≡ step floor found → step_at 0 code at s ≡ step 0 found
        → (step floor found ≡ step 0 found) ⊎ (step floor found ≡ refused_with below_floor at s) → Goal
    joined e z (inl same) = inl (e ∙ same ∙ sym z)
    joined e z (inr below) = inr (inr (e ∙ below))

    tests : (a b : Bool) → is_too_long s.memory ≡ a → is_too_high floor s.memory ≡ b → Goal
    tests true b ea eb = inl (simp ea)
    tests false true ea eb = inr (inl (simp (ea, eb)))
    tests false false ea eb =
        let zero_fits = fits_zero floor s (record { memory_fits = ea; floor_fits = eb }) in
        joined (simp (ea, eb)) (simp (ea, zero_fits.floor_fits)) (reading found)

-- No byte below it is changed

marked_memory : (kind : Kind) (s : State) → (marked kind s).memory ≡ s.memory
marked_memory Ordinary s = refl
marked_memory Emms s = refl
marked_memory Silent s = refl
marked_memory Loop s = refl

puts_keep : (floor : ℕ) (s : State) (ps : List Place) (values : List ℕ) → all_writable floor ps ≡ true
    → take floor (puts put s ps values).memory ≡ take floor s.memory
puts_keep floor s [] values h = refl
puts_keep floor s (p ∷ ps) values h =
    let (first, rest) = and_both (is_writable floor p) (all_writable floor ps) h in
    puts_keep floor (put s p (get_or values 0 0)) ps (drop 1 values) rest ∙ one p (get_or values 0 0) first
  where
    one : (p : Place) (value : ℕ) → is_writable floor p ≡ true → take floor (put s p value).memory ≡ take floor s.memory
    one (mmx k) value h = refl
    one (integer k) value h = refl
    one (byte a) value h = take-set-le floor s.memory a value (leb-true floor a h)
    one zero_mark value h = refl

-- a plan over a floor is that of its operands' places, and writes only what may be written
pub plan_past : (floor : ℕ) (e : Effect) (s : State) (pl : Plan Place Kind) → plan floor e s ≡ done pl → (placed e s ≡ done pl) × (all_writable floor pl.target ≡ true)
plan_past floor e s pl =
    by_marks (λ a b. a ≡ done pl → Past) (λ n h. absurd (false≢true (cc))) (heeded e.kind s.marks) (placed_above floor e s) (done pl) (by (placed e s) refl)
  where
    Past : Type 0
    Past = (placed e s ≡ done pl) × (all_writable floor pl.target ≡ true)

    tested : (t : Bool) (p : Plan Place Kind) → placed e s ≡ done p → all_writable floor p.target ≡ t → cond t (done p) (refused below_floor) ≡ done pl → Past
    tested true p x t h = let same : p ≡ pl = cc in (x ∙ h, ap (λ (q : Plan Place Kind). all_writable floor q.target) (sym same) ∙ t)
    tested false p x t h = absurd (false≢true (cc))

    by : (o : Result (Plan Place Kind)) → placed e s ≡ o → and_then o (guarded floor) ≡ done pl → Past
    by (done p) x h = tested (all_writable floor p.target) p x refl h
    by (refused n) x h = absurd (false≢true (cc))

-- it is the effect on those places
pub record OnPlaces (e : Effect) (s : State) (pl : Plan Place Kind) : Type 0 where
  pub sources : List Place
  pub targets : List Place
  pub takes : places_of_all s e.takes ≡ done sources
  pub gives : places_of_all s e.gives ≡ done targets
  pub same : plan_on e sources targets ≡ pl

pub plan_on_lem : (floor : ℕ) (e : Effect) (s : State) (pl : Plan Place Kind) → plan floor e s ≡ done pl → OnPlaces e s pl
plan_on_lem floor e s pl h = by (places_of_all s e.takes) (places_of_all s e.gives) refl refl (plan_past floor e s pl h).0
  where
    by : (a b : Result (List Place)) → places_of_all s e.takes ≡ a → places_of_all s e.gives ≡ b → and_then a (λ source. map_result (plan_on e source) b) ≡ done pl → OnPlaces e s pl
    by (done from) (done to) ea eb h = record { sources = from; targets = to; takes = ea; gives = eb; same = cc }
    by (done from) (refused n) ea eb h = absurd (false≢true (cc))
    by (refused n) b ea eb h = absurd (false≢true (cc))

execute_keeps : (floor : ℕ) (i : Instruction) (s t : State) → execute floor i s ≡ done t → take floor t.memory ≡ take floor s.memory
unfolding execute
execute_keeps floor i s t e =
    let (pl, vs, ep, em, et) = planned look put marked via (plan floor) (effect_of i) s t e in
    ap (λ (u : State). take floor u.memory) et
    ∙ ap (take floor) (marked_memory pl.kind (puts put s pl.target vs))
    ∙ puts_keep floor s pl.target vs (plan_past floor (effect_of i) s pl ep).1

-- the state that a step leaves, completed or refused
abbrev pub state_after : Outcome → State
state_after (completed at t) = t
state_after (refused_with n at t) = t

-- "no byte below it may be written": none is changed, by a step
pub step_keeps : (floor : ℕ) (code : List ℕ) (at : ℕ) (s : State) → take floor (state_after (step_at floor code at s)).memory ≡ take floor s.memory
step_keeps floor code at s = by (step_at floor code at s) refl
  where
    by : (o : Outcome) → step_at floor code at s ≡ o → take floor (state_after o).memory ≡ take floor s.memory
    by (completed further t) e =
        let x = step_executed floor code at further s t e in execute_keeps floor x.found.instruction s t x.executes
    by (refused_with n at' t) e = ap (λ (u : State). take floor u.memory) (refused_step floor code at n at' s t e).1

-- nor by a run, whatever the block, the budget and the state
pub run_keeps : (floor : ℕ) (code : List ℕ) (budget : ℕ) (s : State) → take floor (state_reached (run_of floor code budget s)).memory ≡ take floor s.memory
run_keeps floor code budget s =
    of_run floor code s (λ runs. Keeps s (runs budget)) (λ n e. refl) (λ fits code_fits. turning budget 0 0 s)
  where
    Keeps : State → Answer State → Type 0
    Keeps s a = take floor (state_reached a).memory ≡ take floor s.memory

    turning : (remaining at count : ℕ) (s : State) → Keeps s (run_from read (execute floor) next remaining code at count s)
    turning =
        by_turns read (execute floor) next code (λ remaining at count s a. Keeps s a)
        (record {
          ends = λ remaining at count s e. refl;
          spends = λ at count s e. refl;
          unread = λ remaining at count n s e er. refl;
          unexecuted = λ remaining at count n s r e er eo. refl;
          astray = λ remaining at count n s t r e er et eo. refl;
          turns = λ remaining at count s t r further a e er et eo rest. rest ∙ execute_keeps floor r.instruction s t et;
        })
