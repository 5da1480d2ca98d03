-- Each refusal of a step is given exactly when there is its reason: the tests stand in the order of documents 01 and 02, the operand test, the floor's
-- and that of the halves as the last; a jump passes all of these, and is tested for where it goes.
use Rattle.std.specs.Prelude.{◌≡◌, refl, Bool, true, false, cond, List, [], ◌∷◌, ◌++◌, ◌&&◌, ℕ, zero, suc, ◌+◌, leb, length, ◌↔◌}
use Rattle.basis.specs.Names.{Memᴰ as In}
use Rattle.basis.proofs.Names.{sym, ap, ap₂, subst, ◌∙◌, inl, inr, ⊎_elim, false≢true, and-false, Memᴰ-head as here, Memᴰ-tail as there, leb-false, lt-leb, eqb-true, arith}
use Rattle.reorder.specs.Result.{Result, done, refused, and_then, map_result, case_of}
use Rattle.reorder.specs.Plan.{looks, leaves as plan-leaves, perform}
use Rattle.codec.specs.Answers as decoded
use Rattle.codec.specs.Reads.{read_at}
use Rattle.codec.specs.declared.Instruction.{Instruction}
use Rattle.codec.proofs.Exactly.{reading_exactly}
use Rattle.manual.specs.Refusals.{memory_too_long, outside_memory, outside_by_stack, floor_too_high, below_floor, half_unsupported}
use Rattle.manual.specs.State.{State, is_too_long, is_too_high}
use Rattle.manual.specs.Places.{Place, look, put, all_writable}
use Rattle.manual.specs.Kinds.{marked}
use Rattle.manual.specs.Addresses.{Address, is_stack_base, address}
use Rattle.manual.specs.Locations.{Location, mmx_register, integer_register, memory, zero_operand, lies_inside, bytes_from, miss_of, places_of}
use Rattle.manual.specs.Effects.{places_of_all, values_in, contents_of_all, plan_on, guarded, placed_above, plan, unless_marked}
use Rattle.manual.specs.inner.Unmarked.{directly}
use Rattle.manual.specs.Instructions.{effect_of, execute}
use Rattle.manual.specs.Jumps.{is_jump, next}
use Rattle.manual.specs.Steps.{refused_with, result_of, concluded, instruction_at, step_at}
use Rattle.manual.specs.Reasons.{Fits, Stands, stops_it, Passes, Touches, Outside, Below, Unsupported, Reason, one, twenty, reading, seven, eight, nine, ten, fourteen, twenty_one, twenty_two, nineteen}
use Rattle.manual.proofs.Marking.{controlled}
use Rattle.manual.proofs.Jumps.{missing_refused, refused_missing}
use Rattle.manual.proofs.Floors.{writable_bytes, writable_both}
use Rattle.manual.proofs.Loops.{jump_leaves}
use Rattle.manual.proofs.OneAddress.{pointed, one_address}
use Rattle.manual.proofs.Values.{Apiece, apiece, values_are}
use Rattle.manual.proofs.Halves.{Decided, fails, leaves, made_exactly}

one_number : (o : Result State) (m n : ℕ) → o ≡ refused m → o ≡ refused n → m ≡ n
one_number o m n e f = cc

not_both : (o : Result State) (t : State) (n : ℕ) → o ≡ done t → o ≡ refused n → ⊥
not_both o t n e f = false≢true (cc)

-- Operands: the only refusal is that of a miss, and it is given exactly where an operand is outside

-- 14 where the base register is one of the stack's, else 10
miss_by : (a : Address) (stack : Bool) → is_stack_base a.base ≡ stack → miss_of a ≡ cond stack outside_by_stack outside_memory
miss_by a stack based = ap (λ (t : Bool). cond t outside_by_stack outside_memory) based

outside_refused : (s : State) (x : Location) (o : Outside s x) → places_of s x ≡ refused (miss_of o.at)
outside_refused s x o = ap (places_of s) o.operand ∙ simp (lt-leb _ _ o.past)

-- an operand is outside, and this is its refusal
record Missed (s : State) (x : Location) (n : ℕ) : Type 0 where
  outside : Outside s x
  number : n ≡ miss_of outside.at

refused_outside : (s : State) (x : Location) (n : ℕ) → places_of s x ≡ refused n → Missed s x n
refused_outside s (mmx_register k) n e = absurd (false≢true (cc))
refused_outside s (integer_register k) n e = absurd (false≢true (cc))
refused_outside s zero_operand n e = absurd (false≢true (cc))
refused_outside s (memory a size) n e = by (lies_inside (length s.memory) size (address s.integers a)) refl e
  where
    by : (t : Bool) → lies_inside (length s.memory) size (address s.integers a) ≡ t
        → cond t (done (bytes_from (address s.integers a) size)) (refused (miss_of a)) ≡ refused n → Missed s (memory a size) n
    by true t e = absurd (false≢true (cc))
    by false t e = record { outside = record { at = a; size = size; operand = refl; past = leb-false _ _ t }; number = cc }

-- all of these that are outside have this refusal
abbrev RefusedBy : State → ℕ → List Location → Type 0
RefusedBy s n xs = (x : Location) → In x xs → (o : Outside s x) → miss_of o.at ≡ n

all-refused : (s : State) (n : ℕ) (xs : List Location) → RefusedBy s n xs → (x : Location) → In x xs → Outside s x → places_of_all s xs ≡ refused n
all-refused s n [] alike x h o = elim h [ ]
all-refused s n (y ∷ ys) alike x (here e) o =
    ap (λ r. and_then r (λ ps. map_result (λ qs. ps ++ qs) (places_of_all s ys))) (ap (places_of s) (sym e) ∙ outside_refused s x o ∙ ap refused (alike x (here e) o))
all-refused s n (y ∷ ys) alike x (there m) o = by (places_of s y) refl (all-refused s n ys (λ z among. alike z (there among)) x m o)
  where
    by : (r : Result (List Place)) → places_of s y ≡ r → places_of_all s ys ≡ refused n
        → and_then r (λ ps. map_result (λ qs. ps ++ qs) (places_of_all s ys)) ≡ refused n
    by (done ps) e rest = ap (map_result (λ qs. ps ++ qs)) rest
    by (refused k) e rest = let missed = refused_outside s y k e in ap refused (missed.number ∙ alike y (here refl) missed.outside)

-- an operand among these is outside, and this is its refusal
record OneMissed (s : State) (xs : List Location) (n : ℕ) : Type 0 where
  operand : Location
  among : In operand xs
  missed : Missed s operand n

refused_all : (s : State) (xs : List Location) (n : ℕ) → places_of_all s xs ≡ refused n → OneMissed s xs n
refused_all s [] n e = absurd (false≢true (cc))
refused_all s (y ∷ ys) n e = first (places_of s y) refl (refused_all s ys n) e
  where
    rest : (r : Result (List Place)) (ps : List Place) → places_of_all s ys ≡ r → (places_of_all s ys ≡ refused n → OneMissed s ys n)
        → map_result (λ qs. ps ++ qs) r ≡ refused n → OneMissed s (y ∷ ys) n
    rest (done qs) ps e further h = absurd (false≢true (cc))
    rest (refused m) ps e further h = let o = further (cc) in record { operand = o.operand; among = there o.among; missed = o.missed }

    first : (r : Result (List Place)) → places_of s y ≡ r → (places_of_all s ys ≡ refused n → OneMissed s ys n)
        → and_then r (λ ps. map_result (λ qs. ps ++ qs) (places_of_all s ys)) ≡ refused n → OneMissed s (y ∷ ys) n
    first (done ps) e further h = rest (places_of_all s ys) ps refl further h
    first (refused m) e further h =
        let same : m ≡ n = cc in
        record { operand = y; among = here refl; missed = refused_outside s y n (e ∙ ap refused same) }

-- operands of which none is outside have their places
all-inside : (s : State) (xs : List Location) → ((x : Location) → In x xs → ¬ Outside s x) → (ps : List Place) × (places_of_all s xs ≡ done ps)
all-inside s xs inside = by (places_of_all s xs) refl
  where
    by : (r : Result (List Place)) → places_of_all s xs ≡ r → (ps : List Place) × (places_of_all s xs ≡ done ps)
    by (done ps) e = (ps, e)
    by (refused n) e = let o = refused_all s xs n e in absurd (inside o.operand o.among o.missed.outside)

-- and those that have, are not outside
placed-inside : (s : State) (xs : List Location) (ps : List Place) → places_of_all s xs ≡ done ps → (x : Location) → In x xs → ¬ Outside s x
placed-inside s [] ps e x h o = elim h [ ]
placed-inside s (y ∷ ys) ps e x (here same) o =
    false≢true (cc ((apiece s y ys ps e).first, ap (places_of s) same, outside_refused s x o))
placed-inside s (y ∷ ys) ps e x (there m) o = let a = apiece s y ys ps e in placed-inside s ys a.others a.rest x m o

-- The floor: it refuses exactly where an operand has a byte below it

module _ (floor : ℕ) (s : State) where
  own_below : (x : Location) (ps : List Place) → places_of s x ≡ done ps → all_writable floor ps ≡ false → Below floor s x
  own_below (mmx_register k) ps e h = absurd (false≢true (cc))
  own_below (integer_register k) ps e h = absurd (false≢true (cc))
  own_below zero_operand ps e h = absurd (false≢true (cc))
  own_below (memory a size) ps e h = by (lies_inside (length s.memory) size p) size e
    where
      p : ℕ
      p = address s.integers a

      by : (t : Bool) (n : ℕ) → cond t (done (bytes_from p n)) (refused (miss_of a)) ≡ done ps → Below floor s (memory a n)
      by false n e = absurd (false≢true (cc))
      by true zero e = absurd (false≢true (cc))
      by true (suc n) e =
          let same : bytes_from p (suc n) ≡ ps = cc in
          let first : leb floor p ≡ false = sym (writable_bytes floor (suc n) p (omega arith)) ∙ ap (all_writable floor) same ∙ h in
          record { at = a; size = suc n; operand = refl; which = 0; among = omega arith; low = omega (arith, leb-false floor p first) }

  below_own : (x : Location) (ps : List Place) → places_of s x ≡ done ps → Below floor s x → all_writable floor ps ≡ false
  below_own x ps e b = by (lies_inside (length s.memory) b.size p) (sym (ap (places_of s) b.operand) ∙ e)
    where
      p : ℕ
      p = address s.integers b.at

      by : (t : Bool) → cond t (done (bytes_from p b.size)) (refused (miss_of b.at)) ≡ done ps → all_writable floor ps ≡ false
      by false e = absurd (false≢true (cc))
      by true e =
          let same : bytes_from p b.size ≡ ps = cc in
          ap (all_writable floor) (sym same) ∙ writable_bytes floor b.size p (omega (arith, b.among)) ∙ lt-leb floor p (omega (arith, b.low))

  -- an operand among these has a byte below the floor
  record OneBelow (xs : List Location) : Type 0 where
    operand : Location
    among : In operand xs
    below : Below floor s operand

  one_below : (xs : List Location) (ps : List Place) → places_of_all s xs ≡ done ps → all_writable floor ps ≡ false → OneBelow xs
  one_below [] ps e h = absurd (false≢true (cc))
  one_below (y ∷ ys) ps e h =
      let a = apiece s y ys ps e in
      by a (all_writable floor a.own) refl (one_below ys a.others a.rest) (sym (writable_both floor a.own a.others) ∙ ap (all_writable floor) a.both ∙ h)
    where
      by : (a : Apiece s y ys ps) (t : Bool) → all_writable floor a.own ≡ t → (all_writable floor a.others ≡ false → OneBelow ys) → (t && all_writable floor a.others) ≡ false
          → OneBelow (y ∷ ys)
      by a true t further h = let o = further h in record { operand = o.operand; among = there o.among; below = o.below }
      by a false t further h = record { operand = y; among = here refl; below = own_below y a.own a.first t }

  below_one : (xs : List Location) (ps : List Place) → places_of_all s xs ≡ done ps → (x : Location) → In x xs → Below floor s x → all_writable floor ps ≡ false
  below_one [] ps e x h b = elim h [ ]
  below_one (y ∷ ys) ps e x m b =
      let a = apiece s y ys ps e in
      ap (all_writable floor) (sym a.both) ∙ writable_both floor a.own a.others ∙ by a m (λ m. below_one ys a.others a.rest x m b)
    where
      by : (a : Apiece s y ys ps) → In x (y ∷ ys) → (In x ys → all_writable floor a.others ≡ false) → (all_writable floor a.own && all_writable floor a.others) ≡ false
      by a (here same) further = ap (λ (t : Bool). t && all_writable floor a.others) (below_own x a.own (ap (places_of s) same ∙ a.first) b)
      by a (there m) further = ap (λ (t : Bool). all_writable floor a.own && t) (further m) ∙ and-false (all_writable floor a.own)

-- One instruction

module _ (floor : ℕ) (i : Instruction) (s : State) where
  abbrev source : Result (List Place)
  source = places_of_all s (effect_of i).takes

  abbrev target : Result (List Place)
  target = places_of_all s (effect_of i).gives

  -- what it comes to, by its operands' places
  abbrev with_places : Result (List Place) → Result (List Place) → Result State
  with_places a b = perform look put marked s (and_then (and_then a (λ from. map_result (plan_on (effect_of i) from) b)) (guarded floor))

  abbrev AllInside : Type 0
  AllInside = (x : Location) → Touches i x → ¬ Outside s x

  abbrev NoneBelow : Type 0
  NoneBelow = (x : Location) → In x (effect_of i).gives → ¬ Below floor s x

  -- why the operands, the floor or what it computes refuse it
  data Refusing : ℕ → Type 0 where
    misses : (x : Location) → Touches i x → (o : Outside s x) → Refusing (miss_of o.at)
    sinks : AllInside → (x : Location) → In x (effect_of i).gives → Below floor s x → Refusing below_floor
    makes_none : AllInside → NoneBelow → Unsupported s i → Refusing half_unsupported

  -- what it computes, where its operands have their places
  makes : (from : List Place) → source ≡ done from → Decided s (Unsupported s i) ((effect_of i).value (values_in (effect_of i).takes (looks look s from)))
  makes from e = subst (λ (l : List ℕ). Decided s (Unsupported s i) ((effect_of i).value l)) (sym (values_are s (effect_of i).takes from e)) (made_exactly s i)

  -- what is left of it then
  abbrev after : List Place → List Place → Result (List ℕ) → Result State
  after from to o = map_result (plan-leaves put marked (plan_on (effect_of i) from to) s) (map_result (contents_of_all (effect_of i).gives) o)

  refused_unmarked : (n : ℕ) → directly floor (effect_of i) s ≡ refused n → Refusing n
  refused_unmarked n h = by source target refl refl h
    where
      all_have : (from to : List Place) → source ≡ done from → target ≡ done to → AllInside
      all_have from to ea eb x = ⊎_elim (placed-inside s (effect_of i).takes from ea x) (placed-inside s (effect_of i).gives to eb x)

      missing : (x : Location) → Touches i x → Missed s x n → Refusing n
      missing x touched m = subst Refusing (sym m.number) (misses x touched m.outside)

      computed : (from to : List Place) → source ≡ done from → target ≡ done to → all_writable floor to ≡ true
          → Decided s (Unsupported s i) ((effect_of i).value (values_in (effect_of i).takes (looks look s from))) → perform look put marked s (done (plan_on (effect_of i) from to)) ≡ refused n → Refusing n
      computed from to ea eb t (fails u e) h =
          subst Refusing (one_number _ half_unsupported n (ap (after from to) e) h)
          (makes_none (all_have from to ea eb) (λ x m b. false≢true (sym (below_one floor s (effect_of i).gives to eb x m b) ∙ t)) u)
      computed from to ea eb t (leaves none v e) h = absurd (not_both _ _ n (ap (after from to) e) h)

      tested : (from to : List Place) → source ≡ done from → target ≡ done to → (t : Bool) → all_writable floor to ≡ t
          → perform look put marked s (cond t (done (plan_on (effect_of i) from to)) (refused below_floor)) ≡ refused n → Refusing n
      tested from to ea eb true t h = computed from to ea eb t (makes from ea) h
      tested from to ea eb false t h =
          let o = one_below floor s (effect_of i).gives to eb t in
          subst Refusing (cc) (sinks (all_have from to ea eb) o.operand o.among o.below)

      by : (a b : Result (List Place)) → source ≡ a → target ≡ b → with_places a b ≡ refused n → Refusing n
      by (refused m) b ea eb h =
          let same : m ≡ n = cc in
          let o = refused_all s (effect_of i).takes n (ea ∙ ap refused same) in
          missing o.operand (inl o.among) o.missed
      by (done from) (refused m) ea eb h =
          let same : m ≡ n = cc in
          let o = refused_all s (effect_of i).gives n (eb ∙ ap refused same) in
          missing o.operand (inr o.among) o.missed
      by (done from) (done to) ea eb h = tested from to ea eb (all_writable floor to) refl h

  -- all its operands in memory are at one address, and so have one refusal
  miss : ℕ
  miss = miss_of (pointed (one_address i).in_edi i)

  alike : (x : Location) → Touches i x → (o : Outside s x) → miss_of o.at ≡ miss
  unfolding miss
  alike x touched o = ap miss_of ((one_address i).points o.at o.size (subst (Touches i) o.operand touched)).same

  outside_unmarked : (x : Location) → Touches i x → Outside s x → directly floor (effect_of i) s ≡ refused miss
  outside_unmarked x (inl m) o = ap (λ a. with_places a target) (all-refused s miss (effect_of i).takes (λ y n. alike y (inl n)) x m o)
  outside_unmarked x (inr m) o = ap (with_places source) (all-refused s miss (effect_of i).gives (λ y n. alike y (inr n)) x m o) ∙ by source refl
    where
      by : (a : Result (List Place)) → source ≡ a → with_places a (refused miss) ≡ refused miss
      by (done from) e = refl
      by (refused n) e =
          let other = refused_all s (effect_of i).takes n e in
          ap refused (other.missed.number ∙ alike other.operand (inl other.among) other.missed.outside)

  below_unmarked : AllInside → (x : Location) → In x (effect_of i).gives → Below floor s x
      → directly floor (effect_of i) s ≡ refused below_floor
  below_unmarked inside x m b =
      let (from, ea) = all-inside s (effect_of i).takes (λ y n. inside y (inl n)) in
      let (to, eb) = all-inside s (effect_of i).gives (λ y n. inside y (inr n)) in
      ap₂ with_places ea eb
      ∙ ap (λ t. perform look put marked s (cond t (done (plan_on (effect_of i) from to)) (refused below_floor))) (below_one floor s (effect_of i).gives to eb x m b)

  unsupported_unmarked : AllInside → NoneBelow → Unsupported s i → directly floor (effect_of i) s ≡ refused half_unsupported
  unsupported_unmarked inside above u =
      let (from, ea) = all-inside s (effect_of i).takes (λ y n. inside y (inl n)) in
      let (to, eb) = all-inside s (effect_of i).gives (λ y n. inside y (inr n)) in
      ap₂ with_places ea eb ∙ by from to eb (all_writable floor to) refl (makes from ea)
    where
      computed : (from to : List Place) → Decided s (Unsupported s i) ((effect_of i).value (values_in (effect_of i).takes (looks look s from)))
          → perform look put marked s (done (plan_on (effect_of i) from to)) ≡ refused half_unsupported
      computed from to (fails v e) = ap (after from to) e
      computed from to (leaves none v e) = absurd (none u)

      by : (from to : List Place) → target ≡ done to → (t : Bool) → all_writable floor to ≡ t
          → Decided s (Unsupported s i) ((effect_of i).value (values_in (effect_of i).takes (looks look s from)))
          → perform look put marked s (cond t (done (plan_on (effect_of i) from to)) (refused below_floor)) ≡ refused half_unsupported
      by from to eb true t d = computed from to d
      by from to eb false t d = let o = one_below floor s (effect_of i).gives to eb t in absurd (above o.operand o.among o.below)

-- The step

module _ (floor : ℕ) (code : List ℕ) (at : ℕ) (s : State) where
  -- where a run goes on after an instruction of so many bytes
  abbrev next_after : Instruction → ℕ → Result ℕ
  next_after i size = next (length code) i s (at + size)

  -- an instruction stands there: what it comes to
  step_stands : (i : Instruction) (size : ℕ) → Stands floor code at s i size
      → step_at floor code at s ≡ concluded at (next_after i size) s (perform look put marked s (plan floor (effect_of i) s))
  unfolding step_at instruction_at execute
  step_stands i size stands = simp (stands.fits.memory_fits, stands.fits.floor_fits, stands.read)

  -- and no control mark stops it
  step_passes : (i : Instruction) (size : ℕ) → Passes floor code at s i size
      → step_at floor code at s ≡ concluded at (next_after i size) s (directly floor (effect_of i) s)
  step_passes i size passes = step_stands i size passes.stands ∙ simp (passes.em, passes.ts, passes.pending)

  -- an operand of it is outside
  step_missed : (i : Instruction) (size : ℕ) → Passes floor code at s i size → (x : Location) → Touches i x → (o : Outside s x)
      → step_at floor code at s ≡ refused_with (miss_of o.at) at s
  step_missed i size passes x touched o =
      step_passes i size passes
      ∙ ap (concluded at (next_after i size) s) (outside_unmarked floor i s x touched o ∙ ap refused (sym (alike floor i s x touched o)))

  -- it is a jump, which no test before that stops
  step_jumps : (i : Instruction) (size : ℕ) → Stands floor code at s i size → is_jump i ≡ true → step_at floor code at s ≡ concluded at (next_after i size) s (done s)
  unfolding execute
  step_jumps i size stands jump = step_stands i size stands ∙ ap (concluded at (next_after i size) s) (jump_leaves floor i s (eqb-true i.first 0x75 jump))

  pub step_given : (n : ℕ) → Reason floor code at s n → step_at floor code at s ≡ refused_with n at s
  unfolding step_at instruction_at
  step_given n (one long) = simp long
  step_given n (twenty fit high) = simp (fit, high)
  step_given n (reading fits r) = simp (fits.memory_fits, fits.floor_fits, (reading_exactly code at n).1 r)
  step_given n (seven i size stands em) = step_stands i size stands ∙ simp em
  step_given n (eight i size stands em ts) = step_stands i size stands ∙ simp (em, ts)
  step_given n (nine i size stands em ts pending) = step_stands i size stands ∙ simp (em, ts, pending)
  step_given n (ten i size passes x touched o based) =
      step_missed i size passes x touched o ∙ ap (λ (m : ℕ). refused_with m at s) (miss_by o.at false based)
  step_given n (fourteen i size passes x touched o based) =
      step_missed i size passes x touched o ∙ ap (λ (m : ℕ). refused_with m at s) (miss_by o.at true based)
  step_given n (twenty_one i size reaches x given b) =
      step_passes i size reaches.passes ∙ ap (concluded at (next_after i size) s) (below_unmarked floor i s reaches.inside x given b)
  step_given n (twenty_two i size reaches above u) =
      step_passes i size reaches.passes ∙ ap (concluded at (next_after i size) s) (unsupported_unmarked floor i s reaches.inside above u)
  step_given n (nineteen i size stands jump clear astray) =
      step_jumps i size stands jump
      ∙ ap (λ further. concluded at further s (done s)) (missing_refused (length code) i s (at + size) (record { jump = jump; clear = clear; astray = astray }))

  pub step_exactly : (n : ℕ) → (step_at floor code at s ≡ refused_with n at s) ↔ Reason floor code at s n
  unfolding step_at instruction_at execute
  step_exactly n = (λ e. tests (is_too_long s.memory) (is_too_high floor s.memory) refl refl e, step_given n)
    where
      Why : ℕ → Type 0
      Why m = Reason floor code at s m

      operands : (i : Instruction) (size : ℕ) → Passes floor code at s i size → (m : ℕ) → Refusing floor i s m → Why m
      operands i size passes m (misses x touched o) = by (is_stack_base o.at.base) refl
        where
          by : (stack : Bool) → is_stack_base o.at.base ≡ stack → Why (miss_of o.at)
          by false based = subst Why (sym (miss_by o.at false based)) (ten i size passes x touched o based)
          by true based = subst Why (sym (miss_by o.at true based)) (fourteen i size passes x touched o based)
      operands i size passes m (sinks inside x given b) = twenty_one i size (record { passes = passes; inside = inside }) x given b
      operands i size passes m (makes_none inside above u) = twenty_two i size (record { passes = passes; inside = inside }) above u

      marks : (i : Instruction) (size : ℕ) → Stands floor code at s i size → (em ts pending : Bool)
          → stops_it i s.marks.em ≡ em → stops_it i s.marks.ts ≡ ts → stops_it i s.marks.pending ≡ pending
          → perform look put marked s (unless_marked (controlled s.marks em ts pending) (placed_above floor (effect_of i) s)) ≡ refused n
          → Why n
      marks i size stands true ts pending e f g h = subst Why (cc) (seven i size stands e)
      marks i size stands false true pending e f g h = subst Why (cc) (eight i size stands e f)
      marks i size stands false false true e f g h = subst Why (cc) (nine i size stands e f g)
      marks i size stands false false false e f g h =
          operands i size (record { stands = stands; em = e; ts = f; pending = g }) n (refused_unmarked floor i s n h)

      -- the instruction is refused, or where it goes on is
      executed : (i : Instruction) (size : ℕ) → Stands floor code at s i size → (further : Result ℕ) → next_after i size ≡ further
          → (o : Result State) → execute floor i s ≡ o → concluded at further s o ≡ refused_with n at s → Why n
      executed i size stands further e (refused m) eo h =
          let same : execute floor i s ≡ refused n = cc in
          marks i size stands (stops_it i s.marks.em) (stops_it i s.marks.ts) (stops_it i s.marks.pending) refl refl refl same
      executed i size stands (done position) e (done t) eo h = absurd (false≢true (cc))
      executed i size stands (refused m) e (done t) eo h =
          let same : next_after i size ≡ refused n = cc in
          let (number, missing) = refused_missing (length code) i s (at + size) n same in
          subst Why (sym number) (nineteen i size stands missing.jump missing.clear missing.astray)

      read : (z : decoded.Decoded) → Fits floor s → read_at code at ≡ z
          → case_of (result_of z) (λ m. refused_with m at s) (λ r. concluded at (next_after r.instruction r.size) s (execute floor r.instruction s)) ≡ refused_with n at s
          → Why n
      read (decoded.refused m) fits e h =
          let same : m ≡ n = cc in
          reading fits ((reading_exactly code at n).0 (e ∙ ap decoded.refused same))
      read (decoded.good i size) fits e h =
          executed i size (record { fits = fits; read = e }) (next_after i size) refl (execute floor i s) refl h

      tests : (a b : Bool) → is_too_long s.memory ≡ a → is_too_high floor s.memory ≡ b
          → case_of (cond a (refused memory_too_long) (cond b (refused floor_too_high) (result_of (read_at code at))))
          (λ m. refused_with m at s) (λ r. concluded at (next_after r.instruction r.size) s (execute floor r.instruction s)) ≡ refused_with n at s
          → Why n
      tests true b ea eb h = subst Why (cc) (one ea)
      tests false true ea eb h = subst Why (cc) (twenty ea eb)
      tests false false ea eb h = read (read_at code at) (record { memory_fits = ea; floor_fits = eb }) refl h
