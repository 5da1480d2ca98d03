-- The memory bytes of a footprint are one range, since an instruction has at most one operand in memory: by the shapes of effects.
use Rattle.std.specs.Prelude.{◌≡◌, refl, Bool, true, false, cond, ◌&&◌, List, [], ◌∷◌, ◌++◌, map, ℕ, zero, suc, ◌+◌, ◌≤◌, ◌%◌, ◌<◌, length, get_or, ◌↔◌}
use Rattle.basis.specs.Names.{Memᴰ as In}
use Rattle.basis.proofs.Names.{sym, ap, subst, false≢true, Memᴰ-head as here, Memᴰ-tail as later, dec_lt, arith}
use Rattle.lanes.specs.Operations.{Operation}
use Rattle.words.proofs.Laws.{and_both}
use Rattle.reorder.specs.Result.{Result, done, refused, and_then, map_result}
use Rattle.reorder.specs.Plan.{Plan, looks}
use Rattle.reorder.specs.Footprint.{Footprint, footprint_in}
use Rattle.codec.specs.Forms.{File, mmx_file, integer_file, Slot, reg, rm, rm/mem, mem, edi, fixed, opcode, zero_slot, Form}
use Rattle.codec.specs.Opcodes.{used_form, form_for, operation_for}
use Rattle.codec.specs.declared.Instruction.{Instruction}
use Rattle.codec.specs.declared.Kind.{Kind}
use Rattle.codec.proofs.Bytes.{opcode_passes, used_passes}
use Rattle.manual.specs.Refusals.{below_floor}
use Rattle.manual.specs.State.{State}
use Rattle.manual.specs.Places.{Place, integer, zero_mark, look, all_writable}
use Rattle.manual.specs.Addresses.{address, address_of}
use Rattle.manual.specs.declared.Marks.{Marks}
use Rattle.manual.specs.Kinds.{heeded}
use Rattle.manual.specs.Locations.{register_in, rm_of, at_edi, locate, bytes_from, lies_inside, miss_of, places_of}
use Rattle.manual.specs.Effects.{places_of_all, address_registers_of, unless_marked, plan_on, placed, guarded, via, footprint_of}
use Rattle.manual.specs.Instructions.{sources, targets, effect_by, effect_of, footprint}
use Rattle.manual.proofs.Marking.{by_marks}
use Rattle.machine.specs.Footprints.{byte_number, bytes_of}
use Rattle.machine.proofs.laws.operands.Locating.{by_place}

-- the numbers of the list are those from its first one on, as many as there are
abbrev pub Range : List ℕ → Type 0
Range bs = (b : ℕ) → In b bs ↔ ((get_or bs 0 0 ≤ b) × (b < get_or bs 0 0 + length bs))

in_bytes : (size a b : ℕ) → In b (bytes_of (bytes_from a size)) → (a ≤ b) × (b < a + size)
in_bytes zero a b h = elim h [ ]
in_bytes (suc size) a b (here e) = (omega arith, omega arith)
in_bytes (suc size) a b (later m) = let (low, high) = in_bytes size (a + 1) b m in (omega arith, omega arith)

bytes_in : (size a b : ℕ) → a ≤ b → b < a + size → In b (bytes_of (bytes_from a size))
bytes_in zero a b low high = absurd (omega arith)
bytes_in (suc size) a b low high = go (dec_lt a b) (bytes_in size (a + 1) b)
  where
    go : Dec (a < b) → (a + 1 ≤ b → b < a + 1 + size → In b (bytes_of (bytes_from (a + 1) size))) → In b (a ∷ bytes_of (bytes_from (a + 1) size))
    go (yes p) rest = later (rest (omega arith) (omega arith))
    go (no p) rest = let same : b ≡ a = omega arith in here same

pub count_bytes : (size a : ℕ) → length (bytes_of (bytes_from a size)) ≡ size
count_bytes zero a = refl
count_bytes (suc size) a = ap suc (count_bytes size (a + 1))

no_bytes : Range []
no_bytes b = (λ m. in_bytes 0 0 b m, λ h. absurd (omega (arith, h.1)))

range_bytes : (size a : ℕ) → Range (bytes_of (bytes_from a size))
range_bytes zero a = no_bytes
range_bytes (suc size) a = λ b. (
  λ m.
      let (low, high) = in_bytes (suc size) a b m in
      (low, omega (arith, count_bytes size (a + 1))),
  λ (low, high). bytes_in (suc size) a b low (omega (arith, count_bytes size (a + 1))),
)

-- address registers are no bytes
bytes-via : (ks : List ℕ) (ps : List Place) → bytes_of (map integer ks ++ ps) ≡ bytes_of ps
bytes-via [] ps = refl
bytes-via (k ∷ ks) ps = bytes-via ks ps

nothing_after : (ps qs : List Place) → bytes_of qs ≡ [] → bytes_of (ps ++ qs) ≡ bytes_of ps
nothing_after [] qs e = e
nothing_after (p ∷ ps) qs e = ap (λ (l : List ℕ). byte_number p ++ l) (nothing_after ps qs e)

-- what is said of the bytes, where there are places
abbrev Each : (List ℕ → Type 0) → Result (List Place) → Type 0
Each Q (done ps) = Q (bytes_of ps)
Each Q (refused n) = Unit {0}

-- operands of which at most one may be in memory, or none
abbrev at_most : Bool → List Slot → Bool
at_most one [] = true
at_most one (reg file ∷ xs) = at_most one xs
at_most one (rm file ∷ xs) = at_most one xs
at_most one (rm/mem file size ∷ xs) = one && at_most false xs
at_most one (mem size ∷ xs) = one && at_most false xs
at_most one (edi size ∷ xs) = one && at_most false xs
at_most one (fixed k ∷ xs) = at_most one xs
at_most one (opcode file ∷ xs) = at_most one xs
at_most one (zero_slot ∷ xs) = at_most one xs

-- and so their bytes
abbrev AtMost : Bool → List ℕ → Type 0
AtMost true bs = Range bs
AtMost false bs = bs ≡ []

module _ (s : State) (i : Instruction) where
  abbrev places : List Slot → Result (List Place)
  places xs = places_of_all s (map (locate i) xs)

  -- before other places
  abbrev before : Result (List Place) → Result (List Place) → Result (List Place)
  before o rest = and_then o (λ ps. map_result (λ qs. ps ++ qs) rest)

  register_before : (Q : List ℕ → Type 0) (file : File) (k : ℕ) (rest : Result (List Place)) → Each Q rest → Each Q (before (places_of s (register_in file k)) rest)
  register_before Q mmx_file k (done qs) h = h
  register_before Q mmx_file k (refused n) h = tt
  register_before Q integer_file k (done qs) h = h
  register_before Q integer_file k (refused n) h = tt

  zero_before : (Q : List ℕ → Type 0) (rest : Result (List Place)) → Each Q rest → Each Q (before (done (zero_mark ∷ [])) rest)
  zero_before Q (done qs) h = h
  zero_before Q (refused n) h = tt

  bytes_before : (t : Bool) (size a miss : ℕ) (rest : Result (List Place)) → Each (AtMost false) rest
      → Each Range (before (cond t (done (bytes_from a size)) (refused miss)) rest)
  bytes_before true size a miss (done qs) h = subst Range (sym (nothing_after (bytes_from a size) qs h)) (range_bytes size a)
  bytes_before true size a miss (refused n) h = tt
  bytes_before false size a miss rest h = tt

  none_is_range : (o : Result (List Place)) → Each (AtMost false) o → Each Range o
  none_is_range (done ps) e = subst Range (sym e) no_bytes
  none_is_range (refused n) e = tt

  -- the operand of r/m before registers
  other_before : (file : File) (size : ℕ) (rest : Result (List Place)) → Each (AtMost false) rest → Each Range (before (places_of s (rm_of file size i.operand)) rest)
  other_before file size rest none =
      let a = address s.integers (address_of i.operand) in
      let ranged = none_is_range rest none in
      by_place (λ f x. Each Range (before (places_of s x) rest)) file size i.operand
      (register_before Range mmx_file i.operand.rm rest ranged) (register_before Range integer_file i.operand.rm rest ranged)
      (λ f. bytes_before (lies_inside (length s.memory) size a) size a (miss_of (address_of i.operand)) rest none)

  at_most_lem : (one : Bool) (xs : List Slot) → at_most one xs ≡ true → Each (AtMost one) (places xs)
  at_most_lem true [] e = no_bytes
  at_most_lem false [] e = refl
  at_most_lem one (reg file ∷ xs) e = register_before (AtMost one) file i.operand.reg (places xs) (at_most_lem one xs e)
  at_most_lem one (rm file ∷ xs) e = register_before (AtMost one) file i.operand.rm (places xs) (at_most_lem one xs e)
  at_most_lem one (fixed k ∷ xs) e = register_before (AtMost one) mmx_file k (places xs) (at_most_lem one xs e)
  at_most_lem one (opcode file ∷ xs) e = register_before (AtMost one) file (i.first % 8) (places xs) (at_most_lem one xs e)
  at_most_lem one (zero_slot ∷ xs) e = zero_before (AtMost one) (places xs) (at_most_lem one xs e)
  at_most_lem false (rm/mem file size ∷ xs) e = absurd (false≢true e)
  at_most_lem false (mem size ∷ xs) e = absurd (false≢true e)
  at_most_lem false (edi size ∷ xs) e = absurd (false≢true e)
  at_most_lem true (rm/mem file size ∷ xs) e = other_before file size (places xs) (at_most_lem false xs e)
  at_most_lem true (mem size ∷ xs) e = other_before mmx_file size (places xs) (at_most_lem false xs e)
  at_most_lem true (edi size ∷ xs) e =
      let a = address s.integers at_edi in
      bytes_before (lies_inside (length s.memory) size a) size a (miss_of at_edi) (places xs) (at_most_lem false xs e)

-- a footprint whose reads and writes are each one range of bytes
pub record OneRange (f : Footprint Place Kind) : Type 0 where
  pub reads : Range (bytes_of f.reads)
  pub writes : Range (bytes_of f.writes)

abbrev pub RangedFootprint : Result (Footprint Place Kind) → Type 0
RangedFootprint (done f) = OneRange f
RangedFootprint (refused n) = Unit {0}

-- a form of which at most one operand that is read, and one that is written, may be in memory
abbrev one_each : Form → Bool
one_each form = at_most true (sources form.operands) && at_most true (targets form.operands)

module _ (floor : ℕ) (s : State) (i : Instruction) where
  unmarked : (marks : Marks) (vs : List Place) (o : Result (Plan Place Kind)) → RangedFootprint (footprint_in look vs s o)
      → RangedFootprint (footprint_in look vs s (unless_marked marks o))
  unmarked marks vs o h = by_marks (λ a b. RangedFootprint (footprint_in look vs s a)) (λ n. tt) marks o o h

  -- the floor's test
  above : (vs : List Place) (o : Result (Plan Place Kind)) → RangedFootprint (footprint_in look vs s o) → RangedFootprint (footprint_in look vs s (and_then o (guarded floor)))
  above vs (refused n) h = tt
  above vs (done p) h = by (all_writable floor p.target)
    where
      by : (t : Bool) → RangedFootprint (footprint_in look vs s (cond t (done p) (refused below_floor)))
      by true = h
      by false = tt

  ranged_form : (form : Form) (o : Operation) → one_each (used_form form i.immediate) ≡ true → RangedFootprint (footprint_of floor (effect_by form o i) s)
  ranged_form form o e =
      let used = used_form form i.immediate in
      let (a, b) = and_both (at_most true (sources used.operands)) _ e in
      unmarked (heeded used.kind s.marks) (via (effect_by form o i)) _
      (above (via (effect_by form o i)) (placed (effect_by form o i) s)
      (by (places s i (sources used.operands)) (places s i (targets used.operands)) (at_most_lem s i true (sources used.operands) a) (at_most_lem s i true (targets used.operands) b)))
    where
      made : (f : Footprint Place Kind) → OneRange f → (o : Result (List ℕ)) → RangedFootprint (map_result (λ values. f) o)
      made f h (done values) = h
      made f h (refused n) = tt

      by : (o' p : Result (List Place)) → Each Range o' → Each Range p
          → RangedFootprint (footprint_in look (via (effect_by form o i)) s (and_then o' (λ source. map_result (plan_on (effect_by form o i) source) p)))
      by (done ps) (done qs) h g =
          made _ (record { reads = subst Range (sym (bytes-via (address_registers_of (effect_by form o i)) ps)) h; writes = g }) ((plan_on (effect_by form o i) ps qs).make (looks look s ps))
      by (done ps) (refused n) h g = tt
      by (refused n) p h g = tt

pub ranged : (floor : ℕ) (s : State) (i : Instruction) → RangedFootprint (footprint floor i s)
unfolding footprint effect_of
ranged floor s i =
    ranged_form floor s i (form_for i.first i.second) (operation_for i.first i.second i.operand.reg)
    (used_passes one_each refl refl (form_for i.first i.second) i.immediate (opcode_passes one_each refl refl refl i.first i.second))
