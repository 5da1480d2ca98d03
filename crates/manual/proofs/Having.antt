-- A completed step's footprint has only places that the machine has: registers below 8, since the instruction was read, and bytes of the memory,
-- since its operands were tested.
use Rattle.std.specs.Prelude.{◌≡◌, refl, ◌⊎◌, Bool, true, false, cond, ◌&&◌, List, [], ◌∷◌, ◌++◌, map, ℕ, zero, suc, ◌+◌, ◌≤◌, ◌<◌, ◌%◌, eqb, ltb, length, drop}
use Rattle.basis.specs.Names.{Option, none, some, Memᴰ as In}
use Rattle.basis.proofs.Names.{sym, ap, subst, ◌∙◌, ⊎_elim, false≢true, Memᴰ-head as here, Memᴰ-tail as there, leb-true, ltb-true, mod-lt, arith}
use Rattle.words.proofs.Laws.{and_both}
use Rattle.reorder.specs.Result.{Result, done, refused, and_then, map_result, provided}
use Rattle.reorder.specs.Footprint as places
use Rattle.reorder.specs.Run.{Fetched, Answer, finished, spent, stopped, position_reached, state_reached}
use Rattle.codec.specs.Forms.{File, mmx_file, integer_file, Slot, reg, rm, rm/mem, mem, edi, fixed, opcode, zero_slot, Form}
use Rattle.codec.specs.Opcodes.{form_at, form_for}
use Rattle.codec.specs.Operands.{has_sib}
use Rattle.codec.specs.Reads.{longest_code, read_part, read_at}
use Rattle.codec.specs.Answers.{Decoded}
use Rattle.codec.specs.Answers as decoded
use Rattle.codec.specs.inner.Fields.{Registers}
use Rattle.codec.specs.declared.Operand.{Operand}
use Rattle.codec.specs.declared.Instruction.{Instruction}
use Rattle.codec.specs.declared.Kind.{Kind}
use Rattle.codec.proofs.Bytes.{all_pass, opcode_passes, used_passes}
use Rattle.codec.proofs.Readers.{Holds}
use Rattle.codec.proofs.Given.{Known, Refusal, reads_known}
use Rattle.manual.specs.State.{State, Frozen, frozen, is_too_long, is_too_high}
use Rattle.manual.specs.Places.{Place, mmx, integer, byte, zero_mark}
use Rattle.manual.specs.Addresses.{Address, base_of, index_of, address_of, address, registers_of, address_registers}
use Rattle.manual.specs.Locations.{Location, mmx_register, integer_register, memory, zero_operand, register_in, rm_of, locate, bytes_from, lies_inside, miss_of, tested, places_of, registers_behind}
use Rattle.manual.specs.Effects.{places_of_all, registers_behind_all, address_registers_of, via}
use Rattle.manual.specs.Instructions.{sources, targets, form_used, effect_of, footprint}
use Rattle.manual.specs.Jumps.{next}
use Rattle.manual.specs.Steps.{result_of, instruction_at}
use Rattle.manual.specs.Runs.{run_of}
use Rattle.manual.specs.Footprints.{footprint_at, footprint_in_run}
use Rattle.manual.proofs.Floors.{plan_on_lem}
use Rattle.manual.proofs.Bounds.{Bounded, run_bounded}
use Rattle.manual.proofs.Uses.{footprint_planned}

-- a machine with so many bytes of memory (`room`) has the place
abbrev pub HasPlace : ℕ → Place → Type 0
HasPlace room (mmx k) = k < 8
HasPlace room (integer k) = k < 8
HasPlace room (byte a) = a < room
HasPlace room zero_mark = Unit {0}

-- what is said of each in a list, one after the other
abbrev Each : {A : Type 0} → (A → Type 0) → List A → Type 0
Each P [] = Unit {0}
Each P (x ∷ xs) = P x × Each P xs

each_both : {A : Type 0} (P : A → Type 0) (xs ys : List A) → Each P xs → Each P ys → Each P (xs ++ ys)
each_both P [] ys h g = g
each_both P (x ∷ xs) ys (one, rest) g = (one, each_both P xs ys rest g)

each_in : {A : Type 0} (P : A → Type 0) (xs : List A) → Each P xs → (x : A) → In x xs → P x
each_in P [] _ x h = elim h [ ]
each_in P (y ∷ ys) (one, rest) x (here e) = subst P (sym e) one
each_in P (y ∷ ys) (one, rest) x (there m) = each_in P ys rest x m

-- what holds of both answers of a test
either : {A : Type 0} (P : A → Type 0) (t : Bool) (x y : A) → P x → P y → P (cond t x y)
either P true x y h g = h
either P false x y h g = g

-- The registers of operands that are read

abbrev IsRegister : ℕ → Type 0
IsRegister k = k < 8

-- the machine has the register that an operand is, or those that its address is made of
abbrev Named : Location → Type 0
Named (mmx_register k) = IsRegister k
Named (integer_register k) = IsRegister k
Named (memory a size) = Each IsRegister (address_registers a)
Named zero_operand = Unit {0}

-- a register that a form fixes, and no field names, is one too
abbrev is_named : Slot → Bool
is_named (reg file) = true
is_named (rm file) = true
is_named (rm/mem file size) = true
is_named (mem size) = true
is_named (edi size) = true
is_named (fixed k) = ltb k 8
is_named (opcode file) = true
is_named zero_slot = true

abbrev all_named : Form → Bool
all_named form = all_pass is_named (sources form.operands) && all_pass is_named (targets form.operands)

module _ (i : Instruction) (r : Registers i.operand) where
  register_named : (file : File) (k : ℕ) → IsRegister k → Named (register_in file k)
  register_named mmx_file k h = h
  register_named integer_file k h = h

  -- a register that an address may have
  part_named : (t : Bool) (k : ℕ) → IsRegister k → Each IsRegister (registers_of (cond t none (some k)))
  part_named true k h = tt
  part_named false k h = (h, tt)

  address_named : Each IsRegister (address_registers (address_of i.operand))
  unfolding address_of base_of index_of
  address_named =
      either (λ (a : Address). Each IsRegister (address_registers a)) (has_sib w.mode w.rm) _ _
      (of_parts w.base (index_of w.index) r.base (part_named (eqb w.index 4) w.index r.index)) (of_parts w.rm none r.rm tt)
    where
      w : Operand
      w = i.operand

      of_parts : (k : ℕ) (index : Option ℕ) → IsRegister k → Each IsRegister (registers_of index)
          → Each IsRegister (registers_of (base_of w.mode k) ++ registers_of index)
      of_parts k index h = each_both IsRegister (registers_of (base_of w.mode k)) (registers_of index) (part_named (eqb w.mode 0 && eqb k 5) k h)

  rm_named : (file : File) (size : ℕ) → Named (rm_of file size i.operand)
  unfolding rm_of
  rm_named file size = either Named (eqb i.operand.mode 3) _ _ (register_named file i.operand.rm r.rm) address_named

  slot_named : (x : Slot) → is_named x ≡ true → Named (locate i x)
  slot_named (reg file) h = register_named file i.operand.reg r.reg
  slot_named (rm file) h = register_named file i.operand.rm r.rm
  slot_named (rm/mem file size) h = rm_named file size
  slot_named (mem size) h = rm_named mmx_file size
  slot_named (edi size) h = (omega arith, tt)
  slot_named (fixed k) h = ltb-true k 8 h
  slot_named (opcode file) h = register_named file (i.first % 8) (mod-lt i.first (omega arith))
  slot_named zero_slot h = tt

  slots_named : (xs : List Slot) → all_pass is_named xs ≡ true → Each Named (map (locate i) xs)
  slots_named [] h = tt
  slots_named (x ∷ xs) h = let (one, rest) = and_both (is_named x) _ h in (slot_named x one, slots_named xs rest)

  -- all that an instruction takes and gives
  touched_named : Each Named (effect_of i).takes × Each Named (effect_of i).gives
  unfolding effect_of
  touched_named =
      let operands = (form_used i).operands in
      let listed = opcode_passes all_named refl refl refl i.first i.second in
      let used = used_passes all_named refl refl (form_for i.first i.second) i.immediate listed in
      let (taken, given) = and_both (all_pass is_named (sources operands)) _ used in
      (slots_named (sources operands) taken, slots_named (targets operands) given)

-- The places of operands

-- the address registers behind them
behind_named : (xs : List Location) → Each Named xs → Each IsRegister (registers_behind_all xs)
behind_named [] h = tt
behind_named (x ∷ xs) (one, rest) = each_both IsRegister (registers_behind x) _ (own x one) (behind_named xs rest)
  where
    own : (x : Location) → Named x → Each IsRegister (registers_behind x)
    own (mmx_register k) h = tt
    own (integer_register k) h = tt
    own (memory a size) h = h
    own zero_operand h = tt

module _ (room : ℕ) where
  registers_had : (ks : List ℕ) → Each IsRegister ks → Each (HasPlace room) (map integer ks)
  registers_had [] h = tt
  registers_had (k ∷ ks) (one, rest) = (one, registers_had ks rest)

  bytes_had : (size a : ℕ) → a + size ≤ room → Each (HasPlace room) (bytes_from a size)
  bytes_had zero a h = tt
  bytes_had (suc size) a h = (omega arith, bytes_had size (a + 1) (omega arith))

  -- the machine has them, where there are places
  abbrev Had : Result (List Place) → Type 0
  Had (done ps) = Each (HasPlace room) ps
  Had (refused n) = Unit {0}

  -- bytes that are tested
  tested_had : (miss size a : ℕ) → Had (tested miss room size a)
  tested_had miss size a = by (lies_inside room size a) refl
    where
      by : (t : Bool) → lies_inside room size a ≡ t → Had (cond t (done (bytes_from a size)) (refused miss))
      by true e = bytes_had size a (leb-true (a + size) room e)
      by false e = tt

  both_had : (a b : Result (List Place)) → Had a → Had b → Had (and_then a (λ ps. map_result (λ qs. ps ++ qs) b))
  both_had (done ps) (done qs) h g = each_both (HasPlace room) ps qs h g
  both_had (done ps) (refused n) h g = tt
  both_had (refused n) b h g = tt

module _ (s : State) where
  abbrev room : ℕ
  room = length s.memory

  own_had : (x : Location) → Named x → Had room (places_of s x)
  own_had (mmx_register k) h = (h, tt)
  own_had (integer_register k) h = (h, tt)
  own_had (memory a size) h = tested_had room (miss_of a) size (address s.integers a)
  own_had zero_operand h = (tt, tt)

  all_had : (xs : List Location) → Each Named xs → Had room (places_of_all s xs)
  all_had [] h = tt
  all_had (x ∷ xs) (one, rest) = both_had room (places_of s x) (places_of_all s xs) (own_had x one) (all_had xs rest)

  -- the footprint of an instruction whose fields name registers
  instruction_had : (floor : ℕ) (i : Instruction) (f : places.Footprint Place Kind) → Registers i.operand → footprint floor i s ≡ done f
      → Each (HasPlace room) f.reads × Each (HasPlace room) f.writes
  instruction_had floor i f r e =
      let effect = effect_of i in
      let (pl, planned, same) = footprint_planned floor i s f e in
      let on = plan_on_lem floor effect s pl planned in
      let (taken, given) = touched_named i r in
      let behind = each_both IsRegister (registers_behind_all effect.takes) _ (behind_named effect.takes taken) (behind_named effect.gives given) in
      let addressed = registers_had room (address_registers_of effect) behind in
      let source = subst (Had room) on.takes (all_had effect.takes taken) in
      let target = subst (Had room) on.gives (all_had effect.gives given) in
      subst (λ (g : places.Footprint Place Kind). Each (HasPlace room) g.reads × Each (HasPlace room) g.writes)
      (ap (places.footprint_of (via effect)) on.same ∙ same)
      (each_both (HasPlace room) (via effect) on.sources addressed source, target)

-- Steps and runs

-- the fields of what is read name registers
abbrev ReadsRegisters : Result (Fetched Instruction) → Type 0
ReadsRegisters (done r) = Registers r.instruction.operand
ReadsRegisters (refused n) = Unit {0}

read_registers : (floor : ℕ) (code : List ℕ) (at : ℕ) (s : State) → ReadsRegisters (instruction_at floor code at s)
unfolding instruction_at read_at
read_registers floor code at s =
    either ReadsRegisters (is_too_long s.memory) _ _ tt
    (either ReadsRegisters (is_too_high floor s.memory) _ _ tt
    (either (λ (x : Decoded). ReadsRegisters (result_of x)) (ltb longest_code (length code)) _ _ tt
    (known (read_part (drop at code)) (reads_known form_at 0 (drop at code)))))
  where
    known : (x : Decoded) → Holds (Known form_at) Refusal x → ReadsRegisters (result_of x)
    known (decoded.good i n) h = h.registers
    known (decoded.refused n) h = tt

-- a completed step's footprint has only places of the machine
pub footprint_has : (floor : ℕ) (code : List ℕ) (at : ℕ) (s : State) (f : places.Footprint Place Kind) → footprint_at floor code at s ≡ done f
    → (p : Place) → In p f.reads ⊎ In p f.writes → HasPlace (length s.memory) p
unfolding footprint_at
footprint_has floor code at s f e p = reading (instruction_at floor code at s) (read_registers floor code at s) e
  where
    own : (o : Result (places.Footprint Place Kind)) (further : Result ℕ) → provided o further ≡ done f → o ≡ done f
    own (done g) (done position) h = h
    own (done g) (refused n) h = absurd (false≢true (cc))
    own (refused n) further h = absurd (false≢true (cc))

    reading : (o : Result (Fetched Instruction)) → ReadsRegisters o
        → and_then o (λ r. provided (footprint floor r.instruction s) (next (length code) r.instruction s (at + r.size))) ≡ done f
        → In p f.reads ⊎ In p f.writes → HasPlace (length s.memory) p
    reading (refused n) registers h = absurd (false≢true (cc))
    reading (done r) registers h =
        let its = own (footprint floor r.instruction s) (next (length code) r.instruction s (at + r.size)) h in
        let (reads, writes) = instruction_had s floor r.instruction f registers its in
        ⊎_elim (each_in (HasPlace (length s.memory)) f.reads reads p) (each_in (HasPlace (length s.memory)) f.writes writes p)

-- and so has that of the step that a run has come to: a run keeps the length of the memory that it started with
pub run_has : (floor : ℕ) (code : List ℕ) (start : State) (k : ℕ) (f : places.Footprint Place Kind)
    → footprint_in_run floor code start k ≡ done f
    → (p : Place) → In p f.reads ⊎ In p f.writes → HasPlace (length start.memory) p
run_has floor code start k f e p m =
    let answer = run_of floor code k start in
    subst (λ (x : Frozen). HasPlace x.memory p) (kept answer (run_bounded floor code k start))
    (footprint_has floor code (position_reached answer) (state_reached answer) f e p m)
  where
    kept : (a : Answer State) → Bounded code k start a → frozen (state_reached a) ≡ frozen start
    kept (finished at count t) b = b.kept
    kept (spent at count t) b = b.kept
    kept (stopped n at count t) b = b.1.kept
