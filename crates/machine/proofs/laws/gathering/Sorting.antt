-- The work that the code makes of an instruction does what its effect does: one rule for each way, whatever operand r/m names.
use Rattle.std.specs.Prelude.{◌≡◌, refl, Bool, true, false, not, cond, List, ℕ, ◌/◌, ◌%◌, ◌^◌, ◌≤◌, ◌<◌, leb, length, get_or}
use Rattle.basis.specs.Names.{some}
use Rattle.basis.proofs.Names.{sym, ap, ◌∙◌, arith, rules, le-leb, not-true}
use Rattle.lanes.specs.Operations.{Operation, operation_of, operate, operate_three, described, MOVE, PINSRW, PSHUFW, PEXTRW, PMOVMSKB, MASKMOVQ}
use Rattle.words.specs.Number.{bytes}
use Rattle.words.proofs.Laws.{loaded_bytewise, stored_bytewise}
use Rattle.reorder.specs.Result.{Result, done, refused, and_then}
use Rattle.codec.specs.Forms.{File, mmx_file, integer_file, rm/mem, Form, memory_size}
use Rattle.codec.specs.inner.Entries.{is_shift}
use Rattle.codec.specs.inner.Fields.{Registers}
use Rattle.codec.specs.Table.{form_of}
use Rattle.codec.specs.inner.Entries.{shift_of, operation_in}
use Rattle.codec.specs.declared.Operand.{Operand}
use Rattle.codec.specs.declared.Instruction.{Instruction}
use Rattle.codec.specs.declared.Kind.TheVariants.{Emms}
use Rattle.codec.proofs.Bytes.{number_passes}
use Rattle.manual.specs.declared.Marks.{Marks}
use Rattle.manual.specs.Refusals.{below_floor}
use Rattle.manual.specs.State.{State}
use Rattle.manual.specs.Kinds.{marked}
use Rattle.manual.specs.Addresses.{address, address_of}
use Rattle.manual.specs.Locations.{Location, mmx_register, integer_register, memory, rm_of, at_edi, lies_inside}
use Rattle.manual.specs.inner.Unmarked.{directly}
use Rattle.manual.specs.Instructions.{kept_by, effect_by}
use Rattle.manual.specs.Steps.{completed, refused_with, concluded}
use Rattle.manual.proofs.Floors.{past_test, writable_bytes}
use Rattle.manual.proofs.Direct.{value_at, put_at, move_direct, both_direct, three_direct}
use Rattle.works.specs.declared.Work.{Work}
use Rattle.machine.specs.declared.operands.Spot.{Spot}
use Rattle.machine.specs.declared.ways.Way.{Way}
use Rattle.machine.specs.declared.ways.Way.TheVariants.{Empties, Passes, Shifts, Extracts, Stores, Loads, Computes, Inserts, Shuffles, Masks}
use Rattle.machine.specs.State.{state_of}
use Rattle.machine.specs.inner.Spots.{file_in, other_of, spot_of, NamedIn}
use Rattle.machine.specs.inner.Ways.{way_of, has_other}
use Rattle.machine.specs.inner.Picks.{picked_of, picked_work, extracted_of, extract_work, mask_work}
use Rattle.works.specs.Works.{to_operate, to_empty, to_pass, work_of}
use Rattle.machine.specs.inner.Works.{machine_of, effect_in, owned, Listed, put_work, value_in, take_work, performed, Sound, Does}
use Rattle.machine.proofs.laws.gathering.Soundness.{sound_operation, sound_empties, sound_passes, sound_integer, sound_put, sound_take, sound_picked, sound_mask}
use Rattle.machine.proofs.laws.operands.Locating.{by_place, spot_named}
use Rattle.machine.proofs.laws.ways.Numbering.{Other, Moves, HasWay, empties, passes_fence, passes_prefetch, shifts_WD, shifts_Q, extracts_word, extracts_bits, inserts, shuffles, masks, streams, stores, loads, computes, goes, other, two_operands}

-- what a form's effect leaves, by its way
module _ (floor : ℕ) (s : State) (o : Operation) (i : Instruction) where
  abbrev own : Operand
  own = i.operand

  abbrev left_by : Form → Result State
  left_by form = directly floor (effect_by form o i) s

  abbrev there : Form → Location
  there form = rm_of (file_in form.operands) (memory_size form) own

  module _ (n : ℕ) where
    -- a shift by an immediate gives its register's number, shifted
    shifted_by : (form : Form) → HasWay n Shifts form → left_by form ≡ put_at s floor (mmx_register own.rm) (operate o (get_or s.mmx own.rm 0) i.immediate)
    shifted_by form shifts_WD = refl
    shifted_by form shifts_Q = refl

    -- a store, which moves, gives what the operand takes of the register's number
    stored_by : (form : Form) → HasWay n Stores form → (Moves n → o ≡ MOVE)
        → left_by form ≡ put_at s floor (there form) (kept_by (rm/mem (file_in form.operands) (memory_size form)) (get_or s.mmx own.reg 0))
    unfolding operate
    stored_by form (streams moves x) m =
        ap (λ (q : Operation). directly floor (effect_by form q i) s) (m moves) ∙ move_direct floor s (λ v. v) (rm_of mmx_file 8 own) (mmx_register own.reg)
    stored_by form (stores file size moves x) m =
        ap (λ (q : Operation). directly floor (effect_by form q i) s) (m moves) ∙ move_direct floor s (kept_by (rm/mem file size)) (rm_of file size own) (mmx_register own.reg)

    -- the others give the operation's, as a load moves
    abbrev computed_as : Operation → Form → Result State
    computed_as p form = and_then (value_at s (there form)) (λ v. put_at s floor (mmx_register own.reg) (operate p (get_or s.mmx own.reg 0) v))

    loaded_by : (form : Form) → HasWay n Loads form → (Moves n → o ≡ MOVE) → left_by form ≡ computed_as o form
    unfolding operate
    loaded_by form (loads file size moves x) m =
        ap (λ (q : Operation). directly floor (effect_by form q i) s) (m moves)
        ∙ move_direct floor s (λ v. v) (mmx_register own.reg) (rm_of file size own)
        ∙ ap (λ (q : Operation). computed_as q form) (sym (m moves))

    computed_by_lem : (form : Form) → HasWay n Computes form → left_by form ≡ computed_as o form
    computed_by_lem form (computes file size x) = both_direct floor s (operate o) own.reg (rm_of file size own)

    -- what picks a register's lanes, by the operation that alone has its form
    abbrev picked_as : Form → Result State
    picked_as form = and_then (value_at s (there form)) (λ v. put_at s floor (mmx_register own.reg) (picked_of n (get_or s.mmx own.reg 0) v i.immediate))

    inserted_by : (form : Form) → HasWay n Inserts form → ((k : ℕ) → owned n ≡ some k → o ≡ operation_of k) → left_by form ≡ picked_as form
    inserted_by form (inserts e x) only =
        ap (λ (q : Operation). directly floor (effect_by form q i) s) (only (described PINSRW).number (ap owned e))
        ∙ both_direct floor s (λ old v. operate_three PINSRW old v i.immediate) own.reg (rm_of integer_file 2 own)
        ∙ ap (λ (k : ℕ). and_then (value_at s (there form)) (λ v. put_at s floor (mmx_register own.reg) (picked_of k (get_or s.mmx own.reg 0) v i.immediate))) (sym e)

    shuffled_by : (form : Form) → HasWay n Shuffles form → ((k : ℕ) → owned n ≡ some k → o ≡ operation_of k) → left_by form ≡ picked_as form
    shuffled_by form (shuffles e x) only =
        ap (λ (q : Operation). directly floor (effect_by form q i) s) (only (described PSHUFW).number (ap owned e))
        ∙ move_direct floor s (λ v. operate PSHUFW v i.immediate) (mmx_register own.reg) (rm_of mmx_file 8 own)
        ∙ ap (λ (k : ℕ). and_then (value_at s (there form)) (λ v. put_at s floor (mmx_register own.reg) (picked_of k (get_or s.mmx own.reg 0) v i.immediate))) (sym e)

    extracted_by : (form : Form) → HasWay n Extracts form → ((k : ℕ) → owned n ≡ some k → o ≡ operation_of k)
        → left_by form ≡ put_at s floor (integer_register own.reg) (extracted_of n (get_or s.mmx own.rm 0) i.immediate % 2 ^ 32)
    extracted_by form (extracts_word e) only =
        ap (λ (q : Operation). directly floor (effect_by form q i) s) (only (described PEXTRW).number (ap owned e))
        ∙ ap (λ (k : ℕ). put_at s floor (integer_register own.reg) (extracted_of k (get_or s.mmx own.rm 0) i.immediate % 2 ^ 32)) (sym e)
    extracted_by form (extracts_bits e) only =
        ap (λ (q : Operation). directly floor (effect_by form q i) s) (only (described PMOVMSKB).number (ap owned e))
        ∙ ap (λ (k : ℕ). put_at s floor (integer_register own.reg) (extracted_of k (get_or s.mmx own.rm 0) i.immediate % 2 ^ 32)) (sym e)

    abbrev bytes-at_edi : Location
    bytes-at_edi = memory at_edi 8

    masked_by : (form : Form) → HasWay n Masks form → ((k : ℕ) → owned n ≡ some k → o ≡ operation_of k)
        → left_by form ≡ and_then (value_at s bytes-at_edi) (λ v. put_at s floor bytes-at_edi (operate_three MASKMOVQ v (get_or s.mmx own.reg 0) (get_or s.mmx own.rm 0)))
    masked_by form (masks e x) only =
        ap (λ (q : Operation). directly floor (effect_by form q i) s) (only (described MASKMOVQ).number (ap owned e))
        ∙ three_direct floor s (operate_three MASKMOVQ) at_edi own.reg own.rm

shift_is : (n : ℕ) (form : Form) → HasWay n Shifts form → is_shift form ≡ true
shift_is n form shifts_WD = refl
shift_is n form shifts_Q = refl

-- works over lent registers and memory
module _ (registers integers m : List ℕ) (next : ℕ) where
  abbrev state : Marks → State
  state marks = state_of (machine_of registers integers marks) m

  -- a work leaves what a result says
  abbrev pub Leaves : Work → (ℕ → State → Result State) → Type 0
  Leaves work after = (floor : ℕ) (marks : Marks) (at : ℕ) → performed floor work at (state marks) ≡ concluded at (done next) (state marks) (after floor (state marks))

  -- the floor's test stands before what is left
  tested : (floor a at : ℕ) (here left : State)
      → cond (leb floor a) (completed next left) (refused_with below_floor at here) ≡ concluded at (done next) here (cond (leb floor a) (done left) (refused below_floor))
  tested floor a at here left = sym (past_test (concluded at (done next) here) (leb floor a) (done left) (refused below_floor))

  -- for the operand of r/m, whatever it is
  module _ (size : ℕ) (w : Operand) (few : size ≤ 8) where
    abbrev spot : Location → Result Spot
    spot x = spot_of integers (length m) x

    abbrev room : Bool
    room = lies_inside (length m) size (address integers (address_of w))

    -- a value that is put there
    abbrev Puts : ℕ → File → Location → Type 0
    Puts v f x = bytes size (kept_by (rm/mem f size) v) ≡ bytes size v → Leaves (put_work (spot x) v next) (λ floor s. put_at s floor x (kept_by (rm/mem f size) v))

    puts : 0 < size → (file : File) (v : ℕ) → Puts v file (rm_of file size w)
    unfolding performed operate
    puts any file v = by_place (Puts v) file size w (λ e floor marks at. refl) (λ e floor marks at. refl) (λ f. inside f room refl)
      where
        inside : (f : File) (u : Bool) → room ≡ u → Puts v f (memory (address_of w) size)
        inside f true h e floor marks at = simp (h, stored_bytewise, le-leb size 8 few, e, writable_bytes floor size (address integers (address_of w)) any) (tested floor _ at _ _)
        inside f false h e floor marks at = simp h

    -- an operation with the number that is there
    abbrev Takes : ℕ → ℕ → Location → Type 0
    Takes number place x =
        Leaves (take_work registers integers m number place (spot x) next)
        (λ floor s. and_then (value_at s x) (λ v. put_at s floor (mmx_register place) (operate (operation_of number) (get_or registers place 0) v)))

    takes : (file : File) (number place : ℕ) → Takes number place (rm_of file size w)
    unfolding performed
    takes file number place = by_place (λ f x. Takes number place x) file size w (λ floor marks at. refl) (λ floor marks at. refl) (λ f. inside room refl)
      where
        inside : (u : Bool) → room ≡ u → Takes number place (memory (address_of w) size)
        inside true h floor marks at = simp (h, loaded_bytewise, le-leb size 8 few)
        inside false h floor marks at = simp h

    -- lanes picked from the number that is there
    abbrev Picks : ℕ → ℕ → ℕ → ℕ → Location → Type 0
    Picks form number place immediate x =
        Leaves (picked_work form (get_or registers place 0) immediate (take_work registers integers m number place (spot x) next))
        (λ floor s. and_then (value_at s x) (λ v. put_at s floor (mmx_register place) (picked_of form (get_or registers place 0) v immediate)))

    picks : (file : File) (form number place immediate : ℕ) → Picks form number place immediate (rm_of file size w)
    unfolding performed operate
    picks file form number place immediate = by_place (λ f x. Picks form number place immediate x) file size w (λ floor marks at. refl) (λ floor marks at. refl) (λ f. inside room refl)
      where
        inside : (u : Bool) → room ≡ u → Picks form number place immediate (memory (address_of w) size)
        inside true h floor marks at = simp (h, loaded_bytewise, le-leb size 8 few)
        inside false h floor marks at = simp h

  -- eight bytes at EDI under a mask
  masks_bytes : (source mask : ℕ) → Leaves (mask_work integers m source mask next)
      (λ floor s. and_then (value_at s (memory at_edi 8)) (λ v. put_at s floor (memory at_edi 8) (operate_three MASKMOVQ v source mask)))
  unfolding performed
  masks_bytes source mask = inside (lies_inside (length m) 8 (address integers at_edi)) refl
    where
      inside : (u : Bool) → lies_inside (length m) 8 (address integers at_edi) ≡ u → Leaves (mask_work integers m source mask next)
          (λ floor s. and_then (value_at s (memory at_edi 8)) (λ v. put_at s floor (memory at_edi 8) (operate_three MASKMOVQ v source mask)))
      inside true h floor marks at = simp (h, stored_bytewise, loaded_bytewise, writable_bytes floor 8 (address integers at_edi) (omega arith)) (tested floor _ at _ _)
      inside false h floor marks at = simp h

-- an instruction by the table's number for it
module _ (registers integers m : List ℕ) (entry : ℕ) (i : Instruction) (next : ℕ) where
  abbrev form_in : ℕ
  form_in = entry / 2 ^ 24

  abbrev form : Form
  form = form_of form_in

  abbrev w : Operand
  w = i.operand

  abbrev named : Operation
  named = operation_in entry w.reg

  -- what the effect leaves, and what the work leaves
  pub of_work : (work : Work) (after : ℕ → State → Result State) → Sound work → ((floor : ℕ) (s : State) → directly floor (effect_in entry i) s ≡ after floor s)
      → Leaves registers integers m next work after → Does work registers integers m (effect_in entry i) (done next)
  of_work work after sound leaves performs =
      record { sound = sound; does = λ floor marks at. let s = state registers integers m next marks in performs floor marks at ∙ sym (ap (concluded at (done next) s) (leaves floor s)) }

  module _ (r : Registers w) (l : Listed entry) (y : Way) (way : y ≡ way_of form_in) (work : Work) where
    pub does_empties : y ≡ Empties → work ≡ work_of to_empty 0 0 0 next → Does work registers integers m (effect_in entry i) (done next)
    unfolding performed
    does_empties e made =
        rw made (of_work (work_of to_empty 0 0 0 next) (λ floor s. done (marked Emms s)) (sound_empties next) (λ floor s. by floor s form (goes entry l y Empties way e)) (λ floor marks at. refl))
      where
        by : (floor : ℕ) (s : State) (f : Form) → HasWay form_in Empties f → directly floor (effect_by f named i) s ≡ done (marked Emms s)
        by floor s f empties = refl

    pub does_pass : y ≡ Passes → work ≡ work_of to_pass 0 0 0 next → Does work registers integers m (effect_in entry i) (done next)
    unfolding performed
    does_pass e made =
        rw made (of_work (work_of to_pass 0 0 0 next) (λ floor s. done s) (sound_passes next) (λ floor s. by floor s form (goes entry l y Passes way e)) (λ floor marks at. refl))
      where
        by : (floor : ℕ) (s : State) (f : Form) → HasWay form_in Passes f → directly floor (effect_by f named i) s ≡ done s
        by floor s f passes_fence = refl
        by floor s f passes_prefetch = refl

    -- past the shifts the entry names the operation, and where one alone has the form that one
    plain : 3 < form_in → named ≡ operation_of (entry % 256)
    unfolding operation_in
    plain h = simp (not-true (is_shift form) (number_passes (λ f. not (is_shift f)) 4 form_in h refl refl))

    only : 3 < form_in → (k : ℕ) → owned form_in ≡ some k → named ≡ operation_of k
    only h k e = plain h ∙ ap operation_of (l.owns k e)

    -- the shifts by an immediate
    pub does_shift : (number : ℕ) → y ≡ Shifts → operation_of number ≡ shift_of (entry / 2 ^ 8 % 256) w.reg
        → work ≡ work_of to_operate number w.rm i.immediate next → Does work registers integers m (effect_in entry i) (done next)
    unfolding performed operation_in
    does_shift number z e made =
        let same : named ≡ operation_of number = simp (shift_is form_in form (goes entry l y Shifts way z)) (sym e) in
        rw made
        (of_work (work_of to_operate number w.rm i.immediate next)
        (λ floor s. put_at s floor (mmx_register w.rm) (operate (operation_of number) (get_or s.mmx w.rm 0) i.immediate))
        (sound_operation number w.rm i.immediate next r.rm)
        (λ floor s.
        shifted_by floor s named i form_in form (goes entry l y Shifts way z)
        ∙ ap (λ (o : Operation). put_at s floor (mmx_register w.rm) (operate o (get_or s.mmx w.rm 0) i.immediate)) same)
        (λ floor marks at. refl))

    pub does_extract : (value : ℕ) → y ≡ Extracts → value ≡ get_or registers w.rm 0 → work ≡ extract_work form_in value i.immediate w.reg next
        → Does work registers integers m (effect_in entry i) (done next)
    unfolding performed
    does_extract value e v made =
        let way_is = goes entry l y Extracts way e in
        rw (made, v)
        (of_work (extract_work form_in (get_or registers w.rm 0) i.immediate w.reg next)
        (λ floor s. put_at s floor (integer_register w.reg) (extracted_of form_in (get_or s.mmx w.rm 0) i.immediate % 2 ^ 32))
        (sound_integer w.reg (extracted_of form_in (get_or registers w.rm 0) i.immediate) next r.reg)
        (λ floor s. extracted_by floor s named i form_in form way_is (only (past form way_is)))
        (λ floor marks at. refl))
      where
        past : (f : Form) → HasWay form_in Extracts f → 3 < form_in
        past f (extracts_word h) = omega arith
        past f (extracts_bits h) = omega arith

    pub does_mask : y ≡ Masks → work ≡ mask_work integers m (get_or registers w.reg 0) (get_or registers w.rm 0) next
        → Does work registers integers m (effect_in entry i) (done next)
    does_mask e made =
        let way_is = goes entry l y Masks way e in
        let source = get_or registers w.reg 0 in
        let mask = get_or registers w.rm 0 in
        rw made
        (of_work (mask_work integers m source mask next)
        (λ floor s. and_then (value_at s (memory at_edi 8)) (λ v. put_at s floor (memory at_edi 8) (operate_three MASKMOVQ v (get_or s.mmx w.reg 0) (get_or s.mmx w.rm 0))))
        (sound_mask integers m source mask next)
        (λ floor s. masked_by floor s named i form_in form way_is (only (past form way_is)))
        (masks_bytes registers integers m next source mask))
      where
        past : (f : Form) → HasWay form_in Masks f → 3 < form_in
        past f (masks h x) = omega arith

    -- an operand that may be in memory
    abbrev here : Result Spot
    here = spot_of integers (length m) (other_of form_in w)

    here_named : NamedIn here
    here_named = spot_named integers (length m) entry w here refl r

    abbrev file : File
    file = file_in form.operands

    abbrev size : ℕ
    size = memory_size form

    module _ (z : Way) (e : y ≡ z) (two : has_other z ≡ true) where
      abbrev its : Other form_in file size
      its = other entry l (two_operands form_in y way z e two)

      moves : Moves form_in → named ≡ MOVE
      moves m = only its.past (described MOVE).number m

      take : ((floor : ℕ) (s : State) → directly floor (effect_in entry i) s ≡ computed_as floor s named i form_in named form) → work ≡ take_work registers integers m (entry % 256) w.reg here next
          → Does work registers integers m (effect_in entry i) (done next)
      take after made =
          rw made
          (of_work (take_work registers integers m (entry % 256) w.reg here next) (λ floor s. computed_as floor s named i form_in (operation_of (entry % 256)) form)
          (sound_take registers integers m (entry % 256) w.reg here next r.reg here_named)
          (λ floor s. after floor s ∙ ap (λ (o : Operation). computed_as floor s named i form_in o form) (plain its.past))
          (takes registers integers m next size w its.most file (entry % 256) w.reg))

    pub does_store : (x : Result Spot) → y ≡ Stores → x ≡ here → work ≡ put_work x (get_or registers w.reg 0) next → Does work registers integers m (effect_in entry i) (done next)
    does_store x e found made =
        let v = get_or registers w.reg 0 in
        rw (made, found)
        (of_work (put_work here v next) (λ floor s. put_at s floor (other_of form_in w) (kept_by (rm/mem file size) (get_or s.mmx w.reg 0)))
        (sound_put here v next here_named)
        (λ floor s. stored_by floor s named i form_in form (goes entry l y Stores way e) (moves Stores e refl))
        (puts registers integers m next size w (its Stores e refl).most (its Stores e refl).any file v ((its Stores e refl).kept v)))

    pub does_load : y ≡ Loads → work ≡ take_work registers integers m (entry % 256) w.reg here next → Does work registers integers m (effect_in entry i) (done next)
    does_load e = take Loads e refl (λ floor s. loaded_by floor s named i form_in form (goes entry l y Loads way e) (moves Loads e refl))

    pub does_compute : y ≡ Computes → work ≡ take_work registers integers m (entry % 256) w.reg here next → Does work registers integers m (effect_in entry i) (done next)
    does_compute e = take Computes e refl (λ floor s. computed_by_lem floor s named i form_in form (goes entry l y Computes way e))

    -- lanes picked by an immediate
    pick : (z : Way) (e : y ≡ z) (two : has_other z ≡ true) → ((floor : ℕ) (s : State) → directly floor (effect_in entry i) s ≡ picked_as floor s named i form_in form)
        → work ≡ picked_work form_in (get_or registers w.reg 0) i.immediate (take_work registers integers m (entry % 256) w.reg here next)
        → Does work registers integers m (effect_in entry i) (done next)
    pick z e two after made =
        let old = get_or registers w.reg 0 in
        rw made
        (of_work (picked_work form_in old i.immediate (take_work registers integers m (entry % 256) w.reg here next)) (λ floor s. picked_as floor s named i form_in form)
        (sound_picked form_in old i.immediate registers integers m (entry % 256) w.reg here next r.reg here_named)
        after
        (picks registers integers m next size w (its z e two).most file form_in (entry % 256) w.reg i.immediate))

    pub does_insert : y ≡ Inserts → work ≡ picked_work form_in (get_or registers w.reg 0) i.immediate (take_work registers integers m (entry % 256) w.reg here next)
        → Does work registers integers m (effect_in entry i) (done next)
    does_insert e =
        pick Inserts e refl (λ floor s. inserted_by floor s named i form_in form (goes entry l y Inserts way e) (only (its Inserts e refl).past))

    pub does_shuffle : y ≡ Shuffles → work ≡ picked_work form_in (get_or registers w.reg 0) i.immediate (take_work registers integers m (entry % 256) w.reg here next)
        → Does work registers integers m (effect_in entry i) (done next)
    does_shuffle e =
        pick Shuffles e refl (λ floor s. shuffled_by floor s named i form_in form (goes entry l y Shuffles way e) (only (its Shuffles e refl).past))

-- what the code makes where the operand is
module _ (x y : Result Spot) (next : ℕ) (work : Work) (e : x ≡ y) where
  pub made_put : (value : ℕ) → work ≡ put_work x value next → work ≡ put_work y value next
  made_put value h = h ∙ ap (λ (z : Result Spot). put_work z value next) e

  pub made_take : (registers integers m : List ℕ) (number place : ℕ) → work ≡ take_work registers integers m number place x next
      → work ≡ take_work registers integers m number place y next
  made_take registers integers m number place h = h ∙ ap (λ (z : Result Spot). take_work registers integers m number place z next) e

  pub made_taken : (registers integers m : List ℕ) (number place v : ℕ) (s : Spot) → x ≡ done s → v ≡ value_in registers integers m s
      → work ≡ work_of to_operate number place v next → work ≡ take_work registers integers m number place y next
  made_taken registers integers m number place v s i h w =
      made_take registers integers m number place
      (w ∙ ap (λ (u : ℕ). work_of to_operate number place u next) h ∙ ap (λ (z : Result Spot). take_work registers integers m number place z next) (sym i))

pub ruleset ways = (rules, two_operands, does_empties, does_pass, does_shift, does_extract, does_store, does_load, does_compute, does_insert, does_shuffle, does_mask)
