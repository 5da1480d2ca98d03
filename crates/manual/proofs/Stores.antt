-- Refusal 21 in the customer's words: a store with a byte below the floor, so with its first one, and with all in the memory. The stores are 0F 7E,
-- 7F and E7 where r/m names no register, and 0F F7, whatever its mask.
use Rattle.std.specs.Prelude.{◌≡◌, refl, Bool, true, false, ◌||◌, List, [], ◌∷◌, map, ℕ, ◌+◌, ◌%◌, ◌<◌, ◌≤◌, eqb, length, ◌↔◌}
use Rattle.basis.specs.Names.{Memᴰ as In}
use Rattle.basis.proofs.Names.{sym, ap, subst, subst₂, ◌∙◌, inr, false≢true, or-false, Memᴰ-head as here, Memᴰ-tail as there, Memᴰ-eq_of_singleton as eq_of_singleton, arith, dec_lt, eqb-true, ne_eqb}
use Rattle.codec.specs.Forms.{File, mmx_file, integer_file, Slot, reg, rm, rm/mem, mem, edi, fixed, opcode, zero_slot, Form, absent, is_among}
use Rattle.codec.specs.Contents.{Line, lines}
use Rattle.codec.specs.Opcodes.{escape, form_at, used_form, form_for}
use Rattle.codec.specs.declared.Instruction.{Instruction}
use Rattle.codec.proofs.Bytes.{all_pass, found_has, first_passes, used_passes, among}
use Rattle.manual.specs.Refusals.{below_floor}
use Rattle.manual.specs.State.{State}
use Rattle.manual.specs.Addresses.{Address, address_of, address}
use Rattle.manual.specs.Locations.{Location, memory, rm_of, at_edi, locate}
use Rattle.manual.specs.Instructions.{targets, form_used, effect_of}
use Rattle.manual.specs.Steps.{refused_with, step_at}
use Rattle.manual.specs.Reasons.{Passes, Touches, Outside, Reason, one, twenty, reading, seven, eight, nine, ten, fourteen, twenty_one, twenty_two, nineteen}
use Rattle.manual.proofs.OneAddress.{no_register, at_rm, one_address}
use Rattle.manual.proofs.Exactly.{step_exactly}
use Rattle.manual.proofs.Bounds.{reading_small}

-- the stores, with the address and how many bytes go there
pub data Stores (i : Instruction) : Address → ℕ → Type 0 where
  movd : i.first ≡ 0x0f → i.second ≡ 0x7e → ¬ (i.operand.mode ≡ 3) → Stores i (address_of i.operand) 4
  movq : i.first ≡ 0x0f → i.second ≡ 0x7f → ¬ (i.operand.mode ≡ 3) → Stores i (address_of i.operand) 8
  movntq : i.first ≡ 0x0f → i.second ≡ 0xe7 → ¬ (i.operand.mode ≡ 3) → Stores i (address_of i.operand) 8
  maskmovq : i.first ≡ 0x0f → i.second ≡ 0xf7 → Stores i at_edi 8

abbrev store_bytes : List ℕ
store_bytes = 0x7e ∷ 0x7f ∷ 0xe7 ∷ 0xf7 ∷ []

-- an operand that is never in memory
abbrev is_register : Slot → Bool
is_register (reg file) = true
is_register (rm file) = true
is_register (rm/mem file size) = false
is_register (mem size) = false
is_register (edi size) = false
is_register (fixed k) = true
is_register (opcode file) = true
is_register zero_slot = true

module _ (i : Instruction) where
  -- what an instruction of both opcode bytes gives
  abbrev given_at : ℕ → ℕ → List Location
  given_at first second = map (locate i) (targets (used_form (form_for first second) i.immediate).operands)

  -- no other second byte gives an operand that may be in memory
  registers_given : is_among i.second store_bytes ≡ false → all_pass is_register (targets (form_at i.second).operands) ≡ true
  unfolding form_at
  registers_given h =
      found_has (λ x. x.form) absent (λ form. all_pass is_register (targets form.operands) ≡ true) (λ x. eqb i.second x.second)
      (λ x. all_pass is_register (targets x.form.operands) || is_among x.second store_bytes) refl other lines refl
    where
      other : (x : Line) → eqb i.second x.second ≡ true
          → (all_pass is_register (targets x.form.operands) || is_among x.second store_bytes) ≡ true → all_pass is_register (targets x.form.operands) ≡ true
      other x e g =
          let same : is_among x.second store_bytes ≡ false = ap (λ (k : ℕ). is_among k store_bytes) (sym (eqb-true i.second x.second e)) ∙ h in
          sym (or-false _) ∙ (ap (λ (t : Bool). all_pass is_register (targets x.form.operands) || t) (sym same) ∙ g)

  -- nor does a suffix
  abbrev gives_registers : Form → Bool
  gives_registers form = all_pass is_register (targets form.operands)

  used_registers : (form : Form) → gives_registers form ≡ true → gives_registers (used_form form i.immediate) ≡ true
  used_registers form h = used_passes gives_registers refl refl form i.immediate h

  -- so that it has none
  module _ (a : Address) (size : ℕ) where
    no_memory : (xs : List Slot) → all_pass is_register xs ≡ true → In (memory a size) (map (locate i) xs) → ⊥
    no_memory [] h h' = elim h' [ ]
    no_memory (reg file ∷ xs) h (here e) = no_register a size file i.operand.reg e
    no_memory (rm file ∷ xs) h (here e) = no_register a size file i.operand.rm e
    no_memory (fixed k ∷ xs) h (here e) = no_register a size mmx_file k e
    no_memory (opcode file ∷ xs) h (here e) = no_register a size file (i.first % 8) e
    no_memory (zero_slot ∷ xs) h (here e) = false≢true (cc)
    no_memory (rm/mem file n ∷ xs) h m = false≢true h
    no_memory (mem n ∷ xs) h m = false≢true h
    no_memory (edi n ∷ xs) h m = false≢true h
    no_memory (reg file ∷ xs) h (there m) = no_memory xs h m
    no_memory (rm file ∷ xs) h (there m) = no_memory xs h m
    no_memory (fixed k ∷ xs) h (there m) = no_memory xs h m
    no_memory (opcode file ∷ xs) h (there m) = no_memory xs h m
    no_memory (zero_slot ∷ xs) h (there m) = no_memory xs h m

  -- what r/m names where mod is not 11
  rm_memory : (file : File) (n : ℕ) → ¬ (i.operand.mode ≡ 3) → rm_of file n i.operand ≡ memory (address_of i.operand) n
  unfolding rm_of
  rm_memory file n other = simp (ne_eqb i.operand.mode 3 other)

  -- an instruction gives an operand in memory exactly if it is a store of it
  pub stores_exactly : (a : Address) (size : ℕ) → In (memory a size) (effect_of i).gives ↔ Stores i a size
  unfolding effect_of form_at
  stores_exactly a size = (λ m. by (eqb i.first escape) (is_among i.second store_bytes) refl refl m, given a size)
    where
      Stored : ℕ → Type 0
      Stored second = i.second ≡ second → In (memory a size) (given_at escape second) → Stores i a size

      by_rm : (file : File) (n : ℕ) → (¬ (i.operand.mode ≡ 3) → Stores i (address_of i.operand) n) → In (memory a size) (rm_of file n i.operand ∷ []) → Stores i a size
      by_rm file n store m =
          let p = at_rm i a size file n (eq_of_singleton m) in
          subst₂ (Stores i) (sym p.same) (sym p.sized) (store (p.by_rm refl))

      after : i.first ≡ escape → is_among i.second store_bytes ≡ true → In (memory a size) (given_at escape i.second) → Stores i a size
      after first h m =
          among Stored i.second store_bytes h
          (λ e. by_rm integer_file 4 (movd first e)) (λ e. by_rm mmx_file 8 (movq first e)) (λ e. by_rm mmx_file 8 (movntq first e))
          (λ e m. let same = eq_of_singleton m in let at : a ≡ at_edi = cc in let sized : size ≡ 8 = cc in subst₂ (Stores i) (sym at) (sym sized) (maskmovq first e))
          refl m

      by : (t u : Bool) → eqb i.first escape ≡ t → is_among i.second store_bytes ≡ u → In (memory a size) (given_at i.first i.second) → Stores i a size
      by true true e h m = let first = eqb-true i.first escape e in after first h (subst (λ (n : ℕ). In (memory a size) (given_at n i.second)) first m)
      by true false e h m = absurd (no_memory a size (targets (form_used i).operands) (used_registers (form_for i.first i.second) (simp e (registers_given h))) m)
      by false u e h m =
          absurd (no_memory a size (targets (form_used i).operands) (used_registers (form_for i.first i.second) (simp e (first_passes gives_registers refl refl i.first))) m)

      there : (first second : ℕ) (x : Location) → i.first ≡ first → i.second ≡ second → In x (given_at first second) → In x (given_at i.first i.second)
      there first second x e f m = subst₂ (λ (j k : ℕ). In x (given_at j k)) (sym e) (sym f) m

      given : (a : Address) (size : ℕ) → Stores i a size → In (memory a size) (given_at i.first i.second)
      given a size (movd e f other) = there 0x0f 0x7e _ e f (here (sym (rm_memory integer_file 4 other)))
      given a size (movq e f other) = there 0x0f 0x7f _ e f (here (sym (rm_memory mmx_file 8 other)))
      given a size (movntq e f other) = there 0x0f 0xe7 _ e f (here (sym (rm_memory mmx_file 8 other)))
      given a size (maskmovq e f) = there 0x0f 0xf7 _ e f (here refl)

-- every store has a byte
store_some : (i : Instruction) (a : Address) (size : ℕ) → Stores i a size → 0 < size
store_some i a size (movd e f other) = omega arith
store_some i a size (movq e f other) = omega arith
store_some i a size (movntq e f other) = omega arith
store_some i a size (maskmovq e f) = omega arith

-- 21 is due
pub record TwentyOne (floor : ℕ) (code : List ℕ) (at : ℕ) (s : State) : Type 0 where
  -- the instruction there, of so many bytes
  pub instruction : Instruction
  pub bytes : ℕ
  pub passes : Passes floor code at s instruction bytes
  -- it stores so many bytes in the memory, and the first is below the floor
  pub to : Address
  pub size : ℕ
  pub stores : Stores instruction to size
  pub inside : address s.integers to + size ≤ length s.memory
  pub low : address s.integers to < floor

pub twenty_one_in_words : (floor : ℕ) (code : List ℕ) (at : ℕ) (s : State) → (step_at floor code at s ≡ refused_with below_floor at s) ↔ TwentyOne floor code at s
twenty_one_in_words floor code at s = (λ e. there below_floor ((step_exactly floor code at s below_floor).0 e) refl, λ t. (step_exactly floor code at s below_floor).1 (back t))
  where
    there : (n : ℕ) → Reason floor code at s n → n ≡ below_floor → TwentyOne floor code at s
    there n (one h) e = absurd (omega arith)
    there n (twenty h g) e = absurd (omega arith)
    there n (reading h r) e = absurd (omega (arith, reading_small code at n r))
    there n (seven i size h em) e = absurd (omega arith)
    there n (eight i size h em ts) e = absurd (omega arith)
    there n (nine i size h em ts pending) e = absurd (omega arith)
    there n (ten i size h x touches o based) e = absurd (omega arith)
    there n (fourteen i size h x touches o based) e = absurd (omega arith)
    there n (twenty_two i size h above u) e = absurd (omega arith)
    there n (nineteen i size h jump clear astray) e = absurd (omega arith)
    there n (twenty_one i size reaches x given b) e =
        record {
          instruction = i;
          bytes = size;
          passes = reaches.passes;
          to = b.at;
          size = b.size;
          stores = (stores_exactly i b.at b.size).0 (subst (λ y. In y (effect_of i).gives) b.operand given);
          inside = by (dec_lt (length s.memory) (address s.integers b.at + b.size));
          low = omega (arith, b.low);
        }
      where
        by : Dec (length s.memory < address s.integers b.at + b.size) → address s.integers b.at + b.size ≤ length s.memory
        by (yes past) = absurd (reaches.inside x (inr given) (record { at = b.at; size = b.size; operand = b.operand; past = past }))
        by (no fits) = omega arith

    back : TwentyOne floor code at s → Reason floor code at s below_floor
    back t =
        twenty_one i t.bytes (record { passes = t.passes; inside = all-inside }) (memory t.to t.size) given
        (record { at = t.to; size = t.size; operand = refl; which = 0; among = store_some i t.to t.size t.stores; low = omega (arith, t.low) })
      where
        i : Instruction
        i = t.instruction

        given : In (memory t.to t.size) (effect_of i).gives
        given = (stores_exactly i t.to t.size).1 t.stores

        -- all its operands in memory are this one
        all-inside : (x : Location) → Touches i x → ¬ Outside s x
        all-inside x touched o =
            let its = (one_address i).points t.to t.size (inr given) in
            let other = (one_address i).points o.at o.size (subst (Touches i) o.operand touched) in
            let same : address s.integers o.at ≡ address s.integers t.to = ap (address s.integers) (other.same ∙ sym its.same) in
            omega (arith, o.past, t.inside, other.sized, its.sized)
