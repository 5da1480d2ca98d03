-- The instructions of loops in the customer's words, for every state and every register: what each leaves, whatever the marks, and what it reads and
-- writes.
use Rattle.std.specs.Prelude.{◌≡◌, refl, Bool, true, false, cond, List, [], ◌∷◌, ℕ, ◌+◌, ◌-◌, ◌%◌, ◌^◌, ◌<◌, ◌≤◌, eqb, leb, get_or}
use Rattle.basis.proofs.Names.{sym, ap, ap₂, ◌∙◌, zero-add, arith, dec_le, le-leb, lt-leb}
use Rattle.reorder.specs.Result.{done}
use Rattle.reorder.specs.Footprint.{Footprint}
use Rattle.codec.specs.Forms.{Form, reg32←imm32, reg32·imm8/0, reg32·alone, rel8off}
use Rattle.codec.specs.Opcodes.{form_for, operation_for}
use Rattle.codec.specs.declared.Instruction.{Instruction}
use Rattle.codec.specs.declared.Kind.{Kind}
use Rattle.codec.specs.declared.Kind.TheVariants.{Loop}
use Rattle.codec.proofs.Entries.{first_set, first_add, first_decrement, first_jump, form_one}
use Rattle.manual.specs.State.{State, with_integer, with_zero}
use Rattle.manual.specs.Places.{Place, integer, zero_mark}
use Rattle.manual.specs.Addresses.{signed_byte}
use Rattle.manual.specs.Effects.{Effect, perform, footprint_of}
use Rattle.manual.specs.Instructions.{effect_by, effect_of, execute, footprint}

-- a number in a register, and in the zero mark whether it is 0
abbrev pub counted : State → ℕ → ℕ → State
counted s k value = with_zero (with_integer s k value) (eqb value 0)

-- what is put into the zero mark is the answer
pub answers : (t : Bool) → eqb (cond t 1 0) 1 ≡ t
answers true = refl
answers false = refl

-- a signed byte from 0 to 127 is itself, and from 128 on 256 less; and what it is to add 2 ^ 32 less a number, for ADD as for DEC

pub signed_small : (byte : ℕ) → byte < 128 → signed_byte byte ≡ byte
signed_small byte small = simp (lt-leb 128 byte small)

pub signed_large : (byte : ℕ) → 128 ≤ byte → byte < 256 → signed_byte byte ≡ 2 ^ 32 - (256 - byte)
signed_large byte large small = simp (le-leb 128 byte large) (omega arith)

pub less_by : (v n : ℕ) → v < 2 ^ 32 → 0 < n → n ≤ 2 ^ 32 → (v + (2 ^ 32 - n)) % 2 ^ 32 ≡ cond (leb n v) (v - n) (v + 2 ^ 32 - n)
less_by v n fits some most = by (dec_le n v)
  where
    by : Dec (n ≤ v) → (v + (2 ^ 32 - n)) % 2 ^ 32 ≡ cond (leb n v) (v - n) (v + 2 ^ 32 - n)
    by (yes l) = simp (le-leb n v l) (omega arith)
    by (no l) = simp (lt-leb n v (omega arith)) (omega arith)

-- what one of loops reads and writes
abbrev pub touching : List Place → List Place → Footprint Place Kind
touching reads writes = record { reads = reads; writes = writes; kind = Loop }

module _ (floor : ℕ) (i : Instruction) (s : State) where
  -- an instruction does what its form does
  by_form : {A : Type 0} (does : Effect → A) (form : Form) → form_for i.first i.second ≡ form
      → does (effect_of i) ≡ does (effect_by form (operation_for i.first i.second i.operand.reg) i)
  unfolding effect_of
  by_form does form e = ap (λ (x : Form). does (effect_by x (operation_for i.first i.second i.operand.reg) i)) e

  -- MOV, B8 to BF, leaves its immediate in its register, and reads no place
  module _ (k : ℕ) (register : k < 8) (first : i.first ≡ 0xb8 + k) where
    form_of_mov : form_for i.first i.second ≡ reg32←imm32
    form_of_mov = sym (form_one i.first i.second 10 (λ e. omega arith) (first_set i.first (omega arith)))

    pub mov_leaves : execute floor i s ≡ done (with_integer s k (i.immediate % 2 ^ 32))
    unfolding execute
    mov_leaves =
        by_form (λ x. perform floor x s) reg32←imm32 form_of_mov
        ∙ ap₂ (λ (r v : ℕ). done (with_integer s r (v % 2 ^ 32))) (omega arith) (zero-add i.immediate)

    pub mov_touches : footprint floor i s ≡ done (touching [] (integer k ∷ []))
    unfolding footprint
    mov_touches =
        by_form (λ x. footprint_of floor x s) reg32←imm32 form_of_mov ∙ ap (λ (r : ℕ). done (touching [] (integer r ∷ []))) (omega arith)

  -- ADD, 83 /0, adds its signed byte to its register
  module _ (first : i.first ≡ 0x83) where
    form_of-add : form_for i.first i.second ≡ reg32·imm8/0
    form_of-add = sym (form_one i.first i.second 11 (λ e. omega arith) (first_add i.first first))

    pub add-leaves : let k = i.operand.rm in
        execute floor i s ≡ done (counted s k ((get_or s.integers k 0 + signed_byte i.immediate) % 2 ^ 32))
    unfolding execute
    add-leaves = let k = i.operand.rm in
        let v = (get_or s.integers k 0 + signed_byte i.immediate) % 2 ^ 32 in
        by_form (λ x. perform floor x s) reg32·imm8/0 form_of-add
        ∙ ap (λ (t : Bool). done (with_zero (with_integer s k v) t)) (answers (eqb v 0))

    pub add_touches : let k = i.operand.rm in footprint floor i s ≡ done (touching (integer k ∷ []) (integer k ∷ zero_mark ∷ []))
    unfolding footprint
    add_touches = by_form (λ x. footprint_of floor x s) reg32·imm8/0 form_of-add

  -- DEC, 48 to 4F, takes 1 from its register
  module _ (k : ℕ) (register : k < 8) (first : i.first ≡ 0x48 + k) where
    form_of_dec : form_for i.first i.second ≡ reg32·alone
    form_of_dec = sym (form_one i.first i.second 12 (λ e. omega arith) (first_decrement i.first (omega arith)))

    pub dec_leaves : execute floor i s ≡ done (counted s k ((get_or s.integers k 0 + (2 ^ 32 - 1)) % 2 ^ 32))
    unfolding execute
    dec_leaves = let sum : ℕ → ℕ = λ r. (get_or s.integers r 0 + (2 ^ 32 - 1)) % 2 ^ 32 in
        by_form (λ x. perform floor x s) reg32·alone form_of_dec
        ∙ ap (λ (r : ℕ). done (with_zero (with_integer s r (sum r)) (eqb (cond (eqb (sum r) 0) 1 0) 1))) (omega arith)
        ∙ ap (λ (t : Bool). done (with_zero (with_integer s k (sum k)) t)) (answers (eqb (sum k) 0))

    pub dec_touches : footprint floor i s ≡ done (touching (integer k ∷ []) (integer k ∷ zero_mark ∷ []))
    unfolding footprint
    dec_touches =
        by_form (λ x. footprint_of floor x s) reg32·alone form_of_dec
        ∙ ap (λ (r : ℕ). done (touching (integer r ∷ []) (integer r ∷ zero_mark ∷ []))) (omega arith)

  -- JNZ, 75, changes nothing, and reads the zero mark
  module _ (first : i.first ≡ 0x75) where
    form_of_jump : form_for i.first i.second ≡ rel8off
    form_of_jump = sym (form_one i.first i.second 13 (λ e. omega arith) (first_jump i.first first))

    pub jump_leaves : execute floor i s ≡ done s
    unfolding execute
    jump_leaves = by_form (λ x. perform floor x s) rel8off form_of_jump

    pub jump_touches : footprint floor i s ≡ done (touching (zero_mark ∷ []) [])
    unfolding footprint
    jump_touches = by_form (λ x. footprint_of floor x s) rel8off form_of_jump
