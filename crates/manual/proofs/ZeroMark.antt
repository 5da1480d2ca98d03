-- The zero mark is set by ADD and DEC, and kept by all else: no other instruction gives it.
use Rattle.std.specs.Prelude.{◌≡◌, refl, Bool, true, false, cond, ◌&&◌, List, [], ◌∷◌, ◌++◌, map, ℕ, zero, suc, ◌+◌, ◌-◌, ◌%◌, ◌<◌, eqb, leb, ltb, length}
use Rattle.basis.specs.Names.{Memᴰ as In}
use Rattle.basis.proofs.Names.{sym, ap, ◌∙◌, subst, ⊎_elim, false≢true, Memᴰ-head as here, Memᴰ-tail as there, Memᴰ-append_cases as append_cases, Memᴰ-eq_of_singleton as eq_of_singleton, Memᴰ-not_nil as not-nil, arith, leb-true, ltb-true}
use Rattle.words.proofs.Laws.{and_both}
use Rattle.reorder.specs.Result.{Result, done, refused, and_then, map_result}
use Rattle.reorder.specs.Plan.{Plan}
use Rattle.reorder.proofs.Places.{leaves-look}
use Rattle.reorder.proofs.Swapping.{completed as planned}
use Rattle.codec.specs.Forms.{File, mmx_file, integer_file, Slot, reg, rm, rm/mem, mem, edi, fixed, opcode, zero_slot, Form, absent, reg32←imm32, reg32·imm8/0, reg32·alone, rel8off}
use Rattle.codec.specs.Opcodes.{escape, form_at, form_of_first, form_for}
use Rattle.codec.specs.declared.Operand.{Operand}
use Rattle.codec.specs.declared.Instruction.{Instruction}
use Rattle.codec.specs.declared.Kind.{Kind}
use Rattle.codec.proofs.Bytes.{all_pass, form_passes, used_passes}
use Rattle.manual.specs.State.{State, frozen}
use Rattle.manual.specs.Places.{Place, mmx, integer, zero_mark, look, put}
use Rattle.manual.specs.Kinds.{marked, KindsMeet}
use Rattle.manual.specs.Addresses.{address_of, address}
use Rattle.manual.specs.Locations.{Location, mmx_register, integer_register, memory, zero_operand, register_in, rm_of, locate, bytes_from, lies_inside, miss_of, places_of}
use Rattle.manual.specs.Effects.{places_of_all, via, plan}
use Rattle.manual.specs.Instructions.{targets, form_used, effect_of, execute}
use Rattle.manual.proofs.Laws.{laws, zero_seen}
use Rattle.manual.proofs.Floors.{plan_on_lem}

-- ADD or DEC of a register
pub data Counts (i : Instruction) : ℕ → Type 0 where
  add : i.first ≡ 0x83 → Counts i i.operand.rm
  dec : (k : ℕ) → k < 8 → i.first ≡ 0x48 + k → Counts i k

-- an operand that is not the zero mark
abbrev is_named : Slot → Bool
is_named (reg file) = true
is_named (rm file) = true
is_named (rm/mem file size) = true
is_named (mem size) = true
is_named (edi size) = true
is_named (fixed k) = true
is_named (opcode file) = true
is_named zero_slot = false

-- the form gives no such operand
abbrev keeps_zero : Form → Bool
keeps_zero form = all_pass is_named (targets form.operands)

no_register : (file : File) (k : ℕ) → zero_operand ≡ register_in file k → ⊥
no_register mmx_file k e = false≢true (cc)
no_register integer_file k e = false≢true (cc)

no_rm : (file : File) (size : ℕ) (w : Operand) → zero_operand ≡ rm_of file size w → ⊥
unfolding rm_of
no_rm file size w e = by (eqb w.mode 3) e
  where
    by : (t : Bool) → zero_operand ≡ cond t (register_in file w.rm) (memory (address_of w) size) → ⊥
    by true e = no_register file w.rm e
    by false e = false≢true (cc)

module _ (i : Instruction) where
  no_slot : (x : Slot) → is_named x ≡ true → zero_operand ≡ locate i x → ⊥
  no_slot (reg file) h e = no_register file i.operand.reg e
  no_slot (rm file) h e = no_register file i.operand.rm e
  no_slot (rm/mem file size) h e = no_rm file size i.operand e
  no_slot (mem size) h e = no_rm mmx_file size i.operand e
  no_slot (edi size) h e = false≢true (cc)
  no_slot (fixed k) h e = no_register mmx_file k e
  no_slot (opcode file) h e = no_register file (i.first % 8) e
  no_slot zero_slot h e = false≢true h

  no_slots : (xs : List Slot) → all_pass is_named xs ≡ true → In zero_operand (map (locate i) xs) → ⊥
  no_slots [] h h' = elim h' [ ]
  no_slots (x ∷ xs) h (here e) = no_slot x (and_both (is_named x) _ h).0 e
  no_slots (x ∷ xs) h (there m) = no_slots xs (and_both (is_named x) _ h).1 m

  -- the form of another instruction
  others_keep : ((k : ℕ) → ¬ Counts i k) → keeps_zero (form_for i.first i.second) ≡ true
  unfolding form_of_first
  others_keep other = by (eqb i.first escape)
    where
      n : ℕ
      n = i.first

      tests : (a b c d : Bool) → (leb 0x83 n && ltb n 0x84) ≡ a → (leb 0x48 n && ltb n 0x50) ≡ b
          → keeps_zero (cond a reg32·imm8/0 (cond b reg32·alone (cond c rel8off (cond d reg32←imm32 absent)))) ≡ true
      tests true b c d e f =
          let (low, high) = and_both (leb 0x83 n) _ e in
          absurd (other i.operand.rm (add (omega (arith, leb-true 0x83 n low, ltb-true n 0x84 high))))
      tests false true c d e f =
          let (low, high) = and_both (leb 0x48 n) _ f in
          let from = leb-true 0x48 n low in
          let to = ltb-true n 0x50 high in
          absurd (other (n - 0x48) (dec (n - 0x48) (omega arith) (omega arith)))
      tests false false true d e f = refl
      tests false false false true e f = refl
      tests false false false false e f = refl

      by : (t : Bool) → keeps_zero (cond t (form_at i.second) (form_of_first n)) ≡ true
      by true = form_passes keeps_zero refl refl i.second
      by false = tests (leb 0x83 n && ltb n 0x84) (leb 0x48 n && ltb n 0x50) (leb 0x75 n && ltb n 0x76) (leb 0xb8 n && ltb n 0xc0) refl refl

  -- it does not give the zero mark
  not_given : ((k : ℕ) → ¬ Counts i k) → In zero_operand (effect_of i).gives → ⊥
  unfolding effect_of
  not_given other = no_slots (targets (form_used i).operands) (used_passes keeps_zero refl refl (form_for i.first i.second) i.immediate (others_keep other))

-- the zero mark is a place of operands only where it is one of them
module _ (s : State) where
  no_byte : (size a : ℕ) → In zero_mark (bytes_from a size) → ⊥
  no_byte zero a h = elim h [ ]
  no_byte (suc size) a (here e) = false≢true (cc)
  no_byte (suc size) a (there m) = no_byte size (a + 1) m

  own_zero : (x : Location) (ps : List Place) → places_of s x ≡ done ps → In zero_mark ps → zero_operand ≡ x
  own_zero (mmx_register k) ps e m = let same : mmx k ∷ [] ≡ ps = cc in let z = eq_of_singleton (subst (In zero_mark) (sym same) m) in absurd (false≢true (cc))
  own_zero (integer_register k) ps e m = let same : integer k ∷ [] ≡ ps = cc in let z = eq_of_singleton (subst (In zero_mark) (sym same) m) in absurd (false≢true (cc))
  own_zero (memory a size) ps e m = by (lies_inside (length s.memory) size (address s.integers a)) e
    where
      by : (t : Bool) → cond t (done (bytes_from (address s.integers a) size)) (refused (miss_of a)) ≡ done ps → zero_operand ≡ memory a size
      by true e = let same : bytes_from (address s.integers a) size ≡ ps = cc in absurd (no_byte size _ (subst (In zero_mark) (sym same) m))
      by false e = absurd (false≢true (cc))
  own_zero zero_operand ps e m = refl

  zero_among : (xs : List Location) (ps : List Place) → places_of_all s xs ≡ done ps → In zero_mark ps → In zero_operand xs
  zero_among [] ps e m = let same : [] ≡ ps = cc in absurd (not-nil (subst (In zero_mark) (sym same) m))
  zero_among (x ∷ xs) ps e m = by (places_of s x) (places_of_all s xs) refl refl (zero_among xs) e
    where
      by : (a b : Result (List Place)) → places_of s x ≡ a → places_of_all s xs ≡ b → ((qs : List Place) → places_of_all s xs ≡ done qs → In zero_mark qs → In zero_operand xs)
          → and_then a (λ own. map_result (λ others. own ++ others) b) ≡ done ps → In zero_operand (x ∷ xs)
      by (done own) (done others) ea eb further h =
          let same : own ++ others ≡ ps = cc in
          ⊎_elim (λ n. here (own_zero x own ea n)) (λ n. there (further others eb n)) (append_cases own (subst (In zero_mark) (sym same) m))
      by (done own) (refused n) ea eb further h = absurd (false≢true (cc))
      by (refused n) b ea eb further h = absurd (false≢true (cc))

-- "a zero mark, set by add and decrement and kept by all else"
pub zero_kept : (floor : ℕ) (i : Instruction) (s t : State) → ((k : ℕ) → ¬ Counts i k) → execute floor i s ≡ done t → t.marks.zero ≡ s.marks.zero
unfolding execute
zero_kept floor i s t other e =
    let (pl, vs, ep, em, et) = planned look put marked via (plan floor) (effect_of i) s t e in
    let on = plan_on_lem floor (effect_of i) s pl ep in
    let not_written : In zero_mark pl.target → ⊥ =
    λ m. not_given i other (zero_among s (effect_of i).gives on.targets on.gives (subst (λ (q : Plan Place Kind). In zero_mark q.target) (sym on.same) m)) in
    zero_seen t s (ap (λ (u : State). look u zero_mark) et ∙ leaves-look look put marked frozen KindsMeet laws pl s vs zero_mark not_written)
