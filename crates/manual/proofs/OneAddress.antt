-- All operands of an instruction that are in memory are one: at one address, which is in EDI for MASKMOVQ and for all others the one that r/m names,
-- and of one size.
use Rattle.std.specs.Prelude.{◌≡◌, refl, Bool, true, false, not, cond, ◌&&◌, ◌||◌, List, [], ◌∷◌, map, ℕ, ◌%◌, eqb}
use Rattle.basis.specs.Names.{Memᴰ as In}
use Rattle.basis.proofs.Names.{sym, subst, ◌∙◌, ⊎_elim, false≢true, Memᴰ-head as here, Memᴰ-tail as there, eqb-false, eqb-true}
use Rattle.words.proofs.Laws.{and_both}
use Rattle.codec.specs.Forms.{File, mmx_file, integer_file, Slot, reg, rm, rm/mem, mem, edi, fixed, opcode, zero_slot, Form, memory_size}
use Rattle.codec.specs.Opcodes.{form_for}
use Rattle.codec.specs.declared.Instruction.{Instruction}
use Rattle.codec.proofs.Bytes.{all_pass, opcode_passes, used_passes}
use Rattle.manual.specs.Addresses.{Address, address_of}
use Rattle.manual.specs.Locations.{memory, register_in, rm_of, at_edi, locate}
use Rattle.manual.specs.Instructions.{sources, targets, form_used, effect_of}
use Rattle.manual.specs.Reasons.{Touches}

-- the address in EDI (`true`), or the one that r/m names
abbrev pub pointed : Bool → Instruction → Address
pointed true i = at_edi
pointed false i = address_of i.operand

-- an operand is at that one, of so many bytes (`n`), if it is in memory
abbrev is_at : Bool → ℕ → Slot → Bool
is_at in_edi n (reg file) = true
is_at in_edi n (rm file) = true
is_at in_edi n (rm/mem file size) = not in_edi && eqb size n
is_at in_edi n (mem size) = not in_edi && eqb size n
is_at in_edi n (edi size) = in_edi && eqb size n
is_at in_edi n (fixed k) = true
is_at in_edi n (opcode file) = true
is_at in_edi n zero_slot = true

-- what is said of an operand in memory: where r/m names it, mod is not 11
pub record PointedAt (in_edi : Bool) (i : Instruction) (n : ℕ) (a : Address) (size : ℕ) : Type 0 where
  pub same : a ≡ pointed in_edi i
  pub sized : size ≡ n
  pub by_rm : in_edi ≡ false → i.operand.mode ≡ 3 → ⊥

-- an operand in memory is no register
pub no_register : (a : Address) (size : ℕ) (file : File) (k : ℕ) → memory a size ≡ register_in file k → ⊥
no_register a size mmx_file k e = false≢true (cc)
no_register a size integer_file k e = false≢true (cc)

module _ (i : Instruction) (a : Address) (size : ℕ) where
  pub at_rm : (file : File) (n : ℕ) → memory a size ≡ rm_of file n i.operand → PointedAt false i n a size
  unfolding rm_of
  at_rm file n e = by (eqb i.operand.mode 3) refl e
    where
      by : (t : Bool) → eqb i.operand.mode 3 ≡ t → memory a size ≡ cond t (register_in file i.operand.rm) (memory (address_of i.operand) n) → PointedAt false i n a size
      by true t e = absurd (no_register a size file i.operand.rm e)
      by false t e = record { same = cc; sized = cc; by_rm = λ h. eqb-false i.operand.mode 3 t }

  at_slot : (in_edi : Bool) (n : ℕ) (x : Slot) → is_at in_edi n x ≡ true → memory a size ≡ locate i x → PointedAt in_edi i n a size
  at_slot in_edi n (reg file) h e = absurd (no_register a size file i.operand.reg e)
  at_slot in_edi n (rm file) h e = absurd (no_register a size file i.operand.rm e)
  at_slot in_edi n (fixed k) h e = absurd (no_register a size mmx_file k e)
  at_slot in_edi n (opcode file) h e = absurd (no_register a size file (i.first % 8) e)
  at_slot in_edi n zero_slot h e = absurd (false≢true (cc))
  at_slot false n (rm/mem file m) h e = subst (λ (k : ℕ). PointedAt false i k a size) (eqb-true m n h) (at_rm file m e)
  at_slot false n (mem m) h e = subst (λ (k : ℕ). PointedAt false i k a size) (eqb-true m n h) (at_rm mmx_file m e)
  at_slot true n (edi m) h e = let same : size ≡ m = cc in record { same = cc; sized = same ∙ eqb-true m n h; by_rm = λ z. absurd (false≢true (sym z)) }
  at_slot true n (rm/mem file m) h e = absurd (false≢true h)
  at_slot true n (mem m) h e = absurd (false≢true h)
  at_slot false n (edi m) h e = absurd (false≢true h)

  at_all : (in_edi : Bool) (n : ℕ) (xs : List Slot) → all_pass (is_at in_edi n) xs ≡ true → In (memory a size) (map (locate i) xs) → PointedAt in_edi i n a size
  at_all in_edi n [] h h' = elim h' [ ]
  at_all in_edi n (x ∷ xs) h (here e) = at_slot in_edi n x (and_both (is_at in_edi n x) _ h).0 e
  at_all in_edi n (x ∷ xs) h (there m) = at_all in_edi n xs (and_both (is_at in_edi n x) _ h).1 m

-- what a form takes and gives is there
abbrev touches_at : Bool → Form → Bool
touches_at in_edi form =
    let each = all_pass (is_at in_edi (memory_size form)) in each (sources form.operands) && each (targets form.operands)

pub record OneAddress (i : Instruction) : Type 0 where
  pub in_edi : Bool
  pub points : (a : Address) (size : ℕ) → Touches i (memory a size) → PointedAt in_edi i (memory_size (form_used i)) a size

pub one_address : (i : Instruction) → OneAddress i
unfolding effect_of
one_address i = by (touches_at false form) (touches_at true form) refl refl passes
  where
    form : Form
    form = form_used i

    passes : (touches_at false form || touches_at true form) ≡ true
    passes =
        let test : Form → Bool = λ f. touches_at false f || touches_at true f in
        used_passes test refl refl (form_for i.first i.second) i.immediate (opcode_passes test refl refl refl i.first i.second)

    at : (in_edi : Bool) → touches_at in_edi form ≡ true → OneAddress i
    at in_edi h =
        let n = memory_size form in
        let (a, b) = and_both (all_pass (is_at in_edi n) (sources form.operands)) _ h in
        record { in_edi = in_edi; points = λ p size. ⊎_elim (at_all i p size in_edi n (sources form.operands) a) (at_all i p size in_edi n (targets form.operands) b) }

    by : (t u : Bool) → touches_at false form ≡ t → touches_at true form ≡ u → (t || u) ≡ true → OneAddress i
    by true u e f h = at false e
    by false true e f h = at true f
    by false false e f h = absurd (false≢true h)
