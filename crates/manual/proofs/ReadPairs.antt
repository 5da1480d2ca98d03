-- Refusal 22 in the customer's words: a half is unsupported of what PF2IW, PFMAX or PFCMPGT reads as a pair of single-precision numbers: the source, and
-- of the latter two the destination. They are 0F 0F with the suffixes 1C, A4 and A0.
use Rattle.std.specs.Prelude.{◌≡◌, refl, true, ◌&&◌, List, [], ◌∷◌, map, ℕ, ◌↔◌}
use Rattle.basis.specs.Names.{Memᴰ as In}
use Rattle.basis.proofs.Names.{sym, ap, ap₂, subst, subst₂, ◌∙◌, false≢true, Memᴰ-head as here, Memᴰ-tail as there, arith}
use Rattle.words.specs.Number.{AllBytes}
use Rattle.words.proofs.Laws.{and_both}
use Rattle.singles.specs.Siblings.{has_unsupported}
use Rattle.codec.specs.Forms.{mmx_file, mmreg1·mmreg2/mem64+suffix, is_among, allows, has_suffix, accepts}
use Rattle.codec.specs.Opcodes.{form_at, suffixed_of, used_form, form_for}
use Rattle.codec.specs.Fits.{fits, operand_fits, parts_fit, opcode_fits, has_bytes}
use Rattle.codec.specs.declared.Instruction.{Instruction}
use Rattle.codec.proofs.Bytes.{only_suffix, among}
use Rattle.codec.proofs.Theorems.{read_writes_back}
use Rattle.manual.specs.Refusals.{half_unsupported}
use Rattle.manual.specs.State.{State}
use Rattle.manual.specs.Addresses.{Address}
use Rattle.manual.specs.Locations.{Location, mmx_register, rm_of, locate}
use Rattle.manual.specs.Effects.{number_of}
use Rattle.manual.specs.Instructions.{sources, effect_of}
use Rattle.manual.specs.Steps.{refused_with, step_at}
use Rattle.manual.specs.Reasons.{Reaches, Below, reads_singles, Unsupported, Reason, one, twenty, reading, seven, eight, nine, ten, fourteen, twenty_one, twenty_two, nineteen}
use Rattle.manual.proofs.Exactly.{step_exactly}
use Rattle.manual.proofs.Bounds.{reading_small}
use Rattle.manual.proofs.Stores.{Stores, movd, movq, movntq, maskmovq, stores_exactly}

-- 0F 0F with a suffix
pub record Has (i : Instruction) (suffix : ℕ) : Type 0 where
  pub is_first : i.first ≡ 0x0f
  pub is_second : i.second ≡ 0x0f
  pub is_suffix : i.immediate ≡ suffix

-- what is read as a pair of single-precision numbers
pub data ReadsPair (i : Instruction) : Location → Type 0 where
  pf2iw : Has i 0x1c → ReadsPair i (rm_of mmx_file 8 i.operand)
  pfmax_destination : Has i 0xa4 → ReadsPair i (mmx_register i.operand.reg)
  pfmax_source : Has i 0xa4 → ReadsPair i (rm_of mmx_file 8 i.operand)
  pfcmpgt_destination : Has i 0xa0 → ReadsPair i (mmx_register i.operand.reg)
  pfcmpgt_source : Has i 0xa0 → ReadsPair i (rm_of mmx_file 8 i.operand)

module _ (i : Instruction) where
  -- what an instruction of these opcode bytes and this suffix takes
  abbrev taken_at : ℕ → ℕ → ℕ → List Location
  taken_at first second suffix = map (locate i) (sources (used_form (form_for first second) suffix).operands)

  abbrev Kept : ℕ → Type 0
  Kept suffix = (x : Location) → i.immediate ≡ suffix → reads_singles (suffixed_of suffix).sibling ≡ true → In x (taken_at 0x0f 0x0f suffix) → ReadsPair i x

  -- a listed suffix
  by_suffix : i.first ≡ 0x0f → i.second ≡ 0x0f → is_among i.immediate mmreg1·mmreg2/mem64+suffix.suffixes ≡ true → Kept i.immediate
  unfolding form_at suffixed_of
  by_suffix f g h =
      among Kept i.immediate mmreg1·mmreg2/mem64+suffix.suffixes h (λ x e r m. absurd (false≢true r)) (λ x e r m. one_of (has e) m) (λ x e r m. two_of pfcmpgt_destination pfcmpgt_source (has e) m)
      (λ x e r m. two_of pfmax_destination pfmax_source (has e) m) (λ x e r m. absurd (false≢true r)) (λ x e r m. absurd (false≢true r))
    where
      has : {suffix : ℕ} → i.immediate ≡ suffix → Has i suffix
      has e = record { is_first = f; is_second = g; is_suffix = e }

      one_of : {x : Location} → Has i 0x1c → In x (rm_of mmx_file 8 i.operand ∷ []) → ReadsPair i x
      one_of k (there h) = elim h [ ]
      one_of k (here e) = subst (ReadsPair i) (sym e) (pf2iw k)

      two_of : {suffix : ℕ} {x : Location} → (Has i suffix → ReadsPair i (mmx_register i.operand.reg)) → (Has i suffix → ReadsPair i (rm_of mmx_file 8 i.operand))
          → Has i suffix → In x (mmx_register i.operand.reg ∷ rm_of mmx_file 8 i.operand ∷ []) → ReadsPair i x
      two_of p q k (there (there h)) = elim h [ ]
      two_of p q k (here e) = subst (ReadsPair i) (sym e) (p k)
      two_of p q k (there (here e)) = subst (ReadsPair i) (sym e) (q k)

  -- what is read has a listed suffix
  listed : i.first ≡ 0x0f → i.second ≡ 0x0f → has_bytes i ≡ true → is_among i.immediate mmreg1·mmreg2/mem64+suffix.suffixes ≡ true
  unfolding has_bytes parts_fit form_at
  listed f g h =
      let w = i.operand in
      let form = form_for 0x0f 0x0f in
      let parts = (and_both (parts_fit (form_for i.first i.second) w i.immediate) _ (and_both (opcode_fits i.first i.second) _ h).1).0 in
      let here_too : parts_fit form w i.immediate ≡ true = ap₂ (λ (j k : ℕ). parts_fit (form_for j k) w i.immediate) (sym f) (sym g) ∙ parts in
      let immediate = (and_both (allows form w.mode w.reg w.rm && operand_fits w) _ here_too).1 in
      (and_both (accepts form i.immediate) _ (and_both (fits 1 i.immediate) _ immediate).1).0

  -- one of the three reads what it is said to
  module _ (s : State) (x : Location) (half : has_unsupported (number_of s x) ≡ true) where
    at_suffix : (suffix : ℕ) → Has i suffix → reads_singles (suffixed_of suffix).sibling ≡ true → In x (taken_at 0x0f 0x0f suffix) → Unsupported s i
    unfolding effect_of form_at
    at_suffix suffix k r m =
        record {
          suffixed = ap₂ (λ (first second : ℕ). has_suffix (form_for first second)) k.is_first k.is_second;
          reading_singles = ap (λ (n : ℕ). reads_singles (suffixed_of n).sibling) k.is_suffix ∙ r;
          operand = x;
          is_read =
              subst (λ (n : ℕ). In x (taken_at i.first i.second n)) (sym k.is_suffix)
              (subst₂ (λ (first second : ℕ). In x (taken_at first second suffix)) (sym k.is_first) (sym k.is_second) m);
          half = half;
        }

  reads_back : (s : State) (x : Location) → ReadsPair i x → has_unsupported (number_of s x) ≡ true → Unsupported s i
  unfolding suffixed_of form_at
  reads_back s x (pf2iw k) half = at_suffix s _ half 0x1c k refl (here refl)
  reads_back s x (pfmax_destination k) half = at_suffix s _ half 0xa4 k refl (here refl)
  reads_back s x (pfmax_source k) half = at_suffix s _ half 0xa4 k refl (there (here refl))
  reads_back s x (pfcmpgt_destination k) half = at_suffix s _ half 0xa0 k refl (here refl)
  reads_back s x (pfcmpgt_source k) half = at_suffix s _ half 0xa0 k refl (there (here refl))

  -- none of them stores
  no_store : (a : Address) (size : ℕ) → i.second ≡ 0x0f → Stores i a size → ⊥
  no_store a size e (movd f g other) = omega (arith, e, g)
  no_store a size e (movq f g other) = omega (arith, e, g)
  no_store a size e (movntq f g other) = omega (arith, e, g)
  no_store a size e (maskmovq f g) = omega (arith, e, g)

  is_3dnow : (x : Location) → ReadsPair i x → i.second ≡ 0x0f
  is_3dnow x (pf2iw k) = k.is_second
  is_3dnow x (pfmax_destination k) = k.is_second
  is_3dnow x (pfmax_source k) = k.is_second
  is_3dnow x (pfcmpgt_destination k) = k.is_second
  is_3dnow x (pfcmpgt_source k) = k.is_second

-- 22 is due
pub record TwentyTwo (floor : ℕ) (code : List ℕ) (at : ℕ) (s : State) : Type 0 where
  -- the instruction there, of so many bytes, with its operands in the memory
  pub instruction : Instruction
  pub bytes : ℕ
  pub reaches : Reaches floor code at s instruction bytes
  -- a number that it reads as a pair has an unsupported half
  pub operand : Location
  pub reads-pair : ReadsPair instruction operand
  pub half : has_unsupported (number_of s operand) ≡ true

found : (floor : ℕ) (code : List ℕ) (at : ℕ) (s : State) → AllBytes code → (i : Instruction) (size : ℕ) → Reaches floor code at s i size → Unsupported s i → TwentyTwo floor code at s
unfolding effect_of
found floor code at s b i size reaches u =
    let (f, g) = only_suffix i.first i.second u.suffixed in
    let h = listed i f g (read_writes_back code at i size b reaches.passes.stands.read).0 in
    record {
      instruction = i;
      bytes = size;
      reaches = reaches;
      operand = u.operand;
      reads-pair = by_suffix i f g h u.operand refl u.reading_singles (subst₂ (λ (first second : ℕ). In u.operand (taken_at i first second i.immediate)) f g u.is_read);
      half = u.half;
    }

pub twenty_two_in_words : (floor : ℕ) (code : List ℕ) (at : ℕ) (s : State) → AllBytes code
    → (step_at floor code at s ≡ refused_with half_unsupported at s) ↔ TwentyTwo floor code at s
twenty_two_in_words floor code at s b =
    (λ e. there_is half_unsupported ((step_exactly floor code at s half_unsupported).0 e) refl, λ t. (step_exactly floor code at s half_unsupported).1 (back t))
  where
    there_is : (n : ℕ) → Reason floor code at s n → n ≡ half_unsupported → TwentyTwo floor code at s
    there_is n (one h) e = absurd (omega arith)
    there_is n (twenty h g) e = absurd (omega arith)
    there_is n (reading h r) e = absurd (omega (arith, reading_small code at n r))
    there_is n (seven i size h em) e = absurd (omega arith)
    there_is n (eight i size h em ts) e = absurd (omega arith)
    there_is n (nine i size h em ts pending) e = absurd (omega arith)
    there_is n (ten i size h x touches o based) e = absurd (omega arith)
    there_is n (fourteen i size h x touches o based) e = absurd (omega arith)
    there_is n (twenty_one i size h x given low) e = absurd (omega arith)
    there_is n (nineteen i size h jump clear astray) e = absurd (omega arith)
    there_is n (twenty_two i size reaches above u) e = found floor code at s b i size reaches u

    back : TwentyTwo floor code at s → Reason floor code at s half_unsupported
    back t = twenty_two i t.bytes t.reaches above (reads_back i s t.operand t.reads-pair t.half)
      where
        i : Instruction
        i = t.instruction

        above : (x : Location) → In x (effect_of i).gives → ¬ Below floor s x
        above x given low =
            no_store i low.at low.size (is_3dnow i t.operand t.reads-pair)
            ((stores_exactly i low.at low.size).0 (subst (λ y. In y (effect_of i).gives) low.operand given))
