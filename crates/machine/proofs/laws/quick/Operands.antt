-- The works with two operands: an MMX register and memory by the form, and what such a work does. Rules for the functions that make them.
use Rattle.std.specs.Prelude.{◌≡◌, refl, ◌⊎◌, Bool, true, false, cond, ◌||◌, List, [], ℕ, ◌+◌, ◌/◌, ◌%◌, ◌^◌, ◌≤◌, ◌<◌, eqb, leb, length, get_or, Option, IfSome}
use Rattle.std.proofs.lemmas.Option.{IfSome_then}
use Rattle.basis.proofs.Names.{sym, ap, subst, ◌∙◌, inl, inr, false≢true, or-true, arith, eq-eqb, ne_eqb, eqb-true, eqb-false}
use Rattle.words.specs.Buffer.{loaded}
use Rattle.reorder.specs.Result.{Result, done}
use Rattle.codec.specs.Forms.{mmreg1·mmreg2/mem64+suffix, is_among, memory_size}
use Rattle.codec.specs.Opcodes.{suffixed_of}
use Rattle.codec.specs.Table.{form_of}
use Rattle.codec.specs.inner.Fields.{Registers}
use Rattle.codec.specs.declared.Instruction.{Instruction}
use Rattle.codec.proofs.Bytes.{among}
use Rattle.works.specs.declared.Work.{Work}
use Rattle.machine.specs.declared.ways.Way.TheVariants.{Stores}
use Rattle.machine.specs.declared.operands.Spot.{Spot}
use Rattle.machine.specs.declared.operands.Spot.TheVariants.{Bytes}
use Rattle.machine.specs.inner.Quick.{Within, SuffixAt, SuffixInMemory}
use Rattle.machine.specs.inner.Spots.{other_of, spot_of}
use Rattle.machine.specs.inner.Ways.{is_store, way_of}
use Rattle.works.specs.Works.{to_operate, to_store, work_of}
use Rattle.works.specs.Siblings.{sibling_work, suffixed_work}
use Rattle.machine.specs.inner.Works.{effect_in, numbers, is_listed, Listed, put_work, take_work, Does}
use Rattle.machine.proofs.laws.gathering.Sorting.{does_store, does_load, does_compute}
use Rattle.machine.proofs.laws.ways.Numbering.{way_streams, way_stores, way_loads, way_computes}

-- the work of two operands, one an MMX register at a place, the other at a spot
abbrev pub work_at : List ℕ → List ℕ → List ℕ → ℕ → ℕ → Result Spot → ℕ → Work
work_at registers integers memory entry place spot next =
    cond (is_store (entry / 2 ^ 24)) (put_work spot (get_or registers place 0) next) (take_work registers integers memory (entry % 256) place spot next)

-- the work of two operands, where the other is in memory at an address, with all its bytes
pub record AtAddress (work : Work) (registers memory : List ℕ) (entry place address next : ℕ) : Type 0 where
  pub two : 15 ≤ entry / 2 ^ 24
  pub plain : entry / 2 ^ 24 ≡ 16 → ⊥
  pub made : Listed entry → work ≡ work_at registers [] memory entry place (done (Bytes address (entry / 2 ^ 16 % 256))) next
  pub inside : Listed entry → leb (address + entry / 2 ^ 16 % 256) (length memory) ≡ true

-- all bytes lie in memory
pub answered_within : (work made : Work) (address size room : ℕ) (t : Bool) → t ≡ leb (address + size) room → t ≡ true → work ≡ made
    → Within work made address size room
answered_within work made address size room t test inside e = record { is = e; inside = sym test ∙ inside }

pub loads_value : (work : Work) (number place value next : ℕ) (m : List ℕ) (address size : ℕ) → value ≡ loaded m address size
    → work ≡ work_of to_operate number place value next → work ≡ work_of to_operate number place (loaded m address size) next
loads_value work number place value next m address size e w = rw (← e) w

-- a suffix, where there is one
module _ (old place : ℕ) (code : List ℕ) (at : ℕ) where
  pub answered_suffix : (work : Work) (value suffix : ℕ) (t : Bool) → (at < length code) × ((d : ℕ) → suffix ≡ get_or code at d)
      → t ≡ is_among suffix mmreg1·mmreg2/mem64+suffix.suffixes → t ≡ true → work ≡ sibling_work (suffixed_of suffix).sibling old value place (at + 1)
      → SuffixAt work old place value code at
  answered_suffix work value suffix t (room, e) test listed made =
      record {
        room = room;
        listed = ap (λ (k : ℕ). is_among k mmreg1·mmreg2/mem64+suffix.suffixes) (sym (e 0)) ∙ sym test ∙ listed;
        is = made ∙ ap (λ (k : ℕ). suffixed_work k old (work_of to_operate 0 place value (at + 1))) (e 0);
      }

  pub answered_in_memory : (r : Option Work) (m : List ℕ) (address value : ℕ) (t : Bool) → t ≡ leb (address + 8) (length m) → t ≡ true → value ≡ loaded m address 8
      → IfSome r (λ work. SuffixAt work old place value code at) → IfSome r (λ work. SuffixInMemory work old place m address code at)
  answered_in_memory r m address value t test inside e given =
      IfSome_then r given (λ work q. record { suffixed = subst (λ (v : ℕ). SuffixAt work old place v code at) e q; inside = sym test ∙ inside })

-- what a test of two numbers tells
either : (n a b : ℕ) → (eqb n a || eqb n b) ≡ true → (n ≡ a) ⊎ (n ≡ b)
either n a b h = by (eqb n a) refl h
  where
    by : (t : Bool) → eqb n a ≡ t → (t || eqb n b) ≡ true → (n ≡ a) ⊎ (n ≡ b)
    by true e g = inl (eqb-true n a e)
    by false e g = inr (eqb-true n b g)

neither : (n a b : ℕ) → (eqb n a || eqb n b) ≡ false → (n ≡ a) ⊎ (n ≡ b) → ⊥
neither n a b h (inl e) = false≢true (sym h ∙ simp (eq-eqb n a e))
neither n a b h (inr e) = false≢true (sym h ∙ simp (eq-eqb n b e, or-true))

-- from 20 on an operand in memory has eight bytes, but for 21
quadwords : (n : ℕ) → is_listed n ≡ true → 20 ≤ n → (n ≡ 21 → ⊥) → memory_size (form_of n) ≡ 8
quadwords n h =
    among (λ k. 20 ≤ k → (k ≡ 21 → ⊥) → memory_size (form_of k) ≡ 8) n numbers h
    (λ g e. absurd (omega arith)) (λ g e. absurd (omega arith)) (λ g e. absurd (omega arith)) (λ g e. absurd (omega arith))
    (λ g e. absurd (omega arith)) (λ g e. absurd (omega arith)) (λ g e. absurd (omega arith)) (λ g e. absurd (omega arith))
    (λ g e. absurd (omega arith)) (λ g e. absurd (omega arith)) (λ g e. absurd (omega arith)) (λ g e. absurd (omega arith))
    (λ g e. absurd (omega arith)) (λ g e. absurd (omega arith)) (λ g e. absurd (omega arith)) (λ g e. absurd (omega arith))
    (λ g e. refl) (λ g e. absurd (e refl)) (λ g e. refl)

-- an MMX register and memory
module _ (registers m : List ℕ) (entry place address next : ℕ) where
  abbrev n : ℕ
  n = entry / 2 ^ 24

  -- a load and a store of so many bytes
  abbrev Loaded : ℕ → Work → Type 0
  Loaded size work = Within work (work_of to_operate (entry % 256) place (loaded m address size) next) address size (length m)

  abbrev Stored : ℕ → Work → Type 0
  Stored size work = Within work (work_of to_store size address (get_or registers place 0) next) address size (length m)

  abbrev Addressed : Work → Type 0
  Addressed work = AtAddress work registers m entry place address next

  module _ (size : ℕ) (two : 15 ≤ n) (plain : n ≡ 16 → ⊥) (sized : Listed entry → memory_size (form_of n) ≡ size) where
    same : (l : Listed entry) → size ≡ entry / 2 ^ 16 % 256
    same l = sym (l.sized ∙ sized l)

    loads_of : is_store n ≡ false → (work : Work) → Loaded size work → Addressed work
    loads_of e work v =
        record {
          two = two;
          plain = plain;
          made = λ l. simp e (subst (λ (k : ℕ). work ≡ work_of to_operate (entry % 256) place (loaded m address k) next) (same l) v.is);
          inside = λ l. subst (λ (k : ℕ). leb (address + k) (length m) ≡ true) (same l) v.inside;
        }

    stores_of : is_store n ≡ true → (work : Work) → Stored size work → Addressed work
    stores_of e work v =
        record {
          two = two;
          plain = plain;
          made = λ l. simp e (subst (λ (k : ℕ). work ≡ work_of to_store k address (get_or registers place 0) next) (same l) v.is);
          inside = λ l. subst (λ (k : ℕ). leb (address + k) (length m) ≡ true) (same l) v.inside;
        }

  module _ (r : Option Work) where
    pub loads_low : n ≡ 21 → IfSome r (Loaded 4) → IfSome r Addressed
    loads_low e given = IfSome_then r given (loads_of 4 (omega arith) (λ z. omega arith) (λ l. ap (λ (k : ℕ). memory_size (form_of k)) e) (ap is_store e))

    pub loads_quadword : 20 ≤ n → (n ≡ 21 → ⊥) → IfSome r (Loaded 8) → IfSome r Addressed
    loads_quadword h e given =
        IfSome_then r given
        (loads_of 8 (omega arith) (λ z. omega arith) (λ l. quadwords n l.listed h e)
        (simp (ne_eqb n 15 (λ z. omega arith), ne_eqb n 17 (λ z. omega arith), ne_eqb n 19 (λ z. omega arith))))

    pub stores_quadword : (n ≡ 15) ⊎ (n ≡ 19) → IfSome r (Stored 8) → IfSome r Addressed
    stores_quadword (inl e) given = IfSome_then r given (stores_of 8 (omega arith) (λ z. omega arith) (λ l. ap (λ (k : ℕ). memory_size (form_of k)) e) (ap is_store e))
    stores_quadword (inr e) given = IfSome_then r given (stores_of 8 (omega arith) (λ z. omega arith) (λ l. ap (λ (k : ℕ). memory_size (form_of k)) e) (ap is_store e))

    pub stores_doubleword : n ≡ 17 → IfSome r (Stored 4) → IfSome r Addressed
    stores_doubleword e given = IfSome_then r given (stores_of 4 (omega arith) (λ z. omega arith) (λ l. ap (λ (k : ℕ). memory_size (form_of k)) e) (ap is_store e))

    pub loads_doubleword : n ≡ 18 → IfSome r (Loaded 4) → IfSome r Addressed
    loads_doubleword e given = IfSome_then r given (loads_of 4 (omega arith) (λ z. omega arith) (λ l. ap (λ (k : ℕ). memory_size (form_of k)) e) (ap is_store e))

-- the work of two operands does what the instruction does
module _ (registers integers m : List ℕ) (entry : ℕ) (i : Instruction) (next : ℕ) (r : Registers i.operand) (l : Listed entry)
    (two : 15 ≤ entry / 2 ^ 24) (plain : entry / 2 ^ 24 ≡ 16 → ⊥) (work : Work)
    (made : work ≡ work_at registers integers m entry i.operand.reg (spot_of integers (length m) (other_of (entry / 2 ^ 24) i.operand)) next) where
  abbrev k : ℕ
  k = entry / 2 ^ 24

  pub does_two : Does work registers integers m (effect_in entry i) (done next)
  does_two = by (eqb k 15) (eqb k 17 || eqb k 19) (eqb k 18 || eqb k 20) refl refl refl
    where
      store : Stores ≡ way_of k → is_store k ≡ true → Does work registers integers m (effect_in entry i) (done next)
      store y e = does_store registers integers m entry i next r l (way_of k) refl work _ (sym y) refl (simp e at made)

      by : (d s t : Bool) → eqb k 15 ≡ d → (eqb k 17 || eqb k 19) ≡ s → (eqb k 18 || eqb k 20) ≡ t → Does work registers integers m (effect_in entry i) (done next)
      by true s t g e f = store (way_streams k (eqb-true k 15 g)) (simp g)
      by false true t g e f = store (way_stores k (either k 17 19 e)) (simp (g, e))
      by false false true g e f =
          let none : is_store k ≡ false = simp (g, e) in
          does_load registers integers m entry i next r l (way_of k) refl work (sym (way_loads k (either k 18 20 f))) (simp none at made)
      by false false false g e f =
          let none : is_store k ≡ false = simp (g, e) in
          does_compute registers integers m entry i next r l (way_of k) refl work
          (sym (way_computes k two (eqb-false k 15 g) (neither k 17 19 e) (neither k 18 20 f) plain)) (simp none at made)
