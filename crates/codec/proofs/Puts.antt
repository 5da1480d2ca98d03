-- What the writer's stores leave, part by part: rules for the functions that put bytes.
use Rattle.std.specs.Prelude.{ℕ, suc, ◌+◌, ◌/◌, ◌%◌, ◌^◌, ◌-◌, ◌≤◌, ◌<◌, ◌≡◌, Bool, true, false, cond, List, [], ◌∷◌, ◌++◌, eqb, length, set, drop}
use Rattle.std.specs.Int.{w32, to_le_bytes}
use Rattle.basis.specs.Names.{sets}
use borrow.Rule.Slice.PartMut.{put_mid}
use Rattle.basis.proofs.Names.{sym, ap, ap₂, ◌∙◌, towards_suc, arith, rules, le-leb, lt-leb, eq-eqb, ne_eqb, length-append, length-set, sets-eq, drop-drop, append_assoc}
use Rattle.words.specs.Number.{bytes}
use Rattle.codec.specs.Refusals.{no_bytes, buffer_ends}
use Rattle.codec.specs.Answers.{wrote, refused_with}
use Rattle.codec.specs.Forms.{Form, has_operand, immediate_size}
use Rattle.codec.specs.Opcodes.{form_for, opcode_bytes, escape}
use Rattle.codec.specs.Table.{form_of}
use Rattle.codec.specs.Operands.{joined, has_sib, displacement_size}
use Rattle.codec.specs.inner.Fields.{Sized}
use Rattle.codec.specs.Fits.{has_bytes}
use Rattle.codec.specs.Writes.{sib_bytes, displacement_bytes, operand_bytes, parts_bytes, bytes_of, write_to}
use Rattle.codec.specs.inner.Fields.{operand_size}
use Rattle.codec.specs.declared.Operand.{Operand}
use Rattle.codec.specs.declared.Instruction.{Instruction}
use Rattle.words.proofs.Numbers.{length-bytes}
use Rattle.words.proofs.Laws.{sets-append}
use Rattle.codec.proofs.Facts.{modrm_fields, sib_fields, bytes_operand}

-- stores at the start of a buffer that has room for them
sets_start : (l vs : List ℕ) → length vs ≤ length l → sets l 0 vs ≡ vs ++ drop (length vs) l
sets_start l vs h =
    let p : 0 + length vs ≡ length vs = omega arith in
    simp p at (sets-eq vs l 0 (simp p h))

-- a number of one byte and of four
pub number-put_1 : (l : List ℕ) (at k v : ℕ) → k ≡ 1 → set l at (v % 256) ≡ sets l at (bytes k v)
number-put_1 l at k v e = simp e

same_bytes : (v : ℕ) → to_le_bytes w32 v ≡ bytes 4 v
same_bytes v =
    let b1 : v / 256 ^ 1 % 256 ≡ v / 256 % 256 = omega arith in
    let b2 : v / 256 ^ 2 % 256 ≡ v / 256 / 256 % 256 = omega arith in
    let b3 : v / 256 ^ 3 % 256 ≡ v / 256 / 256 / 256 % 256 = omega arith in
    λ i. v % 256 ∷ b1 i ∷ b2 i ∷ b3 i ∷ []

pub number-put_4 : (l part : List ℕ) (at k v : ℕ) → Sized k → (k ≡ 0 → ⊥) → (k ≡ 1 → ⊥) → at + k ≤ length l → part ≡ to_le_bytes w32 v
    → put_mid at (at + 4 - at) l part ≡ sets l at (bytes k v)
number-put_4 l part at k v z n m h e =
    let four : k ≡ 4 = z.four n m in
    let few : at + 4 - at ≡ 4 = omega arith in
    let room : at + 4 ≤ length l = omega arith in
    let is : part ≡ bytes 4 v = e ∙ same_bytes v in
    rw (few, is, four, sets-eq (bytes 4 v) l at room, drop-drop 4 at l, append_assoc)

-- the SIB byte
module _ (w : Operand) (t : Bool) (g : t ≡ has_sib w.mode w.rm) where
  sib_length_1 : t ≡ true → length (sib_bytes w) ≡ 1
  unfolding sib_bytes
  sib_length_1 e = simp (← g, e)

  sib_length_0 : t ≡ false → length (sib_bytes w) ≡ 0
  unfolding sib_bytes
  sib_length_0 e = simp (← g, e)

  pub sib_room : (l : List ℕ) (at : ℕ) → t ≡ true → at + length (sib_bytes w) ≤ length l → at < length l
  sib_room l at e h = omega (arith, sib_length_1 e)

  module _ (at : ℕ) where
    pub sib_next_lem : t ≡ true → at + 1 ≡ at + length (sib_bytes w)
    sib_next_lem e = omega (arith, sib_length_1 e)

    pub sib_put : (l : List ℕ) (b : ℕ) → t ≡ true → b ≡ joined w.scale w.index w.base
        → set l at b ≡ sets l at (sib_bytes w)
    unfolding sib_bytes
    sib_put l b e h = simp (← g, e) (ap (set l at) h)

    pub sib_same : t ≡ false → at ≡ at + length (sib_bytes w)
    sib_same e = omega (arith, sib_length_0 e)

    pub sib_kept : (l : List ℕ) → t ≡ false → l ≡ sets l at (sib_bytes w)
    unfolding sib_bytes
    sib_kept l e = simp (← g, e)

-- the operand
operand_length : (w : Operand) → length (operand_bytes w) ≡ operand_size w
unfolding operand_bytes displacement_bytes
operand_length w =
    let k = displacement_size w.mode w.rm w.base in
    omega (arith, length-append (sib_bytes w) (bytes k w.displacement), length-bytes k w.displacement)

module _ (w : Operand) (l : List ℕ) (at b : ℕ) (h : at + operand_size w ≤ length l) where
  pub sib_start : at + 1 + length (sib_bytes w) ≤ length (set l at b)
  sib_start = omega (arith, length-set l at b)

  pub displacement_room : (l1 : List ℕ) (next k : ℕ) → length l1 ≡ length (set l at b) → next ≡ at + 1 + length (sib_bytes w)
      → k ≡ displacement_size w.mode w.rm w.base
      → next + k ≤ length l1
  displacement_room l1 next k e p d = omega (arith, length-set l at b)

pub operand_put : (at next k : ℕ) (w : Operand) (l l1 l2 : List ℕ) (b : ℕ) → next ≡ at + 1 + length (sib_bytes w)
    → k ≡ displacement_size w.mode w.rm w.base
    → b ≡ joined w.mode w.reg w.rm
    → l1 ≡ sets (set l at b) (at + 1) (sib_bytes w)
    → l2 ≡ sets l1 next (bytes k w.displacement) → l2 ≡ sets l at (operand_bytes w)
unfolding operand_bytes displacement_bytes
operand_put at next k w l l1 l2 b e d p q r =
    let s : at + 1 ≡ suc at = omega arith in
    simp (r, q, e, d, p, s, sets-append)

-- the opcode bytes
module _ (first second : ℕ) where
  abbrev opcode : List ℕ
  opcode = opcode_bytes first second

  pub opcode_room : (l : List ℕ) → length opcode ≤ length l → 0 < length l
  opcode_room l = by (eqb first escape)
    where
      by : (t : Bool) → length (cond t (first ∷ second ∷ []) (first ∷ [])) ≤ length l → 0 < length l
      by true h = omega arith
      by false h = omega arith

  -- 0F and another
  module _ (e : first ≡ escape) where
    pub two_size : 2 ≡ length opcode
    two_size = simp (eq-eqb first escape e)

    pub second_room : (l : List ℕ) (at v : ℕ) → length opcode ≤ length l → 1 < length (set l at v)
    second_room l at v h = omega (arith, two_size, length-set l at v)

    pub two_put : (l : List ℕ) → set (set l 0 first) 1 second ≡ sets l 0 opcode
    two_put l = simp (eq-eqb first escape e)

  -- one alone
  module _ (e : first ≡ escape → ⊥) where
    pub one_size : 1 ≡ length opcode
    one_size = simp (ne_eqb first escape e)

    pub one_put : (l : List ℕ) → set l 0 first ≡ sets l 0 opcode
    one_put l = simp (ne_eqb first escape e)

-- the record, by the number n of its form
module _ (i : Instruction) (n : ℕ) (g : form_of n ≡ form_for i.first i.second) where
  abbrev start : List ℕ
  start = opcode_bytes i.first i.second

  bytes_are : bytes_of i ≡ start ++ parts_bytes (form_of n) i.operand i.immediate
  unfolding bytes_of
  bytes_are = ap (λ (f : Form). start ++ parts_bytes f i.operand i.immediate) (sym g)

  pub opcode_fits_lem : (l : List ℕ) → length (bytes_of i) ≤ length l → length (opcode_bytes i.first i.second) ≤ length l
  opcode_fits_lem l h = omega (arith, ap length bytes_are, length-append start (parts_bytes (form_of n) i.operand i.immediate))

  module _ (o : Bool) (has : o ≡ has_operand (form_of n)) (j : ℕ) (after : j ≡ length (opcode_bytes i.first i.second)) where
    -- no operand
    module _ (m : o ≡ false) where
      bare_bytes : bytes_of i ≡ start ++ bytes (immediate_size (form_of n)) i.immediate
      unfolding parts_bytes
      bare_bytes = bytes_are ∙ simp (← has, m)

      bare_length : length (bytes_of i) ≡ j + immediate_size (form_of n)
      bare_length =
          let k = immediate_size (form_of n) in
          omega (arith, ap length bare_bytes, length-append start (bytes k i.immediate), length-bytes k i.immediate)

      module _ (k : ℕ) (d : k ≡ immediate_size (form_of n)) where
        pub bare_size : j + k ≡ length (bytes_of i)
        bare_size = omega (arith, bare_length)

        pub bare_room : (l l1 : List ℕ) → length l1 ≡ length l → length (bytes_of i) ≤ length l → j + k ≤ length l1
        bare_room l l1 q h = omega (arith, bare_length)

        pub bare_put : (l l1 l2 : List ℕ) → l1 ≡ sets l 0 (opcode_bytes i.first i.second) → l2 ≡ sets l1 j (bytes k i.immediate)
            → l2 ≡ sets l 0 (bytes_of i)
        bare_put l l1 l2 q r =
            let s : j ≡ 0 + length start = omega arith in
            r ∙ simp (q, s, d, sets-append, bare_bytes)

    module _ (m : o ≡ true) where
      whole_bytes : bytes_of i ≡ start ++ (operand_bytes i.operand ++ bytes (immediate_size (form_of n)) i.immediate)
      unfolding parts_bytes
      whole_bytes = bytes_are ∙ simp (← has, m)

      whole_length : length (bytes_of i) ≡ j + operand_size i.operand + immediate_size (form_of n)
      whole_length =
          let k = immediate_size (form_of n) in
          let w = i.operand in
          let rest = operand_bytes w ++ bytes k i.immediate in
          omega (arith, ap length whole_bytes, length-append start rest, length-append (operand_bytes w) (bytes k i.immediate), operand_length w, length-bytes k i.immediate)

      pub operand_room : (l l1 : List ℕ) → length l1 ≡ length l → length (bytes_of i) ≤ length l → j + operand_size i.operand ≤ length l1
      operand_room l l1 q h = omega (arith, whole_length)

      module _ (next k : ℕ) (l l1 l2 : List ℕ) (p : next ≡ j + operand_size i.operand) (d : k ≡ immediate_size (form_of n)) where
        pub immediate_room : length l1 ≡ length l → length l2 ≡ length l1 → length (bytes_of i) ≤ length l → next + k ≤ length l2
        immediate_room e f h = omega (arith, whole_length)

        pub whole_put : (l3 : List ℕ) → l1 ≡ sets l 0 (opcode_bytes i.first i.second) → l2 ≡ sets l1 j (operand_bytes i.operand)
            → l3 ≡ sets l2 next (bytes k i.immediate)
            → l3 ≡ sets l 0 (bytes_of i)
        whole_put l3 a q r =
            let s : next ≡ 0 + length start + length (operand_bytes i.operand) = omega (arith, operand_length i.operand) in
            let t : j ≡ 0 + length start = omega arith in
            r ∙ simp (q, a, s, t, d, sets-append, whole_bytes)

      -- its length by the parts
      module _ (k h : ℕ) (t : Bool) (a : k ≡ displacement_size i.operand.mode i.operand.rm i.operand.base)
          (b : h ≡ immediate_size (form_of n)) (s : t ≡ has_sib i.operand.mode i.operand.rm) where
        pub sib_size : t ≡ true → j + 2 + (k + h) ≡ length (bytes_of i)
        sib_size e = omega (arith, whole_length, sib_length_1 i.operand t s e)

        pub plain_size : t ≡ false → j + 1 + (k + h) ≡ length (bytes_of i)
        plain_size e = omega (arith, whole_length, sib_length_0 i.operand t s e)

-- stores keep the length
pub length-kept : (l l1 l2 : List ℕ) (a u : ℕ) → length l1 ≡ length (set l a u) → length l2 ≡ length l1 → length l2 ≡ length l
length-kept l l1 l2 a u e h = h ∙ e ∙ length-set l a u

-- the writer
pub has_so : (i : Instruction) (t : Bool) → t ≡ has_bytes i → t ≡ true → has_bytes i ≡ true
has_so i t g e = sym g ∙ e

module _ (i : Instruction) (l : List ℕ) (t : Bool) (g : t ≡ has_bytes i) where
  pub write_none : t ≡ false → refused_with no_bytes l ≡ write_to i l
  unfolding write_to
  write_none e = simp (← g, e)

  module _ (n : ℕ) (e : t ≡ true) (h : n ≡ length (bytes_of i)) where
    pub write_short : length l < n → refused_with buffer_ends l ≡ write_to i l
    unfolding write_to
    write_short q =
        let p : length l < length (bytes_of i) = omega arith in
        simp (← g, e, lt-leb _ _ p)

    pub write_good : (l1 : List ℕ) → n ≤ length l → l1 ≡ sets l 0 (bytes_of i) → wrote n l1 ≡ write_to i l
    unfolding write_to
    write_good l1 q y =
        let p : length (bytes_of i) ≤ length l = omega arith in
        simp (← g, e, le-leb _ _ p) (ap₂ wrote h (y ∙ sets_start l (bytes_of i) p))

pub ruleset puts = (
  rules,
  number-put_1,
  number-put_4,
  sib_fields,
  sib_room,
  sib_next_lem,
  sib_put,
  sib_same,
  sib_kept,
  modrm_fields,
  operand_put,
  bytes_operand,
  opcode_room,
  two_size,
  second_room,
  two_put,
  one_size,
  one_put,
  opcode_fits_lem,
  bare_room,
  operand_room,
  immediate_room,
  sib_start,
  displacement_room,
  length-kept,
  bare_size,
  bare_put,
  whole_put,
  sib_size,
  plain_size,
  has_so,
  write_none,
  write_short,
  write_good,
)
