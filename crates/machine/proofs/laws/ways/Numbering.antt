-- The forms by their numbers in the table, each with its way: those of a destination and a source whatever register file and size r/m has. Rules for
-- the functions that sort them.
use Rattle.std.specs.Prelude.{◌≡◌, refl, ◌⊎◌, Bool, true, false, cond, ◌||◌, [], ◌∷◌, ℕ, ◌/◌, ◌%◌, ◌^◌, ◌≤◌, ◌<◌, eqb, leb}
use Rattle.basis.specs.Names.{some}
use Rattle.basis.proofs.Names.{sym, ap, subst, ◌∙◌, inl, inr, false≢true, arith, rules, ne_eqb, eqb-true, le-leb, lt-leb, le-ltb, lt-ltb}
use Rattle.words.specs.Number.{bytes}
use Rattle.lanes.specs.Operations.{described, MOVE}
use Rattle.codec.specs.Forms.{written, updated, File, mmx_file, integer_file, rm/mem, mem, mmreg1, Form, pair, alone, alone/7, mem8/0/1/2/3, mmreg1·imm8/2/4/6, mmreg1·imm8/2/6, reg32←mmreg2+imm8, reg32←mmreg2, mmreg1·reg32/mem16+imm8, mmreg1←mmreg2/mem64+imm8, edi·mmreg1·mmreg2, mmreg1·mmreg2/mem64+suffix, memory_size}
use Rattle.codec.specs.Contents.{maximum, siblings}
use Rattle.codec.specs.Opcodes.{suffixed_of}
use Rattle.codec.specs.Table.{form_of}
use Rattle.codec.proofs.Bytes.{found_each, among}
use Rattle.manual.specs.Instructions.{kept_by}
use Rattle.machine.specs.declared.ways.Way.{Way}
use Rattle.machine.specs.declared.ways.Way.TheVariants.{Empties, Passes, Shifts, Extracts, Stores, Loads, Computes, Suffixes, Inserts, Shuffles, Masks}
use Rattle.machine.specs.inner.Spots.{file_in}
use Rattle.machine.specs.inner.Ways.{is_unstopped, is_integer, is_store, way_of, suffix_way, has_other}
use Rattle.machine.specs.inner.Works.{owned, numbers, is_listed, Listed}

-- the register file and the size of the operand that may be in memory: by the number an integer register or an MMX register; one to eight bytes; and
-- what the operand keeps of a number has the same bytes
pub record Other (n : ℕ) (file : File) (size : ℕ) : Type 0 where
  pub past : 3 < n
  pub named : file ≡ cond (is_integer n) integer_file mmx_file
  pub any : 0 < size
  pub most : size ≤ 8
  pub kept : (v : ℕ) → bytes size (kept_by (rm/mem file size) v) ≡ bytes size v

first : (v : ℕ) → v % 2 ^ 32 % 256 ≡ v % 256
first v = omega arith

second : (v : ℕ) → v % 2 ^ 32 / 256 % 256 ≡ v / 256 % 256
second v = omega arith

third : (v : ℕ) → v % 2 ^ 32 / 256 / 256 % 256 ≡ v / 256 / 256 % 256
third v = omega arith

fourth : (v : ℕ) → v % 2 ^ 32 / 256 / 256 / 256 % 256 ≡ v / 256 / 256 / 256 % 256
fourth v = omega arith

doubleword : (n : ℕ) → 3 < n → is_integer n ≡ true → Other n integer_file 4
doubleword n p e =
    record { past = p; named = simp e; any = omega arith; most = omega arith; kept = λ v i. first v i ∷ second v i ∷ third v i ∷ fourth v i ∷ [] }

word : Other 4 integer_file 2
word = record { past = omega arith; named = refl; any = omega arith; most = omega arith; kept = λ v i. first v i ∷ second v i ∷ [] }

multimedia : (n size : ℕ) → 3 < n → is_integer n ≡ false → 0 < size → size ≤ 8 → Other n mmx_file size
multimedia n size p e a b = record { past = p; named = simp e; any = a; most = b; kept = λ v. refl }

-- MOVE alone has the form of a number
abbrev pub Moves : ℕ → Type 0
Moves n = owned n ≡ some (described MOVE).number

-- the forms of each way, by their operands
pub data HasWay (n : ℕ) : Way → Form → Type 0 where
  empties : HasWay n Empties alone
  passes_fence : HasWay n Passes alone/7
  passes_prefetch : HasWay n Passes mem8/0/1/2/3
  shifts_WD : HasWay n Shifts mmreg1·imm8/2/4/6
  shifts_Q : HasWay n Shifts mmreg1·imm8/2/6
  extracts_word : n ≡ 6 → HasWay n Extracts reg32←mmreg2+imm8
  extracts_bits : n ≡ 7 → HasWay n Extracts reg32←mmreg2
  inserts : n ≡ 4 → Other n integer_file 2 → HasWay n Inserts mmreg1·reg32/mem16+imm8
  shuffles : n ≡ 5 → Other n mmx_file 8 → HasWay n Shuffles mmreg1←mmreg2/mem64+imm8
  masks : n ≡ 8 → Other n mmx_file 8 → HasWay n Masks edi·mmreg1·mmreg2
  suffixes : n ≡ 16 → Other n mmx_file 8 → HasWay n Suffixes mmreg1·mmreg2/mem64+suffix
  streams : Moves n → Other n mmx_file 8 → HasWay n Stores (pair n (written, mem 8) mmreg1)
  stores : (file : File) (size : ℕ) → Moves n → Other n file size → HasWay n Stores (pair n (written, rm/mem file size) mmreg1)
  loads : (file : File) (size : ℕ) → Moves n → Other n file size → HasWay n Loads (pair n (written, mmreg1) (rm/mem file size))
  computes : (file : File) (size : ℕ) → Other n file size → HasWay n Computes (pair n (updated, mmreg1) (rm/mem file size))

pub has_way : (n : ℕ) → is_listed n ≡ true → (n ≡ 0 → ⊥) → HasWay n (way_of n) (form_of n)
unfolding way_of
has_way n h =
    among (λ k. (k ≡ 0 → ⊥) → HasWay k (way_of k) (form_of k)) n numbers h
    (λ g. absurd (g refl)) (λ g. empties) (λ g. shifts_WD) (λ g. shifts_Q)
    (λ g. inserts refl word)
    (λ g. shuffles refl (multimedia 5 8 (omega arith) refl (omega arith) (omega arith)))
    (λ g. extracts_word refl) (λ g. extracts_bits refl)
    (λ g. masks refl (multimedia 8 8 (omega arith) refl (omega arith) (omega arith)))
    (λ g. passes_fence) (λ g. passes_prefetch)
    (λ g. streams refl (multimedia 15 8 (omega arith) refl (omega arith) (omega arith)))
    (λ g. suffixes refl (multimedia 16 8 (omega arith) refl (omega arith) (omega arith)))
    (λ g. stores integer_file 4 refl (doubleword 17 (omega arith) refl))
    (λ g. loads integer_file 4 refl (doubleword 18 (omega arith) refl))
    (λ g. stores mmx_file 8 refl (multimedia 19 8 (omega arith) refl (omega arith) (omega arith)))
    (λ g. loads mmx_file 8 refl (multimedia 20 8 (omega arith) refl (omega arith) (omega arith)))
    (λ g. computes mmx_file 4 (multimedia 21 4 (omega arith) refl (omega arith) (omega arith)))
    (λ g. computes mmx_file 8 (multimedia 22 8 (omega arith) refl (omega arith) (omega arith)))

-- what is read, by its number in the table
module _ (entry : ℕ) (l : Listed entry) where
  abbrev form : ℕ
  form = entry / 2 ^ 24

  pub goes : (y z : Way) → y ≡ way_of form → y ≡ z → HasWay form z (form_of form)
  goes y z w e = subst (λ (x : Way). HasWay form x (form_of form)) (sym w ∙ e) (has_way form l.listed l.present)

  pub other : has_other (way_of form) ≡ true → Other form (file_in (form_of form).operands) (memory_size (form_of form))
  other = by (way_of form) (form_of form) (goes (way_of form) (way_of form) refl refl)
    where
      by : (y : Way) (f : Form) → HasWay form y f → has_other y ≡ true → Other form (file_in f.operands) (memory_size f)
      by y f empties two = absurd (false≢true two)
      by y f shifts_WD two = absurd (false≢true two)
      by y f shifts_Q two = absurd (false≢true two)
      by y f passes_fence two = absurd (false≢true two)
      by y f passes_prefetch two = absurd (false≢true two)
      by y f (extracts_word e) two = absurd (false≢true two)
      by y f (extracts_bits e) two = absurd (false≢true two)
      by y f (inserts e x) two = x
      by y f (shuffles e x) two = x
      by y f (masks e x) two = x
      by y f (suffixes e x) two = x
      by y f (streams o x) two = x
      by y f (stores file size o x) two = x
      by y f (loads file size o x) two = x
      by y f (computes file size x) two = x

-- an operand that may be in memory, by which way it is or by the code's test
module _ (n : ℕ) (y : Way) (way : y ≡ way_of n) where
  pub two_operands : (z : Way) → y ≡ z → has_other z ≡ true → has_other (way_of n) ≡ true
  two_operands z e two = ap has_other (sym way ∙ e) ∙ two

  pub two_tested : (t : Bool) → t ≡ has_other y → t ≡ true → has_other (way_of n) ≡ true
  two_tested t test two = ap has_other (sym way) ∙ sym test ∙ two

-- the tests of the code
module _ (n : ℕ) where
  module _ (few : n < 15) where
    pub way_empties : n ≤ 1 → Empties ≡ way_of n
    unfolding way_of
    way_empties h = simp (lt-ltb n 15 few, le-leb n 1 h)

    module _ (more : 1 < n) where
      pub way_shifts : n ≤ 3 → Shifts ≡ way_of n
      unfolding way_of
      way_shifts h = simp (lt-ltb n 15 few, lt-leb n 1 more, le-leb n 3 h)

      module _ (past : 3 < n) where
        pub way_inserts : n ≡ 4 → Inserts ≡ way_of n
        unfolding way_of
        way_inserts e = simp e

        module _ (no_insert : n ≡ 4 → ⊥) where
          pub way_shuffles : n ≡ 5 → Shuffles ≡ way_of n
          unfolding way_of
          way_shuffles e = simp e

          module _ (no_shuffle : n ≡ 5 → ⊥) where
            pub way_extracts : n ≤ 7 → Extracts ≡ way_of n
            unfolding way_of
            way_extracts h = simp (lt-ltb n 15 few, lt-leb n 1 more, lt-leb n 3 past, ne_eqb n 4 no_insert, ne_eqb n 5 no_shuffle, le-leb n 7 h)

            pub way_masks : 7 < n → n ≡ 8 → Masks ≡ way_of n
            unfolding way_of
            way_masks h e = simp e

            pub way_passes : 7 < n → (n ≡ 8 → ⊥) → Passes ≡ way_of n
            unfolding way_of
            way_passes h e =
                simp (lt-ltb n 15 few, lt-leb n 1 more, lt-leb n 3 past, ne_eqb n 4 no_insert, ne_eqb n 5 no_shuffle, lt-leb n 7 h, ne_eqb n 8 e)

  pub way_streams : n ≡ 15 → Stores ≡ way_of n
  unfolding way_of
  way_streams e = simp e

  pub way_suffixes : n ≡ 16 → Suffixes ≡ way_of n
  unfolding way_of
  way_suffixes e = simp e

  pub way_stores : (n ≡ 17) ⊎ (n ≡ 19) → Stores ≡ way_of n
  unfolding way_of
  way_stores (inl e) = simp e
  way_stores (inr e) = simp e

  pub way_loads : (n ≡ 18) ⊎ (n ≡ 20) → Loads ≡ way_of n
  unfolding way_of
  way_loads (inl e) = simp e
  way_loads (inr e) = simp e

  pub way_computes : 15 ≤ n → (n ≡ 15 → ⊥) → ((n ≡ 17) ⊎ (n ≡ 19) → ⊥) → ((n ≡ 18) ⊎ (n ≡ 20) → ⊥) → (n ≡ 16 → ⊥) → Computes ≡ way_of n
  unfolding way_of
  way_computes h d s l x =
      simp (le-ltb n 15 h, ne_eqb n 15 d, ne_eqb n 17 (λ e. s (inl e)), ne_eqb n 19 (λ e. s (inr e)), ne_eqb n 18 (λ e. l (inl e)), ne_eqb n 20 (λ e. l (inr e)), ne_eqb n 16 x)

  pub stopped_before : n < 9 → false ≡ is_unstopped n
  stopped_before h = simp (lt-leb 9 n h)

  pub unstopped_from : 9 ≤ n → leb n 14 ≡ is_unstopped n
  unstopped_from h = simp (le-leb 9 n h)

  pub integer_insert : n ≡ 4 → true ≡ is_integer n
  integer_insert e = simp e

  pub integer_store : n ≡ 17 → true ≡ is_integer n
  integer_store e = simp e

  pub integer_load : (n ≡ 4 → ⊥) → (n ≡ 17 → ⊥) → eqb n 18 ≡ is_integer n
  integer_load e f = simp (ne_eqb n 4 e, ne_eqb n 17 f)

-- from 15 on an operand may be in memory
pub two_from : (n : ℕ) → 15 ≤ n → has_other (way_of n) ≡ true
unfolding way_of
two_from n h = simp (le-ltb n 15 h) (by (is_store n) (eqb n 18 || eqb n 20) (eqb n 16))
  where
    by : (s l x : Bool) → has_other (cond s Stores (cond l Loads (cond x Suffixes Computes))) ≡ true
    by true l x = refl
    by false true x = refl
    by false false true = refl
    by false false false = refl

-- the way of a suffix
module _ (suffix : ℕ) where
  pub suffix_words : suffix ≡ 0x1c → Loads ≡ suffix_way suffix
  unfolding suffixed_of way_of
  suffix_words e = simp e

  pub suffix_singles : suffix ≡ 0x0c → Loads ≡ suffix_way suffix
  unfolding suffixed_of way_of
  suffix_singles e = simp e

  pub suffix_swaps : suffix ≡ 0xbb → Loads ≡ suffix_way suffix
  unfolding suffixed_of way_of
  suffix_swaps e = simp e

  pub suffix_computes : (suffix ≡ 0x1c → ⊥) → (suffix ≡ 0x0c → ⊥) → (suffix ≡ 0xbb → ⊥) → Computes ≡ suffix_way suffix
  unfolding suffixed_of way_of
  suffix_computes a b c =
      found_each (λ x. x) maximum (λ x. Computes ≡ way_of x.form.number) (λ x. eqb suffix x.suffix) refl siblings (
        λ h. absurd (a (eqb-true suffix 0x1c h)),
        (
          λ h. absurd (b (eqb-true suffix 0x0c h)),
          (
            λ h. absurd (c (eqb-true suffix 0xbb h)),
            (λ h. refl, (λ h. refl, (λ h. refl, tt))),
          ),
        ),
      )

-- the answer of the code by which way it is
pub two_by : (y z : Way) (t : Bool) → y ≡ z → t ≡ has_other z → t ≡ has_other y
two_by y z t e h = h ∙ ap has_other (sym e)

pub ruleset way_rules = (rules, way_empties, way_shifts, way_extracts, way_inserts, way_shuffles, way_masks, way_passes, way_streams, way_suffixes, way_stores, way_loads, way_computes, suffix_words, suffix_singles, suffix_swaps, suffix_computes, stopped_before, unstopped_from, integer_insert, integer_store, integer_load, two_by)
