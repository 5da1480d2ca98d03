-- An instruction with a suffix is read as one with an immediate, and then its suffix is looked at. Rules for the functions that do so.
use Rattle.std.specs.Prelude.{ℕ, ◌+◌, ◌≡◌, refl, Bool, true, false, cond, List, [], ◌∷◌, eqb, leb, length, take, drop, Result, Ok, Err}
use Rattle.basis.proofs.Names.{sym, ap, ◌∙◌, arith, rules, eq-eqb, ne_eqb, eqb-true, eqb-false}
use Rattle.words.specs.Number.{number}
use Rattle.codec.specs.Refusals.{code_ends, not_listed}
use Rattle.codec.specs.Forms.{mmreg1←mmreg2/mem64+imm8, mmreg1·mmreg2/mem64+suffix, is_among, allows, accepts}
use Rattle.codec.specs.Table.{form_of}
use Rattle.codec.specs.Operands.{upper, lower, has_sib}
use Rattle.codec.specs.Reader.{Reader, whole, refuse, byte, field, reads}
use Rattle.codec.specs.Reads.{immediate_reader, displacement_reader, sib_reader, modrm_reader}
use Rattle.codec.specs.Finding.{found}
use Rattle.codec.specs.inner.Entries.{read_as, found_after}
use Rattle.codec.specs.declared.Instruction.{Instruction}
use Rattle.codec.specs.declared.Found.{Found}
use Rattle.codec.specs.declared.reader.Opcode.{Opcode}
use Rattle.codec.specs.Answers.{Decoded, good, refused}

-- a suffix, and a reader of what has one, with the suffix looked at last

abbrev is_listed : Instruction → Bool
is_listed i = accepts mmreg1·mmreg2/mem64+suffix i.immediate

abbrev judge : Reader → Reader
judge (whole i) = cond (is_listed i) (whole i) (refuse not_listed)
judge (refuse n) = refuse n
judge (byte next) = byte (λ b. judge (next b))
judge (field k next) = field k (λ v. judge (next v))

abbrev judged_found : Result Found ℕ → Result Found ℕ
judged_found (Ok x) = cond (accepts mmreg1·mmreg2/mem64+suffix x.instruction.immediate) (Ok x) (Err not_listed)
judged_found (Err refusal) = Err refusal

abbrev judgement : Decoded → Decoded
judgement (good i n) = cond (is_listed i) (good i n) (refused not_listed)
judgement (refused n) = refused n

reads_judged : (r : Reader) (at : ℕ) (s : List ℕ) → reads (judge r) at s ≡ judgement (reads r at s)
reads_judged (whole i) at s = by (is_listed i)
  where
    by : (t : Bool) → reads (cond t (whole i) (refuse not_listed)) at s ≡ cond t (good i at) (refused not_listed)
    by true = refl
    by false = refl
reads_judged (refuse n) at s = refl
reads_judged (byte next) at [] = refl
reads_judged (byte next) at (b ∷ s) = reads_judged (next b) (at + 1) s
reads_judged (field k next) at s =
    let rest = drop k s in
    let v = number (take k s) in
    by (leb k (length s)) (reads (judge (next v)) (at + k) rest) (reads (next v) (at + k) rest) (reads_judged (next v) (at + k) rest)
  where
    by : (t : Bool) (x y : Decoded) → x ≡ judgement y → cond t x (refused code_ends) ≡ judgement (cond t y (refused code_ends))
    by true x y e = e
    by false x y e = refl

-- the readers of both forms differ in that alone
module _ (first second : ℕ) where
  sib_judged : (modrm : ℕ) → sib_reader mmreg1·mmreg2/mem64+suffix first second modrm ≡ judge (sib_reader mmreg1←mmreg2/mem64+imm8 first second modrm)
  unfolding sib_reader displacement_reader immediate_reader
  sib_judged modrm = by (has_sib (upper modrm) (lower modrm))
    where
      by : (t : Bool)
          → cond t (byte (displacement_reader mmreg1·mmreg2/mem64+suffix first second modrm)) (displacement_reader mmreg1·mmreg2/mem64+suffix first second modrm 0)
          ≡ judge (cond t (byte (displacement_reader mmreg1←mmreg2/mem64+imm8 first second modrm)) (displacement_reader mmreg1←mmreg2/mem64+imm8 first second modrm 0))
      by true = refl
      by false = refl

  modrm_judged : modrm_reader mmreg1·mmreg2/mem64+suffix first second ≡ judge (modrm_reader mmreg1←mmreg2/mem64+imm8 first second)
  unfolding modrm_reader allows
  modrm_judged = λ i. byte (λ modrm. sib_judged modrm i)

-- what is found so
found_judged : (entry : ℕ) (x : Decoded) → judged_found (found entry x) ≡ found entry (judgement x)
found_judged entry (good i n) = by (is_listed i)
  where
    by : (t : Bool) → cond t (found entry (good i n)) (Err not_listed) ≡ found entry (cond t (good i n) (refused not_listed))
    by true = refl
    by false = refl
found_judged entry (refused n) = refl

-- from what the code has found
module _ (x : Found) (t : Bool) (test : t ≡ is_among x.instruction.immediate mmreg1·mmreg2/mem64+suffix.suffixes) where
  judged_listed : t ≡ true → Ok x ≡ judged_found (Ok x)
  judged_listed e = simp (← test, e)

  judged_other : t ≡ false → Err not_listed ≡ judged_found (Ok x)
  judged_other e = simp (← test, e)

module _ (opcode : Opcode) (r : Opcode) where
  pub read-suffixed : opcode.form ≡ 16 → r ≡ record { first = opcode.first; second = opcode.second; entry = opcode.entry; form = 5 } → r ≡ read_as opcode
  read-suffixed e h = simp (eq-eqb opcode.form 16 e) h

  pub read_other : (opcode.form ≡ 16 → ⊥) → opcode ≡ read_as opcode
  read_other e = simp (ne_eqb opcode.form 16 e)

  module _ (is : r ≡ read_as opcode) where
    pub read_plain : r.form ≡ 16 → ⊥
    read_plain e = by (eqb opcode.form 16) refl (sym (ap (λ (o : Opcode). o.form) is) ∙ e)
      where
        by : (t : Bool) → eqb opcode.form 16 ≡ t → (cond t (record { first = opcode.first; second = opcode.second; entry = opcode.entry; form = 5 }) opcode).form ≡ 16 → ⊥
        by true t e = omega arith
        by false t e = eqb-false opcode.form 16 t e

    module _ (code : List ℕ) (at : ℕ) (x : Result Found ℕ) (f : x ≡ found_after r modrm_reader code at) where
      pub operands_plain : (opcode.form ≡ 16 → ⊥) → x ≡ found_after opcode modrm_reader code at
      operands_plain e = f ∙ ap (λ (o : Opcode). found_after o modrm_reader code at) (is ∙ sym (read_other e))

      operands_suffixed : (y : Result Found ℕ) → opcode.form ≡ 16 → y ≡ judged_found x → y ≡ found_after opcode modrm_reader code at
      operands_suffixed y e h =
          let first = opcode.first in
          let second = opcode.second in
          let read = reads (modrm_reader mmreg1←mmreg2/mem64+imm8 first second) at (drop at code) in
          let shuffled : read_as opcode ≡ record { first = first; second = second; entry = opcode.entry; form = 5 } = simp (eq-eqb opcode.form 16 e) in
          let other : x ≡ found opcode.entry read = f ∙ ap (λ (o : Opcode). found_after o modrm_reader code at) (is ∙ shuffled) in
          h ∙ ap judged_found other ∙ found_judged opcode.entry read
          ∙ ap (found opcode.entry) (sym (ap (λ (z : Reader). reads z at (drop at code)) (modrm_judged first second) ∙ reads_judged (modrm_reader mmreg1←mmreg2/mem64+imm8 first second) at (drop at code)))
          ∙ ap (λ (k : ℕ). found opcode.entry (reads (modrm_reader (form_of k) first second) at (drop at code))) (sym e)

      -- a refusal before the suffix
      pub operands_refused : (n : ℕ) → x ≡ Err n → Err n ≡ found_after opcode modrm_reader code at
      operands_refused n h = sym h ∙ by (eqb opcode.form 16) refl
        where
          by : (t : Bool) → eqb opcode.form 16 ≡ t → x ≡ found_after opcode modrm_reader code at
          by true t = operands_suffixed x (eqb-true opcode.form 16 t) (h ∙ ap judged_found (sym h))
          by false t = operands_plain (eqb-false opcode.form 16 t)

-- a record whose suffix is listed, if its form has one
module _ (opcode r : Opcode) (is : r ≡ read_as opcode) (code : List ℕ) (at : ℕ) (x : Found) (f : Ok x ≡ found_after r modrm_reader code at) where
  pub operands_listed : opcode.form ≡ 16 → is_among x.instruction.immediate mmreg1·mmreg2/mem64+suffix.suffixes ≡ true → Ok x ≡ found_after opcode modrm_reader code at
  operands_listed e h = operands_suffixed opcode r is code at (Ok x) f (Ok x) e (judged_listed x true (sym h) refl)

  pub operands_other : opcode.form ≡ 16 → is_among x.instruction.immediate mmreg1·mmreg2/mem64+suffix.suffixes ≡ false → Err not_listed ≡ found_after opcode modrm_reader code at
  operands_other e h = operands_suffixed opcode r is code at (Ok x) f (Err not_listed) e (judged_other x false (sym h) refl)

pub ruleset judging = (rules, read-suffixed, read_other, read_plain, operands_plain, operands_listed, operands_other, operands_refused)
