-- Refusal 19 in the customer's words: 75 and a byte stand there, the zero mark is clear, and the position after them plus the signed byte is before 0
-- or past the code's end. A jump is read exactly where these two bytes stand.
use Rattle.std.specs.Prelude.{◌≡◌, refl, ◌⊎◌, Bool, true, false, cond, List, [], ◌∷◌, ℕ, ◌+◌, ◌≤◌, eqb, ltb, length, drop, ℤ, pos, ◌+ℤ◌, ◌↔◌}
use Rattle.basis.specs.Names.{sub_ℕ, lt_z}
use Rattle.basis.proofs.Names.{sym, ap, ap₂, subst, ◌∙◌, inl, inr, false≢true, add-zero, arith, dec_le, eqb-true, le-leb, lt-leb, le-ltb, lt-ltb, ltb-true, ltb-false}
use Rattle.lanes.specs.Signed.{signed}
use Rattle.lanes.proofs.Integers.{is_pos, plus, lt_same}
use Rattle.codec.specs.Opcodes.{escape, form_at, form_of_first}
use Rattle.codec.specs.Operands.{no_operand}
use Rattle.codec.specs.Answers.{good, refused}
use Rattle.codec.specs.Reader.{Reader}
use Rattle.codec.specs.Reads.{instruction_of, immediate_reader, form_reader, second_reader, first_reader, instruction_reader, read_part, longest_code, read_at}
use Rattle.codec.specs.Reasons.{Starts}
use Rattle.codec.specs.Refusals.{code_too_long}
use Rattle.codec.specs.declared.Instruction.{Instruction}
use Rattle.codec.proofs.Readers.{Every, Holds, every, every_cond, every_map}
use Rattle.codec.proofs.Given.{Given, Refusal, Gives, form_gives, first_gives}
use Rattle.manual.specs.Refusals.{jumps_outside}
use Rattle.manual.specs.State.{State}
use Rattle.manual.specs.Jumps.{ahead}
use Rattle.manual.specs.Steps.{refused_with, step_at}
use Rattle.manual.specs.Reasons.{Fits, Astray, Reason, one, twenty, reading, seven, eight, nine, ten, fourteen, twenty_one, twenty_two, nineteen}
use Rattle.manual.proofs.Exactly.{step_exactly}
use Rattle.manual.proofs.Bounds.{reading_small}

-- The bytes of a jump

pub jump_read : (byte : ℕ) (rest : List ℕ) → read_part (0x75 ∷ byte ∷ rest) ≡ good (instruction_of 0x75 0 no_operand byte) 2
unfolding instruction_reader first_reader form_reader immediate_reader form_of_first
jump_read byte rest = simp (le-leb 1 (length (byte ∷ rest)) (omega arith), add-zero)

-- what is read has the first byte that stands there
first_kept : (first : ℕ) (rest : List ℕ) (i : Instruction) (size : ℕ) → read_part (first ∷ rest) ≡ good i size → i.first ≡ first
unfolding instruction_reader second_reader
first_kept first rest i size e =
    subst (Holds Keeps Refusal) e
    (every Keeps Refusal (cond (eqb first escape) (second_reader form_at first) (first_reader first))
    (every_cond Keeps Refusal (eqb first escape) (second_reader form_at first) (first_reader first)
    (omega arith, λ second. keeping second (form_reader (form_at second) first second) (form_gives (form_at second) first second))
    (keeping 0 (first_reader first) (first_gives first))) 1 rest)
  where
    Keeps : Instruction → Type 0
    Keeps j = j.first ≡ first

    keeping : (second : ℕ) (r : Reader) → Gives first second r → Every Keeps Refusal r
    keeping second r = every_map (Given first second) Keeps Refusal (λ j g. g.first_kept) r

pub read_jump : (bytes : List ℕ) (i : Instruction) (size : ℕ) → read_part bytes ≡ good i size → i.first ≡ 0x75
    → Starts (0x75 ∷ i.immediate ∷ []) bytes × (size ≡ 2)
unfolding instruction_reader first_reader form_reader immediate_reader form_of_first
read_jump [] i size e first = absurd (false≢true (cc))
read_jump (b ∷ rest) i size e first =
    let is : b ≡ 0x75 = sym (first_kept b rest i size e) ∙ first in
    subst (λ (n : ℕ). Starts (0x75 ∷ i.immediate ∷ []) (n ∷ rest) × (size ≡ 2)) (sym is) (by rest (subst (λ (n : ℕ). read_part (n ∷ rest) ≡ good i size) is e))
  where
    by : (rest : List ℕ) → read_part (0x75 ∷ rest) ≡ good i size → Starts (0x75 ∷ i.immediate ∷ []) (0x75 ∷ rest) × (size ≡ 2)
    by [] e = absurd (false≢true (cc))
    by (byte ∷ rest) e =
        let same = sym (jump_read byte rest) ∙ e in
        let found : instruction_of 0x75 0 no_operand byte ≡ i = cc in
        ((rest, ap (λ (j : Instruction). 0x75 ∷ j.immediate ∷ rest) found), cc)

-- The target

-- the position after a jump at a position, plus its byte, signed
abbrev pub target : ℕ → ℕ → ℤ
target at byte = pos (at + 2) +ℤ signed 8 byte

-- before 0, or past the end of a code of so many bytes
abbrev pub Beyond : ℕ → ℤ → Type 0
Beyond room z = (lt_z z (pos 0) ≡ true) ⊎ (lt_z (pos room) z ≡ true)

target_is : (at byte : ℕ) → target at byte ≡ sub_ℕ (ahead (at + 2) byte) 256
unfolding signed
target_is at byte = by (dec_le 128 byte)
  where
    by : Dec (128 ≤ byte) → target at byte ≡ sub_ℕ (ahead (at + 2) byte) 256
    by (yes h) =
        simp (le-leb 128 byte h, le-ltb byte 128 h)
        (ap (λ (z : ℤ). z +ℤ sub_ℕ byte 256) (sym (is_pos (at + 2) 0 (at + 2) (omega arith))) ∙ plus (at + 2) 0 byte 256)
    by (no h) = simp (lt-leb 128 byte (omega arith), lt-ltb byte 128 (omega arith)) (sym (is_pos (at + 2 + (byte + 256)) 256 (at + 2 + byte) (omega arith)))

-- the definition's words for it are the customer's
module _ (room at byte : ℕ) where
  before : lt_z (target at byte) (pos 0) ≡ ltb (ahead (at + 2) byte) 256
  before = ap₂ lt_z (target_is at byte) (sym (is_pos 256 256 0 (omega arith))) ∙ lt_same (ahead (at + 2) byte) 256 256

  past : lt_z (pos room) (target at byte) ≡ ltb (room + 256) (ahead (at + 2) byte)
  past = ap₂ lt_z (sym (is_pos (room + 256) 256 room (omega arith))) (target_is at byte) ∙ lt_same (room + 256) (ahead (at + 2) byte) 256

  astray_exactly : Astray room (at + 2) byte ↔ Beyond room (target at byte)
  astray_exactly = (there, back)
    where
      there : Astray room (at + 2) byte → Beyond room (target at byte)
      there (inl low) = inl (before ∙ lt-ltb _ _ low)
      there (inr high) = inr (past ∙ lt-ltb _ _ high)

      back : Beyond room (target at byte) → Astray room (at + 2) byte
      back (inl low) = inl (ltb-true _ _ (sym before ∙ low))
      back (inr high) = inr (ltb-true _ _ (sym past ∙ high))

-- 19 is due
pub record Nineteen (floor : ℕ) (code : List ℕ) (at : ℕ) (s : State) : Type 0 where
  -- memory, floor and code are within their limits
  pub fits : Fits floor s
  pub code_fits : length code ≤ longest_code
  -- the instruction there is 75 and a byte
  pub byte : ℕ
  pub jump : Starts (0x75 ∷ byte ∷ []) (drop at code)
  -- it is taken, and leads before 0 or past the end
  pub clear : s.marks.zero ≡ false
  pub beyond : Beyond (length code) (target at byte)

pub nineteen_in_words : (floor : ℕ) (code : List ℕ) (at : ℕ) (s : State) → (step_at floor code at s ≡ refused_with jumps_outside at s) ↔ Nineteen floor code at s
unfolding read_at
nineteen_in_words floor code at s =
    (λ e. there jumps_outside ((step_exactly floor code at s jumps_outside).0 e) refl, λ n. (step_exactly floor code at s jumps_outside).1 (back n))
  where
    there : (n : ℕ) → Reason floor code at s n → n ≡ jumps_outside → Nineteen floor code at s
    there n (one h) e = absurd (omega arith)
    there n (twenty h g) e = absurd (omega arith)
    there n (reading h r) e = absurd (omega (arith, reading_small code at n r))
    there n (seven i size h em) e = absurd (omega arith)
    there n (eight i size h em ts) e = absurd (omega arith)
    there n (nine i size h em ts pending) e = absurd (omega arith)
    there n (ten i size h x touches o based) e = absurd (omega arith)
    there n (fourteen i size h x touches o based) e = absurd (omega arith)
    there n (twenty_one i size h x given b) e = absurd (omega arith)
    there n (twenty_two i size h above u) e = absurd (omega arith)
    there n (nineteen i size h jump clear astray) e = by (ltb longest_code (length code)) refl h.read
      where
        by : (t : Bool) → ltb longest_code (length code) ≡ t → cond t (refused code_too_long) (read_part (drop at code)) ≡ good i size → Nineteen floor code at s
        by true t found = absurd (false≢true (cc))
        by false t found =
            let (starts, both) = read_jump (drop at code) i size found (eqb-true i.first 0x75 jump) in
            record {
              fits = h.fits;
              code_fits = ltb-false longest_code (length code) t;
              byte = i.immediate;
              jump = starts;
              clear = clear;
              beyond = (astray_exactly (length code) at i.immediate).0 (subst (λ (k : ℕ). Astray (length code) (at + k) i.immediate) both astray);
            }

    back : Nineteen floor code at s → Reason floor code at s jumps_outside
    back n =
        let (rest, starts) = n.jump in
        let found : read_at code at ≡ good (instruction_of 0x75 0 no_operand n.byte) 2 =
        simp (le-ltb longest_code (length code) n.code_fits) (ap read_part starts ∙ jump_read n.byte rest) in
        nineteen (instruction_of 0x75 0 no_operand n.byte) 2 (record { fits = n.fits; read = found }) refl n.clear
        ((astray_exactly (length code) at n.byte).1 n.beyond)
