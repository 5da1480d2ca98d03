-- The theorems of the codec: bytes and records match one to one, reading is local, and what is read is in range.
use Rattle.std.specs.Prelude.{ℕ, ◌≤◌, ◌≡◌, refl, Bool, true, false, cond, List, [], ◌++◌, eqb, ltb, leb, length, take, drop, ◌↔◌, Ok}
use Rattle.basis.proofs.Names.{sym, ap, subst, ◌∙◌, false≢true, append-nil, arith, le-ltb}
use Rattle.words.specs.Number.{AllBytes}
use Rattle.codec.specs.Refusals.{code_too_long, no_bytes, buffer_ends}
use Rattle.codec.specs.Opcodes.{form_at, escape}
use Rattle.codec.specs.inner.Fields.{Registers}
use Rattle.codec.specs.Table.{form_in}
use Rattle.codec.specs.Reader.{reads}
use Rattle.codec.specs.Reads.{second_reader, first_reader, instruction_reader, longest_code, read_part, read_at}
use Rattle.codec.specs.Finding.{entry_for, found_in, find_with}
use Rattle.codec.specs.Fits.{has_bytes}
use Rattle.codec.specs.Writes.{bytes_of, write_to}
use Rattle.codec.specs.declared.Instruction.{Instruction}
use Rattle.codec.specs.declared.Found.{Found}
use Rattle.codec.specs.Answers.{Decoded, good, refused, wrote, refused_with}
use Rattle.words.proofs.Numbers.{all_drop}
use Rattle.codec.proofs.Readers.{Holds, own, takes_one}
use Rattle.codec.proofs.Given.{Known, Refusal, reads_known}
use Rattle.codec.proofs.Spelling.{read_spells}
use Rattle.codec.proofs.ReadingBack.{bytes_read, bytes_are_bytes}
use Rattle.codec.proofs.Ranges.{InRange, has_in_range}

-- a good reading at a position is that of what is left there
fits_inv : (t : Bool) (z : Decoded) (i : Instruction) (n : ℕ) → cond t (refused code_too_long) z ≡ good i n → z ≡ good i n
fits_inv true z i n e = absurd (false≢true (cc))
fits_inv false z i n e = e

at_part : (code : List ℕ) (at : ℕ) (i : Instruction) (n : ℕ) → read_at code at ≡ good i n → read_part (drop at code) ≡ good i n
unfolding read_at
at_part code at i n e = fits_inv (ltb longest_code (length code)) (read_part (drop at code)) i n e

-- 1. What is read writes back: if a position reads as a record of n bytes, the record has bytes, and they are those n bytes.
pub read_writes_back : (code : List ℕ) (at : ℕ) (i : Instruction) (n : ℕ) → AllBytes code → read_at code at ≡ good i n
    → (has_bytes i ≡ true) × (bytes_of i ≡ take n (drop at code))
read_writes_back code at i n b e = read_spells (drop at code) i n (all_drop at code b) (at_part code at i n e)

-- 2. What is written reads back, whatever follows it: at any position where the record's bytes stand.
pub written-reads_back : (code : List ℕ) (at : ℕ) (i : Instruction) (rest : List ℕ) → has_bytes i ≡ true
    → length code ≤ longest_code
    → drop at code ≡ bytes_of i ++ rest → read_at code at ≡ good i (length (bytes_of i))
unfolding read_at
written-reads_back code at i rest e h d =
    ap (λ (t : Bool). cond t (refused code_too_long) (read_part (drop at code))) (le-ltb longest_code (length code) h)
    ∙ ap read_part d ∙ bytes_read i rest e

-- 3. 11 is given exactly where no byte string reads as the record.
abbrev pub NoBytes : Instruction → Type 0
NoBytes i = (s : List ℕ) (n : ℕ) → AllBytes s → read_part s ≡ good i n → ⊥

none_false : (t : Bool) → (t ≡ true → ⊥) → t ≡ false
none_false true h = absurd (h refl)
none_false false h = refl

eleven_only : (t u : Bool) (n : ℕ) (after before : List ℕ)
    → cond t (cond u (wrote n after) (refused_with buffer_ends before)) (refused_with no_bytes before) ≡ refused_with no_bytes before
    → t ≡ false
eleven_only true true n after before e = absurd (false≢true (cc))
eleven_only true false n after before e = absurd (false≢true (cc))
eleven_only false u n after before e = refl

pub eleven_exactly : (i : Instruction) (buffer : List ℕ) → (write_to i buffer ≡ refused_with no_bytes buffer) ↔ NoBytes i
unfolding write_to
eleven_exactly i buffer = (only, exactly)
  where
    only : write_to i buffer ≡ refused_with no_bytes buffer → NoBytes i
    only e s n b r =
        let m = length (bytes_of i) in
        let f = eleven_only (has_bytes i) (leb m (length buffer)) m (bytes_of i ++ drop m buffer) buffer e in
        let g = (read_spells s i n b r).0 in
        false≢true (cc)

    exactly : NoBytes i → write_to i buffer ≡ refused_with no_bytes buffer
    exactly h =
        simp (none_false (has_bytes i) (λ e. h (bytes_of i) (length (bytes_of i)) (bytes_are_bytes i e) (ap read_part (sym (append-nil (bytes_of i))) ∙ bytes_read i [] e)))

-- 4. Reading is local: a good reading takes at least one byte and none past the end, and depends on its own bytes alone.
pub record Local (s : List ℕ) (i : Instruction) (n : ℕ) : Type 0 where
  pub some : 1 ≤ n
  pub within : n ≤ length s
  pub again : (tail : List ℕ) → read_part (take n s ++ tail) ≡ good i n

pub reading_is_local : (s : List ℕ) (i : Instruction) (n : ℕ) → read_part s ≡ good i n → Local s i n
unfolding instruction_reader
reading_is_local s i n e =
    let o = own (instruction_reader form_at) 0 s i n e in
    let l : o.size ≡ n = omega (arith, o.ends) in
    record {
      some = takes_one (λ first. cond (eqb first escape) (second_reader form_at first) (first_reader first)) 0 s i n e;
      within = omega (arith, o.within);
      again = λ tail.
          ap (λ (k : ℕ). read_part (take k s ++ tail)) (sym l) ∙ o.again 0 tail ∙ ap (good i) (sym o.ends);
    }

-- 5. A good reading's fields are in range, as `InRange` says: mode and scale below 4, registers below 8, and no field is more than its bytes hold.
pub reading_in_range : (s : List ℕ) (i : Instruction) (n : ℕ) → AllBytes s → read_part s ≡ good i n → InRange i
reading_in_range s i n b e = has_in_range i (read_spells s i n b e).0

-- With any table and any code, the registers of what is found are below 8.
pub found_registers : (table code : List ℕ) (at : ℕ) (x : Found) → Ok x ≡ find_with table code at → Registers x.instruction.operand
unfolding find_with
found_registers table code at x e = by (reads (instruction_reader (form_in table)) at (drop at code)) (reads_known (form_in table) at (drop at code)) e
  where
    by : (z : Decoded) → Holds (Known (form_in table)) Refusal z → Ok x ≡ found_in table z → Registers x.instruction.operand
    by (good i n) g e =
        let is : record { entry = entry_for table i; instruction = i; next = n } ≡ x = cc in
        subst (λ (y : Found). Registers y.instruction.operand) is g.registers
    by (refused n) g e = absurd (cc)
