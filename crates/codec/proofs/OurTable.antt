-- Reading with our table: what is found at a position, less that position, is the defined reading. Rules for `read`.
use Rattle.std.specs.Prelude.{ℕ, ◌+◌, ◌-◌, ◌≤◌, ◌<◌, ◌≡◌, refl, Bool, cond, List, length, drop, Result, Ok, Err}
use Rattle.basis.proofs.Names.{sym, ap, ◌∙◌, arith, add-zero, rules, lt-ltb, le-ltb}
use Rattle.codec.specs.Refusals.{code_too_long}
use Rattle.codec.specs.Opcodes.{form_at}
use Rattle.codec.specs.Table.{opcode_table}
use Rattle.codec.specs.Reader.{Reader, reads}
use Rattle.codec.specs.Reads.{instruction_reader, longest_code, read_part, read_at}
use Rattle.codec.specs.Finding.{entry_for, found_in, find_with}
use Rattle.codec.specs.declared.Found.{Found}
use Rattle.codec.specs.Answers.{Decoded, good, refused}
use Rattle.codec.proofs.Readers.{moved, reads_moved}
use Rattle.codec.proofs.Entries.{same_reader}

module _ (code : List ℕ) (at : ℕ) where
  -- With our table, what is found is the defined reading, as far on as the position.
  find_ours : find_with opcode_table code at ≡ found_in opcode_table (moved at (read_part (drop at code)))
  unfolding find_with
  find_ours =
      ap (λ (r : Reader). found_in opcode_table (reads r at (drop at code))) same_reader
      ∙ ap (found_in opcode_table)
      (ap (λ (n : ℕ). reads (instruction_reader form_at) n (drop at code)) (sym (add-zero at))
      ∙ reads_moved (instruction_reader form_at) at 0 (drop at code))

  pub read_long : longest_code < length code → refused code_too_long ≡ read_at code at
  unfolding read_at
  read_long h = simp (lt-ltb longest_code (length code) h)

  read_fits : length code ≤ longest_code → read_part (drop at code) ≡ read_at code at
  unfolding read_at
  read_fits h = ap (λ (t : Bool). cond t (refused code_too_long) (read_part (drop at code))) (sym (le-ltb longest_code (length code) h))

  -- from what was found to the reading z
  found_good : (x : Found) (z : Decoded) → Ok x ≡ found_in opcode_table (moved at z) → (at ≤ x.next) × (good x.instruction (x.next - at) ≡ z)
  found_good x (good i n) e =
      let is : x ≡ record { entry = entry_for opcode_table i; instruction = i; next = at + n } = cc in
      let p : x.next ≡ at + n = ap (λ (y : Found). y.next) is in
      let q : x.next - at ≡ n = omega arith in
      let j : x.instruction ≡ i = ap (λ (y : Found). y.instruction) is in
      (omega arith, cc)
  found_good x (refused n) e = absurd (cc)

  found-refused : (n : ℕ) (z : Decoded) → Err n ≡ found_in opcode_table (moved at z) → refused n ≡ z
  found-refused n (good i k) e = absurd (cc)
  found-refused n (refused k) e = cc

  module _ (x : Result Found ℕ) (table : List ℕ) (t : table ≡ opcode_table) (e : x ≡ find_with table code at) where
    pub found_ours : (z : Decoded) → read_part (drop at code) ≡ z → x ≡ found_in opcode_table (moved at z)
    found_ours z r = e ∙ ap (λ (l : List ℕ). find_with l code at) t ∙ find_ours ∙ ap (λ (y : Decoded). found_in opcode_table (moved at y)) r

  module _ (x : Found) (table : List ℕ) (t : table ≡ opcode_table) (e : Ok x ≡ find_with table code at) where
    reading : (at ≤ x.next) × (good x.instruction (x.next - at) ≡ read_part (drop at code))
    reading = found_good x (read_part (drop at code)) (found_ours (Ok x) table t e _ refl)

    pub read_next : at ≤ x.next
    read_next = reading.0

    pub read_on : length code ≤ longest_code → good x.instruction (x.next - at) ≡ read_at code at
    read_on h = reading.1 ∙ read_fits h

  pub read_stop : (n : ℕ) (table : List ℕ) → table ≡ opcode_table → Err n ≡ find_with table code at → length code ≤ longest_code → refused n ≡ read_at code at
  read_stop n table t e h = found-refused n (read_part (drop at code)) (found_ours (Err n) table t e _ refl) ∙ read_fits h

pub ruleset our_table = (rules, read_long, read_next, read_on, read_stop)
