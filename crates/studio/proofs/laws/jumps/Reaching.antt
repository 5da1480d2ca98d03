-- Whether reading reaches a jump, as the code's loop finds it: reading from the position that the loop has come to reaches one just where reading
-- from 0 does.
use Rattle.std.specs.Prelude.{◌≡◌, true, false, Bool, ◌||◌, List, ℕ, ◌+◌, ◌-◌, ◌≤◌, ◌<◌, length, drop, Ok, Err}
use Rattle.basis.proofs.Names.{sym, ap, ◌∙◌, arith, rules, eq-eqb, ne_eqb, lt-ltb, le-ltb, length-drop, drop-drop}
use Rattle.reorder.specs.Result.{done}
use Rattle.reorder.specs.Run.{Fetched}
use Rattle.reorder.specs.Block.{reaches}
use Rattle.reorder.proofs.Parting.{reaches_first, reaches_unread}
use Rattle.codec.specs.Contents.{jump_if_not_zero}
use Rattle.codec.specs.Table.{opcode_table}
use Rattle.codec.specs.Reads.{longest_code, read_part, read_at}
use Rattle.codec.specs.Finding.{find_with}
use Rattle.codec.specs.declared.Found.{Found}
use Rattle.codec.specs.declared.Instruction.{Instruction}
use Rattle.codec.proofs.OurTable.{read_next, read_on, read_stop}
use Rattle.manual.specs.Jumps.{is_jump}
use Rattle.manual.specs.Steps.{result_of}
use Rattle.manual.specs.Runs.{read, reaches_jump}
use Rattle.manual.proofs.Locality.{local_reader}

module _ (code : List ℕ) where
  -- a code that is too long is not read
  pub not_read : longest_code < length code → false ≡ reaches_jump code
  not_read h = simp (lt-ltb longest_code (length code) h)

  module _ (fits : length code ≤ longest_code) (at : ℕ) (same : reaches read is_jump (drop at code) ≡ reaches read is_jump code) where
    -- so the answer from there is the answer
    answered : (t : Bool) → reaches read is_jump (drop at code) ≡ t → t ≡ reaches_jump code
    answered t e = simp (le-ltb longest_code (length code) fits) (sym e ∙ same)

    reading : read_at code at ≡ read_part (drop at code)
    unfolding read_at
    reading = simp (le-ltb longest_code (length code) fits)

    -- nothing was found at the position
    pub unread_without : (n : ℕ) (table : List ℕ) → table ≡ opcode_table → Err n ≡ find_with table code at → false ≡ reaches_jump code
    unfolding read
    unread_without n table ours e =
        answered false
        (reaches_unread read local_reader is_jump (drop at code) n (ap result_of (sym (read_stop code at n table ours e fits ∙ reading))))

    -- an instruction was
    module _ (table : List ℕ) (x : Found) (ours : table ≡ opcode_table) (e : Ok x ≡ find_with table code at) where
      abbrev found : Fetched Instruction
      found = record { instruction = x.instruction; size = x.next - at }

      stands : read (drop at code) ≡ done found
      unfolding read
      stands = ap result_of (sym (read_on code at x table ours e fits ∙ reading))

      -- what is left of the code is less
      pub nearer : length code - x.next < length code - at
      nearer = omega (arith, local_reader.some_bytes (drop at code) found stands, length-drop at code)

      first : reaches read is_jump (drop at code) ≡ (is_jump x.instruction || reaches read is_jump (drop x.next code))
      first =
          reaches_first read local_reader is_jump (drop at code) found stands
          ∙ ap (λ (bytes : List ℕ). is_jump x.instruction || reaches read is_jump bytes)
          (drop-drop (x.next - at) at code ∙ ap (λ (n : ℕ). drop n code) behind)
        where
          behind : at + (x.next - at) ≡ x.next
          behind = omega (arith, read_next code at x table ours e)

      pub jump_found : x.instruction.first ≡ jump_if_not_zero → true ≡ reaches_jump code
      jump_found jump = answered true (simp (eq-eqb x.instruction.first jump_if_not_zero jump) at first)

      pub passed_by : (x.instruction.first ≡ jump_if_not_zero → ⊥) → reaches read is_jump (drop x.next code) ≡ reaches read is_jump code
      passed_by other = sym (simp (ne_eqb x.instruction.first jump_if_not_zero other) at first) ∙ same

pub ruleset reaching = (rules, not_read, unread_without, nearer, jump_found, passed_by)
