-- The control marks, by the one number that they refuse by, and the table that goes with it.
use Rattle.std.specs.Prelude.{cond, List, ℕ, eqb, replicate, Option, Some, None}
use Rattle.refusals.specs.declared.Refusal.{Refusal}
use Rattle.refusals.specs.Numbers.{number_of}
use Rattle.codec.specs.Table.{opcode_table}
use Rattle.manual.specs.declared.Marks.{Marks}
use Rattle.manual.specs.Refusals.{invalid_opcode, not_available, is_pending}

-- the number of a refusal if there is one, or 0
abbrev pub number_in : Option Refusal → ℕ
number_in None = 0
number_in (Some refusal) = number_of refusal

-- the refusal of the control marks, or 0
unfoldable pub barred_by : Marks → ℕ
barred_by marks = cond marks.em invalid_opcode (cond marks.ts not_available (cond marks.pending is_pending 0))

-- the table by which instructions are read at once: ours, or one without an entry where the control marks refuse
unfoldable pub open_table : ℕ → List ℕ
open_table bar = cond (eqb bar 0) opcode_table (replicate 256 0)
