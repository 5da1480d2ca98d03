-- Where a run goes on after an instruction: behind it, or at the target of a jump that is taken.
use Rattle.std.specs.Prelude.{Bool, cond, not, ◌&&◌, ℕ, ◌+◌, ◌-◌, eqb, leb}
use Rattle.reorder.specs.Result.{Result, done, refused}
use Rattle.codec.specs.Contents.{jump_if_not_zero}
use Rattle.codec.specs.declared.Instruction.{Instruction}
use Rattle.manual.specs.Refusals.{jumps_outside}
use Rattle.manual.specs.State.{State}

abbrev pub is_jump : Instruction → Bool
is_jump i = eqb i.first jump_if_not_zero

-- 256 more than a jump's target, which is the position behind it plus the signed byte, and may be before 0
abbrev pub ahead : ℕ → ℕ → ℕ
ahead behind byte = behind + cond (leb 128 byte) byte (byte + 256)

-- the target in a code of so many bytes, or 19 where it is before 0 or past the end
unfoldable pub jumped : ℕ → ℕ → ℕ → Result ℕ
jumped length behind byte =
    let sum = ahead behind byte in cond (leb 256 sum && leb sum (length + 256)) (done (sum - 256)) (refused jumps_outside)

-- in a code of so many bytes, by the zero mark, with the position behind the instruction: a jump is taken where the mark is clear
unfoldable pub onward_by : ℕ → Instruction → Bool → ℕ → Result ℕ
onward_by length i zero behind = cond (is_jump i && not zero) (jumped length behind i.immediate) (done behind)

-- the same, in the state before the instruction
abbrev pub next : ℕ → Instruction → State → ℕ → Result ℕ
next length i s behind = onward_by length i s.marks.zero behind
