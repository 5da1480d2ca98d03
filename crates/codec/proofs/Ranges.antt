-- A record that has bytes is in range: its fields fit their places, and a place has its bits.
use Rattle.std.specs.Prelude.{ℕ, ◌^◌, ◌<◌, ◌≡◌, refl, Bool, true, false}
use Rattle.basis.proofs.Names.{sym, subst, arith, eqb-true}
use Rattle.codec.specs.Forms.{Form, has_operand, allows, immediate_size}
use Rattle.codec.specs.Opcodes.{form_for, escape}
use Rattle.codec.specs.Operands.{has_sib, displacement_size}
use Rattle.codec.specs.inner.Fields.{Fields, Registers}
use Rattle.codec.specs.Fits.{operand_fits, has_bytes}
use Rattle.codec.specs.declared.Operand.{Operand}
use Rattle.codec.specs.declared.Instruction.{Instruction}
use Rattle.words.proofs.Laws.{and_both}
use Rattle.codec.proofs.Given.{no_registers}
use Rattle.codec.proofs.Facts.{Fit, fit, sib_there, sib_absent, zero_is, Parts, Opcoded, two, one, opcoded, bytewise}

pub record OperandInRange (w : Operand) : Type 0 where
  pub mode : w.mode < 4
  pub scale : w.scale < 4
  pub registers : Registers w
  pub displacement : w.displacement < 256 ^ displacement_size w.mode w.rm w.base

pub record InRange (i : Instruction) : Type 0 where
  pub first : i.first < 256
  pub second : i.second < 256
  pub operand : OperandInRange i.operand
  pub immediate : i.immediate < 256 ^ immediate_size (form_for i.first i.second)

fit_in_range : (w : Operand) → Fit w → OperandInRange w
fit_in_range w f = by (has_sib w.mode w.rm) refl
  where
    made : Fields w.scale w.index w.base → OperandInRange w
    made s =
        record {
          mode = f.modrm.upper_fits;
          scale = s.upper_fits;
          registers = record { reg = f.modrm.middle-fits; rm = f.modrm.lower-fits; index = s.middle-fits; base = s.lower-fits };
          displacement = f.displacement;
        }

    by : (t : Bool) → has_sib w.mode w.rm ≡ t → OperandInRange w
    by true e = made (sib_there w.scale w.index w.base (simp e at f.sib))
    by false e =
        let z = sib_absent w.scale w.index w.base (simp e at f.sib) in
        made (record { upper_fits = omega (arith, z.0); middle-fits = omega (arith, z.1.0); lower-fits = omega (arith, z.1.1) })

parts_in_range : (t : Bool) (form : Form) (w : Operand) (v : ℕ) → has_operand form ≡ t → Parts form w v → OperandInRange w
unfolding displacement_size
parts_in_range true form w v e p =
    fit_in_range w (fit w (and_both (allows form w.mode w.reg w.rm) (operand_fits w) (simp e at p.operand)).1)
parts_in_range false form w v e p =
    subst OperandInRange (sym (zero_is w (simp e at p.operand)))
    (record { mode = omega arith; scale = omega arith; registers = no_registers; displacement = omega arith })

opcode_in_range : (first second : ℕ) → Opcoded first second → (first < 256) × (second < 256)
opcode_in_range first second (two e h) = (omega (arith, eqb-true first escape e), h)
opcode_in_range first second (one e h z) = (h, omega arith)

pub has_in_range : (i : Instruction) → has_bytes i ≡ true → InRange i
has_in_range i e =
    let b = bytewise i e in
    let form = form_for i.first i.second in
    let (first, second) = opcode_in_range i.first i.second (opcoded i.first i.second b.opcode) in
    record {
      first = first;
      second = second;
      operand = parts_in_range (has_operand form) form i.operand i.immediate refl b.parts;
      immediate = b.parts.immediate;
    }
