-- The writer's tests, from what the code has found: rules for the functions that say whether a record has bytes.
use Rattle.std.specs.Prelude.{ℕ, zero, suc, ◌^◌, ◌<◌, ◌≡◌, refl, Bool, true, false, ◌&&◌, eqb, ltb}
use Rattle.basis.proofs.Names.{sym, ap, ◌∙◌, and-true, arith, rules, lt-ltb, eq-eqb, ne_eqb, le-ltb}
use Rattle.codec.specs.Forms.{Form, has_operand, allows, immediate_size, accepts}
use Rattle.codec.specs.Opcodes.{form_for, escape}
use Rattle.codec.specs.Table.{form_of}
use Rattle.codec.specs.inner.Fields.{Sized}
use Rattle.codec.specs.Fits.{fits, operand_fits, operand_is_zero, parts_fit, opcode_fits, has_bytes}
use Rattle.codec.specs.declared.Operand.{Operand}
use Rattle.codec.specs.declared.Instruction.{Instruction}
use Rattle.codec.proofs.Tests.{tests}
use Rattle.codec.proofs.FormNumbers.{form_there}

-- a field of no bytes
zero_fits : (v : ℕ) → eqb v 0 ≡ ltb v 1
zero_fits zero = refl
zero_fits (suc v) =
    let p : suc v ≡ 0 → ⊥ = λ e. omega arith in
    ne_eqb (suc v) 0 p ∙ sym (le-ltb (suc v) 1 (omega arith))

-- a field of k bytes
module _ (k v : ℕ) where
  pub field_0 : k ≡ 0 → eqb v 0 ≡ fits k v
  field_0 e = simp e (zero_fits v)

  pub field_1 : k ≡ 1 → ltb v 256 ≡ fits k v
  field_1 e = simp e

  pub field_4 : Sized k → (k ≡ 0 → ⊥) → (k ≡ 1 → ⊥) → v < 2 ^ 32 → true ≡ fits k v
  field_4 z n m h = simp (z.four n m) (sym (lt-ltb v (2 ^ 32) h))

-- an immediate
module _ (n v k : ℕ) (sized : k ≡ immediate_size (form_of n)) (t : Bool) (g : t ≡ fits k v) where
  abbrev immediate_fits : Bool
  immediate_fits = fits (immediate_size (form_of n)) v && accepts (form_of n) v

  pub immediate_no : t ≡ false → false ≡ immediate_fits
  immediate_no e = simp (← sized, ← g, e)

  pub immediate_yes : (r : Bool) → t ≡ true → r ≡ accepts (form_of n) v → r ≡ immediate_fits
  immediate_yes r e h = simp (← sized, ← g, e) h

-- the parts after the opcode
module _ (n : ℕ) (w : Operand) (v : ℕ) where
  pub parts_absent : n ≡ 0 → false ≡ parts_fit (form_of n) w v
  unfolding parts_fit
  parts_absent e = simp e

  module _ (a : n ≡ 0 → ⊥) (o : Bool) (has : o ≡ has_operand (form_of n)) where
    -- no operand
    module _ (b : o ≡ false) (x : Bool) (z : x ≡ operand_is_zero w) where
      pub zero_no : x ≡ false → false ≡ parts_fit (form_of n) w v
      unfolding parts_fit
      zero_no h = simp (form_there n a, ← has, b, ← z, h)

      pub zero_yes : (r : Bool) → x ≡ true → r ≡ (fits (immediate_size (form_of n)) v && accepts (form_of n) v) → r ≡ parts_fit (form_of n) w v
      unfolding parts_fit
      zero_yes r h f = simp (form_there n a, ← has, b, ← z, h, and-true) f

    module _ (b : o ≡ true) (t : Bool) (g : t ≡ allows (form_of n) w.mode w.reg w.rm) where
      pub parts_stop : t ≡ false → false ≡ parts_fit (form_of n) w v
      unfolding parts_fit
      parts_stop h = simp (form_there n a, ← has, b, ← g, h)

      module _ (y : t ≡ true) (x : Bool) (z : x ≡ operand_fits w) where
        pub parts_no : x ≡ false → false ≡ parts_fit (form_of n) w v
        unfolding parts_fit
        parts_no h = simp (form_there n a, ← has, b, ← g, y, ← z, h)

        pub parts_yes : (r : Bool) → x ≡ true → r ≡ (fits (immediate_size (form_of n)) v && accepts (form_of n) v) → r ≡ parts_fit (form_of n) w v
        unfolding parts_fit
        parts_yes r h f = simp (form_there n a, ← has, b, ← g, y, ← z, h, and-true) f

-- the opcode bytes
module _ (first second : ℕ) where
  pub opcode_two : first ≡ escape → second < 256 → true ≡ opcode_fits first second
  unfolding opcode_fits
  opcode_two e h = simp (eq-eqb first escape e, lt-ltb second 256 h)

  pub opcode_one : (first ≡ escape → ⊥) → first < 256 → eqb second 0 ≡ opcode_fits first second
  unfolding opcode_fits
  opcode_one e h = simp (ne_eqb first escape e, lt-ltb first 256 h)

-- the record, by the number n of its form
module _ (i : Instruction) (t : Bool) (g : t ≡ opcode_fits i.first i.second) where
  pub has_no : t ≡ false → false ≡ has_bytes i
  unfolding has_bytes
  has_no h = simp (← g, h)

  pub has_parts : (n : ℕ) (r : Bool) → form_of n ≡ form_for i.first i.second → t ≡ true → r ≡ parts_fit (form_of n) i.operand i.immediate
      → r ≡ has_bytes i
  unfolding has_bytes
  has_parts n r e h f = simp (← g, h, and-true) (f ∙ ap (λ (x : Form). parts_fit x i.operand i.immediate) e)

pub ruleset checks = (rules, tests, field_0, field_1, field_4, immediate_no, immediate_yes, parts_absent, zero_no, zero_yes, parts_stop, parts_no, parts_yes, opcode_two, opcode_one, has_no, has_parts)
