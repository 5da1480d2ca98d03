-- The footprint that no control mark stops, by the way. Rules for what the code makes of an instruction.
use Rattle.std.specs.Prelude.{◌≡◌, refl, Bool, true, false, cond, ℕ, ◌/◌, ◌^◌, length}
use Rattle.basis.proofs.Names.{sym, ap, subst, ◌∙◌, arith, rules, or_zero_r}
use Rattle.lanes.specs.Operations.{Operation, operate, operate_three}
use Rattle.reorder.specs.Result.{Result, done, refused}
use Rattle.codec.specs.Forms.{rm/mem, Form, memory_size}
use Rattle.codec.specs.Table.{form_of}
use Rattle.codec.specs.inner.Entries.{operation_in}
use Rattle.codec.specs.inner.Fields.{Registers}
use Rattle.codec.specs.Operands.{has_sib}
use Rattle.codec.specs.declared.Operand.{Operand}
use Rattle.codec.specs.declared.Instruction.{Instruction}
use Rattle.manual.specs.State.{State}
use Rattle.manual.specs.Addresses.{displacement_of, base_of, address_of, address}
use Rattle.manual.specs.Locations.{Location, rm_of, at_edi, lies_inside, places_of}
use Rattle.manual.specs.Instructions.{kept_by, effect_by}
use Rattle.machine.specs.declared.Footprint.{Footprint}
use Rattle.machine.specs.declared.reaches.Reach.{Reach}
use Rattle.machine.specs.declared.ways.Way.{Way}
use Rattle.machine.specs.declared.ways.Way.TheVariants.{Empties, Passes, Shifts, Extracts, Stores, Loads, Computes, Suffixes, Inserts, Shuffles, Masks}
use Rattle.machine.specs.inner.Reaches.{nowhere, reach_of, edi_operand, pointed_by, footprint_of_way, unmarked_footprint}
use Rattle.machine.specs.inner.Spots.{file_in, other_of}
use Rattle.machine.specs.inner.Ways.{way_of, has_other}
use Rattle.machine.specs.inner.Works.{effect_in, Listed}
use Rattle.machine.proofs.laws.ways.Numbering.{HasWay, empties, passes_fence, passes_prefetch, shifts_WD, shifts_Q, extracts_word, extracts_bits, inserts, shuffles, masks, suffixes, streams, stores, loads, computes, goes, two_tested}
use Rattle.machine.proofs.laws.footprints.ByWay.{traced_as, store_footprint, load_footprint, compute_footprint, mask-footprint}

module _ (s : State) (entry : ℕ) (i : Instruction) where
  abbrev form : ℕ
  form = entry / 2 ^ 24

  abbrev named : Operation
  named = operation_in entry i.operand.reg

  abbrev other : Way → Form → Location
  other y f = rm_of (file_in f.operands) (memory_size f) (pointed_by y i.operand)

  -- what a move leaves of a number
  abbrev copied : ℕ → ℕ
  copied v = operate named v v

  footprints : (form ≡ 16 → ⊥) → (y : Way) (f : Form) → HasWay form y f → unmarked_footprint (effect_by f named i) s
      ≡ traced_as (footprint_of_way y i.operand) (cond (has_other y) (reach_of (other y f) (places_of s (other y f))) (done (record { registers = 0; places = nowhere })))
  unfolding unmarked_footprint rm_of address_of has_sib base_of displacement_of
  footprints plain y f empties = refl
  footprints plain y f passes_fence = refl
  footprints plain y f passes_prefetch = refl
  footprints plain y f shifts_WD = refl
  footprints plain y f shifts_Q = refl
  footprints plain y f (extracts_word e) = simp or_zero_r
  footprints plain y f (extracts_bits e) = simp or_zero_r
  footprints plain y f (inserts e x) = compute_footprint s i.operand (other y f) (λ old v. operate_three named old v i.immediate) (places_of s (other y f))
  footprints plain y f (shuffles e x) = load_footprint s i.operand (other y f) (λ v. operate named v i.immediate) (places_of s (other y f))
  footprints plain y f (masks e x) =
      let a = address s.integers at_edi in
      mask-footprint s i.operand (operate_three named) (lies_inside (length s.memory) 8 a) a
  footprints plain y f (suffixes e x) = absurd (plain e)
  footprints plain y f (streams moves x) = store_footprint s i.operand (other y f) copied (places_of s (other y f))
  footprints plain y f (stores file size moves x) = store_footprint s i.operand (other y f) (λ v. kept_by (rm/mem file size) (copied v)) (places_of s (other y f))
  footprints plain y f (loads file size moves x) = load_footprint s i.operand (other y f) copied (places_of s (other y f))
  footprints plain y f (computes file size x) = compute_footprint s i.operand (other y f) (operate named) (places_of s (other y f))

  module _ (l : Listed entry) (plain : form ≡ 16 → ⊥) (y : Way) (way : y ≡ way_of form) (t : Bool) (test : t ≡ has_other y) where
    pub traced_few : (f : Footprint) → t ≡ false → f ≡ footprint_of_way y i.operand 0 nowhere → done f ≡ unmarked_footprint (effect_in entry i) s
    traced_few f few e = simp (footprints plain y (form_of form) (goes entry l y y way refl), ← test, few, e)

    module _ (two : t ≡ true) (p : Operand) (pointed : p ≡ pointed_by y i.operand) (r : Result Reach)
        (reached : r ≡ reach_of (other_of form p) (places_of s (other_of form p))) where
      traced : traced_as (footprint_of_way y i.operand) r ≡ unmarked_footprint (effect_in entry i) s
      traced = simp (footprints plain y (form_of form) (goes entry l y y way refl), ← test, two, ← pointed, ← reached)

      pub traced_inside : (f : Footprint) (x : Reach) → r ≡ done x → f ≡ footprint_of_way y i.operand x.registers x.places → done f ≡ unmarked_footprint (effect_in entry i) s
      traced_inside f x inside e = ap done e ∙ ap (traced_as (footprint_of_way y i.operand)) (sym inside) ∙ traced

      pub traced_outside : (n : ℕ) → r ≡ refused n → refused n ≡ unmarked_footprint (effect_in entry i) s
      traced_outside n e = ap (traced_as (footprint_of_way y i.operand)) (sym e) ∙ traced

-- the operand that may be in memory
module _ (y : Way) (w : Operand) where
  pub pointed_registers : (p : Operand) → p ≡ pointed_by y w → Registers w → Registers p
  pointed_registers p e r = subst Registers (sym e) (by y)
    where
      edi : Registers edi_operand
      edi = record { reg = omega arith; rm = omega arith; index = omega arith; base = omega arith }

      by : (z : Way) → Registers (pointed_by z w)
      by Empties = r
      by Passes = r
      by Shifts = r
      by Extracts = r
      by Stores = r
      by Loads = r
      by Computes = r
      by Suffixes = r
      by Inserts = r
      by Shuffles = r
      by Masks = edi

pub ruleset form_rules = (rules, two_tested, pointed_registers, traced_few, traced_inside, traced_outside)
