-- Where the code finds the operand that r/m names: each law by cases on what it may be. Rules for the functions that locate it and go by its place.
use Rattle.std.specs.Prelude.{◌≡◌, Bool, true, false, cond, List, ℕ, ◌+◌, ◌/◌, ◌%◌, ◌^◌, ◌<◌, eqb, leb}
use Rattle.basis.proofs.Names.{sym, ap, subst, ◌∙◌, arith, rules, eq-eqb, ne_eqb}
use Rattle.reorder.specs.Result.{Result, done, refused}
use Rattle.codec.specs.Forms.{File, mmx_file, integer_file, memory_size}
use Rattle.codec.specs.inner.Fields.{Registers}
use Rattle.codec.specs.Table.{form_of}
use Rattle.codec.specs.declared.Operand.{Operand}
use Rattle.manual.specs.Addresses.{address_of, address}
use Rattle.manual.specs.Locations.{Location, mmx_register, integer_register, memory, register_in, rm_of, lies_inside, miss_of}
use Rattle.machine.specs.declared.operands.Spot.{Spot}
use Rattle.machine.specs.declared.operands.Spot.TheVariants.{Mmx, Integer, Bytes}
use Rattle.machine.specs.inner.Spots.{file_in, other_of, spot_of, NamedIn}
use Rattle.machine.specs.inner.Ways.{is_integer, way_of, has_other}
use Rattle.machine.specs.inner.Works.{Listed}
use Rattle.machine.proofs.laws.ways.Numbering.{other}

-- what holds of a register of either file, and of so many bytes in memory, holds of the operand that r/m names
pub by_place : (P : File → Location → Type 0) (file : File) (size : ℕ) (w : Operand) → P mmx_file (mmx_register w.rm) → P integer_file (integer_register w.rm)
    → ((f : File) → P f (memory (address_of w) size)) → P file (rm_of file size w)
unfolding rm_of
by_place P file size w a b c = by (eqb w.mode 3) file
  where
    by : (t : Bool) (f : File) → P f (cond t (register_in f w.rm) (memory (address_of w) size))
    by true mmx_file = a
    by true integer_file = b
    by false f = c f

module _ (integers : List ℕ) (room : ℕ) where
  -- a register that r/m names is there
  named : (file : File) (size : ℕ) (w : Operand) → w.rm < 8 → NamedIn (spot_of integers room (rm_of file size w))
  named file size w r =
      by_place (λ f x. NamedIn (spot_of integers room x)) file size w r r
      (λ f. inside (lies_inside room size (address integers (address_of w))) (address integers (address_of w)))
    where
      inside : (u : Bool) (a : ℕ) → NamedIn (cond u (done (Bytes a size)) (refused (miss_of (address_of w))))
      inside true a = tt
      inside false a = tt

  module _ (entry : ℕ) (w : Operand) where
    abbrev form : ℕ
    form = entry / 2 ^ 24

    abbrev here : Result Spot
    here = spot_of integers room (other_of form w)

    pub spot_named : (x : Result Spot) → x ≡ here → Registers w → NamedIn x
    spot_named x e r = subst NamedIn (sym e) (named (file_in (form_of form).operands) (memory_size (form_of form)) w r.rm)

    module _ (l : Listed entry) (two : has_other (way_of form) ≡ true) where
      module _ (register : w.mode ≡ 3) where
        in_register : (file : File) → file_in (form_of form).operands ≡ file → spot_of integers room (register_in file w.rm) ≡ here
        unfolding rm_of
        in_register file e = simp (eq-eqb w.mode 3 register, e)

        module _ (t : Bool) (test : t ≡ is_integer form) where
          by_test : file_in (form_of form).operands ≡ cond t integer_file mmx_file
          by_test = (other entry l two).named ∙ ap (λ (u : Bool). cond u integer_file mmx_file) (sym test)

          pub spot_mmx : t ≡ false → done (Mmx w.rm) ≡ here
          spot_mmx e = in_register mmx_file (simp e at by_test)

          pub spot_integer : t ≡ true → done (Integer w.rm) ≡ here
          spot_integer e = in_register integer_file (simp e at by_test)

      module _ (elsewhere : w.mode ≡ 3 → ⊥) (a : ℕ) (there : a ≡ address integers (address_of w))
          (t : Bool) (test : t ≡ leb (a + entry / 2 ^ 16 % 256) room) where
        tested : cond t (done (Bytes a (entry / 2 ^ 16 % 256))) (refused (miss_of (address_of w))) ≡ here
        unfolding rm_of
        tested = simp (ne_eqb w.mode 3 elsewhere, ← l.sized, ← there, ← test)

        pub spot_inside : t ≡ true → done (Bytes a (entry / 2 ^ 16 % 256)) ≡ here
        spot_inside e = simp e at tested

        pub spot_outside : (miss : ℕ) → t ≡ false → miss ≡ miss_of (address_of w) → refused miss ≡ here
        spot_outside miss e missed = ap refused missed ∙ simp e at tested

pub ruleset locating = (rules, spot_mmx, spot_integer, spot_inside, spot_outside)
