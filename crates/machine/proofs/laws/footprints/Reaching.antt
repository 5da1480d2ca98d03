-- The operand of r/m as masks and a range: the bytes of an operand are one range, and no registers. Rules for where the code finds it.
use Rattle.std.specs.Prelude.{◌≡◌, refl, Bool, true, false, cond, [], ℕ, zero, suc, ◌+◌, ◌/◌, ◌^◌, ◌<◌, eqb, length}
use Rattle.basis.proofs.Names.{sym, ap, ◌∙◌, arith, or_zero_r}
use Rattle.reorder.specs.Result.{Result, done, refused, map_result}
use Rattle.codec.specs.Forms.{File, mmx_file, integer_file, memory_size}
use Rattle.codec.specs.Table.{form_of}
use Rattle.codec.specs.declared.Operand.{Operand}
use Rattle.manual.specs.State.{State}
use Rattle.manual.specs.Addresses.{address_of, address, address_registers}
use Rattle.manual.specs.Locations.{Location, memory, register_in, rm_of, bytes_from, lies_inside, places_of}
use Rattle.machine.specs.declared.Places.{Places}
use Rattle.machine.specs.declared.operands.Spot.{Spot}
use Rattle.machine.specs.declared.reaches.Reach.{Reach}
use Rattle.machine.specs.Footprints.{mmx_number, integer_number, numbers_of, has_zero_mark, mask, set_of}
use Rattle.machine.specs.inner.Reaches.{places_at, reach_of, behind}
use Rattle.machine.specs.inner.Spots.{file_in, other_of, spot_of}
use Rattle.machine.specs.inner.Ways.{way_of, has_other}
use Rattle.machine.specs.inner.Works.{Listed}
use Rattle.machine.proofs.laws.meetings.Ranges.{count_bytes}
use Rattle.machine.proofs.laws.ways.Numbering.{other}

no_mmx : (size a : ℕ) → numbers_of mmx_number (bytes_from a size) ≡ []
no_mmx zero a = refl
no_mmx (suc size) a = no_mmx size (a + 1)

no_integer : (size a : ℕ) → numbers_of integer_number (bytes_from a size) ≡ []
no_integer zero a = refl
no_integer (suc size) a = no_integer size (a + 1)

no_zero : (size a : ℕ) → has_zero_mark (bytes_from a size) ≡ false
no_zero zero a = refl
no_zero (suc size) a = no_zero size (a + 1)

abbrev range : ℕ → ℕ → Places
range a size = record { mmx = 0; integers = 0; start = a; length = size; zero = false }

set-bytes : (size a : ℕ) → 0 < size → set_of (bytes_from a size) ≡ range a size
set-bytes zero a h = absurd (omega arith)
set-bytes (suc size) a h =
    λ i. record {
      mmx = mask (no_mmx (suc size) a i);
      integers = mask (no_integer (suc size) a i);
      start = a;
      length = count_bytes (suc size) a i;
      zero = no_zero (suc size) a i;
    }

-- where the code finds an operand, with the mask of its address registers
abbrev reach_at : ℕ → Result Spot → Result Reach
reach_at registers spot = map_result (λ x. record { registers = registers; places = places_at x }) spot

-- the operand of r/m, whatever it is
module _ (s : State) (w : Operand) where
  abbrev spot : Location → Result Spot
  spot x = spot_of s.integers (length s.memory) x

  abbrev start : ℕ
  start = address s.integers (address_of w)

  reached : (file : File) (size : ℕ) → 0 < size → let x = rm_of file size w in reach_at (behind w) (spot x) ≡ reach_of x (places_of s x)
  unfolding rm_of
  reached file size some = by (eqb w.mode 3) file
    where
      inside : (u : Bool) → lies_inside (length s.memory) size start ≡ u → let x = memory (address_of w) size in reach_at (mask (address_registers (address_of w))) (spot x) ≡ reach_of x (places_of s x)
      inside true h = simp (h, set-bytes size start some)
      inside false h = simp h

      by : (t : Bool) (f : File) → let x = cond t (register_in f w.rm) (memory (address_of w) size) in
          reach_at (cond t 0 (mask (address_registers (address_of w)))) (spot x) ≡ reach_of x (places_of s x)
      by true mmx_file = refl
      by true integer_file = simp or_zero_r
      by false f = inside (lies_inside (length s.memory) size start) refl

  module _ (entry : ℕ) (l : Listed entry) (two : has_other (way_of (entry / 2 ^ 24)) ≡ true) where
    abbrev there : Location
    there = other_of (entry / 2 ^ 24) w

    -- as the code finds it, or refuses it
    module _ (x : Result Spot) (m : ℕ) (found : x ≡ spot there) (masked : m ≡ behind w) where
      reach_there : reach_at m x ≡ reach_of there (places_of s there)
      reach_there =
          let form = form_of (entry / 2 ^ 24) in
          rw (masked, found) (reached (file_in form.operands) (memory_size form) (other entry l two).any)

      pub reach_inside : (y : Spot) (p : Places) → x ≡ done y → p ≡ places_at y → done (record { registers = m; places = p }) ≡ reach_of there (places_of s there)
      reach_inside y p e h = ap (λ (q : Places). done (record { registers = m; places = q })) h ∙ ap (reach_at m) (sym e) ∙ reach_there

      pub reach_outside : (n : ℕ) → x ≡ refused n → refused n ≡ reach_of there (places_of s there)
      reach_outside n e = ap (reach_at m) (sym e) ∙ reach_there
