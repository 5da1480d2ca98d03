-- The footprint as the program makes it, in masks and ranges: first where an operand is, then what each way reads and writes.
use Rattle.std.specs.Prelude.{◌≡◌, false, cond, List, [], ℕ, ◌^◌, eqb}
use Rattle.basis.specs.Names.{bit_or}
use Rattle.reorder.specs.Result.{Result, done, map_result}
use Rattle.reorder.specs.Footprint.{footprint_in}
use Rattle.codec.specs.declared.Kind.TheVariants.{Ordinary, Emms, Silent}
use Rattle.codec.specs.declared.Operand.{Operand}
use Rattle.manual.specs.State.{State}
use Rattle.manual.specs.Places.{Place, look}
use Rattle.manual.specs.Addresses.{address_of, address_registers}
use Rattle.manual.specs.Locations.{Location, registers_behind}
use Rattle.manual.specs.Effects.{Effect, placed, via}
use Rattle.manual.specs.inner.Unmarked.{directly}
use Rattle.machine.specs.declared.Places.{Places}
use Rattle.machine.specs.declared.Footprint.{Footprint}
use Rattle.machine.specs.declared.operands.Spot.{Spot}
use Rattle.machine.specs.declared.operands.Spot.TheVariants.{Mmx, Integer, Bytes}
use Rattle.machine.specs.declared.reaches.Reach.{Reach}
use Rattle.machine.specs.declared.ways.Way.{Way}
use Rattle.machine.specs.declared.ways.Way.TheVariants.{Empties, Passes, Shifts, Extracts, Stores, Loads, Computes, Suffixes, Inserts, Shuffles, Masks}
use Rattle.machine.specs.Footprints.{mask, set_of, masked}

abbrev pub nowhere : Places
nowhere = set_of []

-- an integer register
abbrev pub integer_alone : ℕ → Places
integer_alone register = record { mmx = 0; integers = 2 ^ register; start = 0; length = 0; zero = false }

-- an MMX register beside other places
abbrev pub beside : ℕ → Places → Places
beside register p =
    record { mmx = bit_or (2 ^ register) p.mmx; integers = p.integers; start = p.start; length = p.length; zero = p.zero }

-- integer registers, by their mask, beside other places
abbrev pub through : ℕ → Places → Places
through registers p =
    record { mmx = p.mmx; integers = bit_or registers p.integers; start = p.start; length = p.length; zero = p.zero }

-- the places of an operand, where the code has found it
abbrev pub places_at : Spot → Places
places_at (Mmx k) = beside k nowhere
places_at (Integer k) = integer_alone k
places_at (Bytes a size) = record { mmx = 0; integers = 0; start = a; length = size; zero = false }

-- an operand's address registers and places, or its refusal
abbrev pub reach_of : Location → Result (List Place) → Result Reach
reach_of x places = map_result (λ ps. record { registers = mask (registers_behind x); places = set_of ps }) places

-- the mask of the address registers of the operand of r/m: none at mod 11
abbrev pub behind : Operand → ℕ
behind w = cond (eqb w.mode 3) 0 (mask (address_registers (address_of w)))

-- what is read, beside the address registers, and what is written
abbrev pub ordinary_footprint : ℕ → Places → Places → Footprint
ordinary_footprint registers reads writes = record { reads = through registers reads; writes = writes; kind = Ordinary }

-- [EDI]
abbrev pub edi_operand : Operand
edi_operand = record { mode = 0; reg = 0; rm = 7; scale = 0; index = 0; base = 0; displacement = 0 }

-- the operand that may be in memory: for MASKMOVQ [EDI]
abbrev pub pointed_by : Way → Operand → Operand
pointed_by Empties w = w
pointed_by Passes w = w
pointed_by Shifts w = w
pointed_by Extracts w = w
pointed_by Stores w = w
pointed_by Loads w = w
pointed_by Computes w = w
pointed_by Suffixes w = w
pointed_by Inserts w = w
pointed_by Shuffles w = w
pointed_by Masks w = edi_operand

-- what each way reads and writes, and the operand that may be in memory has these address registers and places (with a suffix an instruction goes on
-- as one that loads or computes; computing reads more)
abbrev pub footprint_of_way : Way → Operand → ℕ → Places → Footprint
footprint_of_way Empties w registers p = record { reads = nowhere; writes = nowhere; kind = Emms }
footprint_of_way Passes w registers p = record { reads = nowhere; writes = nowhere; kind = Silent }
footprint_of_way Extracts w registers p = ordinary_footprint 0 (beside w.rm nowhere) (integer_alone w.reg)
footprint_of_way Shifts w registers p = ordinary_footprint 0 (beside w.rm nowhere) (beside w.rm nowhere)
footprint_of_way Stores w registers p = ordinary_footprint registers (beside w.reg nowhere) p
footprint_of_way Loads w registers p = ordinary_footprint registers p (beside w.reg nowhere)
footprint_of_way Computes w registers p = ordinary_footprint registers (beside w.reg p) (beside w.reg nowhere)
footprint_of_way Suffixes w registers p = ordinary_footprint registers (beside w.reg p) (beside w.reg nowhere)
footprint_of_way Inserts w registers p = ordinary_footprint registers (beside w.reg p) (beside w.reg nowhere)
footprint_of_way Shuffles w registers p = ordinary_footprint registers p (beside w.reg nowhere)
footprint_of_way Masks w registers p = ordinary_footprint registers (beside w.reg (beside w.rm p)) p

-- the footprint of an effect that no control mark stops
unfoldable pub unmarked_footprint : Effect → State → Result Footprint
unmarked_footprint e s =
    map_result masked (footprint_in look (via e) s (placed e s))

-- an effect that no control mark stops completes
pub record Completes (e : Effect) (s : State) : Type 0 where
  pub leaves : State
  pub is : directly 0 e s ≡ done leaves
