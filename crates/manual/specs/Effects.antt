-- The effect of an instruction: the operands it takes, the operands it gives, and a pure function between their values. From it come its step
-- and its footprint.
use Rattle.std.specs.Prelude.{cond, List, [], ◌∷◌, ◌++◌, map, ℕ, get_or, take, drop}
use Rattle.words.specs.Number.{number, bytes}
use Rattle.reorder.specs.Result.{Result, done, refused, and_then, map_result}
use Rattle.reorder.specs.Plan.{Plan, looks, exec_by}
use Rattle.reorder.specs.Footprint.{Footprint, footprint_by}
use Rattle.codec.specs.declared.Kind.{Kind}
use Rattle.manual.specs.declared.Marks.{Marks}
use Rattle.manual.specs.Refusals.{invalid_opcode, not_available, is_pending, below_floor}
use Rattle.manual.specs.State.{State}
use Rattle.manual.specs.Places.{Place, mmx, integer, zero_mark, look, put, all_writable}
use Rattle.manual.specs.Kinds.{marked, heeded}
use Rattle.manual.specs.Addresses.{address}
use Rattle.manual.specs.Locations.{Location, mmx_register, integer_register, memory, zero_operand, bytes_from, places_of, registers_behind}

pub record Effect : Type 0 where
  pub takes : List Location
  pub gives : List Location
  -- the numbers that it gives, from those that it takes, one for each operand; or a refusal
  pub value : List ℕ → Result (List ℕ)
  pub kind : Kind

-- the places of operands, one operand after the other
abbrev pub places_of_all : State → List Location → Result (List Place)
places_of_all s [] = done []
places_of_all s (x ∷ xs) = and_then (places_of s x) (λ ps. map_result (λ qs. ps ++ qs) (places_of_all s xs))

abbrev pub registers_behind_all : List Location → List ℕ
registers_behind_all [] = []
registers_behind_all (x ∷ xs) = registers_behind x ++ registers_behind_all xs

-- how many places an operand has
abbrev pub place_count : Location → ℕ
place_count (mmx_register k) = 1
place_count (integer_register k) = 1
place_count (memory a size) = size
place_count zero_operand = 1

-- the number of an operand: what stands in its register or its mark, or the little-endian number of its bytes
abbrev pub value_in : Location → List ℕ → ℕ
value_in (mmx_register k) contents = get_or contents 0 0
value_in (integer_register k) contents = get_or contents 0 0
value_in (memory a size) contents = number contents
value_in zero_operand contents = get_or contents 0 0

-- the number of an operand in a state
abbrev pub number_of : State → Location → ℕ
number_of s (mmx_register k) = look s (mmx k)
number_of s (integer_register k) = look s (integer k)
number_of s (memory a size) = number (looks look s (bytes_from (address s.integers a) size))
number_of s zero_operand = look s zero_mark

-- one number for each operand, from what stands in all their places
abbrev pub values_in : List Location → List ℕ → List ℕ
values_in [] contents = []
values_in (x ∷ xs) contents = value_in x (take (place_count x) contents) ∷ values_in xs (drop (place_count x) contents)

-- and back: what stands in the places of an operand that has this number
abbrev pub contents_of : Location → ℕ → List ℕ
contents_of (mmx_register k) value = value ∷ []
contents_of (integer_register k) value = value ∷ []
contents_of (memory a size) value = bytes size value
contents_of zero_operand value = value ∷ []

abbrev pub contents_of_all : List Location → List ℕ → List ℕ
contents_of_all [] values = []
contents_of_all (x ∷ xs) values = contents_of x (get_or values 0 0) ++ contents_of_all xs (drop 1 values)

-- 7, 8, 9 where a control mark is set, EM before TS before pending; else what follows
abbrev pub unless_marked : {A : Type 0} → Marks → Result A → Result A
unless_marked marks result =
    cond marks.em (refused invalid_opcode) (cond marks.ts (refused not_available) (cond marks.pending (refused is_pending) result))

-- the effect on these places
abbrev pub plan_on : Effect → List Place → List Place → Plan Place Kind
plan_on e source target =
    record {
      source = source;
      target = target;
      make = λ contents. map_result (contents_of_all e.gives) (e.value (values_in e.takes contents));
      kind = e.kind;
    }

-- the effect on the places that its operands have in a state: all are tested before anything is read or written
abbrev pub placed : Effect → State → Result (Plan Place Kind)
placed e s = and_then (places_of_all s e.takes) (λ source. map_result (plan_on e source) (places_of_all s e.gives))

-- a plan over a floor: 21 where it would write a byte below
abbrev pub guarded : ℕ → Plan Place Kind → Result (Plan Place Kind)
guarded floor plan = cond (all_writable floor plan.target) (done plan) (refused below_floor)

-- the effect on its operands' places, over a floor, which is tested after the operands
abbrev pub placed_above : ℕ → Effect → State → Result (Plan Place Kind)
placed_above floor e s = and_then (placed e s) (guarded floor)

-- the effect in a state: the control marks that stop its kind are tested before the operands
abbrev pub plan : ℕ → Effect → State → Result (Plan Place Kind)
plan floor e s = unless_marked (heeded e.kind s.marks) (placed_above floor e s)

-- the address registers of what it takes and of what it gives: they are read too
abbrev pub address_registers_of : Effect → List ℕ
address_registers_of e = registers_behind_all e.takes ++ registers_behind_all e.gives

abbrev pub via : Effect → List Place
via e = map integer (address_registers_of e)

-- the step of an effect, over a floor
abbrev pub perform : ℕ → Effect → State → Result State
perform floor = exec_by look put marked (plan floor)

-- the footprint of an effect: what its step reads and writes
abbrev pub footprint_of : ℕ → Effect → State → Result (Footprint Place Kind)
footprint_of floor = footprint_by look via (plan floor)
