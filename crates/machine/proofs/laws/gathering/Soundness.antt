-- The works that the code makes are sound, by what is to be done.
use Rattle.std.specs.Prelude.{Bool, true, false, cond, List, ℕ, ◌<◌, length, get_or, Option, Some, None}
use Rattle.basis.proofs.Names.{arith}
use Rattle.lanes.specs.Operations.{operate_three, described, MOVE, MASKMOVQ}
use Rattle.singles.specs.Siblings.{Sibling}
use Rattle.words.specs.Buffer.{loaded}
use Rattle.reorder.specs.Result.{Result, done, refused}
use Rattle.codec.specs.Opcodes.{suffixed_of}
use Rattle.manual.specs.Refusals.{outside_memory, half_unsupported}
use Rattle.manual.specs.Addresses.{address}
use Rattle.manual.specs.Locations.{at_edi, lies_inside}
use Rattle.machine.specs.declared.operands.Spot.{Spot}
use Rattle.machine.specs.declared.operands.Spot.TheVariants.{Mmx, Integer, Bytes}
use Rattle.machine.specs.inner.Spots.{NamedIn}
use Rattle.machine.specs.inner.Picks.{picked_of, picked_work, mask_work}
use Rattle.works.specs.Works.{to_operate, to_store, to_integer, to_empty, to_pass, to_set, to_count, work_of, refused_work}
use Rattle.works.specs.Siblings.{value_left, operation_left, answered_work, sibling_work, suffixed_work}
use Rattle.machine.specs.inner.Works.{put_work, take_work, Sound}

pub sound_operation : (number place value next : ℕ) → place < 8 → Sound (work_of to_operate number place value next)
sound_operation number place value next h =
    record { operates = λ e. h; moves = λ e. absurd (omega arith); sets = λ e. absurd (omega arith); counts = λ e. absurd (omega arith) }

pub sound_empties : (next : ℕ) → Sound (work_of to_empty 0 0 0 next)
sound_empties next =
    record { operates = λ e. absurd (omega arith); moves = λ e. absurd (omega arith); sets = λ e. absurd (omega arith); counts = λ e. absurd (omega arith) }

pub sound_passes : (next : ℕ) → Sound (work_of to_pass 0 0 0 next)
sound_passes next =
    record { operates = λ e. absurd (omega arith); moves = λ e. absurd (omega arith); sets = λ e. absurd (omega arith); counts = λ e. absurd (omega arith) }

pub sound_set : (place value next : ℕ) → place < 8 → Sound (work_of to_set 0 place value next)
sound_set place value next h =
    record { operates = λ e. absurd (omega arith); moves = λ e. absurd (omega arith); sets = λ e. h; counts = λ e. absurd (omega arith) }

pub sound_count : (place value next : ℕ) → place < 8 → Sound (work_of to_count 0 place value next)
sound_count place value next h =
    record { operates = λ e. absurd (omega arith); moves = λ e. absurd (omega arith); sets = λ e. absurd (omega arith); counts = λ e. h }

pub sound_refusal : (refusal : ℕ) → Sound (refused_work refusal)
sound_refusal refusal =
    record { operates = λ e. absurd (omega arith); moves = λ e. absurd (omega arith); sets = λ e. absurd (omega arith); counts = λ e. absurd (omega arith) }

pub sound_integer : (place value next : ℕ) → place < 8 → Sound (work_of to_integer 0 place value next)
sound_integer place value next h =
    record { operates = λ e. absurd (omega arith); moves = λ e. h; sets = λ e. absurd (omega arith); counts = λ e. absurd (omega arith) }

pub sound_store : (size a value next : ℕ) → Sound (work_of to_store size a value next)
sound_store size a value next =
    record { operates = λ e. absurd (omega arith); moves = λ e. absurd (omega arith); sets = λ e. absurd (omega arith); counts = λ e. absurd (omega arith) }

pub sound_put : (x : Result Spot) (value next : ℕ) → NamedIn x → Sound (put_work x value next)
sound_put (done (Mmx k)) value next h = sound_operation (described MOVE).number k value next h
sound_put (done (Integer k)) value next h = sound_integer k value next h
sound_put (done (Bytes a size)) value next h = sound_store size a value next
sound_put (refused n) value next h = sound_refusal n

pub sound_take : (registers integers memory : List ℕ) (number place : ℕ) (x : Result Spot) (next : ℕ) → place < 8 → NamedIn x
    → Sound (take_work registers integers memory number place x next)
sound_take registers integers memory number place (done (Mmx k)) next p h = sound_operation number place (get_or registers k 0) next p
sound_take registers integers memory number place (done (Integer k)) next p h = sound_operation number place (get_or integers k 0) next p
sound_take registers integers memory number place (done (Bytes a size)) next p h = sound_operation number place (loaded memory a size) next p
sound_take registers integers memory number place (refused n) next p h = sound_refusal n

pub sound_picked : (form old immediate : ℕ) (registers integers memory : List ℕ) (number place : ℕ) (x : Result Spot) (next : ℕ) → place < 8 → NamedIn x
    → Sound (picked_work form old immediate (take_work registers integers memory number place x next))
sound_picked form old immediate registers integers memory number place (done (Mmx k)) next p h =
    sound_operation (described MOVE).number place (picked_of form old (get_or registers k 0) immediate) next p
sound_picked form old immediate registers integers memory number place (done (Integer k)) next p h =
    sound_operation (described MOVE).number place (picked_of form old (get_or integers k 0) immediate) next p
sound_picked form old immediate registers integers memory number place (done (Bytes a size)) next p h =
    sound_operation (described MOVE).number place (picked_of form old (loaded memory a size) immediate) next p
sound_picked form old immediate registers integers memory number place (refused n) next p h = sound_refusal n

sound_answer : (number : ℕ) (answer : Option ℕ) (place next : ℕ) → place < 8 → Sound (answered_work number answer place next)
sound_answer number (Some value) place next p = sound_operation number place value next p
sound_answer number None place next p = sound_refusal half_unsupported

sound_sibling : (x : Sibling) (old source place next : ℕ) → place < 8 → Sound (sibling_work x old source place next)
sound_sibling x old source place next p = sound_answer (operation_left x) (value_left x old source) place next p

pub sound_suffixed : (suffix old : ℕ) (registers integers memory : List ℕ) (number place : ℕ) (x : Result Spot) (next : ℕ) → place < 8 → NamedIn x
    → Sound (suffixed_work suffix old (take_work registers integers memory number place x next))
sound_suffixed suffix old registers integers memory number place (done (Mmx k)) next p h = sound_sibling (suffixed_of suffix).sibling old (get_or registers k 0) place next p
sound_suffixed suffix old registers integers memory number place (done (Integer k)) next p h = sound_sibling (suffixed_of suffix).sibling old (get_or integers k 0) place next p
sound_suffixed suffix old registers integers memory number place (done (Bytes a size)) next p h = sound_sibling (suffixed_of suffix).sibling old (loaded memory a size) place next p
sound_suffixed suffix old registers integers memory number place (refused n) next p h = sound_refusal n

pub sound_mask : (integers memory : List ℕ) (source mask next : ℕ) → Sound (mask_work integers memory source mask next)
sound_mask integers memory source mask next = inside (lies_inside (length memory) 8 (address integers at_edi)) (address integers at_edi)
  where
    inside : (t : Bool) (a : ℕ) → Sound (cond t (work_of to_store 8 a (operate_three MASKMOVQ (loaded memory a 8) source mask) next) (refused_work outside_memory))
    inside true a = sound_store 8 a (operate_three MASKMOVQ (loaded memory a 8) source mask) next
    inside false a = sound_refusal outside_memory
