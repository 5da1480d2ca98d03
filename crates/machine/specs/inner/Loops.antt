-- What the code knows of an instruction of loops, and what it makes of one.
use Rattle.std.specs.Prelude.{◌≡◌, true, cond, List, ℕ, ◌/◌, ◌%◌, ◌^◌, ◌≤◌, eqb}
use Rattle.reorder.specs.Result.{Result, done, refused}
use Rattle.codec.specs.declared.Instruction.{Instruction}
use Rattle.codec.specs.declared.Kind.TheVariants.{Loop}
use Rattle.manual.specs.Effects.{Effect}
use Rattle.manual.specs.Jumps.{is_jump}
use Rattle.machine.specs.declared.Footprint.{Footprint}
use Rattle.works.specs.declared.Work.{Work}
use Rattle.works.specs.Works.{to_pass, work_of, refused_work}
use Rattle.machine.specs.inner.Works.{Does}
use Rattle.machine.specs.inner.Reaches.{nowhere, integer_alone}

-- an entry is that of an instruction of loops, and tells whether it is the jump
pub record Looping (entry : ℕ) (i : Instruction) : Type 0 where
  pub least : 10 ≤ entry / 2 ^ 24
  pub most : entry / 2 ^ 24 ≤ 13
  pub jumps : is_jump i ≡ eqb (entry / 2 ^ 24) 13

-- what remains of a jump that leads there
abbrev pub landing : Result ℕ → Work
landing (done position) = work_of to_pass 0 0 0 position
landing (refused n) = refused_work n

-- with these integer registers a work does what an effect does, whatever the MMX registers and the memory
pub record Loops (work : Work) (integers : List ℕ) (e : Effect) (further : Result ℕ) : Type 0 where
  pub does : (registers memory : List ℕ) → Does work registers integers memory e further

-- what ADD and DEC read and write
abbrev pub counting_footprint : ℕ → Footprint
counting_footprint register =
    record {
      reads = integer_alone register;
      writes = record { mmx = 0; integers = 2 ^ register; start = 0; length = 0; zero = true };
      kind = Loop;
    }

-- what each of loops reads and writes, by its form's number
abbrev pub loop_footprint : ℕ → Instruction → Footprint
loop_footprint form i =
    cond (eqb form 10) (record { reads = nowhere; writes = integer_alone (i.first % 8); kind = Loop })
    (cond (eqb form 11) (counting_footprint i.operand.rm)
    (cond (eqb form 12) (counting_footprint (i.first % 8))
    (record { reads = record { mmx = 0; integers = 0; start = 0; length = 0; zero = true }; writes = nowhere; kind = Loop })))
