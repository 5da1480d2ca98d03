-- What is done of an instruction whose opcode was read.
use Rattle.std.specs.Prelude.{ℕ, length, get_or, ◌%◌}
use Rattle.words.specs.Buffer.{loaded}
use Rattle.codec.specs.Operands.{middle}
use Rattle.works.specs.declared.Work.{Work}
use Rattle.works.specs.Works.{to_operate, to_store, work_of}
use Rattle.machine.specs.declared.pointers.Pointer.{Pointer}
use Rattle.machine.specs.declared.quick.Opened.{Opened}
use Rattle.machine.specs.inner.Quick.{QuickAfter, Within, SuffixAt, SuffixInMemory}

-- all of it, whatever the second byte that has its entry
abbrev pub Answers : Opened → Work → Type 0
Answers o work = QuickAfter work o.mmx.now o.integers.now o.memory.now o.entry o.code.now o.at

-- an operation with so many bytes of memory, and a store of so many
abbrev pub Loads : Opened → Pointer → ℕ → Work → Type 0
Loads o p size work =
    Within work (work_of to_operate (o.entry % 256) (middle o.modrm) (loaded o.memory.now p.address size) p.next) p.address size (length o.memory.now)

abbrev pub Stores : Opened → Pointer → ℕ → Work → Type 0
Stores o p size work = Within work (work_of to_store size p.address (get_or o.mmx.now (middle o.modrm) 0) p.next) p.address size (length o.memory.now)

-- what the suffix at a position says, with an operand of this value, and with one in memory
abbrev pub Suffixes : Opened → ℕ → ℕ → Work → Type 0
Suffixes o value at work = SuffixAt work (get_or o.mmx.now (middle o.modrm) 0) (middle o.modrm) value o.code.now at

abbrev pub SuffixesInMemory : Opened → Pointer → Work → Type 0
SuffixesInMemory o p work = SuffixInMemory work (get_or o.mmx.now (middle o.modrm) 0) (middle o.modrm) o.memory.now p.address o.code.now p.next
