-- The way that an instruction goes, by its form's number, and what else a number tells.
use Rattle.std.specs.Prelude.{Bool, true, false, cond, ◌&&◌, ◌||◌, ℕ, eqb, leb, ltb}
use Rattle.codec.specs.Opcodes.{suffixed_of}
use Rattle.machine.specs.declared.ways.Way.{Way}
use Rattle.machine.specs.declared.ways.Way.TheVariants.{Empties, Passes, Shifts, Extracts, Stores, Loads, Computes, Suffixes, Inserts, Shuffles, Masks}

-- whether the control marks don't stop it
abbrev pub is_unstopped : ℕ → Bool
is_unstopped form = leb 9 form && leb form 14

-- whether r/m names an integer register at mod 11
abbrev pub is_integer : ℕ → Bool
is_integer form = eqb form 4 || (eqb form 17 || eqb form 18)

-- whether the register that reg names is put where r/m says
abbrev pub is_store : ℕ → Bool
is_store form = eqb form 15 || (eqb form 17 || eqb form 19)

unfoldable pub way_of : ℕ → Way
way_of form =
    cond (ltb form 15)
    (cond (leb form 1) Empties
    (cond (leb form 3) Shifts
    (cond (eqb form 4) Inserts
    (cond (eqb form 5) Shuffles
    (cond (leb form 7) Extracts
    (cond (eqb form 8) Masks
    Passes))))))
    (cond (is_store form) Stores (cond (eqb form 18 || eqb form 20) Loads (cond (eqb form 16) Suffixes Computes)))

-- the way that an instruction with a suffix goes in the end: that of the form whose operands it uses
abbrev pub suffix_way : ℕ → Way
suffix_way suffix = way_of (suffixed_of suffix).form.number

-- whether an operand may be in memory, and is touched
abbrev pub has_other : Way → Bool
has_other Empties = false
has_other Passes = false
has_other Shifts = false
has_other Extracts = false
has_other Stores = true
has_other Loads = true
has_other Computes = true
has_other Suffixes = true
has_other Inserts = true
has_other Shuffles = true
has_other Masks = true
