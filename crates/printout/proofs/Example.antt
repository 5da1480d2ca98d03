-- The lines of a text, and what the definition computes to: the first line of each ending, the lines of each mark, and the memory's lines of
-- three rows.
use Rattle.std.specs.Prelude.{◌≡◌, refl, true, false, List, [], ◌∷◌, ◌++◌, ℕ}
use Rattle.basis.specs.Names.{String}
use Rattle.machine.specs.declared.End.TheVariants.{Done, Spent, Refused}
use Rattle.printout.specs.Characters.{ascii, newline, digits, places, decimal}
use Rattle.printout.specs.Lines.{answer, first_line, tags_line, zero_line, memory_line, byte_lines}

-- a text by its lines
abbrev pub lines : List String → List ℕ
lines [] = []
lines (l ∷ ls) = ascii l ++ newline ++ lines ls

-- the first line of each ending
pub record FirstLines : Type 0 where
  pub done_line : first_line Done 1 3 ≡ lines ("done 1 at 3" ∷ [])
  pub spent_line : first_line Spent 4096 12288 ≡ lines ("spent 4096 at 12288" ∷ [])
  pub refused-line : first_line (Refused 10) 0 0 ≡ lines ("refused 10 0 at 0" ∷ [])

pub first_lines : FirstLines
unfolding answer first_line decimal digits places
first_lines = record { done_line = refl; spent_line = refl; refused-line = refl }

-- the tags line of each mark
pub tags_lines : tags_line true ++ tags_line false ≡ lines ("tags valid" ∷ "tags empty" ∷ [])
unfolding tags_line
tags_lines = refl

-- the zero mark's
pub zero_lines : zero_line true ++ zero_line false ≡ lines ("zero 1" ∷ "zero 0" ∷ [])
unfolding zero_line
zero_lines = refl

pub byte_lines_lem : memory_line 34
    ++ byte_lines 0
    (0 ∷ 1 ∷ 2 ∷ 3 ∷ 4 ∷ 5 ∷ 6 ∷ 7 ∷ 8 ∷ 9 ∷ 10 ∷ 11 ∷ 12 ∷ 13 ∷ 14 ∷ 255
    ∷ 16 ∷ 17 ∷ 18 ∷ 19 ∷ 20 ∷ 21 ∷ 22 ∷ 23 ∷ 24 ∷ 25 ∷ 26 ∷ 27 ∷ 28 ∷ 29 ∷ 30 ∷ 31
    ∷ 171 ∷ 205 ∷ [])
    ≡ lines
    ("memory 34"
    ∷ "00 01 02 03 04 05 06 07 08 09 0A 0B 0C 0D 0E FF"
    ∷ "10 11 12 13 14 15 16 17 18 19 1A 1B 1C 1D 1E 1F"
    ∷ "AB CD"
    ∷ [])
unfolding memory_line byte_lines decimal digits places
byte_lines_lem = refl
