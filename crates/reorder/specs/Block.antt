-- A block of code as the pieces that are its instructions' own bytes; the block with its instructions in a new order; whether reading reaches some
-- instruction.
use Rattle.std.specs.Prelude.{Bool, false, ◌||◌, List, [], ◌∷◌, map, ℕ, zero, suc, length, get_or, take, drop}
use Rattle.basis.specs.Names.{flatten}
use Rattle.reorder.specs.Result.{Result, case_of}
use Rattle.reorder.specs.Run.{Fetched}

-- the pieces with these numbers, one after the other
abbrev pub in_order : List (List ℕ) → List ℕ → List ℕ
in_order pieces order = flatten (map (λ k. get_or pieces k []) order)

module _ {I : Type 0} (read : List ℕ → Result (Fetched I)) where
  -- the bytes of the instructions, one by one, as far as reading goes, at most so many
  abbrev pub pieces_up_to : ℕ → List ℕ → List (List ℕ)
  pieces_up_to zero code = []
  pieces_up_to (suc most) code =
      case_of (read code) (λ n. []) (λ found. take found.size code ∷ pieces_up_to most (drop found.size code))

  -- all of them: each has at least one byte
  abbrev pub pieces_of : List ℕ → List (List ℕ)
  pieces_of code = pieces_up_to (length code) code

  -- the block whose instructions stand in the new order
  abbrev pub rearranged : List ℕ → List ℕ → List ℕ
  rearranged code order = in_order (pieces_of code) order

  -- reading from the start onward reaches an instruction that passes a test, as far as reading goes, in at most so many instructions
  abbrev pub reaches_up_to : (I → Bool) → ℕ → List ℕ → Bool
  reaches_up_to such zero code = false
  reaches_up_to such (suc most) code =
      case_of (read code) (λ n. false) (λ found. such found.instruction || reaches_up_to such most (drop found.size code))

  -- in all of them: each has at least one byte
  abbrev pub reaches : (I → Bool) → List ℕ → Bool
  reaches such code = reaches_up_to such (length code) code
