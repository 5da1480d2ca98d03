-- A row of instructions, executed one after the other, over any state; and a row of the instructions' own bytes.
use Rattle.std.specs.Prelude.{List, [], ◌∷◌, ℕ, zero, suc, get_or}
use Rattle.reorder.specs.Result.{Result, done, and_then, case_of}
use Rattle.reorder.specs.Run.{Fetched}
use Rattle.reorder.specs.Block.{pieces_of}

module _ {S I : Type 0} (exec : I → S → Result S) where
  -- up to the first that is refused
  abbrev pub exec_all : List I → S → Result S
  exec_all [] s = done s
  exec_all (i ∷ row) s = and_then (exec i s) (exec_all row)

  -- the state after an instruction: its own if it completes, else the one it was given
  abbrev pub after : I → S → S
  after i s = case_of (exec i s) (λ n. s) (λ t. t)

  -- the state before instruction k of the row
  abbrev pub before : List I → ℕ → S → S
  before row zero s = s
  before [] (suc k) s = s
  before (i ∷ row) (suc k) s = before row k (after i s)

  -- the footprint of instruction k of the row, in the state before it (`past` stands for those past the row's end)
  abbrev pub footprint_at : {F : Type 0} → (I → S → F) → List I → S → I → ℕ → F
  footprint_at footprint row s past k = footprint (get_or row k past) (before row k s)

module _ {I : Type 0} (read : List ℕ → Result (Fetched I)) where
  -- what is done with an instruction, done with its bytes
  abbrev pub on_bytes : {S A : Type 0} → (I → S → Result A) → List ℕ → S → Result A
  on_bytes act bytes s = and_then (read bytes) (λ found. act found.instruction s)

  -- the footprint of piece k of the code, in the state before it
  abbrev pub footprint_in_code : {S F : Type 0} → (I → S → Result S) → (I → S → Result F) → List ℕ → S → ℕ → Result F
  footprint_in_code exec footprint code s k =
      footprint_at (on_bytes exec) (on_bytes footprint) (pieces_of read code) s [] k
