-- A run that is taken in parts.
use Rattle.std.specs.Prelude.{List, ℕ}
use Rattle.reorder.specs.Result.{Result}
use Rattle.reorder.specs.Run.{Fetched, Answer, finished, spent, stopped, run_from}

-- what a run has come to, with so much more of its budget
abbrev pub continued : {S I : Type 0} → (List ℕ → Result (Fetched I)) → (I → S → Result S) → (ℕ → I → S → ℕ → Result ℕ) → List ℕ → ℕ → Answer S → Answer S
continued read exec next code more (finished at count s) = finished at count s
continued read exec next code more (spent at count s) = run_from read exec next more code at count s
continued read exec next code more (stopped n at count s) = stopped n at count s
