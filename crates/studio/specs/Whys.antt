-- Why two instructions of a block cannot change places: 30, then the run's own answer where it is not done, then 29, then where they meet, and how.
use Rattle.std.specs.Prelude.{cond, ◌||◌, List, ℕ, eqb, leb, ltb, length, Option, Result, Ok, Err}
use Rattle.reorder.specs.Run.{Answer, finished, spent, stopped}
use Rattle.manual.specs.State.{State}
use Rattle.manual.specs.Runs.{run_of, reaches_jump}
use Rattle.manual.specs.Footprints.{footprint_in_run}
use Rattle.machine.specs.State.{state_of}
use Rattle.machine.specs.Runs.{paper_of_end}
use Rattle.refusals.specs.Numbers.{number_of}
use Rattle.studio.specs.declared.Meeting as handed
use Rattle.studio.specs.declared.Unanswered.{Unanswered}
use Rattle.studio.specs.declared.Unanswered.TheVariants.{Refused, NotDone}
use Rattle.studio.specs.declared.Asked.{Asked}
use Rattle.studio.specs.Refusals.{numbers_wrong, block_jumps}
use Rattle.studio.specs.Meetings.{Meeting, meeting_of, paper_of_meeting}

-- the budget of the run
abbrev pub budget : ℕ
budget = 4096

-- what is answered
pub data Reply : Type 0 where
  -- a refusal's number, with the state that is handed back
  refusal : ℕ → State → Reply
  -- the run's own answer
  instead : Answer State → Reply
  -- what the two are to each other, with the state that the run leaves
  told : Meeting → State → Reply

-- two instructions of a block, the earlier first, by their footprints in the states where they run
abbrev pub meeting_in_run : List ℕ → ℕ → ℕ → State → Meeting
meeting_in_run code low high s = meeting_of (length s.memory) (footprint_in_run 0 code s low) (footprint_in_run 0 code s high)

-- after the run: its answer where it is not done; 29 for equal numbers, or one that is not below the count; else what the two are to each other
abbrev pub reply_after : List ℕ → ℕ → ℕ → State → Answer State → Reply
reply_after code low high s (finished at total t) =
    cond (eqb low high || leb total low || leb total high) (refusal numbers_wrong t) (told (meeting_in_run code low high s) t)
reply_after code low high s (spent at count t) = instead (spent at count t)
reply_after code low high s (stopped n at count t) = instead (stopped n at count t)

-- by the earlier and the later number, over floor 0
unfoldable pub asked : List ℕ → ℕ → ℕ → State → Reply
asked code low high s = reply_after code low high s (run_of 0 code budget s)

-- 30 before all else, with the state as it was; the numbers may come in either order
unfoldable pub why_not : List ℕ → ℕ → ℕ → State → Reply
why_not code i j s = cond (reaches_jump code) (refusal block_jumps s) (cond (ltb i j) (asked code i j s) (asked code j i s))

-- the paper's answer for each case of the code's, with the state that is left
abbrev pub paper_of_why : Result (Option handed.Meeting) Unanswered → State → Reply
paper_of_why (Ok meeting) s = told (paper_of_meeting meeting) s
paper_of_why (Err (Refused r)) s = refusal (number_of r) s
paper_of_why (Err (NotDone end at count)) s = instead (paper_of_end end at count s)

-- what is handed back, with what is then in the lent memory
abbrev pub paper_of_asked : Asked → List ℕ → Reply
paper_of_asked r memory = paper_of_why r.why (state_of r.machine memory)
