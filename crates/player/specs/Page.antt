-- What is printed of a page file: its refusal, or the report of its code's run in the machine that it starts from.
use Rattle.std.specs.Prelude.{cond, List, ℕ, ltb, length}
use Rattle.reorder.specs.Run.{Answer, finished, spent, stopped}
use Rattle.codec.specs.Refusals.{code_too_long}
use Rattle.codec.specs.Reads.{longest_code}
use Rattle.manual.specs.Refusals.{memory_too_long}
use Rattle.manual.specs.State.{State, is_too_long}
use Rattle.manual.specs.Runs.{run_of}
use Rattle.machine.specs.declared.End.{End}
use Rattle.machine.specs.declared.End.TheVariants.{Done, Spent, Refused}
use Rattle.machine.specs.State.{state_of}
use Rattle.machine.specs.Starts.{start_of}
use Rattle.pagefile.specs.Parsing.{code_of, memory_of, mmx_of, integers_of, Parsed, well_formed_with, refused_with, page_of}
use Rattle.printout.specs.Lines.{report_text, refusal_text}

-- the page program's budget
abbrev pub budget : ℕ
budget = 4096

-- the report of a state, with how its run ended, the position reached and the count of instructions completed
unfoldable pub state_text : End → ℕ → ℕ → State → List ℕ
state_text ending at count s =
    report_text ending count at s.mmx s.integers s.marks.valid s.marks.zero s.memory

-- the report of each answer of a run
abbrev pub answer_text : Answer State → List ℕ
answer_text (finished at count s) = state_text Done at count s
answer_text (spent at count s) = state_text Spent at count s
answer_text (stopped n at count s) = state_text (Refused n) at count s

-- the answer of the run of a page's code over floor 0, in the machine that its registers and marks start, with a memory
unfoldable pub run_in : List ℕ → ℕ → List ℕ → Answer State
run_in memory marks file = run_of 0 (code_of file) budget (state_of (start_of (mmx_of file) (integers_of file) marks) memory)

-- a well-formed page is refused by 1 (its memory is too long), then by 2 (its code is), or run with its memory
unfoldable pub well_formed_text : ℕ → List ℕ → List ℕ
well_formed_text marks file =
    cond (is_too_long (memory_of file)) (refusal_text memory_too_long)
    (cond (ltb longest_code (length (code_of file))) (refusal_text code_too_long)
    (answer_text (run_in (memory_of file) marks file)))

-- 13 comes before 1 and 2: it is what the parsing of a malformed file comes to
abbrev pub text_of : Parsed → List ℕ → List ℕ
text_of (well_formed_with marks) file = well_formed_text marks file
text_of (refused_with n) file = refusal_text n

-- all that is printed of a page file
unfoldable pub page_text : List ℕ → List ℕ
page_text file = text_of (page_of file) file
