-- What is printed of a page, piece by piece: each text is the definition's in the case that the code has reached.
use Rattle.std.specs.Prelude.{Err, ◌≡◌, refl, List, ◌++◌, ℕ, ◌-◌, ◌≤◌, ◌<◌, length, take, drop}
use Rattle.basis.proofs.Names.{sym, rules, sub-zero, lt-ltb, le-ltb, take-append_seam, take-length}
use Rattle.refusals.specs.declared.Refusal.{Refusal}
use Rattle.refusals.specs.Numbers.{number_of}
use Rattle.manual.specs.State.{State, longest_memory}
use Rattle.manual.specs.Runs.{run_of}
use Rattle.codec.specs.Refusals.{code_too_long}
use Rattle.codec.specs.Reads.{longest_code}
use Rattle.manual.specs.Refusals.{memory_too_long}
use Rattle.machine.specs.declared.Machine.{Machine}
use Rattle.machine.specs.declared.End.{End}
use Rattle.machine.specs.declared.End.TheVariants as end
use Rattle.machine.specs.declared.Ran.{Ran}
use Rattle.machine.specs.State.{state_of}
use Rattle.machine.specs.Starts.{start_of}
use Rattle.machine.specs.Runs.{paper_of_end, paper_of_run}
use Rattle.pagefile.specs.Parsing.{code_of, memory_of, mmx_of, integers_of, well_formed_with, page_of, paper_of_page}
use Rattle.printout.specs.Lines.{report_text, refusal_text}
use Rattle.printout.specs.Printing.{Printed, printed}
use Rattle.player.specs.Page.{budget, state_text, answer_text, run_in, well_formed_text, page_text}

-- the report of an answer names the run's end
answer_text_lem : (e : End) (at count : ℕ) (s : State) → answer_text (paper_of_end e at count s) ≡ state_text e at count s
answer_text_lem end.Done at count s = refl
answer_text_lem end.Spent at count s = refl
answer_text_lem (end.Refused n) at count s = refl

-- the run of a page's parts is the page's
pub run_of_parts : (file memory after mmx integers code buffer : List ℕ) (marks : ℕ) (machine : Machine) (ran : Ran) (p : Printed)
    → mmx ≡ mmx_of file → integers ≡ integers_of file → machine ≡ start_of mmx integers marks → code ≡ code_of file
    → paper_of_run ran after ≡ run_of 0 code budget (state_of machine memory)
    → p ≡ printed (report_text ran.end ran.count ran.at ran.machine.mmx ran.machine.integers ran.machine.marks.valid ran.machine.marks.zero after) buffer
    → p ≡ printed (answer_text (run_in memory marks file)) buffer
unfolding state_text run_in
run_of_parts file memory after mmx integers code buffer marks machine ran p m i start c run told =
    rw (sym m, sym i, sym start, sym c, sym run, answer_text_lem ran.end ran.at ran.count (state_of ran.machine after)) told

-- the copy of a memory, at the start of a buffer
pub run_of_copy : (file memory before after buffer : List ℕ) (n marks : ℕ) (p : Printed)
    → n ≡ length memory → after ≡ take (length memory) memory ++ drop (length memory) before
    → p ≡ printed (answer_text (run_in (take (n - 0) after) marks file)) buffer
    → p ≡ printed (answer_text (run_in memory marks file)) buffer
run_of_copy file memory before after buffer n marks p count copied told = rw front at told
  where
    front : take (n - 0) after ≡ memory
    front = rw (sub-zero, count, copied, take-length) (take-append_seam memory (drop (length memory) before))

-- a well-formed page, by what its reading answers
module _ (file memory : List ℕ) (marks : ℕ) (m : memory ≡ memory_of file) (read : well_formed_with marks ≡ page_of file) where
  pub long_memory : longest_memory < length memory → page_text file ≡ refusal_text memory_too_long
  unfolding page_text well_formed_text
  long_memory long = rw (← read, ← m, lt-ltb _ _ long)

  module _ (code : List ℕ) (c : code ≡ code_of file) (short : length memory ≤ longest_memory) where
    pub long_code : longest_code < length code → page_text file ≡ refusal_text code_too_long
    unfolding page_text well_formed_text
    long_code long = rw (← read, ← m, ← c, le-ltb _ _ short, lt-ltb _ _ long)

    pub page_run : length code ≤ longest_code → page_text file ≡ answer_text (run_in (memory_of file) marks file)
    unfolding page_text well_formed_text
    page_run short' = rw (← read, ← m, ← c, le-ltb _ _ short, le-ltb _ _ short')

-- a malformed one
pub malformed : (file : List ℕ) (refusal : Refusal) → paper_of_page (Err refusal) ≡ page_of file → page_text file ≡ refusal_text (number_of refusal)
unfolding page_text
malformed file refusal read = rw (← read)

pub ruleset admitting = (rules, long_memory, long_code, page_run, malformed)
