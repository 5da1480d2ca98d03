-- No text is cut: every page's text has room in a buffer of `longest_report` bytes, since its run stays within its bounds.
use Rattle.std.specs.Prelude.{◌≡◌, refl, Bool, true, false, cond, List, ◌++◌, ℕ, ◌≤◌, ltb, length, get_or, drop}
use Rattle.basis.proofs.Names.{ap, ◌∙◌, arith, ltb-false}
use Rattle.reorder.specs.Run.{Answer, finished, spent, stopped}
use Rattle.codec.specs.Reads.{longest_code}
use Rattle.codec.specs.Refusals.{code_too_long}
use Rattle.manual.specs.Refusals.{memory_too_long}
use Rattle.manual.specs.State.{State, Frozen, longest_memory, is_too_long}
use Rattle.manual.specs.Runs.{run_of}
use Rattle.manual.proofs.Bounds.{Bounds, Bounded, run_bounded}
use Rattle.machine.specs.declared.End.{End}
use Rattle.machine.specs.declared.End.TheVariants.{Done, Spent, Refused}
use Rattle.machine.specs.State.{state_of}
use Rattle.machine.specs.Starts.{start_of}
use Rattle.pagefile.specs.Parsing.{code_of, memory_of, mmx_of, integers_of, well_formed_with, refused_with, page_of, malformed, well_formed, marks_of}
use Rattle.printout.specs.Lines.{longest_report, refusal_text}
use Rattle.printout.specs.Printing.{printing, printed}
use Rattle.printout.proofs.Longest.{Small, refusal_most, report_most, printed_whole}
use Rattle.player.specs.Page.{budget, state_text, answer_text, run_in, well_formed_text, text_of, page_text}

-- the report of a state within bounds, from a start with eight registers each and a memory that is not too long
module _ (code : List ℕ) (start : State) (eight : length start.mmx ≡ 8) (eight' : length start.integers ≡ 8)
    (fits : length start.memory ≤ longest_memory) (short : length code ≤ longest_code) where
  state_most : (e : End) (at count : ℕ) (t : State) → Small e → Bounds code budget start at count t → length (state_text e at count t) ≤ longest_report
  unfolding state_text
  state_most e at count t small b =
      let same = b.kept in
      let mmx : length t.mmx ≡ 8 = ap (λ (f : Frozen). f.mmx) same ∙ eight in
      let integers : length t.integers ≡ 8 = ap (λ (f : Frozen). f.integers) same ∙ eight' in
      let memory : length t.memory ≡ length start.memory = ap (λ (f : Frozen). f.memory) same in
      report_most e count at t.mmx t.integers t.marks.valid t.marks.zero t.memory small
      (omega (arith, b.completed_steps)) (omega (arith, b.position)) mmx integers (omega arith)

  answer_most : (a : Answer State) → Bounded code budget start a → length (answer_text a) ≤ longest_report
  answer_most (finished at count t) b = state_most Done at count t tt b
  answer_most (spent at count t) b = state_most Spent at count t tt b
  answer_most (stopped n at count t) (small, b) = state_most (Refused n) at count t (omega arith) b

well_formed_most : (marks : ℕ) (file : List ℕ) → length (well_formed_text marks file) ≤ longest_report
unfolding well_formed_text run_in start_of
well_formed_most marks file = tests (is_too_long (memory_of file)) (ltb longest_code (length (code_of file))) refl refl
  where
    tests : (a b : Bool) → is_too_long (memory_of file) ≡ a → ltb longest_code (length (code_of file)) ≡ b
        → length (cond a (refusal_text memory_too_long) (cond b (refusal_text code_too_long) (answer_text (run_in (memory_of file) marks file)))) ≤ longest_report
    tests true b ea eb = refusal_most memory_too_long (omega arith)
    tests false true ea eb = refusal_most code_too_long (omega arith)
    tests false false ea eb =
        let start : State = state_of (start_of (mmx_of file) (integers_of file) marks) (memory_of file) in
        answer_most (code_of file) start refl refl (ltb-false longest_memory (length (memory_of file)) ea)
        (ltb-false longest_code (length (code_of file)) eb) (run_of 0 (code_of file) budget start) (run_bounded 0 (code_of file) budget start)

pub text_most : (file : List ℕ) → length (page_text file) ≤ longest_report
unfolding page_text page_of
text_most file = by (well_formed file)
  where
    by : (t : Bool) → length (text_of (cond t (well_formed_with (get_or (marks_of file) 0 0)) (refused_with malformed)) file) ≤ longest_report
    by true = well_formed_most (get_or (marks_of file) 0 0) file
    by false = refusal_most malformed (omega arith)

-- so a page's text is printed whole into such a buffer
pub whole : (file buffer : List ℕ) → length buffer ≡ longest_report
    → printed (page_text file) buffer ≡ printing (length (page_text file)) (page_text file ++ drop (length (page_text file)) buffer)
whole file buffer enough = printed_whole (page_text file) buffer (omega (arith, text_most file))
