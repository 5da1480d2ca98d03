-- What a buffer gets: nothing where it is shorter than the text, and the text where that was put at its start.
use Rattle.std.specs.Prelude.{◌≡◌, refl, Bool, true, false, not, cond, List, ◌++◌, ℕ, ◌+◌, ◌-◌, ◌*◌, ◌/◌, ◌≤◌, ◌<◌, leb, length, drop}
use Rattle.basis.specs.Names.{sets}
use Rattle.basis.proofs.Names.{sym, ap, subst, ◌∙◌, zero-add, arith, rules, leb-true, leb-false, le-leb, lt-leb, not-true, not-false, length-append, sets-eq}
use Rattle.machine.specs.declared.End.{End}
use Rattle.machine.specs.declared.Ran.{Ran}
use Rattle.printout.specs.declared.put.Writer.{Writer}
use Rattle.printout.specs.Characters.{places}
use Rattle.printout.specs.Lines.{first_line, mmx_lines, integer_lines, tags_line, zero_line, memory_line, byte_lines, report_text, refusal_text}
use Rattle.printout.specs.Printing.{Printed, printing, printed}
use Rattle.printout.specs.inner.Room.{put, Fits, Puts, report_length}
use Rattle.printout.proofs.Putting.{fits_first, fits_next, then}
use Rattle.printout.proofs.Lengths.{length_done, length_spent, length-refused, length_refusal, length_report, counted_report}

-- the test of the room for a report: its headings, and then 3 characters for each byte of the memory
module _ (ending : End) (count position memory buffer headings : ℕ) where
  pub no_room : buffer < headings → report_length ending count position memory ≡ headings + 3 * memory
      → false ≡ leb (report_length ending count position memory) buffer
  no_room short sum = sym (lt-leb (report_length ending count position memory) buffer (omega arith))

  pub room_after : headings ≤ buffer → report_length ending count position memory ≡ headings + 3 * memory
      → leb memory ((buffer - headings) / 3) ≡ leb (report_length ending count position memory) buffer
  room_after enough sum = go (leb memory ((buffer - headings) / 3)) refl
    where
      go : (t : Bool) → leb memory ((buffer - headings) / 3) ≡ t → t ≡ leb (report_length ending count position memory) buffer
      go true e = sym (le-leb _ buffer (omega (arith, leb-true memory ((buffer - headings) / 3) e)))
      go false e = sym (lt-leb _ buffer (omega (arith, leb-false memory ((buffer - headings) / 3) e)))

pub ruleset counting = (rules, length_done, length_spent, length-refused, counted_report, no_room, room_after)

-- what a buffer gets
module _ (text buffer : List ℕ) where
  too_short : length buffer < length text → printing 0 buffer ≡ printed text buffer
  unfolding printed
  too_short short = rw (lt-leb _ _ short)

  module _ (start : Writer) (starts : start.written ≡ 0) (content : start.out.now ≡ buffer) where
    fits_whole : length text ≤ length buffer → Fits text start
    fits_whole enough = record { room = rw (starts, content) (omega arith) }

    whole : length text ≤ length buffer → (end : Writer) → Puts text start end → printing end.written end.out.now ≡ printed text buffer
    unfolding printed put
    whole enough end puts =
        let all : end.written ≡ length text = omega (arith, puts.ends) in
        let left : end.out.now ≡ text ++ drop (length text) buffer =
        puts.content ∙ ap (λ (k : List ℕ). sets k start.written text) content ∙ ap (λ (i : ℕ). sets buffer i text) starts
        ∙ sets-eq text buffer 0 (omega arith) ∙ ap (λ (k : ℕ). text ++ drop k buffer) (zero-add (length text)) in
        rw (le-leb _ _ enough, all, left)

-- no more is written than the buffer has
pub written-within : (written : ℕ) (after text buffer : List ℕ) → printing written after ≡ printed text buffer → written ≤ length after
unfolding printed
written-within written after text buffer e = subst (λ (p : Printed). p.written ≤ length p.buffer) (sym e) (go (leb (length text) (length buffer)))
  where
    either : Bool → Printed
    either t = cond t (printing (length text) (text ++ drop (length text) buffer)) (printing 0 buffer)

    go : (t : Bool) → (either t).written ≤ length (either t).buffer
    go true = simp length-append (omega arith)
    go false = omega arith

-- a file's refusal, where the buffer is held against what was counted
module _ (number count : ℕ) (buffer : List ℕ) (counted : count ≡ places number number) where
  pub refusal_short : length buffer < 8 + count + 1 → printing 0 buffer ≡ printed (refusal_text number) buffer
  refusal_short short = too_short (refusal_text number) buffer (omega (arith, length_refusal number))

  module _ (start : Writer) (starts : start.written ≡ 0) (content : start.out.now ≡ buffer) (enough : 8 + count + 1 ≤ length buffer) where
    pub refusal_fits : Fits (refusal_text number) start
    refusal_fits = fits_whole (refusal_text number) buffer start starts content (omega (arith, length_refusal number))

    pub refusal_printed : (end : Writer) (after : List ℕ) → Puts (refusal_text number) start end → after ≡ end.out.now
        → printing end.written after ≡ printed (refusal_text number) buffer
    refusal_printed end after puts same = rw same (whole (refusal_text number) buffer start starts content (omega (arith, length_refusal number)) end puts)

-- a report, where the test of its room is made: its upper part is put, then its lower part
module _ (ran : Ran) (memory buffer : List ℕ) (enough : Bool)
    (tested : enough ≡ leb (report_length ran.end ran.count ran.at (length memory)) (length buffer))
    (eight : length ran.machine.mmx ≡ 8) (eight' : length ran.machine.integers ≡ 8) where
  abbrev top : List ℕ
  top = first_line ran.end ran.count ran.at ++ mmx_lines ran.machine.mmx ++ integer_lines ran.machine.integers

  abbrev bottom : List ℕ
  bottom = tags_line ran.machine.marks.valid ++ zero_line ran.machine.marks.zero ++ memory_line (length memory) ++ byte_lines 0 memory

  abbrev text : List ℕ
  text = report_text ran.end ran.count ran.at ran.machine.mmx ran.machine.integers ran.machine.marks.valid ran.machine.marks.zero memory

  counted : length (top ++ bottom) ≡ report_length ran.end ran.count ran.at (length memory)
  unfolding report_text
  counted = length_report ran.end ran.count ran.at ran.machine.mmx ran.machine.integers ran.machine.marks.valid ran.machine.marks.zero memory eight eight'

  pub report_short : not enough ≡ true → printing 0 buffer ≡ printed text buffer
  unfolding report_text
  report_short failed =
      too_short (top ++ bottom) buffer (omega (arith, leb-false _ (length buffer) (sym tested ∙ not-true enough failed), counted))

  module _ (passed : not enough ≡ false) (start : Writer) (starts : start.written ≡ 0) (content : start.out.now ≡ buffer) where
    has_room : length (top ++ bottom) ≤ length buffer
    has_room = omega (arith, leb-true _ (length buffer) (sym tested ∙ not-false enough passed), counted)

    report_fits : Fits (top ++ bottom) start
    report_fits = fits_whole (top ++ bottom) buffer start starts content has_room

    pub top_fits : Fits top start
    top_fits = fits_first bottom report_fits

    module _ (middle : Writer) (upper : Puts top start middle) where
      pub bottom_fits : Fits bottom middle
      bottom_fits = fits_next upper report_fits

      pub report_printed : (end : Writer) (after : List ℕ) → Puts bottom middle end → after ≡ end.out.now → printing end.written after ≡ printed text buffer
      unfolding report_text
      report_printed end after lower same = rw same (whole (top ++ bottom) buffer start starts content has_room end (then upper lower))

pub ruleset rooms = (rules, refusal_short, refusal_fits, refusal_printed, report_short, top_fits, bottom_fits, report_printed)
