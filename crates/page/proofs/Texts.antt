-- A page's text is written whole: what the player leaves at the start of a buffer of a report's length is that text.
use Rattle.std.specs.Prelude.{◌≡◌, List, ◌++◌, ℕ, length, take, drop, replicate, Option, Result, Ok, Err, OnOk, is_ok, IsTrue, Bool}
use Rattle.std.specs.Io.KnownBytes.{Appends}
use Rattle.basis.proofs.Names.{ap, ◌∙◌, subst, length-replicate, take-append_seam}
use Rattle.printout.specs.Lines.{longest_report}
use Rattle.printout.specs.Printing.{Printed, printing, printed}
use Rattle.player.specs.Page.{page_text}
use Rattle.player.proofs.Whole.{whole}

text_written : (file buffer after : List ℕ) (written : ℕ) → length buffer ≡ longest_report
    → printing written after ≡ printed (page_text file) buffer → take written after ≡ page_text file
text_written file buffer after written enough e =
    let both = e ∙ whole file buffer enough in
    let counted : written ≡ length (page_text file) = ap (λ (p : Printed). p.written) both in
    let left : after ≡ page_text file ++ drop (length (page_text file)) buffer = ap (λ (p : Printed). p.buffer) both in
    rw (counted, left) (take-append_seam (page_text file) (drop (length (page_text file)) buffer))

-- so where a writer took all that was written, it took the text
pub appends_text : {E : Type 0} (file buffer after : List ℕ) (written n : ℕ) (old new : Option (List ℕ)) (r : Result Unit E) (t : Bool)
    → n ≡ written → buffer ≡ replicate longest_report 0 → printing written after ≡ printed (page_text file) buffer → OnOk r (Appends old new (take n after))
    → t ≡ is_ok r → IsTrue t → Appends old new (page_text file)
appends_text file buffer after written n old new (Ok u) t all empty e took same so =
    let enough : length buffer ≡ longest_report = ap length empty ∙ length-replicate {A = ℕ} longest_report 0 in
    subst (Appends old new) (ap (λ (k : ℕ). take k after) all ∙ text_written file buffer after written enough e) took
appends_text file buffer after written n old new (Err x) t all empty e took same so = cc
