-- The text of what was read is that of the file in the input: all of the file was read, or it is too long either way.
use Rattle.std.specs.Prelude.{◌≡◌, ◌↔◌, refl, ◌+◌, ◌≤◌, ◌<◌, List, [], ◌++◌, ℕ, Bool, true, false, ltb, length, take, Option, None, Some}
use Rattle.std.specs.Io.KnownBytes.{Consumes, IsAtEnd, Appends}
use Rattle.basis.proofs.Names.{ap, ◌∙◌, sym, subst, arith, append-nil, length-append, length-take-le, lt-leb, ltb-true, ltb-false}
use Rattle.pagefile.specs.Parsing.{well_formed, page_of, malformed}
use Rattle.printout.specs.Lines.{refusal_text}
use Rattle.player.specs.Page.{page_text}
use Rattle.page.specs.Prints.{PrintsPage}

too_long : (file : List ℕ) → 65536 < length file → page_text file ≡ refusal_text malformed
unfolding page_text page_of well_formed
too_long file long = rw (lt-leb (length file) 65536 long) refl

read_alike : (whole left file : List ℕ) (n : ℕ) → whole ≡ take n file ++ left → n ≤ length file → length file ≡ 65537
    → (n < length file → left ≡ []) → page_text (take n file) ≡ page_text whole
read_alike whole left file n e within room end = by (ltb n (length file)) refl
  where
    by : (t : Bool) → ltb n (length file) ≡ t → page_text (take n file) ≡ page_text whole
    by true h = ap page_text (sym (append-nil (take n file)) ∙ ap (λ (l : List ℕ). take n file ++ l) (sym (end (ltb-true n (length file) h))) ∙ sym e)
    by false h =
        let counted : length (take n file) ≡ n = length-take-le n file within in
        let full : n ≡ 65537 = omega (arith, ltb-false n (length file) h) in
        let all : length whole ≡ length (take n file) + length left = ap length e ∙ length-append (take n file) left in
        too_long (take n file) (omega arith) ∙ sym (too_long whole (omega arith))

pub prints_page : (input rest old new : Option (List ℕ)) (file : List ℕ) (n : ℕ) → length file ≡ 65537 → n ≤ length file
    → Consumes input rest (take n file) × (n < length file → IsAtEnd rest) → Appends old new (page_text (take n file)) → PrintsPage input old new
prints_page None rest old new file n room within read text = tt
prints_page (Some whole) None old new file n room within read text = absurd read.0
prints_page (Some whole) (Some left) old new file n room within read text =
    subst (Appends old new) (read_alike whole left file n read.0 within room read.1) text

-- of a file in the input, the output has grown by its text, exactly
pub printed_exactly : (file old new : List ℕ) → PrintsPage (Some file) (Some old) (Some new) ↔ (new ≡ old ++ page_text file)
printed_exactly file old new = (λ h. h, λ h. h)
