-- What several reads put into a buffer, one behind the other, is what they took from the input.
use Rattle.std.specs.Prelude.{◌≡◌, ◌≤◌, ◌+◌, List, ◌++◌, ℕ, length, take, Option}
use Rattle.std.specs.Io.KnownBytes.{Consumes}
use Rattle.std.proofs.KnownBytes.{Consumes-trans}
use borrow.Rule.Slice.PartMut.{put_mid, post_of}
use Rattle.std.proofs.Math.Seq.{take-append-add}
use Rattle.basis.proofs.Names.{ap, ◌∙◌, sym, subst, length-take-le, take-append-le}

-- the start of a buffer of which the part behind `n` was read into
start_of : (n k more : ℕ) (old read : List ℕ) → n ≤ length old → more ≤ length read → take (n + more) (put_mid n k old read) ≡ take n old ++ take more read
start_of n k more old read within fits =
    let front = take n old in
    let rest = read ++ post_of n k old in
    ap (λ (m : ℕ). take (m + more) (front ++ rest)) (sym (length-take-le n old within)) ∙ take-append-add front rest more
    ∙ ap (λ (l : List ℕ). front ++ l) (take-append-le more read (post_of n k old) fits)

pub read_more : (a b c : Option (List ℕ)) (n k more : ℕ) (old read : List ℕ) → n ≤ length old → more ≤ length read
    → Consumes a b (take n old) → Consumes b c (take more read) → Consumes a c (take (n + more) (put_mid n k old read))
read_more a b c n k more old read within fits p q =
    subst (Consumes a c) (sym (start_of n k more old read within fits)) (Consumes-trans a b c (take n old) (take more read) p q)
