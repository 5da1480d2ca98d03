-- A field that stands at the front is written there, and the other way round: its length's bytes give its length, and its length its bytes.
use Rattle.std.specs.Prelude.{◌≡◌, refl, true, List, [], ◌∷◌, ◌++◌, ◌⊎◌, ℕ, zero, suc, ◌+◌, ◌≤◌, length, get_or, drop}
use Rattle.basis.proofs.Names.{sym, ap, ◌∙◌, inl, inr, mod-eq_of_lt, arith, length-append, take-append-drop, length-take-le, take-append_seam, drop-append_seam}
use Rattle.words.specs.Number.{AllBytes, bytes}
use Rattle.words.proofs.Numbers.{number-bytes, bytes-number}
use Rattle.pagefile.specs.Fields.{Field, written, may_hold}
use Rattle.pagefile.specs.Parsing.{length_in, contents_in, size, holds}
use Rattle.pagefile.proofs.Fronts.{Stands, Missing, standing, front}

-- a field that was written is read
module _ (f : Field) (rest : List ℕ) (short : length (written f ++ rest) ≤ 65536) where
  counted : length_in (written f ++ rest) ≡ length f.contents
  counted =
      number-bytes 2 (length f.contents) ∙ mod-eq_of_lt (omega (arith, length-append f.contents rest))

  contents_back : contents_in (written f ++ rest) ≡ f.contents
  contents_back = rw counted (take-append_seam f.contents rest)

  read_back : may_hold f.tag f.contents ≡ true → Stands f.tag (written f ++ rest)
  read_back right =
      let enough : 3 + length_in (written f ++ rest) ≤ length (written f ++ rest) = omega (arith, counted, length-append f.contents rest) in
      standing f.tag (written f ++ rest) refl enough (ap (may_hold f.tag) contents_back ∙ right)

  pub taken : may_hold f.tag f.contents ≡ true → drop (size f.tag (written f ++ rest)) (written f ++ rest) ≡ rest
  taken right =
      let past : size f.tag (written f ++ rest) ≡ suc (suc (suc (length f.contents))) = omega (arith, counted, (read_back right).sized) in
      rw past (drop-append_seam f.contents rest)

  pub kept : may_hold f.tag f.contents ≡ true → holds f.tag (written f ++ rest) ≡ f.contents
  kept right = (read_back right).held ∙ contents_back

-- another tag's field is not
pub missing : (tag : ℕ) (s : List ℕ) → (get_or s 0 0 ≡ tag → ⊥) → Missing tag s
missing tag s other = go (front tag s)
  where
    go : Stands tag s ⊎ Missing tag s → Missing tag s
    go (inl f) = absurd (other f.tagged)
    go (inr m) = m

-- a field that stands was written
pub rebuilt : (tag : ℕ) (s : List ℕ) → AllBytes s → Stands tag s
    → s ≡ written (record { tag = tag; contents = contents_in s }) ++ drop (size tag s) s
rebuilt tag [] all f = absurd (omega (arith, f.within))
rebuilt tag (t ∷ []) all f = absurd (omega (arith, f.within))
rebuilt tag (t ∷ low ∷ []) all f = absurd (omega (arith, f.within))
rebuilt tag (t ∷ low ∷ high ∷ s) all f =
    let n = length_in (t ∷ low ∷ high ∷ s) in
    let past : size tag (t ∷ low ∷ high ∷ s) ≡ suc (suc (suc n)) = omega (arith, f.sized) in
    let pair : bytes 2 n ≡ low ∷ high ∷ [] = bytes-number (low ∷ high ∷ []) small in
    rw (past, length-take-le n s (omega (arith, f.within)), take-append-drop n s, ← f.tagged) (ap (λ (l : List ℕ). t ∷ (l ++ s)) (sym pair))
  where
    small : AllBytes (low ∷ high ∷ [])
    small zero = all 1
    small (suc zero) = all 2
    small (suc (suc i)) = omega arith
