-- What the tests of a field at the front tell: they all hold, and the field takes its heading and its contents; or it takes no byte.
use Rattle.std.specs.Prelude.{◌≡◌, refl, Bool, true, false, ◌&&◌, List, [], ◌⊎◌, ℕ, ◌+◌, ◌≤◌, eqb, leb, length, get_or}
use Rattle.basis.proofs.Names.{inl, inr, eqb-true, leb-true, eq-eqb, le-leb}
use Rattle.words.proofs.Laws.{and_both}
use Rattle.pagefile.specs.Fields.{may_hold}
use Rattle.pagefile.specs.Parsing.{length_in, contents_in, stands, size, holds}

pub record Stands (tag : ℕ) (s : List ℕ) : Type 0 where
  pub tagged : get_or s 0 0 ≡ tag
  pub within : 3 + length_in s ≤ length s
  pub allowed : may_hold tag (contents_in s) ≡ true
  pub sized : size tag s ≡ 3 + length_in s
  pub held : holds tag s ≡ contents_in s

pub record Missing (tag : ℕ) (s : List ℕ) : Type 0 where
  pub sized : size tag s ≡ 0
  pub held : holds tag s ≡ []

module _ (tag : ℕ) (s : List ℕ) where
  pub standing : get_or s 0 0 ≡ tag → 3 + length_in s ≤ length s → may_hold tag (contents_in s) ≡ true → Stands tag s
  unfolding size holds
  standing same fits right =
      let all : stands tag s ≡ true = rw (eq-eqb _ _ same, le-leb _ _ fits) right in
      record { tagged = same; within = fits; allowed = right; sized = rw all; held = rw all }

  pub stood : stands tag s ≡ true → Stands tag s
  unfolding size holds
  stood all =
      let (first, right) = and_both (eqb (get_or s 0 0) tag && leb (3 + length_in s) (length s)) (may_hold tag (contents_in s)) all in
      let (same, fits) = and_both (eqb (get_or s 0 0) tag) (leb (3 + length_in s) (length s)) first in
      standing (eqb-true (get_or s 0 0) tag same) (leb-true (3 + length_in s) (length s) fits) right

  pub lacking : stands tag s ≡ false → Missing tag s
  unfolding size holds
  lacking fails = record { sized = rw fails; held = rw fails }

  pub front : Stands tag s ⊎ Missing tag s
  front = go (stands tag s) refl
    where
      go : (t : Bool) → stands tag s ≡ t → Stands tag s ⊎ Missing tag s
      go true all = inl (stood all)
      go false fails = inr (lacking fails)
