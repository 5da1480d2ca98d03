-- The parts of a file, by what the code has found: whether it is well formed, and whether a tag's field stands where its tag comes.
use Rattle.std.specs.Option.{unwrap_or}
use Rattle.std.specs.Prelude.{Option, None, Some, MatchOption, ◌≡◌, Bool, true, false, not, List, [], ℕ, ◌-◌, ◌≤◌, ◌<◌, eqb, length, get_or}
use Rattle.basis.proofs.Names.{sym, ap, ◌∙◌, arith, rules, le-leb, lt-leb, not-true, not-false, get_or-eq_default}
use Rattle.pagefile.specs.Parsing.{contents_in, stands, remaining, well_formed, contents_of, malformed, well_formed_with, refused_with, page_of}
use Rattle.pagefile.proofs.Fronts.{stood, lacking}

-- whether the file is well formed
module _ (file : List ℕ) where
  pub too_long : 65536 < length file → false ≡ well_formed file
  unfolding well_formed
  too_long long = rw (lt-leb _ _ long)

  pub nothing_remaining : (rest : List ℕ) → rest ≡ remaining 5 file → length file ≤ 65536 → eqb (length rest) 0 ≡ well_formed file
  unfolding well_formed
  nothing_remaining rest here short = rw (le-leb _ _ short, here)

-- the contents of a tag's field
module _ (file : List ℕ) (tag : ℕ) (good : Bool) (tested : good ≡ well_formed file) where
  pub no_part : not good ≡ true → [] ≡ contents_of tag file
  unfolding contents_of
  no_part bad = rw (← tested, not-true good bad)

  module _ (rest : List ℕ) (here : rest ≡ remaining (tag - 1) file) (right : not good ≡ false) where
    pub held_part : (part : List ℕ) → stands tag rest ≡ true → part ≡ contents_in rest → part ≡ contents_of tag file
    unfolding contents_of
    held_part part all same = rw (← tested, not-false good right, ← here, (stood tag rest all).held) same

    pub missing_part : (part : List ℕ) → stands tag rest ≡ false → part ≡ [] → part ≡ contents_of tag file
    unfolding contents_of
    missing_part part fails none = rw (← tested, not-false good right, ← here, (lacking tag rest fails).held) none

    pub either_part : {A : Type 0} (now : A → List ℕ) (found : Option A) (none : A) → now none ≡ []
        → MatchOption found (stands tag rest ≡ false) (λ part. (stands tag rest ≡ true) × (now part ≡ contents_in rest))
        → now (unwrap_or found none) ≡ contents_of tag file
    either_part now None none empty fails = missing_part (now none) fails empty
    either_part now (Some part) none empty (all, same) = held_part (now part) all same

-- the answer
module _ (file : List ℕ) (good : Bool) (tested : good ≡ well_formed file) where
  pub refused : not good ≡ true → refused_with malformed ≡ page_of file
  unfolding page_of
  refused bad = rw (← tested, not-true good bad)

  module _ (marks : List ℕ) (read : marks ≡ contents_of 5 file) (right : not good ≡ false) where
    pub marked : well_formed_with (get_or marks 0 0) ≡ page_of file
    unfolding page_of
    marked = rw (← tested, not-false good right, read)

    pub unmarked : length marks ≡ 0 → well_formed_with 0 ≡ page_of file
    unmarked none = ap well_formed_with (sym (get_or-eq_default marks 0 (omega arith))) ∙ marked

pub ruleset parts = (rules, too_long, nothing_remaining, no_part, held_part, missing_part, refused, marked, unmarked)
