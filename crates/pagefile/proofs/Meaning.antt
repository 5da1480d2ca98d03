-- A file is well formed exactly if it is made of fields as a page file is, and its parts are what these fields hold: tag by tag, what
-- remains of the file is the bytes of the fields that remain.
use Rattle.std.specs.Prelude.{◌≡◌, refl, Bool, true, false, cond, List, [], ◌∷◌, ◌++◌, ◌⊎◌, ℕ, zero, suc, ◌+◌, ◌-◌, ◌≤◌, ◌<◌, eqb, leb, length, get_or, drop, ◌↔◌}
use Rattle.basis.proofs.Names.{sym, ap, subst, ◌∙◌, false≢true, inl, inr, eq-or-lt_of_le, arith, eq-eqb, ne_eqb, eqb-true, leb-true, le-leb, length-append, get_or-drop}
use Rattle.words.specs.Number.{AllBytes}
use Rattle.words.proofs.Laws.{and_both}
use Rattle.pagefile.specs.Fields.{Field, written, Ascending, concatenated, MadeOf, held}
use Rattle.pagefile.specs.Parsing.{contents_in, size, holds, remaining, well_formed, contents_of, marks_of, malformed, well_formed_with, refused_with, page_of}
use Rattle.pagefile.proofs.Fronts.{Stands, Missing, front}
use Rattle.pagefile.proofs.Written.{taken, kept, missing, rebuilt}

-- fields above a tag hold nothing under it
held_none : (last tag : ℕ) (fields : List Field) → Ascending last fields → tag ≤ last → held tag fields ≡ []
held_none last tag [] a h = refl
held_none last tag (f ∷ fs) (above, most, right, a) h =
    rw (ne_eqb f.tag tag (λ (e : f.tag ≡ tag). omega arith)) (held_none f.tag tag fs a (omega arith))

-- these fields hold the same under every tag above t
abbrev Same : List Field → ℕ → List Field → Type 0
Same fields t above = (tag : ℕ) → t < tag → held tag above ≡ held tag fields

-- what the tags up to t leave of a file that is made of fields: the fields above t
record Reached (fields : List Field) (t : ℕ) (rest : List ℕ) : Type 0 where
  above : List Field
  ascending : Ascending t above
  bytes : rest ≡ concatenated above
  short : length rest ≤ 65536
  same : Same fields t above

-- one tag more: its field is the first of those above, or it is absent
record Stepped (fields : List Field) (t : ℕ) (rest : List ℕ) : Type 0 where
  reached : Reached fields (suc t) (drop (size (suc t) rest) rest)
  holding : holds (suc t) rest ≡ held (suc t) fields

step : (fields : List Field) (t : ℕ) (rest : List ℕ) → Reached fields t rest → Stepped fields t rest
step fields t rest r = go r.above r.ascending r.bytes r.same
  where
    absent : (above : List Field) → Ascending (suc t) above → rest ≡ concatenated above → Same fields t above
        → Missing (suc t) rest → Stepped fields t rest
    absent above a e same m = record {
      reached = record {
        above = above;
        ascending = a;
        bytes = rw m.sized e;
        short = rw m.sized r.short;
        same = λ tag h. same tag (omega arith);
      };
      holding = m.held ∙ sym (held_none (suc t) (suc t) above a (omega arith)) ∙ same (suc t) (omega arith);
    }

    go : (above : List Field) → Ascending t above → rest ≡ concatenated above → Same fields t above → Stepped fields t rest
    go [] a e same = absent [] a e same (rw (sym e) at (missing (suc t) [] (λ (z : 0 ≡ suc t). omega arith)))
    go (f ∷ fs) (over, most, right, a) e same = next (eq-or-lt_of_le over)
      where
        short : length (written f ++ concatenated fs) ≤ 65536
        short = rw e at r.short

        next : (suc t ≡ f.tag) ⊎ (suc t < f.tag) → Stepped fields t rest
        next (inl p) =
            let others : drop (size (suc t) rest) rest ≡ concatenated fs = rw (e, p) (taken f (concatenated fs) short right) in record {
              reached = record {
                above = fs;
                ascending = subst (λ (n : ℕ). Ascending n fs) (sym p) a;
                bytes = others;
                short = rw others (omega (arith, length-append f.contents (concatenated fs), short));
                same = λ tag h. rw (ne_eqb f.tag tag (λ (q : f.tag ≡ tag). omega arith)) at (same tag (omega arith));
              };
              holding = rw (e, p) (kept f (concatenated fs) short right) ∙ rw (eq-eqb f.tag (suc t) (sym p)) at (same (suc t) (omega arith));
            }
        next (inr above) =
            let none = missing (suc t) (concatenated (f ∷ fs)) (λ (q : f.tag ≡ suc t). omega arith) in
            absent (f ∷ fs) (above, most, right, a) e same (subst (Missing (suc t)) (sym e) none)

-- a file that is made of fields is well formed, and holds what they hold
module _ (fields : List Field) (file : List ℕ) (made : MadeOf fields file) where
  reached : (t : ℕ) → Reached fields t (remaining t file)
  unfolding remaining
  reached zero = record { above = fields; ascending = made.ascending; bytes = made.whole; short = made.short; same = λ tag h. refl }
  reached (suc t) = (step fields t (remaining t file) (reached t)).reached

  nothing_remaining : remaining 5 file ≡ []
  nothing_remaining = go (reached 5).above (reached 5).ascending (reached 5).bytes
    where
      go : (above : List Field) → Ascending 5 above → remaining 5 file ≡ concatenated above → remaining 5 file ≡ []
      go [] a e = e
      go (f ∷ fs) (over, most, right, a) e = absurd (omega arith)

  pub made_well_formed : well_formed file ≡ true
  unfolding well_formed
  made_well_formed = rw (le-leb _ _ made.short, nothing_remaining)

  pub made_holds : (tag : ℕ) → 0 < tag → contents_of tag file ≡ held tag fields
  unfolding contents_of
  made_holds zero some = absurd (omega arith)
  made_holds (suc t) some =
      let before : suc t - 1 ≡ t = omega arith in
      rw (made_well_formed, before) (step fields t (remaining t file) (reached t)).holding

-- a well-formed file of bytes is made of fields
lower : (t : ℕ) (fields : List Field) → Ascending (suc t) fields → Ascending t fields
lower t [] a = a
lower t (f ∷ fs) (over, most, right, a) = (omega arith, most, right, a)

all-remaining : (t : ℕ) (file : List ℕ) → AllBytes file → AllBytes (remaining t file)
unfolding remaining
all-remaining zero file all i = all i
all-remaining (suc t) file all i = rw get_or-drop (all-remaining t file all (size (suc t) (remaining t file) + i))

record Made (last : ℕ) (rest : List ℕ) : Type 0 where
  fields : List Field
  ascending : Ascending last fields
  bytes : rest ≡ concatenated fields

back : (t : ℕ) (rest : List ℕ) → suc t ≤ 5 → AllBytes rest → Made (suc t) (drop (size (suc t) rest) rest) → Made t rest
back t rest most all made = go (front (suc t) rest)
  where
    go : Stands (suc t) rest ⊎ Missing (suc t) rest → Made t rest
    go (inl s) = record {
      fields = record { tag = suc t; contents = contents_in rest } ∷ made.fields;
      ascending = (omega arith, most, s.allowed, made.ascending);
      bytes = rebuilt (suc t) rest all s ∙ ap (λ (l : List ℕ). written (record { tag = suc t; contents = contents_in rest }) ++ l) made.bytes;
    }
    go (inr m) = record { fields = made.fields; ascending = lower t made.fields made.ascending; bytes = rw m.sized at made.bytes }

all_back : (t : ℕ) (file : List ℕ) → t ≤ 5 → AllBytes file → Made t (remaining t file) → Made 0 file
unfolding remaining
all_back zero file most all made = made
all_back (suc t) file most all made = all_back t file (omega arith) all (back t (remaining t file) most (all-remaining t file all) made)

pub well_formed_made : (file : List ℕ) → AllBytes file → well_formed file ≡ true → (fields : List Field) × MadeOf fields file
unfolding well_formed
well_formed_made file all good =
    let (short, none) = and_both (leb (length file) 65536) (eqb (length (remaining 5 file)) 0) good in
    let made = all_back 5 file (omega arith) all (record { fields = []; ascending = tt; bytes = empty (remaining 5 file) (eqb-true (length (remaining 5 file)) 0 none) }) in
    (made.fields, record { ascending = made.ascending; whole = made.bytes; short = leb-true (length file) 65536 short })
  where
    empty : (l : List ℕ) → length l ≡ 0 → l ≡ []
    empty [] e = refl
    empty (x ∷ l) e = absurd (omega arith)

-- 13 is given exactly when a file of bytes is not made of such fields
pub thirteen_exactly : (file : List ℕ) → AllBytes file → (page_of file ≡ refused_with malformed) ↔ ((fields : List Field) → MadeOf fields file → ⊥)
unfolding page_of
thirteen_exactly file all = (λ e. by (well_formed file) refl e, λ none. back (well_formed file) refl none)
  where
    by : (t : Bool) → well_formed file ≡ t → cond t (well_formed_with (get_or (marks_of file) 0 0)) (refused_with malformed) ≡ refused_with malformed
        → (fields : List Field) → MadeOf fields file → ⊥
    by true t e fields made = false≢true (cc)
    by false t e fields made =
        let yes : well_formed file ≡ true = made_well_formed fields file made in
        false≢true (cc)

    back : (t : Bool) → well_formed file ≡ t → ((fields : List Field) → MadeOf fields file → ⊥)
        → cond t (well_formed_with (get_or (marks_of file) 0 0)) (refused_with malformed) ≡ refused_with malformed
    back true t none = let (fields, made) = well_formed_made file all t in absurd (none fields made)
    back false t none = refl
