-- Each answer to a question is given exactly where it is due: so the pair is said not to meet exactly where it does not, by 01's rule; and swapping
-- the two numbers changes nothing.
use Rattle.std.specs.Prelude.{◌≡◌, refl, ◌⊎◌, Bool, true, false, not, cond, ◌&&◌, ◌||◌, List, [], ◌∷◌, ℕ, ◌<◌, ◌≤◌, eqb, leb, ltb, length, ◌↔◌}
use Rattle.basis.specs.Names.{Memᴰ as In}
use Rattle.basis.proofs.Names.{sym, ap, subst, subst₂, ◌∙◌, inl, inr, false≢true, Memᴰ-head as here, Memᴰ-tail as later, Memᴰ-not_nil as not-nil, arith, dec_lt, eq-eqb, ne_eqb, le-leb, lt-leb, lt-ltb, le-ltb, or-true, not-true}
use Rattle.reorder.specs.Result.{done}
use Rattle.reorder.specs.Run.{Answer, finished, spent, stopped}
use Rattle.reorder.specs.Footprint.{Footprint}
use Rattle.reorder.specs.Footprint as places
use Rattle.codec.specs.declared.Kind.{Kind}
use Rattle.manual.specs.State.{State}
use Rattle.manual.specs.Places.{Place}
use Rattle.manual.specs.Kinds.{kinds_meet, KindsMeet}
use Rattle.manual.specs.Runs.{run_of, reaches_jump, has_no_jump}
use Rattle.manual.specs.Footprints.{footprint_in_run, Meets}
use Rattle.manual.proofs.Demand3.{has_footprint}
use Rattle.manual.proofs.Having.{run_has}
use Rattle.manual.proofs.Endings.{never_spent as run_never_spent}
use Rattle.studio.specs.declared.Manner.{Manner}
use Rattle.studio.specs.declared.Manner.TheVariants.{BothWrite, WriteRead, ReadWrite}
use Rattle.studio.specs.Refusals.{numbers_wrong}
use Rattle.studio.specs.Meetings.{Meeting, all_places, meeting_at, lowest, among, meeting_of}
use Rattle.studio.specs.Meetings as answers
use Rattle.studio.specs.Whys.{budget, Reply, refusal, instead, told, meeting_in_run, reply_after, asked, why_not}
use Rattle.studio.specs.Reasons.{Lower, MeetsAt, FirstAt, ApartAt, Sorted, ascending, descending, Runs, Pair, Undone, Due, thirty, undone, twenty_nine, apart, emms, met_at}
use Rattle.studio.proofs.laws.meetings.Listing.{among_exactly}
use Rattle.studio.proofs.Places.{in_places, Ascending, ascending_places, first_lowest}

both_exactly : {A B : Type 0} (a b : Bool) → (a ≡ true) ↔ A → (b ≡ true) ↔ B → ((a && b) ≡ true) ↔ (A × B)
both_exactly {A} {B} a b p q = (from a b p q, λ (x, y). simp (p.1 x, q.1 y))
  where
    from : (a b : Bool) → (a ≡ true) ↔ A → (b ≡ true) ↔ B → (a && b) ≡ true → A × B
    from true b p q e = (p.0 refl, q.0 e)
    from false b p q e = absurd (false≢true e)

module _ (f g : Footprint Place Kind) where
  -- the definition's test of a manner
  abbrev test : Manner → Place → Bool
  test BothWrite p = among f.writes p && among g.writes p
  test WriteRead p = among f.writes p && among g.reads p
  test ReadWrite p = among f.reads p && among g.writes p

  test_exactly : (manner : Manner) (p : Place) → (test manner p ≡ true) ↔ MeetsAt f g manner p
  test_exactly BothWrite p = both_exactly _ _ (among_exactly f.writes p) (among_exactly g.writes p)
  test_exactly WriteRead p = both_exactly _ _ (among_exactly f.writes p) (among_exactly g.reads p)
  test_exactly ReadWrite p = both_exactly _ _ (among_exactly f.reads p) (among_exactly g.writes p)

  fails : (manner : Manner) (p : Place) → ¬ MeetsAt f g manner p → test manner p ≡ false
  fails manner p none = by (test manner p) refl
    where
      by : (t : Bool) → test manner p ≡ t → t ≡ false
      by true e = absurd (none ((test_exactly manner p).0 e))
      by false e = refl

  passes_not : (manner : Manner) (p : Place) → test manner p ≡ false → ¬ MeetsAt f g manner p
  passes_not manner p e m = false≢true (sym e ∙ (test_exactly manner p).1 m)

  abbrev found : List Place → Meeting
  found ps = lowest (among f.writes) (among f.reads) (among g.writes) (among g.reads) ps

  -- what the lowest place of a list where they meet is
  data Lowest (ps : List Place) : Meeting → Type 0 where
    nowhere : ((p : Place) → In p ps → ApartAt f g p) → Lowest ps answers.apart
    somewhere : (p : Place) (manner : Manner) → In p ps → FirstAt f g manner p → ((q : Place) → In q ps → Lower q p → ApartAt f g q) → Lowest ps (answers.met_at p manner)

  first_passes : (manner : Manner) (p : Place) (follows : Meeting) → FirstAt f g manner p
      → meeting_at (among f.writes) (among f.reads) (among g.writes) (among g.reads) p follows ≡ answers.met_at p manner
  first_passes BothWrite p follows m = simp ((test_exactly BothWrite p).1 m)
  first_passes WriteRead p follows (a, m) = simp (fails BothWrite p a, (test_exactly WriteRead p).1 m)
  first_passes ReadWrite p follows (a, b, m) = simp (fails BothWrite p a, fails WriteRead p b, (test_exactly ReadWrite p).1 m)

  apart_passes : (p : Place) (follows : Meeting) → ApartAt f g p
      → meeting_at (among f.writes) (among f.reads) (among g.writes) (among g.reads) p follows ≡ follows
  apart_passes p follows none = simp (fails BothWrite p (none BothWrite), fails WriteRead p (none WriteRead), fails ReadWrite p (none ReadWrite))

  -- a place has a first manner, or none
  data At (p : Place) : Type 0 where
    meets_there : (manner : Manner) → FirstAt f g manner p → At p
    apart_there : ApartAt f g p → At p

  at_place : (p : Place) → At p
  at_place p = by (test BothWrite p) (test WriteRead p) (test ReadWrite p) refl refl refl
    where
      by : (a b c : Bool) → test BothWrite p ≡ a → test WriteRead p ≡ b → test ReadWrite p ≡ c → At p
      by true b c ea eb ec = meets_there BothWrite ((test_exactly BothWrite p).0 ea)
      by false true c ea eb ec = meets_there WriteRead (passes_not BothWrite p ea, (test_exactly WriteRead p).0 eb)
      by false false true ea eb ec = meets_there ReadWrite (passes_not BothWrite p ea, passes_not WriteRead p eb, (test_exactly ReadWrite p).0 ec)
      by false false false ea eb ec = apart_there none
        where
          none : ApartAt f g p
          none BothWrite = passes_not BothWrite p ea
          none WriteRead = passes_not WriteRead p eb
          none ReadWrite = passes_not ReadWrite p ec

  lowest_is : (ps : List Place) → Ascending ps → Lowest ps (found ps)
  lowest_is [] a = nowhere (λ p m. absurd (not-nil m))
  lowest_is (p ∷ ps) (first, a) = by (at_place p) (found ps) (lowest_is ps a)
    where
      by : At p → (m : Meeting) → Lowest ps m → Lowest (p ∷ ps) (meeting_at (among f.writes) (among f.reads) (among g.writes) (among g.reads) p m)
      by (meets_there manner m) r l =
          subst (Lowest (p ∷ ps)) (sym (first_passes manner p r m)) (somewhere p manner (here refl) m (λ q i b. absurd (first_lowest p ps first q i b)))
      by (apart_there none) r l = subst (Lowest (p ∷ ps)) (sym (apart_passes p r none)) (further l)
        where
          further : {r : Meeting} → Lowest ps r → Lowest (p ∷ ps) r
          further (nowhere h) = nowhere both
            where
              both : (q : Place) → In q (p ∷ ps) → ApartAt f g q
              both q (here e) = subst (ApartAt f g) (sym e) none
              both q (later m) = h q m
          further (somewhere q manner i m before) = somewhere q manner (later i) m both
            where
              both : (q' : Place) → In q' (p ∷ ps) → Lower q' q → ApartAt f g q'
              both q' (here e) b = subst (ApartAt f g) (sym e) none
              both q' (later i') b = before q' i' b

  lowest_one : (ps : List Place) → Ascending ps → (r : Meeting) → Lowest ps r → found ps ≡ r
  lowest_one [] a r (nowhere h) = refl
  lowest_one [] a r (somewhere p manner i m before) = absurd (not-nil i)
  lowest_one (p ∷ ps) (first, a) r (nowhere h) =
      apart_passes p (found ps) (h p (here refl)) ∙ lowest_one ps a answers.apart (nowhere (λ q m. h q (later m)))
  lowest_one (p ∷ ps) (first, a) r (somewhere q manner (here e) m before) =
      first_passes manner p (found ps) (subst (FirstAt f g manner) e m) ∙ ap (λ (x : Place). answers.met_at x manner) (sym e)
  lowest_one (p ∷ ps) (first, a) r (somewhere q manner (later i) m before) =
      apart_passes p (found ps) (before p (here refl) (first q i))
      ∙ lowest_one ps a (answers.met_at q manner) (somewhere q manner i m (λ q' j b. before q' (later j) b))

  -- one writes a place that the other reads or writes, exactly where at some place one of the three holds

  meets_shares : (manner : Manner) (p : Place) → MeetsAt f g manner p → places.Share f g
  meets_shares BothWrite p (w, w') = inl (p, w, inr w')
  meets_shares WriteRead p (w, r') = inl (p, w, inl r')
  meets_shares ReadWrite p (r, w') = inr (p, w', inl r)

  shares_meets : places.Share f g → (manner : Manner) × (p : Place) × MeetsAt f g manner p
  shares_meets (inl (p, w, inl r')) = (WriteRead, p, (w, r'))
  shares_meets (inl (p, w, inr w')) = (BothWrite, p, (w, w'))
  shares_meets (inr (p, w', inl r)) = (ReadWrite, p, (r, w'))
  shares_meets (inr (p, w', inr w)) = (BothWrite, p, (w, w'))

  touched : (manner : Manner) (p : Place) → MeetsAt f g manner p → In p f.reads ⊎ In p f.writes
  touched BothWrite p (w, w') = inr w
  touched WriteRead p (w, r') = inr w
  touched ReadWrite p (r, w') = inl r

  manner_of : (manner : Manner) (p : Place) → FirstAt f g manner p → MeetsAt f g manner p
  manner_of BothWrite p m = m
  manner_of WriteRead p (a, m) = m
  manner_of ReadWrite p (a, b, m) = m

-- which of the two is the earlier

sorted_below : {i j low high : ℕ} → Sorted i j low high → low < high
sorted_below (ascending h) = h
sorted_below (descending h) = h

module _ (code : List ℕ) (i j : ℕ) (s : State) where
  -- the question by the earlier and the later number
  by_order : {low high : ℕ} → Sorted i j low high → has_no_jump code ≡ true → why_not code i j s ≡ asked code low high s
  unfolding why_not
  by_order (ascending h) straight = simp (not-true (reaches_jump code) straight, lt-ltb i j h)
  by_order (descending h) straight = let back : j ≤ i = omega arith in simp (not-true (reaches_jump code) straight, le-ltb i j back)

  -- a run that isn't done is answered instead
  run_instead : (a : Answer State) → has_no_jump code ≡ true → run_of 0 code budget s ≡ a → Undone a → why_not code i j s ≡ instead a
  unfolding why_not asked
  run_instead a straight e u = simp (not-true (reaches_jump code) straight, e) (either (ltb i j))
    where
      answers_it : (low high : ℕ) (a : Answer State) → Undone a → reply_after code low high s a ≡ instead a
      answers_it low high (finished at total t) u = absurd u
      answers_it low high (spent at count t) u = refl
      answers_it low high (stopped n at count t) u = refl

      either : (up : Bool) → cond up (reply_after code i j s a) (reply_after code j i s a) ≡ instead a
      either true = answers_it i j a u
      either false = answers_it j i a u

  module _ (total : ℕ) (t : State) (r : Runs code s total t) where
    after : (low high : ℕ) → asked code low high s ≡ cond (eqb low high || leb total low || leb total high) (refusal numbers_wrong t) (told (meeting_in_run code low high s) t)
    unfolding asked
    after low high = ap (reply_after code low high s) r.runs

    wrong : (i ≡ j) ⊎ (total ≤ i) ⊎ (total ≤ j) → why_not code i j s ≡ refusal numbers_wrong t
    unfolding why_not
    wrong h = simp (not-true (reaches_jump code) r.straight) (by (ltb i j))
      where
        refuses : (low high : ℕ) → (eqb low high || leb total low || leb total high) ≡ true → asked code low high s ≡ refusal numbers_wrong t
        refuses low high e = after low high ∙ simp e

        one_of : (i j : ℕ) → (i ≡ j) ⊎ (total ≤ i) ⊎ (total ≤ j) → (eqb i j || leb total i || leb total j) ≡ true
        one_of i j (inl e) = simp (eq-eqb i j e)
        one_of i j (inr (inl l)) = simp (le-leb total i l, or-true)
        one_of i j (inr (inr l)) = simp (le-leb total j l, or-true)

        turned : (i ≡ j) ⊎ (total ≤ i) ⊎ (total ≤ j) → (j ≡ i) ⊎ (total ≤ j) ⊎ (total ≤ i)
        turned (inl e) = inl (sym e)
        turned (inr (inl l)) = inr (inr l)
        turned (inr (inr l)) = inr (inl l)

        by : (up : Bool) → cond up (asked code i j s) (asked code j i s) ≡ refusal numbers_wrong t
        by true = refuses i j (one_of i j h)
        by false = refuses j i (one_of j i (turned h))

  -- two instructions of a block that runs to its end
  module _ (t : State) (f g : Footprint Place Kind) (pair : Pair code i j s t f g) where
    abbrev n : ℕ
    n = length s.memory

    pair_told : why_not code i j s ≡ told (meeting_of n (done f) (done g)) t
    pair_told =
        let low = pair.low in
        let high = pair.high in
        let up = sorted_below pair.sorted in
        let different = ne_eqb low high (λ e. omega arith) in
        let low_in = lt-leb pair.total low (omega (arith, pair.below)) in
        by_order pair.sorted pair.run.straight ∙ after pair.total t pair.run low high
        ∙ simp (different, low_in, lt-leb pair.total high pair.below, pair.earlier, pair.later)

    -- a place where they meet is one of the machine's
    has_place : (manner : Manner) (p : Place) → MeetsAt f g manner p → In p (all_places n)
    has_place manner p m = (in_places n p).1 (run_has 0 code s pair.low f pair.earlier p (touched f g manner p m))

    by_kinds : kinds_meet f.kind g.kind ≡ true → why_not code i j s ≡ told answers.emms t
    by_kinds e = pair_told ∙ simp e

    by_places : ¬ KindsMeet f.kind g.kind → (r : Meeting) → Lowest f g (all_places n) r → why_not code i j s ≡ told r t
    by_places none r l = pair_told ∙ go (kinds_meet f.kind g.kind) refl
      where
        go : (kinds : Bool) → kinds_meet f.kind g.kind ≡ kinds → told (cond kinds answers.emms (found f g (all_places n))) t ≡ told r t
        go true e = absurd (none e)
        go false e = ap (λ (m : Meeting). told m t) (lowest_one f g (all_places n) (ascending_places n) r l)

    -- the pair is said not to meet exactly where it does not
    pair_apart : (why_not code i j s ≡ told answers.apart t) ↔ ¬ Meets (done f) (done g)
    pair_apart = (from, λ none. by_places (λ kinds. none (inl kinds)) answers.apart (nowhere (λ p i manner m. none (inr (meets_shares f g manner p m)))))
      where
        at_no_place : (r : Meeting) → Lowest f g (all_places n) r → told r t ≡ told answers.apart t → ¬ places.Share f g
        at_no_place r (nowhere h) e share = let (manner, p, m) = shares_meets f g share in h p (has_place manner p m) manner m
        at_no_place r (somewhere p manner i first before) e share = absurd (false≢true (cc))

        from : why_not code i j s ≡ told answers.apart t → ¬ Meets (done f) (done g)
        from e (inl kinds) = let z : told answers.emms t ≡ told answers.apart t = sym (by_kinds kinds) ∙ e in absurd (false≢true (cc))
        from e (inr share) = go (kinds_meet f.kind g.kind) refl
          where
            go : (kinds : Bool) → kinds_meet f.kind g.kind ≡ kinds → ⊥
            go true k = let z : told answers.emms t ≡ told answers.apart t = sym (by_kinds k) ∙ e in absurd (false≢true (cc))
            go false k =
                at_no_place (found f g (all_places n)) (lowest_is f g (all_places n) (ascending_places n))
                (sym (pair_told ∙ ap (λ (kinds : Bool). told (cond kinds answers.emms (found f g (all_places n))) t) k) ∙ e) share

    pair_due : Due code i j s (why_not code i j s)
    pair_due = subst (Due code i j s) (sym pair_told) (go (kinds_meet f.kind g.kind) refl)
      where
        located : kinds_meet f.kind g.kind ≡ false → (r : Meeting) → Lowest f g (all_places n) r → Due code i j s (told r t)
        located e r (nowhere h) = apart t f g pair none
          where
            none : ¬ Meets (done f) (done g)
            none (inl kinds) = false≢true (sym e ∙ kinds)
            none (inr share) = let (manner, p, m) = shares_meets f g share in h p (has_place manner p m) manner m
        located e r (somewhere p manner i first before) =
            met_at t f g pair (λ kinds. false≢true (sym e ∙ kinds)) p manner first (λ q b manner' m. before q (has_place manner' q m) b manner' m)

        go : (kinds : Bool) → kinds_meet f.kind g.kind ≡ kinds → Due code i j s (told (cond kinds answers.emms (found f g (all_places n))) t)
        go true e = emms t f g pair e
        go false e = located e (found f g (all_places n)) (lowest_is f g (all_places n) (ascending_places n))

  -- what is answered after the run is due
  answered : has_no_jump code ≡ true → (a : Answer State) → run_of 0 code budget s ≡ a → Due code i j s (why_not code i j s)
  answered straight (spent at count t) e = subst (Due code i j s) (sym (run_instead (spent at count t) straight e tt)) (undone (spent at count t) straight e tt)
  answered straight (stopped n at count t) e =
      subst (Due code i j s) (sym (run_instead (stopped n at count t) straight e tt)) (undone (stopped n at count t) straight e tt)
  answered straight (finished end total t) e = numbers (dec_lt i j) (dec_lt j i) (dec_lt i total) (dec_lt j total)
    where
      run : Runs code s total t
      run = record { straight = straight; end = end; runs = e }

      wrong_due : (i ≡ j) ⊎ (total ≤ i) ⊎ (total ≤ j) → Due code i j s (why_not code i j s)
      wrong_due h = subst (Due code i j s) (sym (wrong total t run h)) (twenty_nine total t run h)

      pair : (low high : ℕ) → Sorted i j low high → high < total → Due code i j s (why_not code i j s)
      pair low high sorted below =
          let (f, ef) = has_footprint 0 code budget end total s t e low (omega (arith, sorted_below sorted)) in
          let (g, eg) = has_footprint 0 code budget end total s t e high below in
          pair_due t f g (record { total = total; run = run; low = low; high = high; sorted = sorted; below = below; earlier = ef; later = eg })

      numbers : Dec (i < j) → Dec (j < i) → Dec (i < total) → Dec (j < total) → Due code i j s (why_not code i j s)
      numbers (yes a) c d (yes b) = pair i j (ascending a) b
      numbers (yes a) c d (no b) = wrong_due (inr (inr (omega arith)))
      numbers (no a) (yes c) (yes d) b = pair j i (descending c) d
      numbers (no a) (yes c) (no d) b = wrong_due (inr (inl (omega arith)))
      numbers (no a) (no c) d b = wrong_due (inl (omega arith))

  due : Due code i j s (why_not code i j s)
  unfolding why_not
  due = by (reaches_jump code) refl
    where
      by : (jumps : Bool) → reaches_jump code ≡ jumps → Due code i j s (why_not code i j s)
      by true e = subst (Due code i j s) (sym (simp e)) (thirty e)
      by false e = answered (ap not e) (run_of 0 code budget s) refl

  given : (r : Reply) → Due code i j s r → why_not code i j s ≡ r
  unfolding why_not
  given r (thirty e) = simp e
  given r (undone a straight e u) = run_instead a straight e u
  given r (twenty_nine total t run h) = wrong total t run h
  given r (apart t f g pair none) =
      by_places t f g pair (λ kinds. none (inl kinds)) answers.apart (nowhere (λ p i manner m. none (inr (meets_shares f g manner p m))))
  given r (emms t f g pair kinds) = by_kinds t f g pair kinds
  given r (met_at t f g pair none p manner first before) =
      by_places t f g pair none (answers.met_at p manner)
      (somewhere p manner (has_place t f g pair manner p (manner_of f g manner p first)) first (λ q i b. before q b))

  -- AN ANSWER IS GIVEN EXACTLY WHERE IT IS DUE
  pub why_exactly : (r : Reply) → (why_not code i j s ≡ r) ↔ Due code i j s r
  why_exactly r = (λ e. subst (Due code i j s) e due, given r)

  -- "or that it doesn't": of two instructions of a block that runs to its end, exactly where they do not meet by 01's rule
  pub apart_exactly : (total low high : ℕ) (t : State) → Runs code s total t → Sorted i j low high → high < total
      → (why_not code i j s ≡ told answers.apart t) ↔ ¬ Meets (footprint_in_run 0 code s low) (footprint_in_run 0 code s high)
  apart_exactly total low high t run sorted below =
      let (f, ef) = has_footprint 0 code budget run.end total s t run.runs low (omega (arith, sorted_below sorted)) in
      let (g, eg) = has_footprint 0 code budget run.end total s t run.runs high below in
      subst₂ (λ x y. (why_not code i j s ≡ told answers.apart t) ↔ ¬ Meets x y) (sym ef) (sym eg)
      (pair_apart t f g (record { total = total; run = run; low = low; high = high; sorted = sorted; below = below; earlier = ef; later = eg }))

-- swapping the two numbers changes nothing

sorted_turned : {i j low high : ℕ} → Sorted i j low high → Sorted j i low high
sorted_turned (ascending h) = descending h
sorted_turned (descending h) = ascending h

pub swapped : (code : List ℕ) (i j : ℕ) (s : State) → why_not code j i s ≡ why_not code i j s
swapped code i j s = (why_exactly code j i s (why_not code i j s)).1 (turn (why_not code i j s) (due code i j s))
  where
    pair_turned : (t : State) (f g : Footprint Place Kind) → Pair code i j s t f g → Pair code j i s t f g
    pair_turned t f g p =
        record {
          total = p.total;
          run = p.run;
          low = p.low;
          high = p.high;
          sorted = sorted_turned p.sorted;
          below = p.below;
          earlier = p.earlier;
          later = p.later;
        }

    numbers_turned : (total : ℕ) → (i ≡ j) ⊎ (total ≤ i) ⊎ (total ≤ j) → (j ≡ i) ⊎ (total ≤ j) ⊎ (total ≤ i)
    numbers_turned total (inl e) = inl (sym e)
    numbers_turned total (inr (inl l)) = inr (inr l)
    numbers_turned total (inr (inr l)) = inr (inl l)

    turn : (r : Reply) → Due code i j s r → Due code j i s r
    turn r (thirty e) = thirty e
    turn r (undone a straight e u) = undone a straight e u
    turn r (twenty_nine total t run h) = twenty_nine total t run (numbers_turned total h)
    turn r (apart t f g p none) = apart t f g (pair_turned t f g p) none
    turn r (emms t f g p kinds) = emms t f g (pair_turned t f g p) kinds
    turn r (met_at t f g p none place manner first before) = met_at t f g (pair_turned t f g p) none place manner first before

-- a run that is answered instead was refused: with a budget of 4,096 no block without a jump is spent
pub never_spent : (code : List ℕ) (i j : ℕ) (s : State) (at count : ℕ) (t : State) → why_not code i j s ≡ instead (spent at count t) → ⊥
never_spent code i j s at count t h = by (instead (spent at count t)) refl ((why_exactly code i j s (instead (spent at count t))).0 h)
  where
    by : (r : Reply) → r ≡ instead (spent at count t) → Due code i j s r → ⊥
    by r e (undone a straight ran u) =
        let same : a ≡ spent at count t = cc in
        run_never_spent 0 code budget s at count t straight (omega arith) (ran ∙ same)
    by r e (thirty x) = false≢true (cc)
    by r e (twenty_nine total u run x) = false≢true (cc)
    by r e (apart u f g p x) = false≢true (cc)
    by r e (emms u f g p x) = false≢true (cc)
    by r e (met_at u f g p x place manner first before) = false≢true (cc)
