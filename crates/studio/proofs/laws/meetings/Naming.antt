-- The first of the meetings by manner, each at the lowest place where the two meet so, is the meeting that the definition finds place by place.
use Rattle.std.specs.Prelude.{◌≡◌, refl, Bool, true, false, cond, List, [], ◌∷◌, find, Option, Some, None, option_map, ℕ, ltb}
use Rattle.basis.specs.Names.{Memᴰ as In}
use Rattle.basis.proofs.Names.{rules, sym, ap, ap₂, ◌∙◌, Memᴰ-head as here, Memᴰ-tail as later}
use Rattle.manual.specs.Places.{Place}
use Rattle.manual.specs.Kinds.{kinds_meet}
use Rattle.machine.specs.declared.Places.{Places}
use Rattle.machine.specs.declared.Footprint.{Footprint}
use Rattle.studio.specs.declared.Place as declared
use Rattle.studio.specs.declared.Manner.{Manner}
use Rattle.studio.specs.declared.Manner.TheVariants.{BothWrite, WriteRead, ReadWrite}
use Rattle.studio.specs.declared.Meeting as handed
use Rattle.studio.specs.declared.Meeting.TheVariants.{At}
use Rattle.studio.specs.Meetings.{Meeting, apart, emms, met_at, lowest, all_places, paper_of_place, paper_of_meeting}
use Rattle.studio.specs.Reasons.{Lower}
use Rattle.studio.specs.inner.Meetings.{within, is_shared, meeting_there, lowest_meeting, is_before, rank, first_of, meeting_in}
use Rattle.studio.proofs.laws.meetings.Ordering.{lower_passes, not_itself}
use Rattle.studio.proofs.Places.{Ascending, ascending_places}

-- what is handed back
pub meeting_handed : (n : ℕ) (x : Manner) (one other : Places) (o : Option declared.Place) (r : Option handed.Meeting)
    → option_map paper_of_place o ≡ find (is_shared one other) (all_places n) → r ≡ option_map (λ p. At p x) o
    → paper_of_meeting r ≡ lowest_meeting n x one other
unfolding lowest_meeting
meeting_handed n x one other o r e h = ap paper_of_meeting h ∙ by o ∙ ap (meeting_there x) e
  where
    by : (o : Option declared.Place) → paper_of_meeting (option_map (λ p. At p x) o) ≡ meeting_there x (option_map paper_of_place o)
    by None = refl
    by (Some p) = refl

there_first : (t : Bool) (p : Place) (o : Option Place) (x : Manner) → meeting_there x (cond t (Some p) o) ≡ cond t (met_at p x) (meeting_there x o)
there_first true p o x = refl
there_first false p o x = refl

-- the first of two is one of them
one_of : (P : Meeting → Type 0) (m n : Meeting) → P m → P n → P (first_of m n)
one_of P apart n a b = b
one_of P emms n a b = a
one_of P (met_at p x) apart a b = a
one_of P (met_at p x) emms a b = b
one_of P (met_at p x) (met_at q y) a b = by (is_before q y p x)
  where
    by : (t : Bool) → P (cond t (met_at q y) (met_at p x))
    by true = b
    by false = a

-- a meeting at a higher place than p, or none
abbrev Above : Place → Meeting → Type 0
Above p apart = Unit {0}
Above p emms = ⊥
Above p (met_at q y) = Lower p q

above : (test : Place → Bool) (x : Manner) (p : Place) (ps : List Place) → ((q : Place) → In q ps → Lower p q) → Above p (meeting_there x (find test ps))
above test x p [] behind = tt
above test x p (q ∷ qs) behind = by (test q) (above test x p qs (λ r m. behind r (later m)))
  where
    by : (t : Bool) → Above p (meeting_there x (find test qs)) → Above p (meeting_there x (cond t (Some q) (find test qs)))
    by true rest = behind q (here refl)
    by false rest = rest

module _ (p : Place) where
  stays : (x : Manner) (m : Meeting) → Above p m → first_of (met_at p x) m ≡ met_at p x
  stays x apart a = refl
  stays x emms a = absurd a
  stays x (met_at q y) a = let (low, high) = lower_passes p q a in simp (low, high)

  comes : (x : Manner) (m : Meeting) → Above p m → first_of m (met_at p x) ≡ met_at p x
  comes x apart a = refl
  comes x emms a = absurd a
  comes x (met_at q y) a = let (low, high) = lower_passes p q a in simp low

  -- at the place itself the first manner is named
  stays_there : (x y : Manner) → ltb (rank y) (rank x) ≡ false → (t : Bool) (m : Meeting) → Above p m
      → first_of (met_at p x) (cond t (met_at p y) m) ≡ met_at p x
  stays_there x y e true m a = simp (not_itself p, e)
  stays_there x y e false m a = stays x m a

  by_manner : (b w r : Bool) (m n k : Meeting) → Above p m → Above p n → Above p k
      → first_of (cond b (met_at p BothWrite) m) (first_of (cond w (met_at p WriteRead) n) (cond r (met_at p ReadWrite) k))
      ≡ cond b (met_at p BothWrite) (cond w (met_at p WriteRead) (cond r (met_at p ReadWrite) (first_of m (first_of n k))))
  by_manner true w r m n k am an ak =
      one_of (λ z. first_of (met_at p BothWrite) z ≡ met_at p BothWrite) (cond w (met_at p WriteRead) n) (cond r (met_at p ReadWrite) k)
      (stays_there BothWrite WriteRead refl w n an) (stays_there BothWrite ReadWrite refl r k ak)
  by_manner false true r m n k am an ak = ap (first_of m) (stays_there WriteRead ReadWrite refl r k ak) ∙ comes WriteRead m am
  by_manner false false true m n k am an ak = ap (first_of m) (comes ReadWrite n an) ∙ comes ReadWrite m am
  by_manner false false false m n k am an ak = refl

module _ (f g : Footprint) where
  abbrev found : (Place → Bool) → Manner → List Place → Meeting
  found test x ps = meeting_there x (find test ps)

  abbrev named : List Place → Meeting
  named ps =
      first_of (found (is_shared f.writes g.writes) BothWrite ps)
      (first_of (found (is_shared f.writes g.reads) WriteRead ps) (found (is_shared f.reads g.writes) ReadWrite ps))

  named_lowest : (ps : List Place) → Ascending ps → named ps ≡ lowest (within f.writes) (within f.reads) (within g.writes) (within g.reads) ps
  unfolding is_shared
  named_lowest [] a = refl
  named_lowest (p ∷ ps) (behind, a) =
      let both = is_shared f.writes g.writes in
      let write_read = is_shared f.writes g.reads in
      let read_write = is_shared f.reads g.writes in
      ap₂ first_of (there_first (both p) p (find both ps) BothWrite)
      (ap₂ first_of (there_first (write_read p) p (find write_read ps) WriteRead) (there_first (read_write p) p (find read_write ps) ReadWrite))
      ∙ by_manner p (both p) (write_read p) (read_write p) (found both BothWrite ps) (found write_read WriteRead ps) (found read_write ReadWrite ps)
      (above both BothWrite p ps behind) (above write_read WriteRead p ps behind) (above read_write ReadWrite p ps behind)
      ∙ ap (λ (m : Meeting). cond (both p) (met_at p BothWrite) (cond (write_read p) (met_at p WriteRead) (cond (read_write p) (met_at p ReadWrite) m)))
      (named_lowest ps a)

  pub meeting_named : (n : ℕ) → kinds_meet f.kind g.kind ≡ false
      → first_of (lowest_meeting n BothWrite f.writes g.writes) (first_of (lowest_meeting n WriteRead f.writes g.reads) (lowest_meeting n ReadWrite f.reads g.writes))
      ≡ meeting_in n f g
  unfolding meeting_in lowest_meeting
  meeting_named n e = named_lowest (all_places n) (ascending_places n) ∙ sym (simp e)

  pub meeting_emms : (n : ℕ) → kinds_meet f.kind g.kind ≡ true → emms ≡ meeting_in n f g
  unfolding meeting_in
  meeting_emms n e = sym (simp e)

pub ruleset naming = (rules, meeting_named, meeting_emms)
