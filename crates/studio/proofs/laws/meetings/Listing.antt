-- Footprints as masks and ranges say of each place what the lists of places say, so what is found by the ones is found by the others.
use Rattle.std.specs.Prelude.{Ok, Err, ◌≡◌, refl, ◌⊎◌, true, cond, List, [], ◌∷◌, ℕ, ◌↔◌}
use Rattle.basis.specs.Names.{Memᴰ as In}
use Rattle.basis.proofs.Names.{ap, ap₂, subst, ◌∙◌, inl, inr, false≢true, Memᴰ-head as here, Memᴰ-tail as later, Memᴰ-not_nil as not-nil}
use Rattle.reorder.specs.Result.{Result, done, refused, map_result}
use Rattle.reorder.specs.Footprint as places
use Rattle.codec.specs.declared.Kind.{Kind}
use Rattle.manual.specs.Places.{Place, mmx, integer, byte, zero_mark}
use Rattle.manual.specs.Kinds.{kinds_meet}
use Rattle.refusals.specs.declared.Refusal.{Refusal}
use Rattle.std.specs.Prelude as code
use Rattle.machine.specs.declared.Footprint.{Footprint}
use Rattle.machine.specs.Footprints.{bytes_of, set_of, masked, paper_of_footprint}
use Rattle.machine.proofs.laws.meetings.Masks.{bit}
use Rattle.machine.proofs.laws.meetings.Ranges.{Range, OneRange, RangedFootprint}
use Rattle.machine.proofs.laws.meetings.Masking.{mmx_masked, integer_masked, byte_masked, zero_exactly}
use Rattle.machine.proofs.laws.meetings.Meeting.{or_exactly}
use Rattle.studio.specs.Meetings.{emms, lowest, all_places, is_same, among, meeting_of}
use Rattle.studio.specs.inner.Meetings.{within, meeting_in, meeting_by}
use Rattle.studio.proofs.laws.meetings.Tests.{equal_exactly, exactly_then, together}
use Rattle.studio.proofs.laws.meetings.Bytes.{range_exactly}

same_exactly : (p q : Place) → (is_same p q ≡ true) ↔ (p ≡ q)
same_exactly p q = (to p q, λ e. subst (λ (z : Place). is_same p z ≡ true) e (itself p))
  where
    to : (p q : Place) → is_same p q ≡ true → p ≡ q
    to (mmx j) (mmx k) e = ap mmx ((equal_exactly j k).0 e)
    to (mmx j) (integer k) e = absurd (false≢true e)
    to (mmx j) (byte k) e = absurd (false≢true e)
    to (mmx j) zero_mark e = absurd (false≢true e)
    to (integer j) (mmx k) e = absurd (false≢true e)
    to (integer j) (integer k) e = ap integer ((equal_exactly j k).0 e)
    to (integer j) (byte k) e = absurd (false≢true e)
    to (integer j) zero_mark e = absurd (false≢true e)
    to (byte j) (mmx k) e = absurd (false≢true e)
    to (byte j) (integer k) e = absurd (false≢true e)
    to (byte j) (byte k) e = ap byte ((equal_exactly j k).0 e)
    to (byte j) zero_mark e = absurd (false≢true e)
    to zero_mark (mmx k) e = absurd (false≢true e)
    to zero_mark (integer k) e = absurd (false≢true e)
    to zero_mark (byte k) e = absurd (false≢true e)
    to zero_mark zero_mark e = refl

    itself : (p : Place) → is_same p p ≡ true
    itself (mmx k) = (equal_exactly k k).1 refl
    itself (integer k) = (equal_exactly k k).1 refl
    itself (byte a) = (equal_exactly a a).1 refl
    itself zero_mark = refl

pub among_exactly : (ps : List Place) (p : Place) → (among ps p ≡ true) ↔ In p ps
among_exactly [] p = (λ e. absurd (false≢true e), λ m. absurd (not-nil m))
among_exactly (q ∷ qs) p = exactly_then (or_exactly (is_same p q) (among qs p) (same_exactly p q) (among_exactly qs p)) (to, from)
  where
    to : (p ≡ q) ⊎ In p qs → In p (q ∷ qs)
    to (inl e) = here e
    to (inr m) = later m

    from : In p (q ∷ qs) → (p ≡ q) ⊎ In p qs
    from (here e) = inl e
    from (later m) = inr m

module _ (ps : List Place) (range : Range (bytes_of ps)) where
  within_exactly : (p : Place) → (within (set_of ps) p ≡ true) ↔ In p ps
  within_exactly (mmx k) = exactly_then (equal_exactly (bit k (set_of ps).mmx) 1) (mmx_masked k ps)
  within_exactly (integer k) = exactly_then (equal_exactly (bit k (set_of ps).integers) 1) (integer_masked k ps)
  within_exactly (byte a) = exactly_then (range_exactly (set_of ps).start (set_of ps).length a) (byte_masked a ps range)
  within_exactly zero_mark = zero_exactly ps

  pub within-among : (p : Place) → within (set_of ps) p ≡ among ps p
  within-among p = together (within (set_of ps) p) (among ps p) (within_exactly p) (among_exactly ps p)

module _ (f g : places.Footprint Place Kind) (one : OneRange f) (other : OneRange g) where
  lowest_listed : (ps : List Place)
      → lowest (within (set_of f.writes)) (within (set_of f.reads)) (within (set_of g.writes)) (within (set_of g.reads)) ps
      ≡ lowest (among f.writes) (among f.reads) (among g.writes) (among g.reads) ps
  lowest_listed [] = refl
  lowest_listed (p ∷ ps) =
      simp (
        within-among f.writes one.writes p,
        within-among f.reads one.reads p,
        within-among g.writes other.writes p,
        within-among g.reads other.reads p,
        lowest_listed ps,
      )

  both-listed : (n : ℕ) → meeting_in n (masked f) (masked g) ≡ meeting_of n (done f) (done g)
  unfolding meeting_in
  both-listed n = ap (cond (kinds_meet f.kind g.kind) emms) (lowest_listed (all_places n))

-- what the code finds is the definition's, over the lists of places
pub meeting_listed : (n : ℕ) (x y : Result (places.Footprint Place Kind)) (a b : code.Result Footprint Refusal) → RangedFootprint x → RangedFootprint y
    → paper_of_footprint a ≡ map_result masked x → paper_of_footprint b ≡ map_result masked y → meeting_by n a b ≡ meeting_of n x y
meeting_listed n (done f) (done g) (Ok u) (Ok v) one other e h =
    let same_u : u ≡ masked f = cc in
    let same_v : v ≡ masked g = cc in
    ap₂ (meeting_in n) same_u same_v ∙ both-listed f g one other n
meeting_listed n (done f) (done g) (Ok u) (Err m) one other e h = absurd (false≢true (cc))
meeting_listed n (done f) (done g) (Err m) b one other e h = absurd (false≢true (cc))
meeting_listed n (done f) (refused k) (Ok u) (Ok v) one other e h = absurd (false≢true (cc))
meeting_listed n (done f) (refused k) (Ok u) (Err m) one other e h = refl
meeting_listed n (done f) (refused k) (Err m) b one other e h = refl
meeting_listed n (refused k) y (Ok u) b one other e h = absurd (false≢true (cc))
meeting_listed n (refused k) y (Err m) b one other e h = refl
