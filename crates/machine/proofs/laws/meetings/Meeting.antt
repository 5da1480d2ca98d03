-- Two footprints meet by their masks and ranges exactly where they meet in a place: each test is true exactly where what it tests holds.
use Rattle.std.specs.Prelude.{◌≡◌, refl, ◌⊎◌, Bool, true, false, not, ◌&&◌, ◌||◌, List, ℕ, ◌+◌, ◌≤◌, ◌<◌, eqb, ltb, length, get_or, ◌↔◌}
use Rattle.basis.specs.Names.{Memᴰ as In, bit_and}
use Rattle.basis.proofs.Names.{ap, inl, inr, false≢true, dec_lt, arith, ltb-true, lt-ltb, ne_eqb, eqb-false, not-true}
use Rattle.reorder.specs.Result.{Result, done, refused}
use Rattle.reorder.specs.Footprint as places
use Rattle.codec.specs.declared.Kind.{Kind}
use Rattle.manual.specs.Places.{Place, mmx, integer, byte, zero_mark}
use Rattle.manual.specs.Kinds.{KindsMeet}
use Rattle.manual.specs.Footprints.{Meets}
use Rattle.machine.specs.Footprints.{mmx_number, integer_number, numbers_of, bytes_of, mask, set_of, masked, overlap, share, meet, meet_test}
use Rattle.machine.proofs.laws.meetings.Masks.{masks_meet}
use Rattle.machine.proofs.laws.meetings.Ranges.{Range, OneRange, RangedFootprint}
use Rattle.machine.proofs.laws.meetings.Masking.{mmx_exactly, integer_exactly, byte_masked, zero_exactly}

-- Tests and what they test

pub or_exactly : {A B : Type 0} (a b : Bool) → (a ≡ true) ↔ A → (b ≡ true) ↔ B → ((a || b) ≡ true) ↔ (A ⊎ B)
or_exactly {A} {B} a b p q = (from a b p q, to a b p q)
  where
    from : (a b : Bool) → (a ≡ true) ↔ A → (b ≡ true) ↔ B → (a || b) ≡ true → A ⊎ B
    from true b p q e = inl (p.0 refl)
    from false b p q e = inr (q.0 e)

    to : (a b : Bool) → (a ≡ true) ↔ A → (b ≡ true) ↔ B → A ⊎ B → (a || b) ≡ true
    to a b p q (inl x) = simp (p.1 x)
    to true b p q (inr y) = refl
    to false b p q (inr y) = q.1 y

pub and_exactly : {A B : Type 0} (a b : Bool) → (a ≡ true) ↔ A → (b ≡ true) ↔ B → ((a && b) ≡ true) ↔ (A × B)
and_exactly {A} {B} a b p q = (from a b p q, λ (x, y). simp (p.1 x, q.1 y))
  where
    from : (a b : Bool) → (a ≡ true) ↔ A → (b ≡ true) ↔ B → (a && b) ≡ true → A × B
    from true b p q e = (p.0 refl, q.0 e)
    from false b p q e = absurd (false≢true (cc))

less_exactly : (a b : ℕ) → (ltb a b ≡ true) ↔ (a < b)
less_exactly a b = (ltb-true a b, lt-ltb a b)

nonzero_exactly : (x : ℕ) → (not (eqb x 0) ≡ true) ↔ (x ≡ 0 → ⊥)
nonzero_exactly x = (λ e. eqb-false x 0 (not-true (eqb x 0) e), λ h. ap not (ne_eqb x 0 h))

-- two ranges overlap exactly where they have a byte in common
module _ (a m b n : ℕ) where
  abbrev InBoth : Type 0
  InBoth = (x : ℕ) × ((a ≤ x) × (x < a + m)) × ((b ≤ x) × (x < b + n))

  overlaps : overlap a m b n ≡ true → InBoth
  unfolding overlap
  overlaps e =
      let (((some_m, some_n), before_b), before_a) =
      (and_exactly _ _ (and_exactly _ _ (and_exactly _ _ (less_exactly 0 m) (less_exactly 0 n)) (less_exactly a (b + n))) (less_exactly b (a + m))).0 e in
      go (dec_lt a b) some_m some_n before_b before_a
    where
      go : Dec (a < b) → 0 < m → 0 < n → a < b + n → b < a + m → InBoth
      go (yes p) h i j k = (b, (omega arith, omega arith), (omega arith, omega arith))
      go (no p) h i j k = (a, (omega arith, omega arith), (omega arith, omega arith))

  overlapping : InBoth → overlap a m b n ≡ true
  unfolding overlap
  overlapping (x, (p, q), (r, s)) =
      let some_m : 0 < m = omega arith in
      let some_n : 0 < n = omega arith in
      let before_b : a < b + n = omega arith in
      let before_a : b < a + m = omega arith in
      simp (lt-ltb 0 m some_m, lt-ltb 0 n some_n, lt-ltb a (b + n) before_b, lt-ltb b (a + m) before_a)

-- two lists of places have one in common
abbrev pub Common : List Place → List Place → Type 0
Common ps qs = (p : Place) × In p ps × In p qs

masks_exactly : (ks js : List ℕ) → (not (eqb (bit_and (mask ks) (mask js)) 0) ≡ true) ↔ ((k : ℕ) × In k ks × In k js)
masks_exactly ks js =
    let t = nonzero_exactly (bit_and (mask ks) (mask js)) in
    let h = masks_meet ks js in
    (λ e. h.0 (t.0 e), λ c. t.1 (h.1 c))

-- masks and ranges share a place exactly where the lists have one in common
share_exactly : (ps qs : List Place) → Range (bytes_of ps) → Range (bytes_of qs) → (share (set_of ps) (set_of qs) ≡ true) ↔ Common ps qs
unfolding share
share_exactly ps qs range_p range_q = (λ e. place (tests.0 e), λ c. tests.1 (sort c))
  where
    Sorts : Type 0
    Sorts =
        ((((k : ℕ) × In k (numbers_of mmx_number ps) × In k (numbers_of mmx_number qs)) ⊎ ((k : ℕ) × In k (numbers_of integer_number ps) × In k (numbers_of integer_number qs)))
        ⊎ InBoth (get_or (bytes_of ps) 0 0) (length (bytes_of ps)) (get_or (bytes_of qs) 0 0) (length (bytes_of qs)))
        ⊎ (In zero_mark ps × In zero_mark qs)

    tests : (share (set_of ps) (set_of qs) ≡ true) ↔ Sorts
    tests =
        or_exactly _ _
        (or_exactly _ _ (or_exactly _ _ (masks_exactly (numbers_of mmx_number ps) (numbers_of mmx_number qs)) (masks_exactly (numbers_of integer_number ps) (numbers_of integer_number qs)))
        (overlaps _ _ _ _, overlapping _ _ _ _))
        (and_exactly _ _ (zero_exactly ps) (zero_exactly qs))

    place : Sorts → Common ps qs
    place (inl (inl (inl (k, i, j)))) = (mmx k, (mmx_exactly k ps).0 i, (mmx_exactly k qs).0 j)
    place (inl (inl (inr (k, i, j)))) = (integer k, (integer_exactly k ps).0 i, (integer_exactly k qs).0 j)
    place (inl (inr (a, i, j))) = (byte a, (byte_masked a ps range_p).0 i, (byte_masked a qs range_q).0 j)
    place (inr (i, j)) = (zero_mark, i, j)

    sort : Common ps qs → Sorts
    sort (mmx k, i, j) = inl (inl (inl (k, (mmx_exactly k ps).1 i, (mmx_exactly k qs).1 j)))
    sort (integer k, i, j) = inl (inl (inr (k, (integer_exactly k ps).1 i, (integer_exactly k qs).1 j)))
    sort (byte a, i, j) = inl (inr (a, (byte_masked a ps range_p).1 i, (byte_masked a qs range_q).1 j))
    sort (zero_mark, i, j) = inr (i, j)

-- the program's test of two footprints is true exactly where they meet
pub meet_exactly : (f g : places.Footprint Place Kind) → OneRange f → OneRange g → (meet (masked f) (masked g) ≡ true) ↔ Meets (done f) (done g)
unfolding meet
meet_exactly f g rf rg = (λ e. meeting (tests.0 e), λ m. tests.1 (cases m))
  where
    Cases : Type 0
    Cases =
        ((KindsMeet f.kind g.kind ⊎ Common f.writes g.reads) ⊎ Common f.writes g.writes) ⊎ Common f.reads g.writes

    tests : (meet (masked f) (masked g) ≡ true) ↔ Cases
    tests =
        or_exactly _ _
        (or_exactly _ _
        (or_exactly _ _ (λ e. e, λ e. e) (share_exactly f.writes g.reads rf.writes rg.reads))
        (share_exactly f.writes g.writes rf.writes rg.writes))
        (share_exactly f.reads g.writes rf.reads rg.writes)

    meeting : Cases → Meets (done f) (done g)
    meeting (inl (inl (inl k))) = inl k
    meeting (inl (inl (inr (p, i, j)))) = inr (inl (p, i, inl j))
    meeting (inl (inr (p, i, j))) = inr (inl (p, i, inr j))
    meeting (inr (p, i, j)) = inr (inr (p, j, inl i))

    cases : Meets (done f) (done g) → Cases
    cases (inl k) = inl (inl (inl k))
    cases (inr (inl (p, i, inl j))) = inl (inl (inr (p, i, j)))
    cases (inr (inl (p, i, inr j))) = inl (inr (p, i, j))
    cases (inr (inr (p, i, inl j))) = inr (p, j, i)
    cases (inr (inr (p, i, inr j))) = inl (inr (p, j, i))

-- and so is the test of what may be footprints
pub meet_test_exactly : (f g : Result (places.Footprint Place Kind)) → RangedFootprint f → RangedFootprint g → (meet_test f g ≡ true) ↔ Meets f g
meet_test_exactly (done f) (done g) rf rg = meet_exactly f g rf rg
meet_test_exactly (done f) (refused n) rf rg = (λ e. absurd (false≢true (cc)), λ m. absurd m)
meet_test_exactly (refused n) g rf rg = (λ e. absurd (false≢true (cc)), λ m. absurd m)
