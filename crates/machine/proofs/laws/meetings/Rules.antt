-- What the tests of two footprints come to, by what the code has learned: one rule for each answer.
use Rattle.std.specs.Prelude.{◌≡◌, refl, Bool, true, false, ◌&&◌, ◌||◌, ℕ, ◌+◌, ◌-◌, ◌≤◌, ◌<◌, ltb}
use Rattle.basis.specs.Names.{bit_and}
use Rattle.basis.proofs.Names.{sym, ◌∙◌, and-true, arith, rules, lt-ltb, le-ltb, eq-eqb, ne_eqb, ltb-true, ltb-false}
use Rattle.manual.specs.Kinds.{kinds_meet}
use Rattle.machine.specs.declared.Places.{Places}
use Rattle.machine.specs.declared.Footprint.{Footprint}
use Rattle.machine.specs.Footprints.{overlap, share, meet}

-- a range that starts within another: without and with a sum
within : (a m b : ℕ) → a ≤ b → ltb (b - a) m ≡ ltb b (a + m)
within a m b h = go (ltb (b - a) m) refl
  where
    go : (t : Bool) → ltb (b - a) m ≡ t → ltb (b - a) m ≡ ltb b (a + m)
    go true e = let l = ltb-true (b - a) m e in e ∙ sym (lt-ltb b (a + m) (omega arith))
    go false e = let l = ltb-false (b - a) m e in e ∙ sym (le-ltb b (a + m) (omega arith))

-- ranges
module _ (a m b n : ℕ) where
  pub none_first : m ≡ 0 → false ≡ overlap a m b n
  unfolding overlap
  none_first e = simp e

  module _ (some_m : m ≡ 0 → ⊥) where
    pub none_second : n ≡ 0 → false ≡ overlap a m b n
    unfolding overlap
    none_second e = let p : 0 < m = omega arith in simp (lt-ltb 0 m p, e)

    module _ (some_n : n ≡ 0 → ⊥) where
      pub starts_before : a ≤ b → ltb (b - a) m ≡ overlap a m b n
      unfolding overlap
      starts_before h =
          let p : 0 < m = omega arith in
          let q : 0 < n = omega arith in
          let r : a < b + n = omega arith in
          simp (lt-ltb 0 m p, lt-ltb 0 n q, lt-ltb a (b + n) r) (within a m b h)

      pub starts_after : b < a → ltb (a - b) n ≡ overlap a m b n
      unfolding overlap
      starts_after h =
          let p : 0 < m = omega arith in
          let q : 0 < n = omega arith in
          let r : b < a + m = omega arith in
          simp (lt-ltb 0 m p, lt-ltb 0 n q, lt-ltb b (a + m) r, and-true) (within b n a (omega arith))

-- sets of places
module _ (p q : Places) where
  pub share_mmx : (bit_and p.mmx q.mmx ≡ 0 → ⊥) → true ≡ share p q
  unfolding share
  share_mmx e = simp (ne_eqb (bit_and p.mmx q.mmx) 0 e)

  module _ (no_mmx : bit_and p.mmx q.mmx ≡ 0) where
    pub share_integers : (bit_and p.integers q.integers ≡ 0 → ⊥) → true ≡ share p q
    unfolding share
    share_integers e = simp (eq-eqb (bit_and p.mmx q.mmx) 0 no_mmx, ne_eqb (bit_and p.integers q.integers) 0 e)

    module _ (no_integer : bit_and p.integers q.integers ≡ 0) (t : Bool) (ranges : t ≡ overlap p.start p.length q.start q.length) where
      unregistered : share p q ≡ (t || (p.zero && q.zero))
      unfolding share
      unregistered = simp (eq-eqb (bit_and p.mmx q.mmx) 0 no_mmx, eq-eqb (bit_and p.integers q.integers) 0 no_integer, ← ranges)

      pub share-bytes : t ≡ true → true ≡ share p q
      share-bytes e = sym (unregistered ∙ simp e)

      pub share_zero : t ≡ false → p.zero ≡ true → q.zero ≡ share p q
      share_zero e h = sym (unregistered ∙ simp (e, h))

      pub share_none : t ≡ false → p.zero ≡ false → false ≡ share p q
      share_none e h = sym (unregistered ∙ simp (e, h))

-- footprints
module _ (f g : Footprint) (k : Bool) (by_kind : k ≡ kinds_meet f.kind g.kind) where
  pub meet_kinds : k ≡ true → true ≡ meet f g
  unfolding meet
  meet_kinds e = simp (← by_kind, e)

  module _ (no_kind : k ≡ false) (t : Bool) (by_reads : t ≡ share f.writes g.reads) where
    pub meet_writes_reads : t ≡ true → true ≡ meet f g
    unfolding meet
    meet_writes_reads e = simp (← by_kind, no_kind, ← by_reads, e)

    module _ (no_read : t ≡ false) (u : Bool) (by_writes : u ≡ share f.writes g.writes) where
      pub meet_writes : u ≡ true → true ≡ meet f g
      unfolding meet
      meet_writes e = simp (← by_kind, no_kind, ← by_reads, no_read, ← by_writes, e)

      pub meet-reads_writes : (v : Bool) → u ≡ false → v ≡ share f.reads g.writes → v ≡ meet f g
      unfolding meet
      meet-reads_writes v e h = simp (← by_kind, no_kind, ← by_reads, no_read, ← by_writes, e) h

pub ruleset meet_rules = (rules, none_first, none_second, starts_before, starts_after, share_mmx, share_integers, share-bytes, share_zero, share_none, meet_kinds, meet_writes_reads, meet_writes, meet-reads_writes)
