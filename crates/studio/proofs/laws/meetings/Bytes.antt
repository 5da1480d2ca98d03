-- The least byte of two ranges is where the one that starts later starts, if that is in the other; else there is none.
use Rattle.std.specs.Prelude.{◌≡◌, true, false, ℕ, ◌+◌, ◌-◌, ◌≤◌, ◌<◌, leb, ltb, ◌↔◌, find, Some, None}
use Rattle.basis.proofs.Names.{sym, arith, rules, max, le-leb, leb-true, lt-ltb, ltb-true}
use Rattle.manual.specs.Places.{byte}
use Rattle.manual.specs.Locations.{bytes_from}
use Rattle.machine.specs.declared.Places.{Places}
use Rattle.machine.proofs.laws.meetings.Meeting.{and_exactly}
use Rattle.studio.specs.inner.Meetings.{in_range, is_shared}
use Rattle.studio.proofs.laws.meetings.Tests.{never}
use Rattle.studio.proofs.laws.meetings.Finding.{first_byte, no_byte}

pub range_exactly : (start size a : ℕ) → (in_range start size a ≡ true) ↔ ((start ≤ a) × (a < start + size))
range_exactly start size a =
    and_exactly (leb start a) (ltb a (start + size)) (leb-true start a, le-leb start a) (ltb-true a (start + size), lt-ltb a (start + size))

module _ (one other : Places) (n first : ℕ) (later : first ≡ max one.start other.start) where
  abbrev InBoth : ℕ → Type 0
  InBoth a = ((one.start ≤ a) × (a < one.start + one.length)) × ((other.start ≤ a) × (a < other.start + other.length))

  both_exactly : (a : ℕ) → (is_shared one other (byte a) ≡ true) ↔ InBoth a
  unfolding is_shared
  both_exactly a =
      and_exactly (in_range one.start one.length a) (in_range other.start other.length a) (range_exactly one.start one.length a)
      (range_exactly other.start other.length a)

  none : (a : ℕ) → (InBoth a → ⊥) → is_shared one other (byte a) ≡ false
  none a h = never _ (λ e. h ((both_exactly a).0 e))

  pub both_have : first - one.start < one.length → first - other.start < other.length → first < n
      → Some (byte first) ≡ find (is_shared one other) (bytes_from 0 n)
  both_have h g l =
      sym (first_byte (is_shared one other) 0 n first (omega arith) (omega arith) (λ j b. none j (λ z. omega arith))
      ((both_exactly first).1 ((omega arith, omega arith), (omega arith, omega arith))))

  pub first_lacks : one.length ≤ first - one.start → None ≡ find (is_shared one other) (bytes_from 0 n)
  first_lacks h = sym (no_byte (is_shared one other) 0 n (λ j b. none j (λ z. omega arith)))

  pub second_lacks : other.length ≤ first - other.start → None ≡ find (is_shared one other) (bytes_from 0 n)
  second_lacks h = sym (no_byte (is_shared one other) 0 n (λ j b. none j (λ z. omega arith)))

  pub past_memory : n ≤ first → None ≡ find (is_shared one other) (bytes_from 0 n)
  past_memory h = sym (no_byte (is_shared one other) 0 n (λ j b. none j (λ z. omega arith)))

pub ruleset ranging = (rules, both_have, first_lacks, second_lacks, past_memory)
