-- The first of a list that passes a test: of what a list's elements are made into, and of memory bytes.
use Rattle.std.specs.Prelude.{◌≡◌, refl, Bool, true, false, cond, List, [], ◌∷◌, map, find, Some, None, option_map, ℕ, zero, suc, ◌+◌, ◌≤◌, ◌<◌}
use Rattle.basis.proofs.Names.{dec_lt, arith}
use Rattle.manual.specs.Places.{Place, byte}
use Rattle.manual.specs.Locations.{bytes_from}

pub find-map : {A B : Type 0} (f : A → B) (test : A → Bool) (whole : B → Bool) → ((a : A) → whole (f a) ≡ test a)
    → (xs : List A) → find whole (map f xs) ≡ option_map f (find test xs)
find-map f test whole same [] = refl
find-map f test whole same (x ∷ xs) = simp (same x) (by (test x) (find-map f test whole same xs))
  where
    by : (t : Bool) → find whole (map f xs) ≡ option_map f (find test xs)
        → cond t (Some (f x)) (find whole (map f xs)) ≡ option_map f (cond t (Some x) (find test xs))
    by true e = refl
    by false e = e

module _ (test : Place → Bool) where
  pub first_byte : (a more k : ℕ) → a ≤ k → k < a + more → ((j : ℕ) → j < k → test (byte j) ≡ false) → test (byte k) ≡ true
      → find test (bytes_from a more) ≡ Some (byte k)
  first_byte a zero k low high none here = absurd (omega arith)
  first_byte a (suc more) k low high none here = by (dec_lt a k) (first_byte (a + 1) more k)
    where
      by : Dec (a < k)
          → (a + 1 ≤ k → k < a + 1 + more → ((j : ℕ) → j < k → test (byte j) ≡ false) → test (byte k) ≡ true → find test (bytes_from (a + 1) more) ≡ Some (byte k))
          → find test (bytes_from a (suc more)) ≡ Some (byte k)
      by (yes h) rest = simp (none a h) (rest (omega arith) (omega arith) none here)
      by (no h) rest = let same : k ≡ a = omega arith in simp (← same, here)

  pub no_byte : (a more : ℕ) → ((j : ℕ) → j < a + more → test (byte j) ≡ false) → find test (bytes_from a more) ≡ None
  no_byte a zero none = refl
  no_byte a (suc more) none = simp (none a (omega arith)) (no_byte (a + 1) more (λ j h. none j (omega arith)))
