-- The digits of a number: how many there are, and one more from the end.
use Rattle.std.specs.Prelude.{◌≡◌, refl, Bool, true, false, cond, List, [], ◌∷◌, ℕ, zero, suc, ◌+◌, ◌-◌, ◌*◌, ◌/◌, ◌%◌, ◌^◌, ◌≤◌, ◌<◌, ltb, length, set, max}
use Rattle.basis.proofs.Names.{◌∙◌, mod-lt, pow-suc, one-le-pow, arith, rules, lt-ltb, le-ltb, length-append}
use Rattle.printout.specs.Characters.{digit_of, digits, places}
use Rattle.printout.specs.declared.put.Writer.{Writer}
use Rattle.printout.specs.inner.Room.{put, Fits, Puts}
use Rattle.printout.proofs.Putting.{put_after}

pub length_digits : (base k n : ℕ) → length (digits base k n) ≡ k
unfolding digits
length_digits base zero n = refl
length_digits base (suc k) n =
    length-append (digits base k (n / base)) (digit_of (n % base) ∷ []) ∙ omega (arith, length_digits base k (n / base))

pub digits_room : (base count number : ℕ) (u : Writer) → Fits (digits base count number) u → u.written + count ≤ length u.out.now
digits_room base count number u fits = omega (arith, fits.room, length_digits base count number)

-- a digit to a base of at most 16
pub digit_small : (n base : ℕ) → 0 < base → base ≤ 16 → n % base < 16
digit_small n base some few = omega (arith, mod-lt n some)

-- a digit is put before those that stand before it, until all are put
module _ (out out₀ : List ℕ) (at base count number remaining rest : ℕ)
    (same : put out at (digits base remaining rest) ≡ put out₀ at (digits base count number)) where
  pub more_digits : (digit : ℕ) → digit ≡ digit_of (rest % base) → 0 < remaining
      → put (set out (at + (remaining - 1)) digit) at (digits base (remaining - 1) (rest / base)) ≡ put out₀ at (digits base count number)
  unfolding digits
  more_digits digit is some =
      let last : remaining ≡ suc (remaining - 1) = omega arith in
      let place : at + (remaining - 1) ≡ at + length (digits base (remaining - 1) (rest / base)) = omega (arith, length_digits base (remaining - 1) (rest / base)) in
      rw is (put_after out (digits base (remaining - 1) (rest / base)) at (at + (remaining - 1)) (digit_of (rest % base)) place ∙ (rw last at same))

  pub all_digits : remaining ≤ 0 → out ≡ put out₀ at (digits base count number)
  unfolding put digits
  all_digits none = let empty : remaining ≡ 0 = omega arith in rw empty at same

-- so they are put
pub all_put : (base count number : ℕ) (u v : Writer) → v.out.ghost_name ≡ u.out.ghost_name → v.written ≡ u.written + count
    → v.out.now ≡ put u.out.now u.written (digits base count number) → Puts (digits base count number) u v
all_put base count number u v same ends content =
    record { same = same; ends = omega (arith, length_digits base count number); content = content }

-- a number below 10 ^ (k + 1) has at most k + 1 digits
pub places_most : (k most n : ℕ) → n < 10 ^ suc k → places most n ≤ suc k
unfolding places
places_most zero zero n less = omega arith
places_most zero (suc most) n less = let few : n < 10 = omega (arith, pow-suc 10 0) in rw (lt-ltb _ _ few) (omega arith)
places_most (suc k) zero n less = omega arith
places_most (suc k) (suc most) n less =
    go (ltb n 10) (places_most k most (n / 10) (omega (arith, pow-suc 10 (suc k))))
  where
    go : (t : Bool) → places most (n / 10) ≤ suc k → cond t 1 (suc (places most (n / 10))) ≤ suc (suc k)
    go true fewer = omega arith
    go false fewer = omega arith

-- and one from 10 ^ k on has at least as many
places_least : (k most n : ℕ) → 10 ^ k ≤ n → n ≤ most → suc k ≤ places most n
unfolding places
places_least zero zero n enough within = omega arith
places_least zero (suc most) n enough within = go (ltb n 10)
  where
    go : (t : Bool) → 1 ≤ cond t 1 (suc (places most (n / 10)))
    go true = omega arith
    go false = omega arith
places_least (suc k) zero n enough within = absurd (omega (arith, one-le-pow (suc k) 10 (omega arith)))
places_least (suc k) (suc most) n enough within =
    let ten : 10 ≤ n = omega (arith, pow-suc 10 k, one-le-pow k 10 (omega arith)) in
    rw (le-ltb _ _ ten) (omega (arith, places_least k most (n / 10) (omega (arith, pow-suc 10 k)) (omega arith)))

-- so the places of a number are one more than its logarithm
pub places_log : (k n : ℕ) → 10 ^ k ≤ max n 1 → max n 1 < 10 * 10 ^ k → k + 1 ≡ places n n
unfolding places
places_log zero zero least most = refl
places_log (suc k) zero least most = absurd (omega (arith, pow-suc 10 k, one-le-pow k 10 (omega arith)))
places_log k (suc n) least most =
    omega (arith, places_least k (suc n) (suc n) (omega arith) (omega arith), places_most k (suc n) (suc n) (omega (arith, pow-suc 10 k)))

pub ruleset numbers = (rules, digits_room, all_put, lt-ltb, le-ltb, digit_small, more_digits, all_digits, places_log)
