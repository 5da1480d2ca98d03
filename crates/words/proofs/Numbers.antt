-- A number and its bytes: each is got back from the other, digit by digit to the base 256.
use Rattle.std.specs.Prelude.{◌≡◌, refl, List, [], ◌∷◌, ◌++◌, ℕ, zero, suc, ◌+◌, ◌*◌, ◌/◌, ◌%◌, ◌^◌, ◌≤◌, ◌<◌, length, take, drop}
use Rattle.basis.proofs.Names.{sym, ap, ◌∙◌, subst, pow-suc, one-le-pow, mod-one, mod-eq_of_lt, le_trans, pow-le-pow_right, arith, mod-mul, length-take, get_or-drop}
use Rattle.words.specs.Number.{AllBytes, number, bytes}

pub all_none : AllBytes []
all_none i = omega arith

pub all_cons : (b : ℕ) (l : List ℕ) → b < 256 → AllBytes l → AllBytes (b ∷ l)
all_cons b l h all zero = h
all_cons b l h all (suc i) = all i

pub all_tail : (b : ℕ) (l : List ℕ) → AllBytes (b ∷ l) → AllBytes l
all_tail b l all i = all (suc i)

pub all_append : (l m : List ℕ) → AllBytes l → AllBytes m → AllBytes (l ++ m)
all_append [] m p q i = q i
all_append (b ∷ l) m p q zero = p 0
all_append (b ∷ l) m p q (suc i) = all_append l m (all_tail b l p) q i

pub all_drop : (n : ℕ) (l : List ℕ) → AllBytes l → AllBytes (drop n l)
all_drop n l all i = subst (λ (b : ℕ). b < 256) (sym (get_or-drop n l i 0)) (all (n + i))

-- the bytes of a number are bytes
pub all-bytes : (k value : ℕ) → AllBytes (bytes k value)
all-bytes zero value i = all_none i
all-bytes (suc k) value zero = omega arith
all-bytes (suc k) value (suc i) = all-bytes k (value / 256) i

pub length-bytes : (k value : ℕ) → length (bytes k value) ≡ k
length-bytes zero value = refl
length-bytes (suc k) value = ap suc (length-bytes k (value / 256))

pub number-bytes : (k value : ℕ) → number (bytes k value) ≡ value % 256 ^ k
number-bytes zero value = sym (mod-one value)
number-bytes (suc k) value =
    let some : 0 < 256 ^ k = one-le-pow k 256 (omega arith) in
    let split : value % (256 ^ k * 256) ≡ (value / 256 % 256 ^ k) * 256 + value % 256 = mod-mul value some (omega arith) in
    rw (number-bytes k (value / 256), pow-suc 256 k, split) (omega arith)

pub number_below : (l : List ℕ) → AllBytes l → number l < 256 ^ length l
number_below [] h = omega arith
number_below (b ∷ bs) h =
    rw (pow-suc 256 (length bs)) (omega (arith, h zero, number_below bs (λ i. h (suc i))))

pub bytes-number : (l : List ℕ) → AllBytes l → bytes (length l) (number l) ≡ l
bytes-number [] h = refl
bytes-number (b ∷ bs) h =
    let small : b < 256 = h zero in
    let low : (b + 256 * number bs) % 256 ≡ b = omega arith in
    let high : (b + 256 * number bs) / 256 ≡ number bs = omega arith in
    rw (low, high) (ap (λ (l : List ℕ). b ∷ l) (bytes-number bs (λ i. h (suc i))))

-- a number that fits its bytes is theirs
pub number_fits : (k value : ℕ) → value < 256 ^ k → number (bytes k value) ≡ value
number_fits k value h = number-bytes k value ∙ mod-eq_of_lt h

-- the first k bytes of a list
pub all_take : (k : ℕ) (l : List ℕ) → AllBytes l → AllBytes (take k l)
all_take zero l all = all_none
all_take (suc k) [] all = all_none
all_take (suc k) (b ∷ l) all = all_cons b (take k l) (all 0) (all_take k l (all_tail b l all))

module _ (k : ℕ) (l : List ℕ) (all : AllBytes l) where
  pub number_taken : number (take k l) < 256 ^ k
  number_taken =
      le_trans (number_below (take k l) (all_take k l all)) (pow-le-pow_right (omega arith) (simp length-take (omega arith)))

  pub bytes_taken : k ≤ length l → bytes k (number (take k l)) ≡ take k l
  bytes_taken h = ap (λ (n : ℕ). bytes n (number (take k l))) (sym size) ∙ bytes-number (take k l) (all_take k l all)
    where
      size : length (take k l) ≡ k
      size = simp length-take (omega arith)
