-- The places by their numbers: the list of all places has the place with each number, in order.
use Rattle.std.specs.Prelude.{◌≡◌, cond, List, [], ◌∷◌, ◌++◌, ℕ, zero, suc, ◌+◌, ◌-◌, ◌≤◌, ◌<◌, ltb}
use Rattle.basis.specs.Names.{Memᴰ as In}
use Rattle.basis.proofs.Names.{ap, Memᴰ-head as here, Memᴰ-tail as later, dec_lt, zero-add, add-zero, suc-add, add_assoc, add-sub_cancel_left, arith, lt-ltb, le-ltb}
use Rattle.manual.specs.Places.{Place, mmx, integer, byte, zero_mark}
use Rattle.manual.specs.Locations.{bytes_from}
use Rattle.studio.specs.Meetings.{all_places}

-- the place with a number, in a memory of n bytes: the MMX registers are 0 to 7, the integer registers 8 to 15, the memory bytes 16 and so on, and
-- behind them is the zero mark
unfoldable pub place_at : ℕ → ℕ → Place
place_at n k = cond (ltb k 8) (mmx k) (cond (ltb k 16) (integer (k - 8)) (cond (ltb (k - 16) n) (byte (k - 16)) zero_mark))

module _ (n k : ℕ) where
  pub is_mmx : k < 8 → mmx k ≡ place_at n k
  unfolding place_at
  is_mmx h = simp (lt-ltb k 8 h)

  module _ (no_mmx : 8 ≤ k) where
    pub is_integer_lem : k < 16 → integer (k - 8) ≡ place_at n k
    unfolding place_at
    is_integer_lem h = simp (le-ltb k 8 no_mmx, lt-ltb k 16 h)

  module _ (no_register : 16 ≤ k) where
    past_mmx : 8 ≤ k
    past_mmx = omega arith

    pub is_byte : k - 16 < n → byte (k - 16) ≡ place_at n k
    unfolding place_at
    is_byte h = simp (le-ltb k 8 past_mmx, le-ltb k 16 no_register, lt-ltb (k - 16) n h)

    pub is_zero_mark_lem : n ≤ k - 16 → zero_mark ≡ place_at n k
    unfolding place_at
    is_zero_mark_lem h = simp (le-ltb k 8 past_mmx, le-ltb k 16 no_register, le-ltb (k - 16) n h)

-- so many places, from the place with number k on
abbrev pub numbered : ℕ → ℕ → ℕ → List Place
numbered n k zero = []
numbered n k (suc more) = place_at n k ∷ numbered n (k + 1) more

-- the bytes from a on, and the zero mark
bytes_numbered : (n a more : ℕ) → a + more ≡ n → bytes_from a more ++ zero_mark ∷ [] ≡ numbered n (16 + a) (suc more)
bytes_numbered n a zero e = cc (is_zero_mark_lem n (16 + a) (omega arith) (omega arith))
bytes_numbered n a (suc more) e =
    cc (is_byte n (16 + a) (omega arith) (omega arith), add-sub_cancel_left 16 a, bytes_numbered n (a + 1) more (omega arith), add_assoc 16 a 1)

numbered_more : (n d k more : ℕ) → numbered n k (d + more) ≡ numbered n k d ++ numbered n (k + d) more
numbered_more n zero k more = simp (zero-add, add-zero)
numbered_more n (suc d) k more =
    let on : k + 1 + d ≡ k + suc d = omega arith in simp suc-add (cc (numbered_more n d (k + 1) more, ap (λ (j : ℕ). numbered n j more) on))

pub all_numbered : (n : ℕ) → all_places n ≡ numbered n 0 (17 + n)
unfolding place_at
all_numbered n =
    let count : 17 + n ≡ 16 + suc n = omega arith in
    cc (ap (numbered n 0) count, numbered_more n 16 0 (suc n), bytes_numbered n 0 n (zero-add n))

-- the places that stand there are those with these numbers

pub in_numbered : (n k more : ℕ) (p : Place) → In p (numbered n k more) → (j : ℕ) × (k ≤ j) × (j < k + more) × (p ≡ place_at n j)
in_numbered n k zero p h = elim h [ ]
in_numbered n k (suc more) p (here e) = (k, omega arith, omega arith, e)
in_numbered n k (suc more) p (later m) = let (j, low, high, e) = in_numbered n (k + 1) more p m in (j, omega arith, omega arith, e)

pub numbered_in : (n k more j : ℕ) → k ≤ j → j < k + more → In (place_at n j) (numbered n k more)
numbered_in n k zero j low high = absurd (omega arith)
numbered_in n k (suc more) j low high = by (dec_lt k j) (numbered_in n (k + 1) more j)
  where
    by : Dec (k < j) → (k + 1 ≤ j → j < k + 1 + more → In (place_at n j) (numbered n (k + 1) more)) → In (place_at n j) (numbered n k (suc more))
    by (yes h) rest = later (rest (omega arith) (omega arith))
    by (no h) rest = let same : j ≡ k = omega arith in here (ap (place_at n) same)
