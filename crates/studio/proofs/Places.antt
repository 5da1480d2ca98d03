-- All places: they are those that the machine has, and each is lower than all behind it.
use Rattle.std.specs.Prelude.{◌≡◌, List, [], ◌∷◌, ℕ, zero, suc, ◌+◌, ◌-◌, ◌≤◌, ◌<◌, ◌↔◌}
use Rattle.basis.specs.Names.{Memᴰ as In}
use Rattle.basis.proofs.Names.{sym, subst, subst₂, Memᴰ-head as here, Memᴰ-tail as later, add-sub_cancel_left, dec_lt, arith}
use Rattle.manual.specs.Places.{Place, mmx, integer, byte, zero_mark}
use Rattle.manual.proofs.Having.{HasPlace}
use Rattle.studio.specs.Meetings.{all_places}
use Rattle.studio.specs.Reasons.{Lower}
use Rattle.studio.proofs.laws.meetings.Numbers.{place_at, is_mmx, is_integer_lem, is_byte, is_zero_mark_lem, numbered, all_numbered, in_numbered, numbered_in}

-- the place with number k, in a memory of n bytes, by its sort
data Sort (n k : ℕ) : Place → Type 0 where
  an_mmx : k < 8 → Sort n k (mmx k)
  an_integer : 8 ≤ k → k < 16 → Sort n k (integer (k - 8))
  a_byte : 16 ≤ k → k - 16 < n → Sort n k (byte (k - 16))
  the_zero_mark : 16 + n ≤ k → Sort n k zero_mark

sort_of : (n k : ℕ) → Sort n k (place_at n k)
sort_of n k = by (dec_lt k 8) (dec_lt k 16) (dec_lt (k - 16) n)
  where
    by : Dec (k < 8) → Dec (k < 16) → Dec (k - 16 < n) → Sort n k (place_at n k)
    by (yes p) q r = subst (Sort n k) (is_mmx n k p) (an_mmx p)
    by (no p) (yes q) r = let past : 8 ≤ k = omega arith in subst (Sort n k) (is_integer_lem n k past q) (an_integer past q)
    by (no p) (no q) (yes r) = let past : 16 ≤ k = omega arith in subst (Sort n k) (is_byte n k past r) (a_byte past r)
    by (no p) (no q) (no r) = subst (Sort n k) (is_zero_mark_lem n k (omega arith) (omega arith)) (the_zero_mark (omega arith))

-- In the list stands every place that the machine has, and no other

has : (n k : ℕ) (p : Place) → Sort n k p → HasPlace n p
has n k p (an_mmx h) = h
has n k p (an_integer h g) = omega arith
has n k p (a_byte h g) = g
has n k p (the_zero_mark h) = tt

listed : (n k : ℕ) (p : Place) → k < 17 + n → p ≡ place_at n k → In p (all_places n)
listed n k p h e = subst₂ In (sym e) (sym (all_numbered n)) (numbered_in n 0 (17 + n) k (omega arith) (omega arith))

pub in_places : (n : ℕ) (p : Place) → In p (all_places n) ↔ HasPlace n p
in_places n p = (there, stands p)
  where
    there : In p (all_places n) → HasPlace n p
    there m =
        let (k, low, high, e) = in_numbered n 0 (17 + n) p (subst (In p) (all_numbered n) m) in
        subst (HasPlace n) (sym e) (has n k (place_at n k) (sort_of n k))

    stands : (p : Place) → HasPlace n p → In p (all_places n)
    stands (mmx k) h = listed n k (mmx k) (omega arith) (is_mmx n k h)
    stands (integer k) h = listed n (8 + k) (integer k) (omega arith) (simp add-sub_cancel_left at (is_integer_lem n (8 + k) (omega arith) (omega arith)))
    stands (byte a) h = listed n (16 + a) (byte a) (omega arith) (simp add-sub_cancel_left at (is_byte n (16 + a) (omega arith) (omega arith)))
    stands zero_mark h = listed n (16 + n) zero_mark (omega arith) (is_zero_mark_lem n (16 + n) (omega arith) (omega arith))

-- They ascend

abbrev pub Ascending : List Place → Type 0
Ascending [] = Unit {0}
Ascending (p ∷ ps) = ((q : Place) → In q ps → Lower p q) × Ascending ps

-- of two numbers the less is that of the lower place
lower : (n j k : ℕ) (p q : Place) → Sort n j p → Sort n k q → j < k → k < 17 + n → Lower p q
lower n j k p q (an_mmx a) (an_mmx b) h l = h
lower n j k p q (an_mmx a) (an_integer b c) h l = tt
lower n j k p q (an_mmx a) (a_byte b c) h l = tt
lower n j k p q (an_mmx a) (the_zero_mark b) h l = tt
lower n j k p q (an_integer a d) (an_mmx b) h l = absurd (omega arith)
lower n j k p q (an_integer a d) (an_integer b c) h l = omega arith
lower n j k p q (an_integer a d) (a_byte b c) h l = tt
lower n j k p q (an_integer a d) (the_zero_mark b) h l = tt
lower n j k p q (a_byte a d) (an_mmx b) h l = absurd (omega arith)
lower n j k p q (a_byte a d) (an_integer b c) h l = absurd (omega arith)
lower n j k p q (a_byte a d) (a_byte b c) h l = omega arith
lower n j k p q (a_byte a d) (the_zero_mark b) h l = tt
lower n j k p q (the_zero_mark a) s h l = absurd (omega arith)

ascending_numbers : (n k more : ℕ) → k + more ≤ 17 + n → Ascending (numbered n k more)
ascending_numbers n k zero b = tt
ascending_numbers n k (suc more) b = (behind, ascending_numbers n (k + 1) more (omega arith))
  where
    behind : (q : Place) → In q (numbered n (k + 1) more) → Lower (place_at n k) q
    behind q m =
        let (j, low, high, e) = in_numbered n (k + 1) more q m in
        subst (Lower (place_at n k)) (sym e) (lower n k j (place_at n k) (place_at n j) (sort_of n k) (sort_of n j) (omega arith) (omega arith))

pub ascending_places : (n : ℕ) → Ascending (all_places n)
ascending_places n = subst Ascending (sym (all_numbered n)) (ascending_numbers n 0 (17 + n) (omega arith))

-- none is lower than one that is lower than it
not_both : (p q : Place) → Lower p q → Lower q p → ⊥
not_both (mmx j) (mmx k) a b = omega arith
not_both (mmx j) (integer k) a b = b
not_both (mmx j) (byte k) a b = b
not_both (mmx j) zero_mark a b = b
not_both (integer j) (mmx k) a b = a
not_both (integer j) (integer k) a b = omega arith
not_both (integer j) (byte k) a b = b
not_both (integer j) zero_mark a b = b
not_both (byte j) (mmx k) a b = a
not_both (byte j) (integer k) a b = a
not_both (byte j) (byte k) a b = omega arith
not_both (byte j) zero_mark a b = b
not_both zero_mark q a b = a

-- so of an ascending list none is lower than the first
pub first_lowest : (p : Place) (ps : List Place) → ((q : Place) → In q ps → Lower p q) → (q : Place) → In q (p ∷ ps) → Lower q p → ⊥
first_lowest p ps first q (here e) b = let c : Lower p p = subst (λ (x : Place). Lower x p) e b in not_both p p c c
first_lowest p ps first q (later m) b = not_both p q (first q m) b
