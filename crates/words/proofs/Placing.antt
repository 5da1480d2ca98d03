-- Rules for the functions: what the tests of a place tell, and the bytes that are got and put there one by one, turn by turn.
use Rattle.std.specs.Prelude.{[], ◌∷◌, refl, ◌++◌, take, drop, ◌≡◌, Bool, true, false, not, List, ℕ, suc, ◌+◌, ◌*◌, ◌-◌, ◌/◌, ◌%◌, ◌<◌, ◌≤◌, ◌^◌, leb, length, get_or, set}
use Rattle.basis.specs.Names.{sets}
use borrow.Rule.Slice.PartMut.{put_mid}
use Rattle.words.proofs.Numbers.{length-bytes}
use Rattle.basis.proofs.Names.{append_assoc, ap₂, length-take, length-drop, drop_of_length-le, append-nil, drop-drop, sets-eq, sym, ◌∙◌, dec_le, add-zero, sub_self, sub-zero, pow-le-pow_right, arith, rules, le-leb, lt-leb, not-true, not-false}
use mir.Syntax.{w8}
use mir.Val.{Fits}
use Rattle.words.specs.Number.{number, bytes}
use Rattle.words.specs.Buffer.{inside, loaded, stored}
use Rattle.words.specs.inner.Bytewise.{gets}
use Rattle.words.proofs.Laws.{inside_true, gets_below, loaded_bytewise, stored_bytewise}

-- the test of a place, without the sum
module _ (n at size : ℕ) where
  pub too_large : 8 < size → false ≡ inside n at size
  too_large more = simp (lt-leb _ _ more)

  module _ (few : size ≤ 8) where
    pub too_long : n < size → false ≡ inside n at size
    too_long less = let past : n < at + size = omega arith in simp (le-leb _ _ few, lt-leb _ _ past)

    pub no_sum : size ≤ n → leb at (n - size) ≡ inside n at size
    no_sum within = simp (le-leb _ _ few) (go (dec_le at (n - size)))
      where
        go : Dec (at ≤ n - size) → leb at (n - size) ≡ leb (at + size) n
        go (yes k) = le-leb _ _ k ∙ sym (le-leb (at + size) n (omega arith))
        go (no k) = lt-leb at (n - size) (omega arith) ∙ sym (lt-leb (at + size) n (omega arith))

-- what the test tells of a size k that the code goes by
module _ (buffer : List ℕ) (at size : ℕ) (r : Bool) (tested : r ≡ inside (length buffer) at size) where
  pub not_loaded : not r ≡ true → 0 ≡ loaded buffer at size
  not_loaded outside = rw (loaded_bytewise, ← tested, not-true r outside)

  pub not_stored : (value : ℕ) → not r ≡ true → buffer ≡ stored buffer at size value
  not_stored value outside = rw (stored_bytewise, ← tested, not-true r outside)

  module _ (k : ℕ) (same : size ≡ k) (passed : not r ≡ false) where
    both : (k ≤ 8) × (at + k ≤ length buffer)
    both = rw same at (inside_true (length buffer) at size (sym tested ∙ not-false r passed))

    pub few_there : k ≤ 8
    few_there = both.0

    pub lies_there : at + k ≤ length buffer
    lies_there = both.1

    pub is_loaded : (value : ℕ) → value ≡ number (gets k buffer at) → value ≡ loaded buffer at size
    is_loaded value got = rw (loaded_bytewise, ← tested, not-false r passed, same) got

    pub is_stored : (value : ℕ) (after : List ℕ) → after ≡ sets buffer at (bytes k value) → after ≡ stored buffer at size value
    is_stored value after put = rw (stored_bytewise, ← tested, not-false r passed, same) put

-- the bytes from the last one down to the one at i: the value is their number
module _ (buffer : List ℕ) (end i value : ℕ) (passed : value ≡ number (gets (end - i) buffer i)) where
  pub one_fits : ((j : ℕ) → Fits w8 (get_or buffer j 0)) → end - i ≤ 7 → 256 * value + 255 < 2 ^ 64
  one_fits byte few =
      let most : 256 ^ (end - i) ≤ 256 ^ 7 = pow-le-pow_right (omega arith) few in
      omega (arith, gets_below (end - i) buffer i (λ j. (byte j).fits))

pub all_passed : (buffer : List ℕ) (at size i value : ℕ) → value ≡ number (gets (at + size - i) buffer i) → i ≡ at → value ≡ number (gets size buffer at)
all_passed buffer at size i value passed first =
    let whole : at + size - i ≡ size = omega arith in rw (whole, first) at passed

-- the bytes from the first one up: what is left of them, put, gives the end
module _ (buffer end : List ℕ) (place size i rest : ℕ) (remaining : sets buffer place (bytes (size - i) rest) ≡ end) where
  pub one_put : i < size → sets (set buffer place (rest % 256)) (place + 1) (bytes (size - (i + 1)) (rest / 256)) ≡ end
  one_put more =
      let next : place + 1 ≡ suc place = omega arith in
      let fewer : size - i ≡ suc (size - (i + 1)) = omega arith in
      rw next (rw fewer at remaining)

  pub none_remaining : size ≤ i → buffer ≡ end
  none_remaining all = let none : size - i ≡ 0 = omega arith in rw none at remaining

none_taken : (l : List ℕ) → take 0 l ≡ []
none_taken [] = refl
none_taken (b ∷ l) = refl

-- a list filled with as many numbers as it has, and a part of a buffer with the bytes
filled_whole : (b part : List ℕ) → length b ≡ length part → sets part 0 b ≡ b
filled_whole b part same =
    sets-eq b part 0 (omega arith)
    ∙ ap₂ (λ (x y : List ℕ). x ++ b ++ y) (none_taken part) (drop_of_length-le part {i = 0 + length b} (omega arith)) ∙ append-nil b

pub part_put : (buffer : List ℕ) (at size value : ℕ) (part : List ℕ) → at + size ≤ length buffer
    → part ≡ sets (take (at + size - at) (drop at buffer)) 0 (bytes size value)
    → put_mid at (at + size - at) buffer part ≡ sets buffer at (bytes size value)
part_put buffer at size value part fit is =
    let all : length (bytes size value) ≡ size = length-bytes size value in
    let few : at + size - at ≡ size = omega arith in
    let there : length (take size (drop at buffer)) ≡ size = simp (length-take, length-drop) (omega arith) in
    let filled = filled_whole (bytes size value) (take size (drop at buffer)) (omega arith) in
    let put = sets-eq (bytes size value) buffer at (omega arith) in
    let whole = rw few at is in
    rw (few, whole, filled, put, all, drop-drop, append_assoc)

pub ruleset placing = (rules, too_large, too_long, no_sum, not_loaded, not_stored, few_there, lies_there, is_loaded, is_stored)
