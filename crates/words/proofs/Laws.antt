-- A load and a store go byte by byte: what a load reads is the bytes from its place on, what a store leaves is the buffer with its bytes put there.
use Rattle.std.specs.Prelude.{◌≡◌, refl, Bool, true, false, cond, ◌&&◌, List, [], ◌∷◌, ◌++◌, ℕ, zero, suc, ◌+◌, ◌≤◌, ◌<◌, ◌^◌, leb, length, get_or, set, take, drop}
use Rattle.basis.specs.Names.{sets}
use Rattle.basis.proofs.Names.{sym, ap, ◌∙◌, false≢true, add-zero, add-suc, suc-add, one-le-pow, add-one, arith, le-leb, leb-true, sets-eq, drop-cons}
use Rattle.words.specs.Number.{AllBytes, number, bytes}
use Rattle.words.specs.Buffer.{inside, loaded, stored}
use Rattle.words.specs.inner.Bytewise.{gets}
use Rattle.words.proofs.Numbers.{length-bytes, number_below}

-- two tests in one, and what is so where a test holds
pub and_both : (a b : Bool) → (a && b) ≡ true → (a ≡ true) × (b ≡ true)
and_both true b h = (refl, h)
and_both false b h = absurd (false≢true h)

where_true : {A : Type 0} (t : Bool) (x y z : A) → (t ≡ true → x ≡ y) → cond t x z ≡ cond t y z
where_true true x y z same = same refl
where_true false x y z same = refl

pub inside_true : (n at size : ℕ) → inside n at size ≡ true → (size ≤ 8) × (at + size ≤ n)
inside_true n at size h =
    let (few, fit) = and_both (leb size 8) (leb (at + size) n) h in (leb-true size 8 few, leb-true (at + size) n fit)

-- the bytes from a place on, one by one
pub length-gets : (n : ℕ) (buffer : List ℕ) (at : ℕ) → length (gets n buffer at) ≡ n
length-gets zero buffer at = refl
length-gets (suc n) buffer at = ap suc (length-gets n buffer (at + 1))

gets_taken : (n : ℕ) (buffer : List ℕ) (at : ℕ) → at + n ≤ length buffer → gets n buffer at ≡ take n (drop at buffer)
gets_taken zero buffer at h = refl
gets_taken (suc n) buffer at h =
    rw (drop-cons buffer at 0 (omega arith), ← add-one at)
    (ap (λ (l : List ℕ). get_or buffer at 0 ∷ l) (gets_taken n buffer (at + 1) (omega arith)))

all-gets : (n : ℕ) (buffer : List ℕ) (at : ℕ) → AllBytes buffer → AllBytes (gets n buffer at)
all-gets zero buffer at h i = omega arith
all-gets (suc n) buffer at h zero = h at
all-gets (suc n) buffer at h (suc i) = all-gets n buffer (at + 1) h i

pub gets_below : (n : ℕ) (buffer : List ℕ) (at : ℕ) → AllBytes buffer → number (gets n buffer at) < 256 ^ n
gets_below n buffer at h = rw length-gets at (number_below (gets n buffer at) (all-gets n buffer at h))

-- a run of stores, and then another
pub sets-append : (xs ys l : List ℕ) (i : ℕ) → sets l i (xs ++ ys) ≡ sets (sets l i xs) (i + length xs) ys
sets-append [] ys l i = ap (λ (k : ℕ). sets l k ys) (sym (add-zero i))
sets-append (x ∷ xs) ys l i =
    sets-append xs ys (set l i x) (suc i)
    ∙ ap (λ (k : ℕ). sets (sets (set l i x) (suc i) xs) k ys) (suc-add i (length xs) ∙ sym (add-suc i (length xs)))

-- a load is the number of the bytes that are got one by one; a store puts the number's bytes one by one
module _ (buffer : List ℕ) (at size : ℕ) where
  pub loaded_bytewise : loaded buffer at size ≡ cond (inside (length buffer) at size) (number (gets size buffer at)) 0
  unfolding loaded
  loaded_bytewise =
      where_true (inside (length buffer) at size) _ _ _
      (λ e. ap number (sym (gets_taken size buffer at (inside_true (length buffer) at size e).1)))

  pub stored_bytewise : (value : ℕ) → stored buffer at size value ≡ cond (inside (length buffer) at size) (sets buffer at (bytes size value)) buffer
  unfolding stored
  stored_bytewise value = where_true (inside (length buffer) at size) _ _ _ (λ e. sym (pasted e))
    where
      pasted : inside (length buffer) at size ≡ true → sets buffer at (bytes size value) ≡ take at buffer ++ bytes size value ++ drop (at + size) buffer
      pasted e =
          rw length-bytes at
          (sets-eq (bytes size value) buffer at (omega (arith, inside_true (length buffer) at size e, length-bytes size value)))

  -- a load that fits, and one from bytes
  pub loaded-inside : size ≤ 8 → at + size ≤ length buffer → loaded buffer at size ≡ number (take size (drop at buffer))
  unfolding loaded
  loaded-inside few fit = simp (le-leb size 8 few, le-leb (at + size) (length buffer) fit)

  pub loaded_below : AllBytes buffer → loaded buffer at size < 256 ^ size
  loaded_below all = rw loaded_bytewise (go (inside (length buffer) at size))
    where
      go : (t : Bool) → cond t (number (gets size buffer at)) 0 < 256 ^ size
      go true = gets_below size buffer at all
      go false = one-le-pow size 256 (omega arith)
