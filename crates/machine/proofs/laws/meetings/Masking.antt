-- What the program hands out of a footprint says the same as its places: bit by bit, and byte by byte, for each number is that of one place.
use Rattle.std.specs.Prelude.{◌≡◌, refl, ◌⊎◌, Bool, true, false, ◌||◌, List, [], ◌∷◌, ℕ, ◌+◌, ◌≤◌, ◌<◌, ◌↔◌}
use Rattle.basis.specs.Names.{Memᴰ as In}
use Rattle.basis.proofs.Names.{sym, ap, subst, inl, inr, false≢true, Memᴰ-head as here, Memᴰ-tail as later, Memᴰ-not_nil as not-nil, Memᴰ-eq_of_singleton as eq_of_singleton, Memᴰ-append_cases as append_cases, Memᴰ-append_left, Memᴰ-append_right}
use Rattle.manual.specs.Places.{Place, mmx, integer, byte, zero_mark}
use Rattle.machine.specs.Footprints.{mmx_number, integer_number, byte_number, numbers_of, bytes_of, is_zero_mark, has_zero_mark, mask, set_of}
use Rattle.machine.proofs.laws.meetings.Masks.{bit, mask_exactly}
use Rattle.machine.proofs.laws.meetings.Ranges.{Range}

-- a sort of places: each has its own number, and no other place has it
module _ (number : Place → List ℕ) (place : ℕ → Place)
    (own : (k : ℕ) → In k (number (place k))) (only : (k : ℕ) (p : Place) → In k (number p) → p ≡ place k) where
  of_numbers : (k : ℕ) (ps : List Place) → In k (numbers_of number ps) → In (place k) ps
  of_numbers k [] m = absurd (not-nil m)
  of_numbers k (p ∷ ps) m = go (append_cases (number p) m) (of_numbers k ps)
    where
      go : In k (number p) ⊎ In k (numbers_of number ps) → (In k (numbers_of number ps) → In (place k) ps) → In (place k) (p ∷ ps)
      go (inl i) rest = here (sym (only k p i))
      go (inr i) rest = later (rest i)

  numbers_of_lem : (k : ℕ) (ps : List Place) → In (place k) ps → In k (numbers_of number ps)
  numbers_of_lem k [] h = elim h [ ]
  numbers_of_lem k (p ∷ ps) (here e) = Memᴰ-append_left (numbers_of number ps) (subst (λ (q : Place). In k (number q)) e (own k))
  numbers_of_lem k (p ∷ ps) (later m) = Memᴰ-append_right (number p) (numbers_of_lem k ps m)

  number_exactly : (k : ℕ) (ps : List Place) → In k (numbers_of number ps) ↔ In (place k) ps
  number_exactly k ps = (of_numbers k ps, numbers_of_lem k ps)

  bit_exactly : (k : ℕ) (ps : List Place) → (bit k (mask (numbers_of number ps)) ≡ 1) ↔ In (place k) ps
  bit_exactly k ps =
      let m = mask_exactly k (numbers_of number ps) in (λ e. of_numbers k ps (m.0 e), λ i. m.1 (numbers_of_lem k ps i))

only_mmx : (k : ℕ) (p : Place) → In k (mmx_number p) → p ≡ mmx k
only_mmx k (mmx j) m = ap mmx (sym (eq_of_singleton m))
only_mmx k (integer j) m = absurd (not-nil m)
only_mmx k (byte a) m = absurd (not-nil m)
only_mmx k zero_mark m = absurd (not-nil m)

only_integer : (k : ℕ) (p : Place) → In k (integer_number p) → p ≡ integer k
only_integer k (mmx j) m = absurd (not-nil m)
only_integer k (integer j) m = ap integer (sym (eq_of_singleton m))
only_integer k (byte a) m = absurd (not-nil m)
only_integer k zero_mark m = absurd (not-nil m)

only_byte : (k : ℕ) (p : Place) → In k (byte_number p) → p ≡ byte k
only_byte k (mmx j) m = absurd (not-nil m)
only_byte k (integer j) m = absurd (not-nil m)
only_byte k (byte a) m = ap byte (sym (eq_of_singleton m))
only_byte k zero_mark m = absurd (not-nil m)

pub mmx_exactly : (k : ℕ) (ps : List Place) → In k (numbers_of mmx_number ps) ↔ In (mmx k) ps
mmx_exactly = number_exactly mmx_number mmx (λ k. here refl) only_mmx

pub integer_exactly : (k : ℕ) (ps : List Place) → In k (numbers_of integer_number ps) ↔ In (integer k) ps
integer_exactly = number_exactly integer_number integer (λ k. here refl) only_integer

byte_exactly : (a : ℕ) (ps : List Place) → In a (bytes_of ps) ↔ In (byte a) ps
byte_exactly = number_exactly byte_number byte (λ k. here refl) only_byte

-- bit k of a mask is set exactly where register k is among the places

pub mmx_masked : (k : ℕ) (ps : List Place) → (bit k (set_of ps).mmx ≡ 1) ↔ In (mmx k) ps
mmx_masked = bit_exactly mmx_number mmx (λ k. here refl) only_mmx

pub integer_masked : (k : ℕ) (ps : List Place) → (bit k (set_of ps).integers ≡ 1) ↔ In (integer k) ps
integer_masked = bit_exactly integer_number integer (λ k. here refl) only_integer

-- a byte is in the range exactly where it is among the places
pub byte_masked : (a : ℕ) (ps : List Place) → Range (bytes_of ps)
    → (((set_of ps).start ≤ a) × (a < (set_of ps).start + (set_of ps).length)) ↔ In (byte a) ps
byte_masked a ps range =
    let n = byte_exactly a ps in (λ h. n.0 ((range a).1 h), λ i. (range a).0 (n.1 i))

-- the zero mark is told exactly where it is among the places
pub zero_exactly : (ps : List Place) → (has_zero_mark ps ≡ true) ↔ In zero_mark ps
zero_exactly ps = (there ps, told ps)
  where
    there : (ps : List Place) → has_zero_mark ps ≡ true → In zero_mark ps
    there [] e = absurd (false≢true e)
    there (mmx k ∷ ps) e = later (there ps e)
    there (integer k ∷ ps) e = later (there ps e)
    there (byte a ∷ ps) e = later (there ps e)
    there (zero_mark ∷ ps) e = here refl

    either : (a b : Bool) → b ≡ true → (a || b) ≡ true
    either true b e = refl
    either false b e = e

    told : (ps : List Place) → In zero_mark ps → has_zero_mark ps ≡ true
    told [] h = elim h [ ]
    told (p ∷ ps) (here e) = subst (λ (q : Place). (is_zero_mark q || has_zero_mark ps) ≡ true) e refl
    told (p ∷ ps) (later m) = either (is_zero_mark p) (has_zero_mark ps) (told ps m)
