-- The numbers that an effect's value is made of are those of the operands that it takes, where all of them have their places.
use Rattle.std.specs.Prelude.{◌≡◌, refl, Bool, true, false, cond, List, [], ◌∷◌, ◌++◌, map, ℕ, zero, suc, ◌+◌, length, take, drop}
use Rattle.basis.proofs.Names.{sym, ap, ap₂, subst, ◌∙◌, false≢true, take_at, drop_at}
use Rattle.reorder.specs.Result.{Result, done, refused, and_then, map_result}
use Rattle.reorder.specs.Plan.{looks}
use Rattle.manual.specs.State.{State}
use Rattle.manual.specs.Places.{Place, mmx, integer, zero_mark, look}
use Rattle.manual.specs.Addresses.{address}
use Rattle.manual.specs.Locations.{Location, mmx_register, integer_register, memory, zero_operand, bytes_from, lies_inside, miss_of, places_of}
use Rattle.manual.specs.Effects.{places_of_all, place_count, value_in, number_of, values_in}

-- places of all operands: the first has its own, and the others have theirs
pub record Apiece (s : State) (y : Location) (ys : List Location) (ps : List Place) : Type 0 where
  pub own : List Place
  pub others : List Place
  pub first : places_of s y ≡ done own
  pub rest : places_of_all s ys ≡ done others
  pub both : own ++ others ≡ ps

pub apiece : (s : State) (y : Location) (ys : List Location) (ps : List Place) → places_of_all s (y ∷ ys) ≡ done ps → Apiece s y ys ps
apiece s y ys ps e = by (places_of s y) (places_of_all s ys) refl refl e
  where
    by : (a b : Result (List Place)) → places_of s y ≡ a → places_of_all s ys ≡ b → and_then a (λ own. map_result (λ others. own ++ others) b) ≡ done ps → Apiece s y ys ps
    by (done own) (done others) ea eb h = record { own = own; others = others; first = ea; rest = eb; both = cc }
    by (done own) (refused n) ea eb h = absurd (false≢true (cc))
    by (refused n) b ea eb h = absurd (false≢true (cc))

module _ (s : State) where
  looks-both : (ps qs : List Place) → looks look s (ps ++ qs) ≡ looks look s ps ++ looks look s qs
  looks-both [] qs = refl
  looks-both (p ∷ ps) qs = ap (λ (l : List ℕ). look s p ∷ l) (looks-both ps qs)

  count_bytes : (size a : ℕ) → length (looks look s (bytes_from a size)) ≡ size
  count_bytes zero a = refl
  count_bytes (suc size) a = ap suc (count_bytes size (a + 1))

  -- what stands in the places of an operand: as many numbers as it has places, and its number
  record Own (x : Location) (ps : List Place) : Type 0 where
    count : length (looks look s ps) ≡ place_count x
    value : value_in x (looks look s ps) ≡ number_of s x

  own_places : (x : Location) (ps : List Place) → places_of s x ≡ done ps → Own x ps
  own_places (mmx_register k) ps e = let same : mmx k ∷ [] ≡ ps = cc in subst (Own (mmx_register k)) same (record { count = refl; value = refl })
  own_places (integer_register k) ps e = let same : integer k ∷ [] ≡ ps = cc in subst (Own (integer_register k)) same (record { count = refl; value = refl })
  own_places zero_operand ps e = let same : zero_mark ∷ [] ≡ ps = cc in subst (Own zero_operand) same (record { count = refl; value = refl })
  own_places (memory a size) ps e = by (lies_inside (length s.memory) size (address s.integers a)) e
    where
      by : (t : Bool) → cond t (done (bytes_from (address s.integers a) size)) (refused (miss_of a)) ≡ done ps → Own (memory a size) ps
      by true e =
          let same : bytes_from (address s.integers a) size ≡ ps = cc in
          subst (Own (memory a size)) same (record { count = count_bytes size (address s.integers a); value = refl })
      by false e = absurd (false≢true (cc))

  pub values_are : (xs : List Location) (ps : List Place) → places_of_all s xs ≡ done ps → values_in xs (looks look s ps) ≡ map (number_of s) xs
  values_are [] ps e = refl
  values_are (x ∷ xs) ps e =
      let a = apiece s x xs ps e in
      let own = looks look s a.own in
      let others = looks look s a.others in
      let mine = own_places x a.own a.first in
      let all : looks look s ps ≡ own ++ others = ap (looks look s) (sym a.both) ∙ looks-both a.own a.others in
      ap₂ (λ (v : ℕ) (vs : List ℕ). v ∷ vs)
      (ap (λ (l : List ℕ). value_in x (take (place_count x) l)) all ∙ ap (value_in x) (take_at own others (place_count x) mine.count) ∙ mine.value)
      (ap (λ (l : List ℕ). values_in xs (drop (place_count x) l)) all ∙ ap (values_in xs) (drop_at own others (place_count x) mine.count) ∙ values_are xs a.others a.rest)
