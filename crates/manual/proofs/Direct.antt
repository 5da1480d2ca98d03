-- What an effect of each shape comes to over a floor, once the control marks are passed, said by its operands' numbers: by cases on where the
-- operands are.
use Rattle.std.specs.Prelude.{◌≡◌, refl, Bool, true, false, cond, List, [], ◌∷◌, ◌++◌, ℕ, zero, suc, ◌+◌, ◌/◌, ◌%◌, length, get_or, take}
use Rattle.basis.specs.Names.{sets}
use Rattle.basis.proofs.Names.{sym, ap, ap₂, ◌∙◌, append-nil, add-one, arith, take_all}
use Rattle.words.specs.Number.{number, bytes}
use Rattle.words.specs.inner.Bytewise.{gets}
use Rattle.words.proofs.Laws.{length-gets}
use Rattle.reorder.specs.Result.{Result, done, refused, and_then, map_result}
use Rattle.reorder.specs.Plan.{Plan, looks, puts, leaves, perform}
use Rattle.codec.specs.declared.Kind.{Kind}
use Rattle.codec.specs.declared.Kind.TheVariants.{Ordinary}
use Rattle.manual.specs.Refusals.{below_floor}
use Rattle.manual.specs.State.{State, with_memory}
use Rattle.manual.specs.Places.{Place, mmx, integer, byte, zero_mark, look, put, all_writable}
use Rattle.manual.specs.Kinds.{marked, heeded}
use Rattle.manual.specs.Addresses.{Address, address}
use Rattle.manual.specs.Locations.{Location, mmx_register, integer_register, memory, zero_operand, bytes_from, lies_inside, miss_of, places_of}
use Rattle.manual.specs.Effects.{Effect, place_count, value_in, contents_of, contents_of_all, unless_marked, plan_on, guarded, placed_above, perform as performs}
use Rattle.manual.specs.inner.Unmarked.{directly}
use Rattle.manual.proofs.Marking.{past_marks}
use Rattle.manual.proofs.Floors.{past_test}
use Rattle.manual.proofs.Shapes.{both, both_or, move, move_or, three, bare}

-- the places of a list of one operand
abbrev pub one : Result (List Place) → Result (List Place)
one places = and_then places (λ ps. map_result (λ qs. ps ++ qs) (done []))

module _ (s : State) where
  abbrev inside : Address → ℕ → Bool
  inside a size = lies_inside (length s.memory) size (address s.integers a)

  -- the number that an operand has
  abbrev pub value_at : Location → Result ℕ
  value_at (mmx_register r) = done (get_or s.mmx r 0)
  value_at (integer_register r) = done (get_or s.integers r 0)
  value_at (memory a size) = cond (inside a size) (done (number (gets size s.memory (address s.integers a)))) (refused (miss_of a))
  value_at zero_operand = done (cond s.marks.zero 1 0)

  -- the state that a number leaves in so many bytes from a place on, over a floor, with the tag mark valid
  abbrev put_bytes : ℕ → ℕ → ℕ → ℕ → Result State
  put_bytes floor a size value =
      cond (all_writable floor (bytes_from a size)) (done (marked Ordinary (with_memory s (sets s.memory a (bytes size value))))) (refused below_floor)

  -- and in an operand
  abbrev pub put_at : ℕ → Location → ℕ → Result State
  put_at floor (mmx_register r) value = done (marked Ordinary (put s (mmx r) value))
  put_at floor (integer_register r) value = done (marked Ordinary (put s (integer r) value))
  put_at floor (memory a size) value = cond (inside a size) (put_bytes floor (address s.integers a) size value) (refused (miss_of a))
  put_at floor zero_operand value = done (marked Ordinary (put s zero_mark value))

  -- the bytes of an operand in memory, looked at
  looks-bytes : (size a : ℕ) → looks look s (bytes_from a size) ≡ gets size s.memory a
  looks-bytes zero a = refl
  looks-bytes (suc size) a = ap (λ (l : List ℕ). get_or s.memory a 0 ∷ l) (looks-bytes size (a + 1))

  take-bytes : (size a : ℕ) → number (take size (looks look s (bytes_from a size))) ≡ number (gets size s.memory a)
  take-bytes size a =
      ap number (ap (take size) (looks-bytes size a) ∙ take_all size (gets size s.memory a) (omega (arith, length-gets size s.memory a)))

  -- an operand that is taken, alone or as the last one
  abbrev Taken : Location → Result ℕ → Result (List Place) → Type 0
  Taken x (done v) (done ps) = value_in x (take (place_count x) (looks look s (ps ++ []))) ≡ v
  Taken x (done v) (refused n) = ⊥
  Taken x (refused n) (done ps) = ⊥
  Taken x (refused n) (refused n') = n ≡ n'

  taken : (x : Location) → Taken x (value_at x) (places_of s x)
  taken (mmx_register r) = refl
  taken (integer_register r) = refl
  taken zero_operand = refl
  taken (memory a size) = by (inside a size) (address s.integers a)
    where
      by : (t : Bool) (p : ℕ)
          → Taken (memory a size) (cond t (done (number (gets size s.memory p))) (refused (miss_of a))) (cond t (done (bytes_from p size)) (refused (miss_of a)))
      by true p = ap (λ (l : List Place). number (take size (looks look s l))) (append-nil (bytes_from p size)) ∙ take-bytes size p
      by false p = refl

  -- an operand that is given
  abbrev Given : ℕ → Location → ℕ → Result State → Result (List Place) → Type 0
  Given floor x v o (done ps) = o ≡ cond (all_writable floor (ps ++ [])) (done (marked Ordinary (puts put s (ps ++ []) (contents_of x v ++ [])))) (refused below_floor)
  Given floor x v o (refused n) = o ≡ refused n

-- bytes put one by one
put-bytes : (size v : ℕ) (s : State) (a : ℕ) → puts put s (bytes_from a size) (bytes size v) ≡ with_memory s (sets s.memory a (bytes size v))
put-bytes zero v s a = refl
put-bytes (suc size) v s a = put-bytes size (v / 256) (put s (byte a) (v % 256)) (a + 1) ∙ rw add-one

module _ (floor : ℕ) (s : State) where
  given : (x : Location) (v : ℕ) → Given s floor x v (put_at s floor x v) (places_of s x)
  given (mmx_register r) v = refl
  given (integer_register r) v = refl
  given zero_operand v = refl
  given (memory a size) v = by (inside s a size) (address s.integers a)
    where
      by : (t : Bool) (p : ℕ) → Given s floor (memory a size) v (cond t (put_bytes s floor p size v) (refused (miss_of a))) (cond t (done (bytes_from p size)) (refused (miss_of a)))
      by true p =
          ap (λ (u : State). cond (all_writable floor (bytes_from p size)) (done (marked Ordinary u)) (refused below_floor)) (sym (put-bytes size v s p))
          ∙ ap₂ (λ (ps : List Place) (vs : List ℕ). cond (all_writable floor ps) (done (marked Ordinary (puts put s ps vs))) (refused below_floor))
          (sym (append-nil (bytes_from p size))) (sym (append-nil (bytes size v)))
      by false p = refl

  -- what an effect comes to once its operands' places are known
  opened : Effect → Result (List Place) → Result (List Place) → Result State
  opened e sources targets = perform look put marked s (and_then (and_then sources (λ ps. map_result (plan_on e ps) targets)) (guarded floor))

  -- the floor's test goes first
  past_floor : (t : Bool) (p : Plan Place Kind)
      → perform look put marked s (cond t (done p) (refused below_floor)) ≡ cond t (perform look put marked s (done p)) (refused below_floor)
  past_floor t p = past_test (perform look put marked s) t (done p) (refused below_floor)

  moves : (f : ℕ → ℕ) (d x : Location) (u : Result ℕ) (ps qs : Result (List Place)) → Taken s x u ps → ((v : ℕ) → Given s floor d v (put_at s floor d v) qs)
      → opened (move f d x) (one ps) (one qs) ≡ and_then u (λ v. put_at s floor d (f v))
  unfolding opened
  moves f d x (done v) (done ps) (done qs) t g =
      past_floor (all_writable floor (qs ++ [])) (plan_on (move f d x) (ps ++ []) (qs ++ []))
      ∙ ap (λ (y : ℕ). cond (all_writable floor (qs ++ [])) (done (marked Ordinary (puts put s (qs ++ []) (contents_of d (f y) ++ [])))) (refused below_floor)) t
      ∙ sym (g (f v))
  moves f d x (done v) (done ps) (refused n) t g = sym (g (f v))
  moves f d x (refused n) (refused n') qs t g = ap refused (sym t)
  moves f d x (done v) (refused n) qs t g = absurd t
  moves f d x (refused n) (done ps) qs t g = absurd t

  -- a destination made from the source alone
  pub move_direct : (f : ℕ → ℕ) (d x : Location) → directly floor (move f d x) s ≡ and_then (value_at s x) (λ v. put_at s floor d (f v))
  unfolding opened
  move_direct f d x = moves f d x (value_at s x) (places_of s x) (places_of s d) (taken s x) (given d)

  operates : (f : ℕ → ℕ → ℕ) (r : ℕ) (x : Location) (u : Result ℕ) (ps : Result (List Place)) → Taken s x u ps
      → opened (both f (mmx_register r) x) (map_result (λ qs. mmx r ∷ qs) (one ps)) (done (mmx r ∷ [])) ≡ and_then u (λ v. put_at s floor (mmx_register r) (f (get_or s.mmx r 0) v))
  unfolding opened
  operates f r x (done v) (done ps) t = ap (λ (y : ℕ). put_at s floor (mmx_register r) (f (get_or s.mmx r 0) y)) t
  operates f r x (refused n) (refused n') t = ap refused (sym t)
  operates f r x (done v) (refused n) t = absurd t
  operates f r x (refused n) (done ps) t = absurd t

  -- a register made from the register and the source
  pub both_direct : (f : ℕ → ℕ → ℕ) (r : ℕ) (x : Location)
      → directly floor (both f (mmx_register r) x) s ≡ and_then (value_at s x) (λ v. put_at s floor (mmx_register r) (f (get_or s.mmx r 0) v))
  unfolding opened
  both_direct f r x = operates f r x (value_at s x) (places_of s x) (taken s x)

  -- a register made from the source alone, or from both, where there may be no such number
  abbrev register : ℕ → ℕ → Result State
  register r value = put_at s floor (mmx_register r) value

  put_result : (r : ℕ) (o : Result ℕ)
      → map_result (leaves put marked (plan_on (bare Ordinary) [] (mmx r ∷ [])) s) (map_result (contents_of_all (mmx_register r ∷ [])) (map_result (λ x. x ∷ []) o)) ≡ and_then o (register r)
  put_result r (done x) = refl
  put_result r (refused n) = refl

  moves_or : (f : ℕ → Result ℕ) (r : ℕ) (x : Location) (u : Result ℕ) (ps : Result (List Place)) → Taken s x u ps
      → opened (move_or f (mmx_register r) x) (one ps) (done (mmx r ∷ [])) ≡ and_then u (λ v. and_then (f v) (register r))
  unfolding opened
  moves_or f r x (done v) (done ps) t = put_result r (f (value_in x (take (place_count x) (looks look s (ps ++ []))))) ∙ ap (λ (y : ℕ). and_then (f y) (register r)) t
  moves_or f r x (refused n) (refused n') t = ap refused (sym t)
  moves_or f r x (done v) (refused n) t = absurd t
  moves_or f r x (refused n) (done ps) t = absurd t

  pub move_or_direct : (f : ℕ → Result ℕ) (r : ℕ) (x : Location) → directly floor (move_or f (mmx_register r) x) s ≡ and_then (value_at s x) (λ v. and_then (f v) (register r))
  unfolding opened
  move_or_direct f r x = moves_or f r x (value_at s x) (places_of s x) (taken s x)

  operates_or : (f : ℕ → ℕ → Result ℕ) (r : ℕ) (x : Location) (u : Result ℕ) (ps : Result (List Place)) → Taken s x u ps
      → opened (both_or f (mmx_register r) x) (map_result (λ qs. mmx r ∷ qs) (one ps)) (done (mmx r ∷ [])) ≡ and_then u (λ v. and_then (f (get_or s.mmx r 0) v) (register r))
  unfolding opened
  operates_or f r x (done v) (done ps) t =
      put_result r (f (get_or s.mmx r 0) (value_in x (take (place_count x) (looks look s (ps ++ []))))) ∙ ap (λ (y : ℕ). and_then (f (get_or s.mmx r 0) y) (register r)) t
  operates_or f r x (refused n) (refused n') t = ap refused (sym t)
  operates_or f r x (done v) (refused n) t = absurd t
  operates_or f r x (refused n) (done ps) t = absurd t

  pub both_or_direct : (f : ℕ → ℕ → Result ℕ) (r : ℕ) (x : Location)
      → directly floor (both_or f (mmx_register r) x) s ≡ and_then (value_at s x) (λ v. and_then (f (get_or s.mmx r 0) v) (register r))
  unfolding opened
  both_or_direct f r x = operates_or f r x (value_at s x) (places_of s x) (taken s x)

  -- eight bytes made from themselves and two registers
  pub three_direct : (f : ℕ → ℕ → ℕ → ℕ) (a : Address) (j k : ℕ) → let x = memory a 8 in
      directly floor (three f x (mmx_register j) (mmx_register k)) s ≡ and_then (value_at s x) (λ v. put_at s floor x (f v (get_or s.mmx j 0) (get_or s.mmx k 0)))
  unfolding opened
  three_direct f a j k = by (inside s a 8) (address s.integers a)
    where
      by : (t : Bool) (p : ℕ) → let there = cond t (done (bytes_from p 8)) (refused (miss_of a)) in
          opened (three f (memory a 8) (mmx_register j) (mmx_register k)) (and_then there (λ ps. map_result (λ qs. ps ++ qs) (done (mmx j ∷ mmx k ∷ [])))) (one there)
          ≡ and_then (cond t (done (number (gets 8 s.memory p))) (refused (miss_of a)))
          (λ v. cond t (put_bytes s floor p 8 (f v (get_or s.mmx j 0) (get_or s.mmx k 0))) (refused (miss_of a)))
      by true p =
          past_floor (all_writable floor (bytes_from p 8)) (plan_on (three f (memory a 8) (mmx_register j) (mmx_register k)) (bytes_from p 8 ++ mmx j ∷ mmx k ∷ []) (bytes_from p 8))
          ∙ ap (λ (u : State). cond (all_writable floor (bytes_from p 8)) (done (marked Ordinary u)) (refused below_floor))
          (put-bytes 8 (f (number (gets 8 s.memory p)) (get_or s.mmx j 0) (get_or s.mmx k 0)) s p)
      by false p = refl

  -- the control marks that stop its kind go first
  pub marks_first : (e : Effect) → performs floor e s ≡ unless_marked (heeded e.kind s.marks) (directly floor e s)
  marks_first e = past_marks (perform look put marked s) (λ n. refl) (heeded e.kind s.marks) (placed_above floor e s)
