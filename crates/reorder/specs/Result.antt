-- What may be refused: a value, or the number of the refusal.
use Rattle.std.specs.Prelude.{ℕ}

pub data Result (A : Type 0) : Type 0 where
  done : A → Result A
  refused : ℕ → Result A

-- goes on by the one function from a refusal's number, by the other from a value
abbrev pub case_of : {A B : Type 0} → Result A → (ℕ → B) → (A → B) → B
case_of (refused n) stop go_on = stop n
case_of (done a) stop go_on = go_on a

-- the next thing that may be refused, made from the value
abbrev pub and_then : {A B : Type 0} → Result A → (A → Result B) → Result B
and_then (refused n) next = refused n
and_then (done a) next = next a

-- a value made from the value
abbrev pub map_result : {A B : Type 0} → (A → B) → Result A → Result B
map_result f (refused n) = refused n
map_result f (done a) = done (f a)

-- a value, provided that something else is not refused
abbrev pub provided : {A B : Type 0} → Result A → Result B → Result A
provided o other = and_then o (λ a. map_result (λ b. a) other)
