-- A new order of n things, and what it is for an order to keep pairs.
use Rattle.std.specs.Prelude.{◌≡◌, List, ℕ, ◌<◌, length, get_or}

-- the list says which original thing stands at each place: n entries, and each number below n stands somewhere
pub record NewOrder (n : ℕ) (order : List ℕ) : Type 0 where
  pub size : length order ≡ n
  pub every : (k : ℕ) → k < n → (p : ℕ) × (p < n) × (get_or order p 0 ≡ k)

-- of two that meet, i the earlier in the original order: i's place is the earlier in the new order too
abbrev pub Keeps : ℕ → List ℕ → (ℕ → ℕ → Type 0) → Type 0
Keeps n order Meets =
    (i j p q : ℕ) → i < j → j < n → p < n → q < n → get_or order p 0 ≡ i → get_or order q 0 ≡ j → Meets i j → p < q
