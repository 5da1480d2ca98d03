-- What is set in a list is seen alike in another list as long; by induction on both.
use Rattle.std.specs.Prelude.{◌≡◌, refl, List, [], ◌∷◌, ℕ, zero, suc, length, get_or, set}
use Rattle.basis.proofs.Names.{arith}

-- where it is set
pub set_same : (l m : List ℕ) (i v : ℕ) → length l ≡ length m → get_or (set l i v) i 0 ≡ get_or (set m i v) i 0
set_same [] [] i v e = refl
set_same [] (y ∷ m) i v e = absurd (omega arith)
set_same (x ∷ l) [] i v e = absurd (omega arith)
set_same (x ∷ l) (y ∷ m) zero v e = refl
set_same (x ∷ l) (y ∷ m) (suc i) v e = set_same l m i v (omega arith)

-- and wherever it was seen alike before
pub set_alike : (l m : List ℕ) (i j v : ℕ) → length l ≡ length m → get_or l j 0 ≡ get_or m j 0 → get_or (set l i v) j 0 ≡ get_or (set m i v) j 0
set_alike [] [] i j v e h = refl
set_alike [] (y ∷ m) i j v e h = absurd (omega arith)
set_alike (x ∷ l) [] i j v e h = absurd (omega arith)
set_alike (x ∷ l) (y ∷ m) zero zero v e h = refl
set_alike (x ∷ l) (y ∷ m) zero (suc j) v e h = h
set_alike (x ∷ l) (y ∷ m) (suc i) zero v e h = h
set_alike (x ∷ l) (y ∷ m) (suc i) (suc j) v e h = set_alike l m i j v (omega arith) h
