-- Where an element of a list stands: by induction on the list.
use Rattle.std.specs.Prelude.{◌≡◌, refl, ◌⊎◌, List, [], ◌∷◌, ◌++◌, ℕ, zero, suc, ◌<◌, length, get_or}
use Rattle.basis.specs.Names.{Memᴰ as In}
use Rattle.basis.proofs.Names.{sym, ap, inl, inr, ⊎_elim, Memᴰ-head as here, Memᴰ-tail as later, arith}

-- an element of p ++ k ∷ q is k, or one of p ++ q
pub in_seam : (x : ℕ) (p : List ℕ) (k : ℕ) (q : List ℕ) → In x (p ++ k ∷ q) → (x ≡ k) ⊎ In x (p ++ q)
in_seam x [] k q (here e) = inl e
in_seam x [] k q (later m) = inr m
in_seam x (y ∷ p) k q (here e) = inr (here e)
in_seam x (y ∷ p) k q (later m) = ⊎_elim (λ e. inl e) (λ n. inr (later n)) (in_seam x p k q m)

-- an element of p ++ q is one of p ++ k ∷ q
pub in_wider : (x : ℕ) (p : List ℕ) (k : ℕ) (q : List ℕ) → In x (p ++ q) → In x (p ++ k ∷ q)
in_wider x [] k q m = later m
in_wider x (y ∷ p) k q (here e) = here e
in_wider x (y ∷ p) k q (later m) = later (in_wider x p k q m)

-- the list is what stands before the element, the element, and what stands after it
pub split : (x : ℕ) (l : List ℕ) → In x l → (p q : List ℕ) × (l ≡ p ++ x ∷ q)
split x [] h = elim h [ ]
split x (y ∷ l) (here e) = ([], l, ap (λ (z : ℕ). z ∷ l) (sym e))
split x (y ∷ l) (later m) = let (p, q, e) = split x l m in (y ∷ p, q, ap (λ (z : List ℕ). y ∷ z) e)

-- what stands at a place is an element
pub in_at : (l : List ℕ) (p : ℕ) → p < length l → In (get_or l p 0) l
in_at [] p h = absurd (omega arith)
in_at (y ∷ l) zero h = here refl
in_at (y ∷ l) (suc p) h = later (in_at l p (omega arith))

-- an element stands at a place
pub at_in : (x : ℕ) (l : List ℕ) → In x l → (p : ℕ) × (p < length l) × (get_or l p 0 ≡ x)
at_in x [] h = elim h [ ]
at_in x (y ∷ l) (here e) = (zero, omega arith, sym e)
at_in x (y ∷ l) (later m) = let (p, h, e) = at_in x l m in (suc p, omega arith, e)
