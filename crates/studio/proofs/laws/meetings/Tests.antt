-- Tests and what they test: two that test the same are one, and one that is never true is false.
use Rattle.std.specs.Prelude.{◌≡◌, refl, Bool, true, false, ℕ, eqb, ◌↔◌}
use Rattle.basis.proofs.Names.{false≢true, eq-eqb, eqb-true}

pub equal_exactly : (x y : ℕ) → (eqb x y ≡ true) ↔ (x ≡ y)
equal_exactly x y = (eqb-true x y, eq-eqb x y)

pub exactly_then : {A B C : Type 0} → A ↔ B → B ↔ C → A ↔ C
exactly_then p q = (λ a. q.0 (p.0 a), λ c. p.1 (q.1 c))

pub together : {A : Type 0} (a b : Bool) → (a ≡ true) ↔ A → (b ≡ true) ↔ A → a ≡ b
together true true p q = refl
together true false p q = absurd (false≢true (q.1 (p.0 refl)))
together false true p q = absurd (false≢true (p.1 (q.0 refl)))
together false false p q = refl

pub never : (t : Bool) → (t ≡ true → ⊥) → t ≡ false
never true h = absurd (h refl)
never false h = refl
