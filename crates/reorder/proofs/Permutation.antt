-- A new order of n things is a permutation of the numbers below n, and every such permutation is a new order.
use Rattle.std.specs.Prelude.{◌≡◌, refl, List, [], ◌∷◌, ◌++◌, ℕ, zero, suc, ◌+◌, ◌<◌, ◌≤◌, length, get_or}
use Rattle.basis.specs.Names.{Memᴰ as In}
use Rattle.basis.proofs.Names.{sym, ap, ◌∙◌, subst, ⊎_elim, Memᴰ-head as here, Memᴰ-tail as later, Memᴰ-append_right, zero-add, arith, length-append}
use Rattle.reorder.specs.Order.{NewOrder, Keeps}
use Rattle.reorder.proofs.Membership.{in_seam, in_wider, split, in_at, at_in}

-- strictly ascending
abbrev pub Ascending : List ℕ → Type 0
Ascending [] = Unit {0}
Ascending (x ∷ xs) = ((y : ℕ) → In y xs → x < y) × Ascending xs

pub ascending_before : (p : List ℕ) (k : ℕ) (q : List ℕ) → Ascending (p ++ k ∷ q) → (x : ℕ) → In x p → x < k
ascending_before [] k q a x h = elim h [ ]
ascending_before (y ∷ p) k q a x (here e) = subst (λ (z : ℕ). z < k) (sym e) (a.0 k (Memᴰ-append_right p (here refl)))
ascending_before (y ∷ p) k q a x (later m) = ascending_before p k q a.1 x m

pub ascending_without : (p : List ℕ) (k : ℕ) (q : List ℕ) → Ascending (p ++ k ∷ q) → Ascending (p ++ q)
ascending_without [] k q a = a.1
ascending_without (y ∷ p) k q a = (λ z m. a.0 z (in_wider z p k q m), ascending_without p k q a.1)

-- the n numbers m, m + 1, ..
abbrev pub from : ℕ → ℕ → List ℕ
from m zero = []
from m (suc n) = m ∷ from (suc m) n

in_from : (m n x : ℕ) → In x (from m n) → (m ≤ x) × (x < m + n)
in_from m zero x h = elim h [ ]
in_from m (suc n) x (here e) = omega arith
in_from m (suc n) x (later h) = let r = in_from (suc m) n x h in omega arith

pub ascending_from : (m n : ℕ) → Ascending (from m n)
ascending_from m zero = tt
ascending_from m (suc n) = (λ y h. (in_from (suc m) n y h).0, ascending_from (suc m) n)

length_from : (m n : ℕ) → length (from m n) ≡ n
length_from m zero = refl
length_from m (suc n) = ap suc (length_from (suc m) n)

from_at : (m n p : ℕ) → p < n → get_or (from m n) p 0 ≡ m + p
from_at m zero p b = absurd (omega arith)
from_at m (suc n) zero b = omega arith
from_at m (suc n) (suc p) b = let rest = from_at (suc m) n p (omega arith) in omega arith

-- the same elements: the first of the new list stands somewhere in the old one, and so on with what is left
abbrev pub Permutation : List ℕ → List ℕ → Type 0
Permutation old [] = old ≡ []
Permutation old (k ∷ new) = (p q : List ℕ) × (old ≡ p ++ k ∷ q) × Permutation (p ++ q) new

permutation_insert : (x : ℕ) (old p q : List ℕ) → Permutation old (p ++ q) → Permutation (x ∷ old) (p ++ x ∷ q)
permutation_insert x old [] q h = ([], old, refl, h)
permutation_insert x old (k ∷ p) q (a, b, e, r) =
    (x ∷ a, b, ap (λ (l : List ℕ). x ∷ l) e, permutation_insert x (a ++ b) p q r)

pub permutation_in : (old new : List ℕ) → Permutation old new → (x : ℕ) → In x old → In x new
permutation_in old [] h x m = subst (In x) h m
permutation_in old (k ∷ new) (p, q, e, r) x m =
    let rest : In x (p ++ q) → In x new = permutation_in (p ++ q) new r x in
    ⊎_elim (λ same. here same) (λ n. later (rest n)) (in_seam x p k q (subst (In x) e m))

permutation_back : (old new : List ℕ) → Permutation old new → (x : ℕ) → In x new → In x old
permutation_back old [] _ x h = elim h [ ]
permutation_back old (k ∷ new) (p, q, e, r) x (here same) = subst (In x) (sym e) (Memᴰ-append_right p (here same))
permutation_back old (k ∷ new) (p, q, e, r) x (later m) =
    subst (In x) (sym e) (in_wider x p k q (permutation_back (p ++ q) new r x m))

-- as many entries, and each of the old ones among them
permutation_of : (old new : List ℕ) → Ascending old → length new ≡ length old → ((x : ℕ) → In x old → In x new) → Permutation old new
permutation_of [] [] a e sub = refl
permutation_of [] (k ∷ new) a e sub = absurd (omega arith)
permutation_of (x ∷ old) new a e sub =
    let (p, q, cut) = split x new (sub x (here refl)) in
    let size : length (p ++ q) ≡ length old = simp length-append (omega (arith, simp length-append at (ap length cut))) in
    let among : (y : ℕ) → In y old → In y (p ++ q) =
    λ y m. ⊎_elim (λ same. absurd (omega (arith, a.0 y m, same))) (λ n. n) (in_seam y p x q (subst (In y) cut (sub y (later m)))) in
    subst (Permutation (x ∷ old)) (sym cut) (permutation_insert x old p q (permutation_of old (p ++ q) a.1 size among))

-- a new order has as many entries, and each of the ascending numbers among them
pub order_permutation : (n : ℕ) (order : List ℕ) → NewOrder n order → Permutation (from 0 n) order
order_permutation n order new =
    permutation_of (from 0 n) order (ascending_from 0 n) (new.size ∙ sym (length_from 0 n))
    (λ x m. let (p, l, e) = new.every x (omega (arith, in_from 0 n x m)) in
    subst (λ (y : ℕ). In y order) e (in_at order p (omega arith)))

pub order_below : (n : ℕ) (order : List ℕ) → NewOrder n order → (k : ℕ) → In k order → k < n
order_below n order new k m =
    omega (arith, in_from 0 n k (permutation_back (from 0 n) order (order_permutation n order new) k m))

-- and the other way: every permutation of the numbers below n is a new order
permutation_length : (old new : List ℕ) → Permutation old new → length new ≡ length old
permutation_length old [] h = sym (ap length h)
permutation_length old (k ∷ new) (p, q, e, r) =
    omega (arith, permutation_length (p ++ q) new r, length-append p q, length-append p (k ∷ q), ap length e)

pub permutation_order : (n : ℕ) (order : List ℕ) → Permutation (from 0 n) order → NewOrder n order
permutation_order n order h =
    let size : length order ≡ n = permutation_length (from 0 n) order h ∙ length_from 0 n in
    record {
      size = size;
      every = λ k l.
          let old : In (get_or (from 0 n) k 0) (from 0 n) = in_at (from 0 n) k (omega (arith, length_from 0 n)) in
          let same : get_or (from 0 n) k 0 ≡ k = from_at 0 n k l ∙ zero-add k in
          let (p, b, e) = at_in k order (permutation_in (from 0 n) order h k (subst (λ (x : ℕ). In x (from 0 n)) same old)) in
          (p, omega arith, e);
    }

-- the order as it is: a new order too, which keeps every pair
permutation_same : (l : List ℕ) → Permutation l l
permutation_same [] = refl
permutation_same (x ∷ l) = ([], l, refl, permutation_same l)

pub own_order : (n : ℕ) → NewOrder n (from 0 n)
own_order n = permutation_order n (from 0 n) (permutation_same (from 0 n))

pub own_order_keeps : (n : ℕ) (Meets : ℕ → ℕ → Type 0) → Keeps n (from 0 n) Meets
own_order_keeps n Meets i j p q earlier j_in p_in q_in at_p at_q m =
    omega (arith, from_at 0 n p p_in, from_at 0 n q q_in)
