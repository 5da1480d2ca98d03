-- Whether an order turns round a pair that meets, by computation: where it turns none, it keeps them all.
use Rattle.std.specs.Prelude.{◌≡◌, Bool, true, false, ◌&&◌, ◌||◌, List, [], ◌∷◌, ℕ, zero, suc, ◌<◌, ltb, length, get_or}
use Rattle.basis.proofs.Names.{sym, ap, ap₂, ◌∙◌, or-true, false≢true, dec_lt, arith, lt-ltb}
use Rattle.reorder.specs.Order.{Keeps}

module _ (meets : ℕ → ℕ → Bool) where
  -- one of the list has a lower number than k, and meets it
  abbrev turns_with : ℕ → List ℕ → Bool
  turns_with k [] = false
  turns_with k (x ∷ xs) = (ltb x k && meets x k) || turns_with k xs

  -- one of the list stands after one that it meets and has the lower number
  abbrev pub turns : List ℕ → Bool
  turns [] = false
  turns (k ∷ ks) = turns_with k ks || turns ks

  found_with : (k : ℕ) (ks : List ℕ) (p : ℕ) → p < length ks → get_or ks p 0 < k → meets (get_or ks p 0) k ≡ true → turns_with k ks ≡ true
  found_with k [] p b l m = absurd (omega arith)
  found_with k (x ∷ ks) zero b l m = simp (lt-ltb x k l, m)
  found_with k (x ∷ ks) (suc p) b l m = simp (found_with k ks p (omega arith) l m, or-true)

  found : (ks : List ℕ) (q p : ℕ) → q < p → p < length ks → get_or ks p 0 < get_or ks q 0 → meets (get_or ks p 0) (get_or ks q 0) ≡ true → turns ks ≡ true
  found [] q p o b l m = absurd (omega arith)
  found (k ∷ ks) zero zero o b l m = absurd (omega arith)
  found (k ∷ ks) zero (suc p) o b l m = simp (found_with k ks p (omega arith) l m)
  found (k ∷ ks) (suc q) zero o b l m = absurd (omega arith)
  found (k ∷ ks) (suc q) (suc p) o b l m = simp (found ks q p (omega arith) (omega arith) l m, or-true)

  pub keeps_unturned : (order : List ℕ) → turns order ≡ false → Keeps (length order) order (λ i j. meets i j ≡ true)
  keeps_unturned order none i j p q earlier j_in p_in q_in at_p at_q m = go (dec_lt p q)
    where
      go : Dec (p < q) → p < q
      go (yes l) = l
      go (no l) =
          let apart : ¬ (p ≡ q) = λ same. omega (arith, at_p, at_q, ap (λ (n : ℕ). get_or order n 0) same) in
          let there : turns order ≡ true =
          found order q p (omega arith) p_in (omega arith) (ap₂ meets at_p at_q ∙ m) in
          absurd (false≢true (sym none ∙ there))
