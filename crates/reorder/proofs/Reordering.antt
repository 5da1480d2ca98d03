-- A row of instructions in a new order leaves the same state, over any machine that obeys the swap law: each instruction of the new order
-- goes to the front past those that it does not meet.
use Rattle.std.specs.Prelude.{◌≡◌, refl, List, [], ◌∷◌, ◌++◌, map, ℕ, zero, suc, ◌+◌, ◌<◌, length, get_or}
use Rattle.basis.specs.Names.{Memᴰ as In}
use Rattle.basis.proofs.Names.{false≢true, sym, ap, ◌∙◌, subst, Memᴰ-head as here, Memᴰ-tail as later, Memᴰ-append_left, add-zero, zero-add, add-suc, suc-add, arith}
use Rattle.reorder.specs.Result.{Result, done, refused, and_then, case_of}
use Rattle.reorder.specs.Order.{NewOrder, Keeps}
use Rattle.reorder.proofs.Rows.{exec_all, before, footprint_at}
use Rattle.reorder.proofs.Membership.{in_at, at_in}
use Rattle.reorder.proofs.Permutation.{Ascending, Permutation, from, ascending_before, ascending_without, ascending_from, permutation_in, order_permutation, order_below}

-- the first of a row that completes, completes, and so does the rest after it
pub first : {S I : Type 0} (exec : I → S → Result S) (i : I) (row : List I) (s t : S) → exec_all exec (i ∷ row) s ≡ done t
    → (s₁ : S) × (exec i s ≡ done s₁) × (exec_all exec row s₁ ≡ done t)
first {S} exec i row s t h = go (exec i s) refl
  where
    go : (o : Result S) → exec i s ≡ o → (s₁ : S) × (exec i s ≡ done s₁) × (exec_all exec row s₁ ≡ done t)
    go (done s₁) e = (s₁, e, cc)
    go (refused n) e = absurd (false≢true (cc))

module _ (S I F : Type 0) (exec : I → S → Result S) (footprint : I → S → F) (Meets : F → F → Type 0) where
  -- the swap law: two neighbours that both complete and don't meet change places, come to the same state, and keep their footprints
  abbrev pub Swap : Type 0
  Swap =
      (a b : I) (s s₁ s₂ : S) → exec a s ≡ done s₁ → exec b s₁ ≡ done s₂ → ¬ Meets (footprint a s) (footprint b s₁)
      → (s₁' : S) × (exec b s ≡ done s₁') × (exec a s₁' ≡ done s₂) × (footprint b s ≡ footprint b s₁) × (footprint a s₁' ≡ footprint a s)

  -- no later one of the list with a lower number meets an earlier one
  abbrev Kept : (ℕ → F) → List ℕ → Type 0
  Kept touched [] = Unit {0}
  Kept touched (k ∷ ks) = ((x : ℕ) → In x ks → x < k → ¬ Meets (touched x) (touched k)) × Kept touched ks

  -- each number has its instruction, and the footprint that it has in the original order
  module _ (numbered : ℕ → I) (touched : ℕ → F) where
    -- the instructions with these numbers complete one after the other, each with the footprint of its number
    abbrev Trace : List ℕ → S → S → Type 0
    Trace [] s t = s ≡ t
    Trace (k ∷ ks) s t = (s₁ : S) × (exec (numbered k) s ≡ done s₁) × (footprint (numbered k) s ≡ touched k) × Trace ks s₁ t

    trace_executed : (ks : List ℕ) (s t : S) → Trace ks s t → exec_all exec (map numbered ks) s ≡ done t
    trace_executed [] s t h = ap done h
    trace_executed (k ∷ ks) s t (s₁, e, f, r) =
        ap (λ (o : Result S). and_then o (exec_all exec (map numbered ks))) e ∙ trace_executed ks s₁ t r

    module _ (swap : Swap) where
      -- the second of a trace goes before the first
      past_one : (a b : ℕ) (ks : List ℕ) (s t : S) → ¬ Meets (touched a) (touched b) → Trace (a ∷ b ∷ ks) s t → Trace (b ∷ a ∷ ks) s t
      past_one a b ks s t n (s₁, ea, fa, (s₂, eb, fb, r)) =
          let (s₁', eb', ea', fb', fa') =
          swap (numbered a) (numbered b) s s₁ s₂ ea eb
          (λ m. n (subst (λ (f : F). Meets f (touched b)) fa (subst (λ (f : F). Meets (footprint (numbered a) s) f) fb m))) in
          (s₁', eb', fb' ∙ fb, (s₂, ea', fa' ∙ fa, r))

      -- one in the middle goes before all that stand before it
      past_all : (p : List ℕ) (k : ℕ) (q : List ℕ) (s t : S) → ((x : ℕ) → In x p → ¬ Meets (touched x) (touched k))
          → Trace (p ++ k ∷ q) s t → Trace (k ∷ (p ++ q)) s t
      past_all [] k q s t n h = h
      past_all (x ∷ p) k q s t n (s₁, e, f, r) =
          past_one x k (p ++ q) s t (n x (here refl)) (s₁, e, f, past_all p k q s₁ t (λ y m. n y (later m)) r)

      -- by the new order: its first one goes to the front of the old list, past those that don't meet it
      trace_moved : (new old : List ℕ) (s t : S) → Permutation old new → Ascending old → Kept touched new → Trace old s t → Trace new s t
      trace_moved [] old s t π a κ h = subst (λ (l : List ℕ). Trace l s t) π h
      trace_moved (k ∷ new) old s t (p, q, e, π) a κ h =
          let a' : Ascending (p ++ k ∷ q) = subst Ascending e a in
          let clear : (x : ℕ) → In x p → ¬ Meets (touched x) (touched k) =
          λ x m. κ.0 x (permutation_in (p ++ q) new π x (Memᴰ-append_left q m)) (ascending_before p k q a' x m) in
          let (s₁, ex, f, r) = past_all p k q s t clear (subst (λ (l : List ℕ). Trace l s t) e h) in
          (s₁, ex, f, trace_moved new (p ++ q) s₁ t π (ascending_without p k q a') κ.1 r)

  -- the row itself, as a trace of its numbers from m on
  trace_of : (numbered : ℕ → I) (touched : ℕ → F) (past : I) (row : List I) (m : ℕ) (s t : S)
      → ((k : ℕ) → k < length row → numbered (m + k) ≡ get_or row k past)
      → ((k : ℕ) → k < length row → touched (m + k) ≡ footprint_at exec footprint row s past k)
      → exec_all exec row s ≡ done t → Trace numbered touched (from m (length row)) s t
  trace_of numbered touched past [] m s t hi hf h = cc
  trace_of numbered touched past (i ∷ row) m s t hi hf h =
      let (s₁, e, r) = first exec i row s t h in
      let i₀ : numbered m ≡ i = ap numbered (sym (add-zero m)) ∙ hi zero (omega arith) in
      let f₀ : touched m ≡ footprint i s = ap touched (sym (add-zero m)) ∙ hf zero (omega arith) in (
        s₁,
        ap (λ (j : I). exec j s) i₀ ∙ e,
        ap (λ (j : I). footprint j s) i₀ ∙ sym f₀,
        trace_of numbered touched past row (suc m) s₁ t
            (λ k l. ap numbered (suc-add m k ∙ sym (add-suc m k)) ∙ hi (suc k) (omega arith))
            (λ k l. ap touched (suc-add m k ∙ sym (add-suc m k)) ∙ hf (suc k) (omega arith)
            ∙ ap (λ (o : Result S). footprint (get_or row k past) (before exec row k (case_of o (λ n. s) (λ u. u)))) e)
            r,
      )

  kept_of : (touched : ℕ → F) (ks : List ℕ)
      → ((p q : ℕ) → p < q → q < length ks → get_or ks q 0 < get_or ks p 0 → ¬ Meets (touched (get_or ks q 0)) (touched (get_or ks p 0)))
      → Kept touched ks
  kept_of touched [] h = tt
  kept_of touched (k ∷ ks) h = (
    λ x m l n.
        let (q, b, e) = at_in x ks m in
        h zero (suc q) (omega arith) (omega arith) (omega arith) (subst (λ (y : ℕ). Meets (touched y) (touched k)) (sym e) n),
    kept_of touched ks (λ p q a b. h (suc p) (suc q) (omega arith) (omega arith)),
  )

  -- THE REORDERING THEOREM: a row that completes, put in a new order that keeps the pairs that meet, completes too, and leaves the same state
  pub reordered : Swap → (past : I) (row : List I) (order : List ℕ) (s t : S)
      → exec_all exec row s ≡ done t
      → NewOrder (length row) order
      → Keeps (length row) order (λ i j. Meets (footprint_at exec footprint row s past i) (footprint_at exec footprint row s past j))
      → exec_all exec (map (λ k. get_or row k past) order) s ≡ done t
  reordered swap past row order s t h new keeps =
      trace_executed numbered touched order s t
      (trace_moved numbered touched swap order (from 0 n) s t (order_permutation n order new) (ascending_from 0 n) (kept_of touched order turned)
      (trace_of numbered touched past row 0 s t (λ k l. ap numbered (zero-add k)) (λ k l. ap touched (zero-add k)) h))
    where
      n : ℕ
      n = length row

      numbered : ℕ → I
      numbered k = get_or row k past

      touched : ℕ → F
      touched k = footprint_at exec footprint row s past k

      turned : (p q : ℕ) → p < q → q < length order → get_or order q 0 < get_or order p 0 → ¬ Meets (touched (get_or order q 0)) (touched (get_or order p 0))
      turned p q l b o m =
          let below : get_or order p 0 < n = order_below n order new (get_or order p 0) (in_at order p (omega arith)) in
          let back : q < p =
          keeps (get_or order q 0) (get_or order p 0) q p o (omega arith) (omega (arith, new.size)) (omega (arith, new.size)) refl refl m in
          omega arith
