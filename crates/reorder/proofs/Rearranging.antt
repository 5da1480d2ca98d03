-- The reordering theorem over code bytes: a block is its pieces, the row of pieces is reordered, and the new row is the new block's run.
use Rattle.std.specs.Prelude.{◌≡◌, refl, Bool, false, List, [], ◌∷◌, ◌++◌, map, ℕ, zero, suc, ◌+◌, ◌<◌, ◌≤◌, length, get_or}
use Rattle.basis.specs.Names.{flatten, Memᴰ as In}
use Rattle.basis.proofs.Names.{false≢true, sym, ap, ap₂, ◌∙◌, subst, subst₂, Memᴰ-head as here, Memᴰ-tail as later, add-zero, zero-add, add-suc, suc-add, arith, length-append, length-map, take_at, drop_at}
use Rattle.reorder.specs.Result.{Result, done, refused, and_then}
use Rattle.reorder.specs.Order.{NewOrder, Keeps}
use Rattle.reorder.specs.Run.{Fetched, finished, run}
use Rattle.reorder.specs.Block.{pieces_up_to, pieces_of, in_order, rearranged, reaches}
use Rattle.reorder.proofs.Rows.{exec_all, footprint_at, on_bytes, footprint_in_code}
use Rattle.reorder.proofs.Permutation.{Permutation, from, order_permutation, order_below}
use Rattle.reorder.proofs.Reordering.{Swap, reordered}
use Rattle.reorder.proofs.Cutting.{LocalReader, Whole, AllWhole, read_front, GoesOn, cut, joined}

-- pieces in another order have as many bytes
length_seam : (f : ℕ → List ℕ) (p : List ℕ) (k : ℕ) (q : List ℕ)
    → length (flatten (map f (p ++ k ∷ q))) ≡ length (f k) + length (flatten (map f (p ++ q)))
unfolding flatten
length_seam f [] k q = length-append (f k) _
length_seam f (x ∷ p) k q = simp length-append (omega (arith, length_seam f p k q))

as_long : (f : ℕ → List ℕ) (new old : List ℕ) → Permutation old new → length (flatten (map f new)) ≡ length (flatten (map f old))
unfolding flatten
as_long f [] old π = ap (λ (l : List ℕ). length (flatten (map f l))) (sym π)
as_long f (k ∷ new) old (p, q, e, π) =
    length-append (f k) _ ∙ ap (λ (n : ℕ). length (f k) + n) (as_long f new (p ++ q) π) ∙ sym (length_seam f p k q)
    ∙ ap (λ (l : List ℕ). length (flatten (map f l))) (sym e)

-- a list is its entries at 0, 1, ..
map_from : (f : ℕ → List ℕ) (l : List (List ℕ)) (m : ℕ) → ((k : ℕ) → k < length l → f (m + k) ≡ get_or l k []) → map f (from m (length l)) ≡ l
map_from f [] m h = refl
map_from f (x ∷ l) m h =
    ap₂ (λ (y : List ℕ) (ys : List (List ℕ)). y ∷ ys) (ap f (sym (add-zero m)) ∙ h zero (omega arith))
    (map_from f l (suc m) (λ k b. ap f (suc-add m k ∙ sym (add-suc m k)) ∙ h (suc k) (omega arith)))

module _ {I : Type 0} (read : List ℕ → Result (Fetched I)) (jumps : I → Bool) where
  pub whole_at : (pieces : List (List ℕ)) → AllWhole read jumps pieces → (k : ℕ) → k < length pieces → Whole read jumps (get_or pieces k [])
  whole_at [] w k l = absurd (omega arith)
  whole_at (piece ∷ pieces) w zero l = w.0
  whole_at (piece ∷ pieces) w (suc k) l = whole_at pieces w.1 k (omega arith)

  whole_map : (f : ℕ → List ℕ) (ks : List ℕ) → ((k : ℕ) → In k ks → Whole read jumps (f k)) → AllWhole read jumps (map f ks)
  whole_map f [] h = tt
  whole_map f (k ∷ ks) h = (h k (here refl), whole_map f ks (λ j m. h j (later m)))

  module _ (reader : LocalReader read) where
    -- whole pieces are found again in the block that they make
    found_up_to : (pieces : List (List ℕ)) (most : ℕ) → AllWhole read jumps pieces → length pieces ≤ most → pieces_up_to read most (flatten pieces) ≡ pieces
    unfolding flatten
    found_up_to [] zero w b = refl
    found_up_to [] (suc most) w b = go (read []) refl
      where
        go : (o : Result (Fetched I)) → read [] ≡ o → pieces_up_to read (suc most) [] ≡ []
        go (done r) e = absurd (omega (arith, reader.some_bytes [] r e))
        go (refused n) e = simp e
    found_up_to (piece ∷ pieces) zero w b = absurd (omega arith)
    found_up_to (piece ∷ pieces) (suc most) ((r, er, z, ej), w) b =
        simp (read_front read reader piece (flatten pieces) r er z)
        (ap₂ (λ (x y : List ℕ). x ∷ pieces_up_to read most y) (take_at piece (flatten pieces) r.size (sym z)) (drop_at piece (flatten pieces) r.size (sym z))
        ∙ ap (λ (qs : List (List ℕ)). piece ∷ qs) (found_up_to pieces most w (omega arith)))

    -- each has a byte, so there are no more pieces than bytes
    no_more : (pieces : List (List ℕ)) → AllWhole read jumps pieces → length pieces ≤ length (flatten pieces)
    unfolding flatten
    no_more [] w = omega arith
    no_more (piece ∷ pieces) ((r, er, z, ej), w) =
        simp length-append (omega (arith, reader.some_bytes piece r er, no_more pieces w))

    pub pieces_found : (pieces : List (List ℕ)) → AllWhole read jumps pieces → pieces_of read (flatten pieces) ≡ pieces
    pieces_found pieces w = found_up_to pieces (length (flatten pieces)) w (no_more pieces w)

    -- the order as it is gives the block back
    pub own_order_same : {S : Type 0} (exec : I → S → Result S) (next : ℕ → I → S → ℕ → Result ℕ) → GoesOn next jumps
        → (code : List ℕ) (budget end total : ℕ) (s t : S) → reaches read jumps code ≡ false → run read exec next budget code s ≡ finished end total t
        → rearranged read code (from 0 total) ≡ code
    own_order_same exec next goes_on code budget end total s t clear h =
        let (pieces, e, w, x, c, b, p) = cut read exec next jumps reader goes_on budget (length code) code 0 0 s end total t (omega arith) (omega arith, clear) h in
        let cuts : pieces_of read code ≡ pieces = ap (pieces_of read) e ∙ pieces_found pieces w in
        let count : total ≡ length pieces = c ∙ zero-add (length pieces) in
        ap₂ (λ (ps : List (List ℕ)) (n : ℕ). in_order ps (from 0 n)) cuts count
        ∙ ap flatten (map_from (λ k. get_or pieces k []) pieces 0 (λ k l. ap (λ (n : ℕ). get_or pieces n []) (zero-add k)))
        ∙ sym e

    module _ {S F : Type 0} (exec : I → S → Result S) (next : ℕ → I → S → ℕ → Result ℕ) (goes_on : GoesOn next jumps)
        (footprint : I → S → Result F) (Meets : Result F → Result F → Type 0) (swap : Swap S I (Result F) exec footprint Meets) where
      -- the footprint of a piece, in the state before it
      abbrev touched : List (List ℕ) → S → ℕ → Result F
      touched pieces s k = footprint_at (on_bytes read exec) (on_bytes read footprint) pieces s [] k

      -- the swap law, for what reads as an instruction or doesn't
      swap_read : Swap S (Result (Fetched I)) (Result F) (λ o s. and_then o (λ r. exec r.instruction s)) (λ o s. and_then o (λ r. footprint r.instruction s)) Meets
      swap_read (done a) (done b) s s₁ s₂ ea eb n = swap a.instruction b.instruction s s₁ s₂ ea eb n
      swap_read (done a) (refused n) s s₁ s₂ ea eb m = absurd (false≢true (cc))
      swap_read (refused n) o s s₁ s₂ ea eb m = absurd (false≢true (cc))

      pieces_reordered : (pieces : List (List ℕ)) (order : List ℕ) (budget : ℕ) (s t : S) → AllWhole read jumps pieces
          → exec_all (on_bytes read exec) pieces s ≡ done t → length pieces ≤ budget → NewOrder (length pieces) order
          → Keeps (length pieces) order (λ i j. Meets (touched pieces s i) (touched pieces s j))
          → (length (in_order pieces order) ≡ length (flatten pieces))
          × (run read exec next budget (in_order pieces order) s ≡ finished (length (flatten pieces)) (length pieces) t)
      pieces_reordered pieces order budget s t w x b new keeps =
          let f : ℕ → List ℕ = λ k. get_or pieces k [] in
          let many : length (map f order) ≡ length pieces = length-map order f ∙ new.size in
          let same : length (flatten (map f order)) ≡ length (flatten pieces) =
          as_long f order (from 0 (length pieces)) (order_permutation (length pieces) order new)
          ∙ ap (λ (l : List (List ℕ)). length (flatten l)) (map_from f pieces 0 (λ k l. ap f (zero-add k))) in
          let whole : AllWhole read jumps (map f order) =
          whole_map f order (λ k m. whole_at pieces w k (order_below (length pieces) order new k m)) in
          let moved : exec_all (on_bytes read exec) (map f order) s ≡ done t =
          reordered S (List ℕ) (Result F) (on_bytes read exec) (on_bytes read footprint) Meets (λ a c. swap_read (read a) (read c)) [] pieces order s t x new keeps in (
            same,
            joined read exec next jumps reader goes_on (map f order) budget (flatten (map f order)) 0 0 s t (omega arith) refl whole moved (omega arith)
                ∙ ap₂ (λ n m. finished n m t) same (zero-add (length (map f order)) ∙ many),
          )

      -- THE REORDERING THEOREM OVER BYTES: a block without a jump that runs to its end, put in a new order that keeps the pairs that meet, is as
      -- long and runs to its end too, in as many instructions, and leaves the same state
      pub reordered_block : (code order : List ℕ) (budget end total : ℕ) (s t : S)
          → reaches read jumps code ≡ false
          → run read exec next budget code s ≡ finished end total t
          → NewOrder total order
          → Keeps total order (λ i j. Meets (footprint_in_code read exec footprint code s i) (footprint_in_code read exec footprint code s j))
          → (length (rearranged read code order) ≡ length code) × (run read exec next budget (rearranged read code order) s ≡ finished end total t)
      reordered_block code order budget end total s t clear h new keeps =
          let (pieces, e, w, x, c, b, p) = cut read exec next jumps reader goes_on budget (length code) code 0 0 s end total t (omega arith) (omega arith, clear) h in
          let cuts : pieces_of read code ≡ pieces = ap (pieces_of read) e ∙ pieces_found pieces w in
          let count : total ≡ length pieces = c ∙ zero-add (length pieces) in
          let size : length (flatten pieces) ≡ length code = ap length (sym e) in
          let r = pieces_reordered pieces order budget s t w x b (subst (λ (n : ℕ). NewOrder n order) count new)
          (subst₂ (λ (n : ℕ) (qs : List (List ℕ)). Keeps n order (λ i j. Meets (touched qs s i) (touched qs s j))) count cuts keeps) in
          subst (λ (qs : List (List ℕ)). (length (in_order qs order) ≡ length code) × (run read exec next budget (in_order qs order) s ≡ finished end total t))
          (sym cuts) (r.0 ∙ size, r.1 ∙ ap₂ (λ n m. finished n m t) (size ∙ sym p) (sym count))
