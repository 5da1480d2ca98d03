-- Along a run that finishes: a run of k instructions comes to an instruction that completes; and without jumps to piece k of the code, in the state
-- before it, and goes on behind it.
use Rattle.std.specs.Prelude.{◌≡◌, refl, Bool, true, false, cond, List, [], ◌∷◌, ◌++◌, ℕ, zero, suc, ◌+◌, ◌<◌, ◌≤◌, eqb, length, get_or, take, drop}
use Rattle.basis.specs.Names.{flatten}
use Rattle.basis.proofs.Names.{sym, ap, ap₂, ◌∙◌, subst, false≢true, zero-add, add-zero, dec_lt, arith, length-append, take_at, take-length}
use Rattle.reorder.specs.Result.{Result, done, refused, case_of, and_then}
use Rattle.reorder.specs.Run.{Fetched, finished, spent, stopped, position_reached, run_from, run}
use Rattle.reorder.specs.Block.{pieces_of, reaches}
use Rattle.reorder.proofs.Rows.{exec_all, before, footprint_at, on_bytes, footprint_in_code}
use Rattle.reorder.proofs.Cutting.{LocalReader, Whole, AllWhole, read_front, GoesOn, cut, joined, spent_at}
use Rattle.reorder.proofs.Rearranging.{whole_at, pieces_found}

-- the pieces from k on are piece k and those behind it
flatten_at : (pieces : List (List ℕ)) (k : ℕ) → k < length pieces → flatten (drop k pieces) ≡ get_or pieces k [] ++ flatten (drop (suc k) pieces)
unfolding flatten
flatten_at [] k b = absurd (omega arith)
flatten_at (piece ∷ pieces) zero b = refl
flatten_at (piece ∷ pieces) (suc k) b = flatten_at pieces k (omega arith)

flatten_to : (pieces : List (List ℕ)) (k : ℕ) → k < length pieces
    → length (flatten (take (suc k) pieces)) ≡ length (flatten (take k pieces)) + length (get_or pieces k [])
unfolding flatten
flatten_to [] k b = absurd (omega arith)
flatten_to (piece ∷ pieces) zero b = omega (arith, length-append piece [])
flatten_to (piece ∷ pieces) (suc k) b =
    omega (arith, length-append piece (flatten (take (suc k) pieces)), length-append piece (flatten (take k pieces)), flatten_to pieces k (omega arith))

module _ {S I : Type 0} (read : List ℕ → Result (Fetched I)) (exec : I → S → Result S) (next : ℕ → I → S → ℕ → Result ℕ) where
  -- where a run of k instructions has come to
  abbrev pub position_after : List ℕ → S → ℕ → ℕ
  position_after code s k = position_reached (run read exec next k code s)

  -- what a run of k instructions has come to: an instruction that completes, and where it goes on
  pub record Reached (code : List ℕ) (position count : ℕ) (s : S) (k : ℕ) : Type 0 where
    pub at : ℕ
    pub state : S
    pub found : Fetched I
    pub further : ℕ
    pub ran : run_from read exec next k code position count s ≡ spent at (count + k) state
    pub stands : read (drop at code) ≡ done found
    pub completes : (t : S) × (exec found.instruction state ≡ done t)
    pub onward : next (length code) found.instruction state (at + found.size) ≡ done further

  -- every run that finishes has come to one, k below its count
  pub reached : (budget : ℕ) (code : List ℕ) (position count end total : ℕ) (s t : S) → run_from read exec next budget code position count s ≡ finished end total t
      → (k : ℕ) → count + k < total → Reached code position count s k
  reached zero code position count end total s t h k b = by (eqb position (length code)) h
    where
      by : (ended : Bool) → cond ended (finished position count s) (spent position count s) ≡ finished end total t → Reached code position count s k
      by true z = let same : count ≡ total = cc in absurd (omega arith)
      by false z = absurd (false≢true (cc))
  reached (suc remaining) code position count end total s t h k b =
      by (λ further u. reached remaining code further (suc count) end total u t) (eqb position (length code)) refl (read (drop position code)) refl h
    where
      -- what is left of the run behind a turn
      Onward : Type 0
      Onward =
          (further : ℕ) (u : S) → run_from read exec next remaining code further (suc count) u ≡ finished end total t
          → (j : ℕ) → suc count + j < total → Reached code further (suc count) u j

      turn : Onward → eqb position (length code) ≡ false → (found : Fetched I) → read (drop position code) ≡ done found
          → (u : S) → exec found.instruction s ≡ done u → (further : ℕ) → next (length code) found.instruction s (position + found.size) ≡ done further
          → run_from read exec next remaining code further (suc count) u ≡ finished end total t → (j : ℕ) → count + j < total → Reached code position count s j
      turn onward more found er u eu further ef rest zero low =
          record {
            at = position;
            state = s;
            found = found;
            further = further;
            ran = simp more (ap (λ (n : ℕ). spent position n s) (sym (add-zero count)));
            stands = er;
            completes = (u, eu);
            onward = ef;
          }
      turn onward more found er u eu further ef rest (suc j) low =
          let r = onward further u rest j (omega arith) in
          let same : suc count + j ≡ count + suc j = omega arith in
          record {
            at = r.at;
            state = r.state;
            found = r.found;
            further = r.further;
            ran = simp (more, er, eu, ef) (r.ran ∙ ap (λ (n : ℕ). spent r.at n r.state) same);
            stands = r.stands;
            completes = r.completes;
            onward = r.onward;
          }

      going : Onward → eqb position (length code) ≡ false → (found : Fetched I) → read (drop position code) ≡ done found
          → (u : S) → exec found.instruction s ≡ done u → (o : Result ℕ) → next (length code) found.instruction s (position + found.size) ≡ o
          → case_of o (λ n. stopped n position count s) (λ further. run_from read exec next remaining code further (suc count) u) ≡ finished end total t → Reached code position count s k
      going onward more found er u eu (refused n) eo z = absurd (false≢true (cc))
      going onward more found er u eu (done further) eo z = turn onward more found er u eu further eo z k b

      executing : Onward → eqb position (length code) ≡ false → (found : Fetched I) → read (drop position code) ≡ done found
          → (o : Result S) → exec found.instruction s ≡ o
          → case_of o (λ n. stopped n position count s)
          (λ u. case_of (next (length code) found.instruction s (position + found.size)) (λ n. stopped n position count s)
          (λ further. run_from read exec next remaining code further (suc count) u)) ≡ finished end total t → Reached code position count s k
      executing onward more found er (refused n) eo z = absurd (false≢true (cc))
      executing onward more found er (done u) eo z = going onward more found er u eo (next (length code) found.instruction s (position + found.size)) refl z

      by : Onward → (ended : Bool) → eqb position (length code) ≡ ended → (o : Result (Fetched I)) → read (drop position code) ≡ o
          → cond ended (finished position count s)
          (case_of o (λ n. stopped n position count s)
          (λ found. case_of (exec found.instruction s) (λ n. stopped n position count s)
          (λ u. case_of (next (length code) found.instruction s (position + found.size)) (λ n. stopped n position count s)
          (λ further. run_from read exec next remaining code further (suc count) u)))) ≡ finished end total t → Reached code position count s k
      by onward true et o eo z = let same : count ≡ total = cc in absurd (omega arith)
      by onward false et (refused m) eo z = absurd (false≢true (cc))
      by onward false et (done found) eo z = executing onward et found eo (exec found.instruction s) refl z

  module _ {F : Type 0} (footprint : I → S → Result F) where
    -- what a run of k instructions has come to: an instruction that is piece k of the code
    pub record Comes (code : List ℕ) (s : S) (k : ℕ) : Type 0 where
      pub at : ℕ
      pub state : S
      pub found : Fetched I
      pub ran : run read exec next k code s ≡ spent at k state
      pub stands : read (drop at code) ≡ done found
      pub completes : (t : S) × (exec found.instruction state ≡ done t)
      pub onward : next (length code) found.instruction state (at + found.size) ≡ done (at + found.size)
      pub footprint_same : footprint_in_code read exec footprint code s k ≡ footprint found.instruction state
      pub piece : get_or (pieces_of read code) k [] ≡ take found.size (drop at code)
      pub behind : position_after code s (suc k) ≡ at + found.size

    module _ (jumps : I → Bool) (reader : LocalReader read) (goes_on : GoesOn next jumps) where
      -- of whole pieces whose row completes
      module _ (pieces : List (List ℕ)) (s t : S) (whole : AllWhole read jumps pieces) (completes : exec_all (on_bytes read exec) pieces s ≡ done t) where
        position_at : (k : ℕ) → k ≤ length pieces → position_after (flatten pieces) s k ≡ length (flatten (take k pieces))
        position_at k b = go (dec_lt k (length pieces))
          where
            go : Dec (k < length pieces) → position_after (flatten pieces) s k ≡ length (flatten (take k pieces))
            go (yes l) =
                ap position_reached (spent_at read exec next jumps reader goes_on pieces k (flatten pieces) 0 0 s t (omega arith) refl whole completes l).0
                ∙ zero-add (length (flatten (take k pieces)))
            go (no l) =
                let all : k ≡ length pieces = omega arith in
                ap position_reached (joined read exec next jumps reader goes_on pieces k (flatten pieces) 0 0 s t (omega arith) refl whole completes (omega arith))
                ∙ ap (λ (ps : List (List ℕ)). length (flatten ps)) (sym (ap (λ (n : ℕ). take n pieces) all ∙ take-length pieces))

        comes_at : (k : ℕ) → k < length pieces → Comes (flatten pieces) s k
        comes_at k b = go (whole_at read jumps pieces whole k b)
          where
            go : Whole read jumps (get_or pieces k []) → Comes (flatten pieces) s k
            go (r, er, z, ej) =
                let at = length (flatten (take k pieces)) in
                let (runs, remaining, (u, does)) = spent_at read exec next jumps reader goes_on pieces k (flatten pieces) 0 0 s t (omega arith) refl whole completes b in
                let here : drop at (flatten pieces) ≡ get_or pieces k [] ++ flatten (drop (suc k) pieces) =
                ap (λ (n : ℕ). drop n (flatten pieces)) (sym (zero-add at)) ∙ remaining ∙ flatten_at pieces k b in
                let cuts : pieces_of read (flatten pieces) ≡ pieces = pieces_found read jumps reader pieces whole in
                record {
                  at = at;
                  state = before (on_bytes read exec) pieces k s;
                  found = r;
                  ran = runs ∙ ap₂ (λ n m. spent n m (before (on_bytes read exec) pieces k s)) (zero-add at) (zero-add k);
                  stands = ap read here ∙ read_front read reader (get_or pieces k []) (flatten (drop (suc k) pieces)) r er z;
                  completes = (u, sym (ap (λ (o : Result (Fetched I)). and_then o (λ q. exec q.instruction (before (on_bytes read exec) pieces k s))) er) ∙ does);
                  onward = goes_on r.instruction ej (length (flatten pieces)) (before (on_bytes read exec) pieces k s) (at + r.size);
                  footprint_same = ap (λ (ps : List (List ℕ)). footprint_at (on_bytes read exec) (on_bytes read footprint) ps s [] k) cuts
                      ∙ ap (λ (o : Result (Fetched I)). and_then o (λ q. footprint q.instruction (before (on_bytes read exec) pieces k s))) er;
                  piece = ap (λ (ps : List (List ℕ)). get_or ps k []) cuts
                      ∙ sym (ap (take r.size) here ∙ take_at (get_or pieces k []) (flatten (drop (suc k) pieces)) r.size (sym z));
                  behind = position_at (suc k) (omega arith) ∙ flatten_to pieces k b ∙ ap (λ (n : ℕ). at + n) (sym z);
                }

      pub comes_to : (code : List ℕ) (budget end total : ℕ) (s t : S) → reaches read jumps code ≡ false → run read exec next budget code s ≡ finished end total t
          → (k : ℕ) → k < total → Comes code s k
      comes_to code budget end total s t clear h k b =
          let (pieces, e, w, x, c, l, p) = cut read exec next jumps reader goes_on budget (length code) code 0 0 s end total t (omega arith) (omega arith, clear) h in
          subst (λ (bytes : List ℕ). Comes bytes s k) (sym e) (comes_at pieces s t w x k (omega arith))
