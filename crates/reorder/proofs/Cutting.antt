-- A run without jumps that finishes is the row of its pieces: each step cuts one whole instruction off the code, and the way back.
use Rattle.std.specs.Prelude.{◌≡◌, refl, Bool, true, false, ◌||◌, List, [], ◌∷◌, ◌++◌, ℕ, zero, suc, ◌+◌, ◌<◌, ◌≤◌, ◌-◌, length, get_or, take, drop}
use Rattle.basis.specs.Names.{flatten}
use Rattle.basis.proofs.Names.{false≢true, sym, ap, ◌∙◌, subst, append-nil, add-zero, ℕ_discrete, arith, eq-eqb, ne_eqb, length-append, length-drop, take-append-drop, drop-drop, drop-length, drop_at, length-take-le, take-length}
use Rattle.reorder.specs.Result.{Result, done, refused, and_then, case_of}
use Rattle.reorder.specs.Run.{Fetched, Answer, finished, spent, stopped, run_from}
use Rattle.reorder.specs.Block.{reaches_up_to}
use Rattle.reorder.proofs.Rows.{exec_all, before, on_bytes}
use Rattle.reorder.proofs.Reordering.{first}

-- a reader that goes by the instruction's own bytes, of which there is at least one
pub record LocalReader {I : Type 0} (read : List ℕ → Result (Fetched I)) : Type 0 where
  pub some_bytes : (bytes : List ℕ) (r : Fetched I) → read bytes ≡ done r → (0 < r.size) × (r.size ≤ length bytes)
  pub own_bytes : (bytes tail : List ℕ) (r : Fetched I) → read bytes ≡ done r → read (take r.size bytes ++ tail) ≡ done r

-- each piece is one instruction, whole, and none that jumps
abbrev pub Whole : {I : Type 0} → (List ℕ → Result (Fetched I)) → (I → Bool) → List ℕ → Type 0
Whole {I} read jumps piece = (r : Fetched I) × (read piece ≡ done r) × (r.size ≡ length piece) × (jumps r.instruction ≡ false)

abbrev pub AllWhole : {I : Type 0} → (List ℕ → Result (Fetched I)) → (I → Bool) → List (List ℕ) → Type 0
AllWhole read jumps [] = Unit {0}
AllWhole read jumps (piece ∷ pieces) = Whole read jumps piece × AllWhole read jumps pieces

-- a whole piece is read wherever it stands
pub read_front : {I : Type 0} (read : List ℕ → Result (Fetched I)) → LocalReader read → (piece tail : List ℕ) (r : Fetched I)
    → read piece ≡ done r → r.size ≡ length piece → read (piece ++ tail) ≡ done r
read_front read reader piece tail r e z =
    subst (λ (q : List ℕ). read (q ++ tail) ≡ done r) (ap (λ (n : ℕ). take n piece) z ∙ take-length piece) (reader.own_bytes piece tail r e)

neither : (a b : Bool) → (a || b) ≡ false → (a ≡ false) × (b ≡ false)
neither true b e = absurd (false≢true (sym e))
neither false b e = (refl, e)

-- where reading reaches none that jumps, the first doesn't, and nor does reading from behind it on reach one
module _ {I : Type 0} (read : List ℕ → Result (Fetched I)) (jumps : I → Bool) where
  abbrev pub Clear : ℕ → List ℕ → Type 0
  Clear most bytes = (length bytes ≤ most) × (reaches_up_to read jumps most bytes ≡ false)

  pub clear_first : LocalReader read → (most : ℕ) (bytes : List ℕ) (r : Fetched I) → read bytes ≡ done r → Clear most bytes
      → (jumps r.instruction ≡ false) × (most' : ℕ) × Clear most' (drop r.size bytes)
  clear_first reader zero bytes r e (l, h) = absurd (omega (arith, reader.some_bytes bytes r e))
  clear_first reader (suc most) bytes r e (l, h) =
      let (here, further) = neither (jumps r.instruction) (reaches_up_to read jumps most (drop r.size bytes)) (simp e at h) in
      (here, most, (omega (arith, reader.some_bytes bytes r e, length-drop r.size bytes), further))

-- a run goes on behind every instruction that does not jump
abbrev pub GoesOn : {S I : Type 0} → (ℕ → I → S → ℕ → Result ℕ) → (I → Bool) → Type 0
GoesOn {S} {I} next jumps = (i : I) → jumps i ≡ false → (size : ℕ) (s : S) (behind : ℕ) → next size i s behind ≡ done behind

module _ {S I : Type 0} (read : List ℕ → Result (Fetched I)) (exec : I → S → Result S) (next : ℕ → I → S → ℕ → Result ℕ) (jumps : I → Bool)
    (reader : LocalReader read) (goes_on : GoesOn next jumps) where
  -- what is left of the code is these whole pieces, whose row completes; each takes one of the budget
  abbrev pub Cut : List ℕ → ℕ → ℕ → ℕ → S → ℕ → ℕ → S → Type 0
  Cut code remaining position count s end total t =
      (pieces : List (List ℕ)) × (drop position code ≡ flatten pieces) × AllWhole read jumps pieces × (exec_all (on_bytes read exec) pieces s ≡ done t)
      × (total ≡ count + length pieces) × (length pieces ≤ remaining) × (end ≡ length code)

  -- the step of a run
  abbrev step : ℕ → List ℕ → ℕ → ℕ → S → Answer S
  step remaining code position count s =
      case_of (read (drop position code)) (λ n. stopped n position count s)
      (λ r. case_of (exec r.instruction s) (λ n. stopped n position count s)
      (λ t. case_of (next (length code) r.instruction s (position + r.size)) (λ n. stopped n position count s)
      (λ further. run_from read exec next remaining code further (suc count) t)))

  -- a step that reads r and comes to s₁
  stepped : (remaining : ℕ) (code : List ℕ) (position count : ℕ) (s s₁ : S) (r : Fetched I) → read (drop position code) ≡ done r
      → jumps r.instruction ≡ false → exec r.instruction s ≡ done s₁
      → step remaining code position count s ≡ run_from read exec next remaining code (position + r.size) (suc count) s₁
  stepped remaining code position count s s₁ r er ej es = simp (er, es, goes_on r.instruction ej (length code) s (position + r.size))

  cut_end : (remaining : ℕ) (code : List ℕ) (position count : ℕ) (s : S) (end total : ℕ) (t : S) → position ≡ length code
      → finished position count s ≡ finished end total t → Cut code remaining position count s end total t
  unfolding flatten
  cut_end remaining code position count s end total t e h =
      ([], ap (λ (n : ℕ). drop n code) e ∙ drop-length code, tt, ap done (cc), sym (add-zero count ∙ (cc)), omega arith, (cc))

  -- one step of a run that finishes, taken apart
  abbrev Stepped : ℕ → List ℕ → ℕ → ℕ → S → Answer S → Type 0
  Stepped remaining code position count s a =
      (r : Fetched I) × (s₁ : S) × (read (drop position code) ≡ done r) × (jumps r.instruction ≡ false) × (exec r.instruction s ≡ done s₁)
      × (run_from read exec next remaining code (position + r.size) (suc count) s₁ ≡ a)

  step_apart : (remaining : ℕ) (code : List ℕ) (position count : ℕ) (s : S) (end total : ℕ) (t : S)
      → ((r : Fetched I) → read (drop position code) ≡ done r → jumps r.instruction ≡ false)
      → step remaining code position count s ≡ finished end total t → Stepped remaining code position count s (finished end total t)
  step_apart remaining code position count s end total t clear h = found (read (drop position code)) refl
    where
      ran : (r : Fetched I) → read (drop position code) ≡ done r → (o : Result S) → exec r.instruction s ≡ o
          → Stepped remaining code position count s (finished end total t)
      ran r er (done s₁) es = (r, s₁, er, clear r er, es, sym (stepped remaining code position count s s₁ r er (clear r er) es) ∙ h)
      ran r er (refused n) es =
          let z : stopped n position count s ≡ finished end total t = simp (er, es) at h in
          absurd (false≢true (cc))

      found : (o : Result (Fetched I)) → read (drop position code) ≡ o → Stepped remaining code position count s (finished end total t)
      found (done r) er = ran r er (exec r.instruction s) refl
      found (refused n) er =
          let z : stopped n position count s ≡ finished end total t = simp er at h in
          absurd (false≢true (cc))

  -- the rest of a run, from any position on that is clear
  abbrev Rest : ℕ → List ℕ → ℕ → ℕ → S → Type 0
  Rest remaining code end total t =
      (most position count : ℕ) (s : S) → position ≤ length code → Clear read jumps most (drop position code)
      → run_from read exec next remaining code position count s ≡ finished end total t → Cut code remaining position count s end total t

  cut_step : (remaining most : ℕ) (code : List ℕ) (position count : ℕ) (s : S) (end total : ℕ) (t : S) → position ≤ length code
      → Clear read jumps most (drop position code) → Rest remaining code end total t
      → Stepped remaining code position count s (finished end total t) → Cut code (suc remaining) position count s end total t
  unfolding flatten
  cut_step remaining most code position count s end total t l clear rest (r, s₁, er, ej, es, ran) =
      let n : ℕ = r.size in
      let bytes : List ℕ = drop position code in
      let fits : n ≤ length bytes = (reader.some_bytes bytes r er).1 in
      let inside : position + n ≤ length code = omega (arith, simp length-drop at fits) in
      let (here, most', further) = clear_first read jumps reader most bytes r er clear in
      let (pieces, e, w, x, c, b, p) =
      rest most' (position + n) (suc count) s₁ inside (subst (Clear read jumps most') (drop-drop n position code) further) ran in
      let own : read (take n bytes) ≡ done r = ap read (sym (append-nil (take n bytes))) ∙ reader.own_bytes bytes [] r er in (
        take n bytes ∷ pieces,
        sym (take-append-drop n bytes) ∙ ap (λ (u : List ℕ). take n bytes ++ u) (drop-drop n position code ∙ e),
        ((r, own, sym (length-take-le n bytes fits), ej), w),
        ap (λ (o : Result S). and_then o (exec_all (on_bytes read exec) pieces))
            (ap (λ (o : Result (Fetched I)). and_then o (λ q. exec q.instruction s)) own ∙ es) ∙ x,
        omega arith,
        omega arith,
        p,
      )

  pub cut : (remaining most : ℕ) (code : List ℕ) (position count : ℕ) (s : S) (end total : ℕ) (t : S) → position ≤ length code
      → Clear read jumps most (drop position code) → run_from read exec next remaining code position count s ≡ finished end total t → Cut code remaining position count s end total t
  cut zero most code position count s end total t l clear h = go (ℕ_discrete position (length code))
    where
      go : Dec (position ≡ length code) → Cut code zero position count s end total t
      go (yes e) = cut_end zero code position count s end total t e (simp (eq-eqb _ _ e) at h)
      go (no e) =
          let z : spent position count s ≡ finished end total t = simp (ne_eqb _ _ e) at h in
          absurd (false≢true (cc))
  cut (suc remaining) most code position count s end total t l clear h =
      go (λ most' position' count' s'. cut remaining most' code position' count' s' end total t) (ℕ_discrete position (length code))
    where
      go : Rest remaining code end total t → Dec (position ≡ length code) → Cut code (suc remaining) position count s end total t
      go rest (yes e) = cut_end (suc remaining) code position count s end total t e (simp (eq-eqb _ _ e) at h)
      go rest (no e) =
          cut_step remaining most code position count s end total t l clear rest
          (step_apart remaining code position count s end total t
          (λ r er. (clear_first read jumps reader most (drop position code) r er clear).0) (simp (ne_eqb _ _ e) at h))

  -- a run over whole pieces whose row completes goes past the first of them
  pub record Past (piece : List ℕ) (pieces : List (List ℕ)) (code : List ℕ) (position count : ℕ) (s t : S) : Type 0 where
    pub state : S
    pub not_end : position ≡ length code → ⊥
    pub inside : position + length piece ≤ length code
    pub remaining : drop (position + length piece) code ≡ flatten pieces
    pub ran : on_bytes read exec piece s ≡ done state
    pub rest : exec_all (on_bytes read exec) pieces state ≡ done t
    pub turn : (budget : ℕ) → run_from read exec next (suc budget) code position count s ≡ run_from read exec next budget code (position + length piece) (suc count) state

  pub past : (piece : List ℕ) (pieces : List (List ℕ)) (code : List ℕ) (position count : ℕ) (s t : S) → position ≤ length code
      → drop position code ≡ flatten (piece ∷ pieces) → Whole read jumps piece → exec_all (on_bytes read exec) (piece ∷ pieces) s ≡ done t
      → Past piece pieces code position count s t
  unfolding flatten
  past piece pieces code position count s t l e (r, er, z, ej) h =
      let (s₁, ran, rest) = first (on_bytes read exec) piece pieces s t h in
      let size : length code - position ≡ length piece + length (flatten pieces) = simp (length-drop, length-append) at (ap length e) in
      let some : 0 < r.size = (reader.some_bytes piece r er).0 in
      let more : position ≡ length code → ⊥ = λ q. omega arith in
      let here : read (drop position code) ≡ done r = ap read e ∙ read_front read reader piece (flatten pieces) r er z in
      let does : exec r.instruction s ≡ done s₁ = sym (ap (λ (o : Result (Fetched I)). and_then o (λ q. exec q.instruction s)) er) ∙ ran in
      record {
        state = s₁;
        not_end = more;
        inside = omega arith;
        remaining = sym (drop-drop (length piece) position code) ∙ ap (drop (length piece)) e ∙ drop_at piece (flatten pieces) (length piece) refl;
        ran = ran;
        rest = rest;
        turn = λ budget. simp (ne_eqb _ _ more)
            (stepped budget code position count s s₁ r here ej does
            ∙ ap (λ (n : ℕ). run_from read exec next budget code (position + n) (suc count) s₁) z);
      }

  -- the way back: whole pieces whose row completes are run to their end
  pub joined : (pieces : List (List ℕ)) (remaining : ℕ) (code : List ℕ) (position count : ℕ) (s t : S) → position ≤ length code
      → drop position code ≡ flatten pieces → AllWhole read jumps pieces → exec_all (on_bytes read exec) pieces s ≡ done t → length pieces ≤ remaining
      → run_from read exec next remaining code position count s ≡ finished (length code) (count + length pieces) t
  unfolding flatten
  joined [] zero code position count s t l e w h b =
      let z : position ≡ length code = omega (arith, simp length-drop at (ap length e)) in
      simp (eq-eqb _ _ z) (cc (z, add-zero count))
  joined [] (suc remaining) code position count s t l e w h b =
      let z : position ≡ length code = omega (arith, simp length-drop at (ap length e)) in
      simp (eq-eqb _ _ z) (cc (z, add-zero count))
  joined (piece ∷ pieces) zero code position count s t l e w h b = absurd (omega arith)
  joined (piece ∷ pieces) (suc remaining) code position count s t l e (whole, w) h b =
      let p = past piece pieces code position count s t l e whole h in
      p.turn remaining
      ∙ joined pieces remaining code (position + length piece) (suc count) p.state t p.inside p.remaining w p.rest (omega arith)
      ∙ ap (λ (n : ℕ). finished (length code) n t) (omega arith)

  -- a run of fewer instructions is spent at the piece that it has come to, in the state before it, and that piece completes
  pub spent_at : (pieces : List (List ℕ)) (k : ℕ) (code : List ℕ) (position count : ℕ) (s t : S) → position ≤ length code
      → drop position code ≡ flatten pieces → AllWhole read jumps pieces → exec_all (on_bytes read exec) pieces s ≡ done t → k < length pieces
      → let at = position + length (flatten (take k pieces)) in
      (run_from read exec next k code position count s ≡ spent at (count + k) (before (on_bytes read exec) pieces k s)) × (drop at code ≡ flatten (drop k pieces))
      × ((u : S) × (on_bytes read exec (get_or pieces k []) (before (on_bytes read exec) pieces k s) ≡ done u))
  unfolding flatten
  spent_at [] k code position count s t l e w h b = absurd (omega arith)
  spent_at (piece ∷ pieces) zero code position count s t l e (whole, w) h b =
      let p = past piece pieces code position count s t l e whole h in
      (simp (ne_eqb _ _ p.not_end, add-zero), simp add-zero e, (p.state, p.ran))
  spent_at (piece ∷ pieces) (suc k) code position count s t l e (whole, w) h b =
      let p = past piece pieces code position count s t l e whole h in
      let (runs, stands, completes) = spent_at pieces k code (position + length piece) (suc count) p.state t p.inside p.remaining w p.rest (omega arith) in
      let same : position + length piece + length (flatten (take k pieces)) ≡ position + length (piece ++ flatten (take k pieces)) =
      omega (arith, length-append piece (flatten (take k pieces))) in
      let count_on : suc count + k ≡ count + suc k = omega arith in
      (p.turn k ∙ runs ∙ simp p.ran (cc (same, count_on)), ap (λ (n : ℕ). drop n code) (sym same) ∙ stands, simp p.ran completes)
