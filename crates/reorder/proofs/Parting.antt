-- A run in parts. With more of its budget it is the run without that, and where this was spent, a run with what is more from there on. Where no
-- instruction jumps, what is more is the run of the rest of the code alone. And whether reading reaches some instruction, one after the other.
use Rattle.std.specs.Prelude.{◌≡◌, refl, Bool, false, ◌||◌, List, ℕ, zero, suc, ◌+◌, ◌≤◌, eqb, length, drop}
use Rattle.basis.proofs.Names.{sym, ap, ap₂, subst, ◌∙◌, false≢true, zero-add, add-zero, suc-add, arith, eq-eqb, ne_eqb, length-drop, drop-drop}
use Rattle.reorder.specs.Result.{Result, done, refused, case_of}
use Rattle.reorder.specs.Run.{Fetched, Answer, finished, spent, stopped, run_from, run}
use Rattle.reorder.specs.Block.{reaches_up_to, reaches}
use Rattle.reorder.specs.inner.Parts.{continued}
use Rattle.reorder.proofs.Cutting.{LocalReader, Clear, clear_first, GoesOn}
use Rattle.reorder.proofs.Endings.{by_turns}

-- an answer whose position and count are counted from these on
abbrev pub counted_from : {S : Type 0} → ℕ → ℕ → Answer S → Answer S
counted_from position count (finished at total s) = finished (position + at) (count + total) s
counted_from position count (spent at total s) = spent (position + at) (count + total) s
counted_from position count (stopped n at total s) = stopped n (position + at) (count + total) s

module _ {S I : Type 0} (read : List ℕ → Result (Fetched I)) (exec : I → S → Result S) (next : ℕ → I → S → ℕ → Result ℕ) (code : List ℕ) where
  -- at the end of the code, with whatever is left of the budget
  at_end : (remaining at count : ℕ) (s : S) → at ≡ length code → run_from read exec next remaining code at count s ≡ finished at count s
  at_end zero at count s e = simp (eq-eqb _ _ e)
  at_end (suc remaining) at count s e = simp (eq-eqb _ _ e)

  -- with more of its budget
  pub parted : (more remaining at count : ℕ) (s : S)
      → run_from read exec next (remaining + more) code at count s ≡ continued read exec next code more (run_from read exec next remaining code at count s)
  parted more =
      by_turns read exec next code (λ remaining at count s a. run_from read exec next (remaining + more) code at count s ≡ continued read exec next code more a)
      (record {
        ends = λ remaining at count s e. at_end (remaining + more) at count s e;
        spends = λ at count s e. rw zero-add;
        unread = λ remaining at count n s e er. simp (suc-add, ne_eqb _ _ e, er);
        unexecuted = λ remaining at count n s r e er eo. simp (suc-add, ne_eqb _ _ e, er, eo);
        astray = λ remaining at count n s t r e er et eo. simp (suc-add, ne_eqb _ _ e, er, et, eo);
        turns = λ remaining at count s t r further a e er et eo rest. simp (suc-add, ne_eqb _ _ e, er, et, eo) rest;
      })

module _ {I : Type 0} (read : List ℕ → Result (Fetched I)) (jumps : I → Bool) where
  -- reading from a position on reaches none that jumps
  abbrev pub ClearFrom : List ℕ → ℕ → Type 0
  ClearFrom code at = (most : ℕ) × Clear read jumps most (drop at code)

  -- nor does it from where a run was spent
  abbrev pub ClearThere : {S : Type 0} → List ℕ → Answer S → Type 0
  ClearThere code (finished at count s) = Unit {0}
  ClearThere code (spent at count s) = ClearFrom code at
  ClearThere code (stopped n at count s) = Unit {0}

-- the run goes on behind such an instruction, and from there on reading reaches none that jumps either
pub behind : {S I : Type 0} (read : List ℕ → Result (Fetched I)) (next : ℕ → I → S → ℕ → Result ℕ) (jumps : I → Bool) → LocalReader read → GoesOn next jumps
    → (code : List ℕ) (at : ℕ) (s : S) (r : Fetched I) (further : ℕ) → read (drop at code) ≡ done r
    → next (length code) r.instruction s (at + r.size) ≡ done further → ClearFrom read jumps code at
    → (jumps r.instruction ≡ false) × (further ≡ at + r.size) × ClearFrom read jumps code further
behind read next jumps reader goes_on code at s r further er eo (most, clear) =
    let (here, most', rest) = clear_first read jumps reader most (drop at code) r er clear in
    let same : done further ≡ done (at + r.size) = sym eo ∙ goes_on r.instruction here (length code) s (at + r.size) in
    let there : further ≡ at + r.size = cc in
    (here, there, (most', subst (Clear read jumps most') (drop-drop r.size at code ∙ ap (λ (n : ℕ). drop n code) (sym there)) rest))

module _ {S I : Type 0} (read : List ℕ → Result (Fetched I)) (exec : I → S → Result S) (next : ℕ → I → S → ℕ → Result ℕ) (jumps : I → Bool)
    (reader : LocalReader read) (goes_on : GoesOn next jumps) where
  pub clear_there : (code : List ℕ) (remaining at count : ℕ) (s : S) → ClearFrom read jumps code at
      → ClearThere read jumps code (run_from read exec next remaining code at count s)
  clear_there code =
      by_turns read exec next code (λ remaining at count s a. ClearFrom read jumps code at → ClearThere read jumps code a)
      (record {
        ends = λ remaining at count s e clear. tt;
        spends = λ at count s e clear. clear;
        unread = λ remaining at count n s e er clear. tt;
        unexecuted = λ remaining at count n s r e er eo clear. tt;
        astray = λ remaining at count n s t r e er et eo clear. tt;
        turns = λ remaining at count s t r further a e er et eo rest clear. rest (behind read next jumps reader goes_on code at s r further er eo clear).2;
      })

  module _ (code : List ℕ) (position count : ℕ) (within : position ≤ length code) where
    -- the rest of the code
    abbrev part : List ℕ
    part = drop position code

    -- the rest alone, from a position of it on
    alone : (remaining at total : ℕ) (s : S) → ClearFrom read jumps part at
        → run_from read exec next remaining code (position + at) (count + total) s ≡ counted_from position count (run_from read exec next remaining part at total s)
    alone =
        by_turns read exec next part
        (λ remaining at total s a. ClearFrom read jumps part at → run_from read exec next remaining code (position + at) (count + total) s ≡ counted_from position count a)
        (record {
          ends = λ remaining at total s e clear. at_end read exec next code remaining (position + at) (count + total) s (omega (arith, length-drop position code));
          spends = λ at total s e clear. simp (more at e);
          unread = λ remaining at total n s e er clear. simp (more at e, here at, er);
          unexecuted = λ remaining at total n s r e er eo clear. simp (more at e, here at, er, eo);
          astray = λ remaining at total n s t r e er et eo clear.
              let (most, clear') = clear in
              let z : refused n ≡ done (at + r.size) = sym eo ∙ goes_on r.instruction (clear_first read jumps reader most (drop at part) r er clear').0 (length part) s (at + r.size) in
              absurd (false≢true (cc));
          turns = λ remaining at total s t r further a e er et eo rest clear.
              let (quiet, there, clear') = behind read next jumps reader goes_on part at s r further er eo clear in
              let onward : next (length code) r.instruction s (position + at + r.size) ≡ done (position + further) =
              goes_on r.instruction quiet (length code) s (position + at + r.size) ∙ ap done (omega arith) in
              let one_more : suc (count + total) ≡ count + suc total = omega arith in
              simp (more at e, here at, er, et, onward, one_more) (rest clear');
        })
      where
        more : (at : ℕ) → ¬ (at ≡ length part) → eqb (position + at) (length code) ≡ false
        more at e = ne_eqb (position + at) (length code) (λ z. e (omega (arith, length-drop position code)))

        here : (at : ℕ) → read (drop (position + at) code) ≡ read (drop at part)
        here at = ap read (sym (drop-drop at position code))

    -- from its start on
    pub rest_alone : (remaining : ℕ) (s : S) → ClearFrom read jumps code position
        → run_from read exec next remaining code position count s ≡ counted_from position count (run read exec next remaining part s)
    rest_alone remaining s clear =
        ap₂ (λ (at total : ℕ). run_from read exec next remaining code at total s) (sym (add-zero position)) (sym (add-zero count)) ∙ alone remaining 0 0 s clear

module _ {I : Type 0} (read : List ℕ → Result (Fetched I)) (reader : LocalReader read) (such : I → Bool) where
  -- no instruction is read of no bytes
  none_left : (most : ℕ) (bytes : List ℕ) → length bytes ≤ 0 → reaches_up_to read such most bytes ≡ false
  none_left zero bytes b = refl
  none_left (suc most) bytes b = by (read bytes) refl
    where
      by : (o : Result (Fetched I)) → read bytes ≡ o
          → case_of o (λ n. false) (λ found. such found.instruction || reaches_up_to read such most (drop found.size bytes)) ≡ false
      by (refused n) e = refl
      by (done r) e = absurd (omega (arith, reader.some_bytes bytes r e))

  -- whatever the bound, where it is that of the bytes or above
  any_bound : (most most' : ℕ) (bytes : List ℕ) → length bytes ≤ most → length bytes ≤ most' → reaches_up_to read such most bytes ≡ reaches_up_to read such most' bytes
  any_bound zero most' bytes b b' = sym (none_left most' bytes b)
  any_bound (suc most) zero bytes b b' = none_left (suc most) bytes b'
  any_bound (suc most) (suc most') bytes b b' = by (read bytes) refl (any_bound most most')
    where
      by : (o : Result (Fetched I)) → read bytes ≡ o
          → ((rest : List ℕ) → length rest ≤ most → length rest ≤ most' → reaches_up_to read such most rest ≡ reaches_up_to read such most' rest)
          → case_of o (λ n. false) (λ found. such found.instruction || reaches_up_to read such most (drop found.size bytes))
          ≡ case_of o (λ n. false) (λ found. such found.instruction || reaches_up_to read such most' (drop found.size bytes))
      by (refused n) e further = refl
      by (done r) e further =
          let fewer = reader.some_bytes bytes r e in
          ap (λ (t : Bool). such r.instruction || t)
          (further (drop r.size bytes) (omega (arith, length-drop r.size bytes)) (omega (arith, length-drop r.size bytes)))

  -- one instruction after the other

  pub reaches_first : (bytes : List ℕ) (r : Fetched I) → read bytes ≡ done r
      → reaches read such bytes ≡ (such r.instruction || reaches read such (drop r.size bytes))
  reaches_first bytes r e =
      any_bound (length bytes) (suc (length bytes)) bytes (omega arith) (omega arith)
      ∙ simp e (ap (λ (t : Bool). such r.instruction || t) (any_bound (length bytes) (length rest) rest (omega (arith, length-drop r.size bytes)) (omega arith)))
    where
      rest : List ℕ
      rest = drop r.size bytes

  pub reaches_unread : (bytes : List ℕ) (n : ℕ) → read bytes ≡ refused n → reaches read such bytes ≡ false
  reaches_unread bytes n e = any_bound (length bytes) (suc (length bytes)) bytes (omega arith) (omega arith) ∙ simp e
