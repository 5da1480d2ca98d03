-- Laws of every reader, whatever it asks for: it reads its own bytes alone, wherever they stand. By cases of what is still to be read.
use Rattle.std.specs.Prelude.{ℕ, suc, ◌+◌, ◌-◌, ◌≤◌, ◌<◌, ◌≡◌, refl, Bool, true, false, cond, List, [], ◌∷◌, ◌++◌, leb, length, get_or, take, drop}
use Rattle.basis.proofs.Names.{sym, ap, ap₂, ◌∙◌, false≢true, append_assoc, add-one, arith, add_assoc, add-zero, leb-true, le-leb, lt-leb, length-append, length-drop, drop-cons, length-take-le, take-add, take_at, drop_at, drop-drop}
use Rattle.words.specs.Number.{number}
use Rattle.codec.specs.Refusals.{code_ends}
use Rattle.codec.specs.Reader.{Reader, whole, refuse, byte, field, reads}
use Rattle.codec.specs.declared.Instruction.{Instruction}
use Rattle.codec.specs.Answers.{Decoded, good, refused}

-- a choice that has been made
module _ (t : Bool) (p q : Reader) (at : ℕ) (s : List ℕ) where
  pub reads_yes : t ≡ true → reads (cond t p q) at s ≡ reads p at s
  reads_yes e = ap (λ (b : Bool). reads (cond b p q) at s) e

  pub reads_no : t ≡ false → reads (cond t p q) at s ≡ reads q at s
  reads_no e = ap (λ (b : Bool). reads (cond b p q) at s) e

-- at a position of a code
module _ (code : List ℕ) (at : ℕ) where
  pub drop_here : at < length code → drop at code ≡ get_or code at 0 ∷ drop (at + 1) code
  drop_here h = rw add-one (drop-cons code at 0 h)

  pub field_here : (k : ℕ) (next : ℕ → Reader) → k ≤ length code - at
      → reads (field k next) at (drop at code) ≡ reads (next (number (take k (drop at code)))) (at + k) (drop (at + k) code)
  field_here k next h =
      let g : k ≤ length (drop at code) = omega (arith, length-drop at code) in
      simp (le-leb k (length (drop at code)) g, drop-drop k at code)

  pub field_none : (k : ℕ) (next : ℕ → Reader) → length code - at < k → reads (field k next) at (drop at code) ≡ refused code_ends
  field_none k next h =
      let g : length (drop at code) < k = omega (arith, length-drop at code) in
      simp (lt-leb k (length (drop at code)) g)

-- P of each instruction and Q of each refusal that a reader may give
module _ (P : Instruction → Type 0) (Q : ℕ → Type 0) where
  abbrev pub Every : Reader → Type 0
  Every (whole i) = P i
  Every (refuse n) = Q n
  Every (byte next) = Q code_ends × ((b : ℕ) → Every (next b))
  Every (field k next) = Q code_ends × ((v : ℕ) → Every (next v))

  abbrev pub Holds : Decoded → Type 0
  Holds (good i n) = P i
  Holds (refused n) = Q n

  pub every_cond : (t : Bool) (p q : Reader) → Every p → Every q → Every (cond t p q)
  every_cond true p q h g = h
  every_cond false p q h g = g

  holds-cond : (t : Bool) (x : Decoded) → Holds x → Q code_ends → Holds (cond t x (refused code_ends))
  holds-cond true x h q = h
  holds-cond false x h q = q

  pub every : (r : Reader) → Every r → (at : ℕ) (s : List ℕ) → Holds (reads r at s)
  every (whole i) h at s = h
  every (refuse n) h at s = h
  every (byte next) h at [] = h.0
  every (byte next) h at (b ∷ s) = every (next b) (h.1 b) (at + 1) s
  every (field k next) h at s =
      let v = number (take k s) in
      holds-cond (leb k (length s)) _ (every (next v) (h.1 v) (at + k) (drop k s)) h.0

pub every_map : (P R : Instruction → Type 0) (Q : ℕ → Type 0) → ((i : Instruction) → P i → R i) → (r : Reader) → Every P Q r
    → Every R Q r
every_map P R Q f (whole i) h = f i h
every_map P R Q f (refuse n) h = h
every_map P R Q f (byte next) h = (h.0, λ b. every_map P R Q f (next b) (h.1 b))
every_map P R Q f (field k next) h = (h.0, λ v. every_map P R Q f (next v) (h.1 v))

-- Where the bytes stand changes the position after them, and nothing else.
abbrev pub moved : ℕ → Decoded → Decoded
moved a (good i n) = good i (a + n)
moved a (refused n) = refused n

moved_cond : (t : Bool) (a : ℕ) (x y : Decoded) → x ≡ moved a y
    → cond t x (refused code_ends) ≡ moved a (cond t y (refused code_ends))
moved_cond true a x y e = e
moved_cond false a x y e = refl

pub reads_moved : (r : Reader) (a at : ℕ) (s : List ℕ) → reads r (a + at) s ≡ moved a (reads r at s)
reads_moved (whole i) a at s = refl
reads_moved (refuse n) a at s = refl
reads_moved (byte next) a at [] = refl
reads_moved (byte next) a at (b ∷ s) =
    ap (λ (k : ℕ). reads (next b) k s) (add_assoc a at 1) ∙ reads_moved (next b) a (at + 1) s
reads_moved (field k next) a at s =
    let v = number (take k s) in
    moved_cond (leb k (length s)) a _ _
    (ap (λ (j : ℕ). reads (next v) j (drop k s)) (add_assoc a at k) ∙ reads_moved (next v) a (at + k) (drop k s))

-- A good reading takes some of the bytes, and is given by these alone: at any position, whatever follows them.
pub record Own (r : Reader) (at : ℕ) (s : List ℕ) (i : Instruction) (n : ℕ) : Type 0 where
  pub size : ℕ
  pub ends : n ≡ at + size
  pub within : size ≤ length s
  pub again : (from : ℕ) (tail : List ℕ) → reads r from (take size s ++ tail) ≡ good i (from + size)

front : (k j : ℕ) (s tail : List ℕ) → k ≤ length s → take (k + j) s ++ tail ≡ take k s ++ (take j (drop k s) ++ tail)
front k j s tail h = ap (λ (l : List ℕ). l ++ tail) (take-add k j s) ∙ append_assoc (take k s) (take j (drop k s)) tail

-- a number of k bytes is read from them
pub field_reads : (k from : ℕ) (next : ℕ → Reader) (s t : List ℕ) → length s ≡ k
    → reads (field k next) from (s ++ t) ≡ reads (next (number s)) (from + k) t
field_reads k from next s t e =
    let h : k ≤ length (s ++ t) = omega (arith, length-append s t) in
    simp (le-leb k (length (s ++ t)) h, take_at s t k e, drop_at s t k e)

cond-read : (t : Bool) (x : Decoded) (i : Instruction) (n : ℕ) → cond t x (refused code_ends) ≡ good i n
    → (t ≡ true) × (x ≡ good i n)
cond-read true x i n e = (refl, e)
cond-read false x i n e = absurd (false≢true (cc))

-- a field that was read was there
pub field_read : (k at : ℕ) (next : ℕ → Reader) (s : List ℕ) (i : Instruction) (n : ℕ) → reads (field k next) at s ≡ good i n
    → (k ≤ length s) × (reads (next (number (take k s))) (at + k) (drop k s) ≡ good i n)
field_read k at next s i n e =
    let h = cond-read (leb k (length s)) _ i n e in
    (leb-true k (length s) h.0, h.1)

pub own : (r : Reader) (at : ℕ) (s : List ℕ) (i : Instruction) (n : ℕ) → reads r at s ≡ good i n → Own r at s i n
own (whole j) at s i n e =
    let p : j ≡ i = cc in
    let q : at ≡ n = cc in
    record { size = 0; ends = omega arith; within = omega arith; again = λ from tail. ap₂ good p (sym (add-zero from)) }
own (refuse m) at s i n e = absurd (false≢true (cc))
own (byte next) at [] i n e = absurd (false≢true (cc))
own (byte next) at (b ∷ s) i n e =
    let o = own (next b) (at + 1) s i n e in
    record {
      size = suc o.size;
      ends = omega (arith, o.ends);
      within = omega (arith, o.within);
      again = λ from tail.
          o.again (from + 1) tail ∙ ap (good i) (let h : from + 1 + o.size ≡ from + suc o.size = omega arith in h);
    }
own (field k next) at s i n e =
    let f = field_read k at next s i n e in
    let o = own (next (number (take k s))) (at + k) (drop k s) i n f.1 in
    record {
      size = k + o.size;
      ends = omega (arith, o.ends);
      within = omega (arith, f.0, o.within, length-drop k s);
      again = λ from tail.
          ap (reads (field k next) from) (front k o.size s tail f.0)
          ∙ field_reads k from next (take k s) (take o.size (drop k s) ++ tail) (length-take-le k s f.0)
          ∙ o.again (from + k) tail ∙ ap (good i) (add_assoc from k o.size);
    }

pub takes_one : (next : ℕ → Reader) (at : ℕ) (s : List ℕ) (i : Instruction) (n : ℕ) → reads (byte next) at s ≡ good i n → at < n
takes_one next at [] i n e = absurd (false≢true (cc))
takes_one next at (b ∷ s) i n e = omega (arith, (own (next b) (at + 1) s i n e).ends)
