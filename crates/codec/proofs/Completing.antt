-- What can be completed: bytes more make an instruction of what is left of a code, unless it has a suffix that is not listed, which nothing but
-- another suffix in its place can mend.
use Rattle.std.specs.Prelude.{ℕ, zero, suc, ◌+◌, ◌-◌, ◌≤◌, ◌≡◌, refl, ◌⊎◌, Bool, true, false, cond, List, [], ◌∷◌, ◌++◌, leb, length, take, drop, replicate}
use Rattle.basis.proofs.Names.{sym, ap, ◌∙◌, inl, inr, false≢true, append_assoc, add-zero, arith, leb-true, leb-false, le-leb, length-append, length-replicate, length-drop, length-take-le, take-append-drop, take-append-le, drop-append-le, drop_of_length-le}
use Rattle.words.specs.Number.{AllBytes, number}
use Rattle.words.proofs.Numbers.{all_none, all_cons, all_append}
use Rattle.codec.specs.Refusals.{not_listed}
use Rattle.codec.specs.Reader.{Reader, whole, refuse, byte, field, reads}
use Rattle.codec.specs.declared.Instruction.{Instruction}
use Rattle.codec.specs.Answers.{good, refused}
use Rattle.codec.proofs.Readers.{field_reads, field_read, reads_yes, reads_no}

pub record Completed (r : Reader) (at : ℕ) (s : List ℕ) : Type 0 where
  pub more : List ℕ
  pub are_bytes : AllBytes more
  pub instruction : Instruction
  pub size : ℕ
  pub found : reads r at (s ++ more) ≡ good instruction size

all_zeros : (n : ℕ) → AllBytes (replicate n 0)
all_zeros zero = all_none
all_zeros (suc n) = all_cons 0 (replicate n 0) (omega arith) (all_zeros n)

-- a suffix that a form accepts: PI2FW's
abbrev pub listed_suffix : ℕ
listed_suffix = 0x0c

-- by the suffixes that are accepted
module _ (accepted : ℕ → Bool) where
  -- the last byte is a suffix, and decides
  pub record Verdict (k : ℕ) (next : ℕ → Reader) : Type 0 where
    pub one : k ≡ 1
    pub listed : accepted listed_suffix ≡ true
    pub made : ℕ → Instruction
    pub decides : (v : ℕ) → next v ≡ cond (accepted v) (whole (made v)) (refuse not_listed)

  -- nothing but a suffix is refused; W says that there may be none
  abbrev pub Ends : Type 0 → Reader → Type 0
  Ends W (whole i) = W
  Ends W (refuse n) = ⊥
  Ends W (byte next) = (b : ℕ) → Ends W (next b)
  Ends W (field k next) = ((v : ℕ) → Ends W (next v)) ⊎ Verdict k next

  module _ (k : ℕ) (next : ℕ → Reader) (d : Verdict k next) (at v : ℕ) (more : List ℕ) where
    verdict_here : reads (field k next) at (v ∷ more) ≡ reads (cond (accepted v) (whole (d.made v)) (refuse not_listed)) (at + 1) more
    verdict_here =
        ap (λ (j : ℕ). reads (field j next) at (v ∷ more)) d.one
        ∙ field_reads 1 at next (v ∷ []) more refl
        ∙ ap (λ (x : ℕ). reads (next x) (at + 1) more) (let z : number (v ∷ []) ≡ v = omega arith in z)
        ∙ ap (λ (r : Reader). reads r (at + 1) more) (d.decides v)

    verdict_yes : accepted v ≡ true → reads (field k next) at (v ∷ more) ≡ good (d.made v) (at + 1)
    verdict_yes e = verdict_here ∙ reads_yes (accepted v) _ _ (at + 1) more e

    verdict_no : accepted v ≡ false → reads (field k next) at (v ∷ more) ≡ refused not_listed
    verdict_no e = verdict_here ∙ reads_no (accepted v) _ _ (at + 1) more e

  -- another byte stands in the place of a suffix
  pub record Spoilt (r : Reader) (at : ℕ) (s : List ℕ) : Type 0 where
    pub before : List ℕ
    pub value : ℕ
    pub rest : List ℕ
    pub parts : s ≡ before ++ value ∷ rest
    pub unlisted : accepted value ≡ false
    pub instruction : Instruction
    pub found : reads r at (before ++ listed_suffix ∷ []) ≡ good instruction (at + length before + 1)

  -- not where nothing is left
  pub never_spoilt : (r : Reader) (at : ℕ) → Spoilt r at [] → ⊥
  never_spoilt r at x = omega (arith, ap length x.parts, length-append x.before (x.value ∷ x.rest))

  module _ (W : Type 0) where
    pub ending : (r : Reader) → Ends W r → (at : ℕ) (s : List ℕ) → Completed r at s ⊎ Spoilt r at s
    ending (whole i) e at s = inl (record { more = []; are_bytes = all_none; instruction = i; size = at; found = refl })
    ending (refuse n) e at s = absurd e
    ending (byte next) e at [] = by (ending (next 0) (e 0) (at + 1) [])
      where
        by : Completed (next 0) (at + 1) [] ⊎ Spoilt (next 0) (at + 1) [] → Completed (byte next) at [] ⊎ Spoilt (byte next) at []
        by (inl c) =
            inl (record { more = 0 ∷ c.more; are_bytes = all_cons 0 c.more (omega arith) c.are_bytes; instruction = c.instruction; size = c.size; found = c.found })
        by (inr x) = absurd (never_spoilt (next 0) (at + 1) x)
    ending (byte next) e at (b ∷ s) = by (ending (next b) (e b) (at + 1) s)
      where
        by : Completed (next b) (at + 1) s ⊎ Spoilt (next b) (at + 1) s → Completed (byte next) at (b ∷ s) ⊎ Spoilt (byte next) at (b ∷ s)
        by (inl c) = inl (record { more = c.more; are_bytes = c.are_bytes; instruction = c.instruction; size = c.size; found = c.found })
        by (inr x) =
            let size : at + 1 + length x.before + 1 ≡ at + length (b ∷ x.before) + 1 = omega arith in
            inr (record {
              before = b ∷ x.before;
              value = x.value;
              rest = x.rest;
              parts = ap (λ (l : List ℕ). b ∷ l) x.parts;
              unlisted = x.unlisted;
              instruction = x.instruction;
              found = x.found ∙ ap (good x.instruction) size;
            })
    ending (field k next) (inl e) at s = by (leb k (length s)) refl (λ v rest. ending (next v) (e v) (at + k) rest)
      where
        by : (t : Bool) → leb k (length s) ≡ t → ((v : ℕ) (rest : List ℕ) → Completed (next v) (at + k) rest ⊎ Spoilt (next v) (at + k) rest)
            → Completed (field k next) at s ⊎ Spoilt (field k next) at s
        by true t further = on (further (number (take k s)) (drop k s))
          where
            here : k ≤ length s
            here = leb-true k (length s) t

            on : Completed (next (number (take k s))) (at + k) (drop k s) ⊎ Spoilt (next (number (take k s))) (at + k) (drop k s)
                → Completed (field k next) at s ⊎ Spoilt (field k next) at s
            on (inl c) =
                let inside : k ≤ length s = here in
                let g : k ≤ length (s ++ c.more) = omega (arith, length-append s c.more) in
                inl (record {
                  more = c.more;
                  are_bytes = c.are_bytes;
                  instruction = c.instruction;
                  size = c.size;
                  found = simp (le-leb k (length (s ++ c.more)) g, take-append-le, drop-append-le) c.found;
                })
            on (inr x) =
                let own = take k s in
                let full : length own ≡ k = length-take-le k s here in
                let size : at + k + length x.before + 1 ≡ at + length (own ++ x.before) + 1 = omega (arith, full, length-append own x.before) in
                inr (record {
                  before = own ++ x.before;
                  value = x.value;
                  rest = x.rest;
                  parts = sym (take-append-drop k s) ∙ ap (λ (l : List ℕ). own ++ l) x.parts ∙ sym (append_assoc own x.before (x.value ∷ x.rest));
                  unlisted = x.unlisted;
                  instruction = x.instruction;
                  found =
                      ap (reads (field k next) at) (append_assoc own x.before (listed_suffix ∷ []))
                      ∙ field_reads k at next own (x.before ++ listed_suffix ∷ []) full ∙ x.found ∙ ap (good x.instruction) size;
                })
        by false t further =
            on (omega (arith, leb-false k (length s) t, length-append s zeros, length-replicate {A = ℕ} (k - length s) 0)) (further (number (s ++ zeros)) [])
          where
            zeros : List ℕ
            zeros = replicate (k - length s) 0

            on : length (s ++ zeros) ≡ k → Completed (next (number (s ++ zeros))) (at + k) [] ⊎ Spoilt (next (number (s ++ zeros))) (at + k) []
                → Completed (field k next) at s ⊎ Spoilt (field k next) at s
            on full (inl c) =
                inl (record {
                  more = zeros ++ c.more;
                  are_bytes = all_append zeros c.more (all_zeros (k - length s)) c.are_bytes;
                  instruction = c.instruction;
                  size = c.size;
                  found = rw (← append_assoc) (field_reads k at next (s ++ zeros) c.more full ∙ c.found);
                })
            on full (inr x) = absurd (never_spoilt (next (number (s ++ zeros))) (at + k) x)
    ending (field k next) (inr d) at [] =
        inl (record {
          more = listed_suffix ∷ [];
          are_bytes = all_cons listed_suffix [] (omega arith) all_none;
          instruction = d.made listed_suffix;
          size = at + 1;
          found = verdict_yes k next d at listed_suffix [] d.listed;
        })
    ending (field k next) (inr d) at (v ∷ rest) = by (accepted v) refl
      where
        by : (t : Bool) → accepted v ≡ t → Completed (field k next) at (v ∷ rest) ⊎ Spoilt (field k next) at (v ∷ rest)
        by true t =
            inl (record { more = []; are_bytes = all_none; instruction = d.made v; size = at + 1; found = verdict_yes k next d at v (rest ++ []) t })
        by false t =
            inr (record {
              before = [];
              value = v;
              rest = rest;
              parts = refl;
              unlisted = t;
              instruction = d.made listed_suffix;
              found = verdict_yes k next d at listed_suffix [] d.listed ∙ ap (λ (n : ℕ). good (d.made listed_suffix) (n + 1)) (sym (add-zero at));
            })

  -- Where every instruction has a suffix, another byte in its place is refused

  -- there is none in nothing
  none_left : (r : Reader) → Ends ⊥ r → (at : ℕ) (i : Instruction) (n : ℕ) → reads r at [] ≡ good i n → ⊥
  none_left (whole j) e at i n h = e
  none_left (refuse m) e at i n h = e
  none_left (byte next) e at i n h = false≢true (cc)
  none_left (field k next) (inl e) at i n h =
      let (fits, onward) = field_read k at next [] i n h in
      let none : drop {A = ℕ} k [] ≡ [] = drop_of_length-le [] {i = k} (omega arith) in
      none_left (next (number (take k []))) (e _) (at + k) i n (ap (reads (next (number (take k []))) (at + k)) (sym none) ∙ onward)
  none_left (field k next) (inr d) at i n h = let (fits, onward) = field_read k at next [] i n h in omega (arith, fits, d.one)

  pub replaced : (r : Reader) → Ends ⊥ r → (at : ℕ) (before : List ℕ) (v w : ℕ) (rest : List ℕ) (i : Instruction) (n : ℕ)
      → reads r at (before ++ v ∷ []) ≡ good i n → n ≡ at + length before + 1 → accepted w ≡ false → reads r at (before ++ w ∷ rest) ≡ refused not_listed
  replaced (whole j) e at before v w rest i n h size other = absurd e
  replaced (refuse m) e at before v w rest i n h size other = absurd e
  replaced (byte next) e at [] v w rest i n h size other = absurd (none_left (next v) (e v) (at + 1) i n h)
  replaced (byte next) e at (b ∷ before) v w rest i n h size other = replaced (next b) (e b) (at + 1) before v w rest i n h (omega (arith, size)) other
  replaced (field k next) (inr d) at [] v w rest i n h size other = verdict_no k next d at w rest other
  replaced (field k next) (inr d) at (b ∷ before) v w rest i n h size other = by (accepted b) refl
    where
      by : (t : Bool) → accepted b ≡ t → reads (field k next) at (b ∷ (before ++ w ∷ rest)) ≡ refused not_listed
      by false t = verdict_no k next d at b (before ++ w ∷ rest) t
      by true t =
          let good_here = verdict_yes k next d at b (before ++ v ∷ []) t in
          let ends : at + 1 ≡ n = cc in
          absurd (omega (arith, size, ends))
  replaced (field k next) (inl e) at before v w rest i n h size other =
      by (leb k (length before)) refl (field_read k at next (before ++ v ∷ []) i n h) (λ x. replaced (next x) (e x) (at + k))
    where
      by : (t : Bool) → leb k (length before) ≡ t
          → (k ≤ length (before ++ v ∷ [])) × (reads (next (number (take k (before ++ v ∷ [])))) (at + k) (drop k (before ++ v ∷ [])) ≡ good i n)
          → ((x : ℕ) (before : List ℕ) (v w : ℕ) (rest : List ℕ) (i : Instruction) (n : ℕ) → reads (next x) (at + k) (before ++ v ∷ []) ≡ good i n → n ≡ at + k + length before + 1 → accepted w ≡ false
          → reads (next x) (at + k) (before ++ w ∷ rest) ≡ refused not_listed)
          → reads (field k next) at (before ++ w ∷ rest) ≡ refused not_listed
      by true t (fits, onward) further =
          let here : k ≤ length before = leb-true k (length before) t in
          let own = take k before in
          let left = drop k before in
          let full : length own ≡ k = length-take-le k before here in
          ap (λ (l : List ℕ). reads (field k next) at (l ++ w ∷ rest)) (sym (take-append-drop k before))
          ∙ ap (reads (field k next) at) (append_assoc own left (w ∷ rest))
          ∙ field_reads k at next own (left ++ w ∷ rest) full
          ∙ further (number own) left v w rest i n (simp (take-append-le, drop-append-le) at onward) (omega (arith, size, here, length-drop k before)) other
      by false t (fits, onward) further =
          let past : length (before ++ v ∷ []) ≤ k = omega (arith, leb-false k (length before) t, length-append before (v ∷ [])) in
          let x = number (take k (before ++ v ∷ [])) in
          absurd (none_left (next x) (e x) (at + k) i n (ap (reads (next x) (at + k)) (sym (drop_of_length-le (before ++ v ∷ []) past)) ∙ onward))
