-- Each refusal of reading is given exactly when there is its reason: what is left of a code is a good instruction, or has a reason, and what has
-- a reason is refused by its number.
use Rattle.std.specs.Prelude.{ℕ, ◌+◌, ◌≤◌, ◌<◌, ◌≡◌, refl, ◌⊎◌, Bool, true, false, cond, not, ◌&&◌, ◌||◌, List, [], ◌∷◌, ◌++◌, eqb, leb, ltb, length, take, drop, ◌↔◌}
use Rattle.basis.proofs.Names.{sym, ap, subst, subst₂, ◌∙◌, inl, inr, false≢true, append_assoc, arith, leb-true, leb-false, le-leb, lt-leb, ltb-true, ltb-false, lt-ltb, le-ltb, eqb-true, eqb-false, length-append, take-append-drop, take-append-le, drop-append-le}
use Rattle.words.specs.Number.{AllBytes, number}
use Rattle.words.proofs.Numbers.{all_none, all_cons}
use Rattle.words.proofs.Laws.{and_both}
use Rattle.codec.specs.Refusals.{code_too_long, code_ends, prefixed, not_listed, not_allowed, no_bytes, buffer_ends}
use Rattle.codec.specs.Forms.{Form, mmreg1·mmreg2/mem64+suffix, is_among, is_absent, has_operand, allows, immediate_size, has_suffix, accepts}
use Rattle.codec.specs.Contents.{three_dnow}
use Rattle.codec.specs.Opcodes.{form_at, form_of_first, form_for, opcode_bytes, escape, prefixes}
use Rattle.codec.specs.Operands.{upper, middle, lower, has_sib, no_operand}
use Rattle.codec.specs.Reader.{Reader, whole, refuse, byte, field, reads}
use Rattle.codec.specs.Reads.{instruction_of, immediate_reader, displacement_reader, sib_reader, modrm_reader, form_reader, second_reader, first_reader, instruction_reader, refusal_of, read_part, longest_code, read_at}
use Rattle.codec.specs.Reasons.{EndsInside, StartsPrefixed, StartsOther, StartsUnlisted, EndsUnlisted, StartsNotAllowed, Reason, three, four, five, six, ReasonAt, two, reading}
use Rattle.codec.specs.Fits.{has_bytes}
use Rattle.codec.specs.Writes.{bytes_of, write_to}
use Rattle.codec.specs.declared.Operand.{Operand}
use Rattle.codec.specs.declared.Instruction.{Instruction}
use Rattle.codec.specs.Answers.{Decoded, good, refused, wrote, refused_with}
use Rattle.codec.proofs.Bytes.{opcode_passes, only_suffix, among}
use Rattle.codec.proofs.FormNumbers.{list_free}
use Rattle.codec.proofs.Readers.{reads_yes, reads_no}
use Rattle.codec.proofs.Given.{parts_reader}
use Rattle.codec.proofs.ReadingBack.{second_of, opcode_reads}
use Rattle.codec.proofs.Theorems.{reading_is_local}
use Rattle.codec.proofs.Completing.{Completed, listed_suffix, Ends, Spoilt, never_spoilt, ending, replaced}

-- A refusal other than 3 stays, whatever follows

cond-refused : (t : Bool) (x : Decoded) (n : ℕ) → cond t x (refused code_ends) ≡ refused n → ¬ (n ≡ code_ends) → (t ≡ true) × (x ≡ refused n)
cond-refused true x n e other = (refl, e)
cond-refused false x n e other = absurd (other (cc))

stays : (r : Reader) (at : ℕ) (s more : List ℕ) (n : ℕ) → reads r at s ≡ refused n → ¬ (n ≡ code_ends) → reads r at (s ++ more) ≡ refused n
stays (whole i) at s more n e other = e
stays (refuse m) at s more n e other = e
stays (byte next) at [] more n e other = absurd (other (cc))
stays (byte next) at (b ∷ s) more n e other = stays (next b) (at + 1) s more n e other
stays (field k next) at s more n e other =
    let (t, x) = cond-refused (leb k (length s)) _ n e other in
    let h : k ≤ length s = leb-true k (length s) t in
    let g : k ≤ length (s ++ more) = omega (arith, length-append s more) in
    simp (le-leb k (length (s ++ more)) g, take-append-le, drop-append-le)
    (stays (next (number (take k s))) (at + k) (drop k s) more n x other)

-- the parts behind a ModRM byte that is allowed
module _ (form : Form) (first second : ℕ) where
  sib_ends : (W : Type 0) → ((operand : Operand) → Ends (accepts form) W (immediate_reader form first second operand))
      → (modrm : ℕ) → Ends (accepts form) W (sib_reader form first second modrm)
  unfolding sib_reader displacement_reader
  sib_ends W immediate modrm = by (has_sib (upper modrm) (lower modrm))
    where
      by : (t : Bool) → Ends (accepts form) W (cond t (byte (displacement_reader form first second modrm)) (displacement_reader form first second modrm 0))
      by true = λ b. inl (λ d. immediate _)
      by false = inl (λ d. immediate _)

  -- a suffix decides
  suffix_ends : (W : Type 0) → immediate_size form ≡ 1 → accepts form listed_suffix ≡ true → (operand : Operand)
      → Ends (accepts form) W (immediate_reader form first second operand)
  unfolding immediate_reader
  suffix_ends W one listed operand = inr (record { one = one; listed = listed; made = instruction_of first second operand; decides = λ v. refl })

  -- any other immediate will do
  number_ends : has_suffix form ≡ false → (operand : Operand) → Ends (accepts form) (Unit {0}) (immediate_reader form first second operand)
  unfolding immediate_reader
  number_ends none operand = inl (λ v. rw (list_free form.suffixes v none) tt)

-- What is due is what reading gives

pub is_inside : (s : List ℕ) → EndsInside s → read_part s ≡ refused code_ends
is_inside s x = by (read_part s) refl
  where
    by : (z : Decoded) → read_part s ≡ z → z ≡ refused code_ends
    by (good i n) e =
        let l = reading_is_local s i n e in
        let same : read_part (s ++ x.more) ≡ good i n =
        ap read_part (ap (λ (u : List ℕ). u ++ x.more) (sym (take-append-drop n s)) ∙ append_assoc (take n s) (drop n s) x.more) ∙ l.again (drop n s ++ x.more) in
        let end : n ≡ x.size = cc x.found in
        absurd (omega (arith, l.within, x.longer))
    by (refused n) e = at_end (eqb n code_ends) refl
      where
        at_end : (t : Bool) → eqb n code_ends ≡ t → refused n ≡ refused code_ends
        at_end true t = ap refused (eqb-true n code_ends t)
        at_end false t =
            let still = stays (instruction_reader form_at) 0 s x.more n e (eqb-false n code_ends t) in
            absurd (false≢true (cc x.found))

-- a first byte that starts no instruction
reads-refused : (first : ℕ) (rest : List ℕ) → eqb first escape ≡ false → is_absent (form_of_first first) ≡ true
    → read_part (first ∷ rest) ≡ refused (refusal_of first)
unfolding instruction_reader first_reader
reads-refused first rest other apart = reads_no (eqb first escape) _ _ 1 rest other ∙ reads_yes (is_absent (form_of_first first)) _ _ 1 rest apart

-- no prefix is 0F or starts an instruction of loops
prefix_alone : (first : ℕ) → is_among first prefixes ≡ true → (eqb first escape ≡ false) × (is_absent (form_of_first first) ≡ true)
unfolding form_of_first
prefix_alone first h =
    among (λ k. (eqb k escape ≡ false) × (is_absent (form_of_first k) ≡ true)) first prefixes h
    (refl, refl) (refl, refl) (refl, refl) (refl, refl) (refl, refl) (refl, refl) (refl, refl) (refl, refl) (refl, refl) (refl, refl) (refl, refl)

pub is_prefixed : (s : List ℕ) → StartsPrefixed s → read_part s ≡ refused prefixed
unfolding refusal_of
is_prefixed s (first, (rest, e), among) =
    let (other, apart) = prefix_alone first among in
    ap read_part e ∙ reads-refused first rest other apart ∙ ap (λ (b : Bool). refused (cond b prefixed not_listed)) among

pub is_other : (s : List ℕ) → StartsOther s → read_part s ≡ refused not_listed
unfolding refusal_of
is_other s (first, (rest, e), other, apart, plain) =
    ap read_part e ∙ reads-refused first rest other apart ∙ ap (λ (b : Bool). refused (cond b prefixed not_listed)) plain

pub is_unlisted : (s : List ℕ) → StartsUnlisted s → read_part s ≡ refused not_listed
unfolding instruction_reader second_reader form_reader
is_unlisted s (second, (rest, e), unlisted) = ap read_part e ∙ reads_yes (is_absent (form_at second)) _ _ 2 rest unlisted

pub is_not_allowed : (s : List ℕ) → StartsNotAllowed s → read_part s ≡ refused not_allowed
unfolding modrm_reader
is_not_allowed s (first, second, modrm, (rest, e), there, has, barred) =
    let form = form_for first second in
    let opcode = opcode_bytes first second in
    ap read_part (e ∙ append_assoc opcode (modrm ∷ []) rest)
    ∙ opcode_reads first second (modrm ∷ rest) there
    ∙ reads_yes (has_operand form) _ _ (length opcode) (modrm ∷ rest) has
    ∙ reads_no (allows form (upper modrm) (middle modrm) (lower modrm)) _ _ (length opcode + 1) rest barred

pub is_unsuffixed : (s : List ℕ) → EndsUnlisted s → read_part s ≡ refused not_listed
unfolding form_at modrm_reader allows
is_unsuffixed s x =
    let form = mmreg1·mmreg2/mem64+suffix in
    let (rest, e) = x.starts in
    let ends : Ends (accepts form) ⊥ (modrm_reader form escape three_dnow) = sib_ends form escape three_dnow ⊥ (suffix_ends form escape three_dnow ⊥ refl refl) in
    let reads_on : (l : List ℕ) → read_part (escape ∷ three_dnow ∷ l) ≡ reads (modrm_reader form escape three_dnow) 2 l = λ l. opcode_reads escape three_dnow l refl in
    ap read_part (e ∙ ap (λ (l : List ℕ). escape ∷ three_dnow ∷ l) (append_assoc x.operands (x.suffix ∷ []) rest))
    ∙ reads_on (x.operands ++ x.suffix ∷ rest)
    ∙ replaced (accepts form) (modrm_reader form escape three_dnow) ends 2 x.operands listed_suffix x.suffix rest x.instruction (length x.operands + 3)
    (sym (reads_on (x.operands ++ listed_suffix ∷ [])) ∙ x.found) (omega arith) x.unlisted

pub is_given : (s : List ℕ) (n : ℕ) → Reason s n → read_part s ≡ refused n
is_given s n (three x) = is_inside s x
is_given s n (four x) = is_prefixed s x
is_given s n (five (inl x)) = is_other s x
is_given s n (five (inr (inl x))) = is_unlisted s x
is_given s n (five (inr (inr x))) = is_unsuffixed s x
is_given s n (six x) = is_not_allowed s x

-- A reading is good, or there is a reason

data Due (s : List ℕ) : Type 0 where
  readable : (i : Instruction) (n : ℕ) → read_part s ≡ good i n → Due s
  refusal : (n : ℕ) → Reason s n → Due s

-- what can be completed is good, or ends inside
inside : (s more : List ℕ) (i : Instruction) (n : ℕ) → AllBytes more → read_part (s ++ more) ≡ good i n → Due s
inside s more i n b e = by (leb n (length s)) refl
  where
    by : (t : Bool) → leb n (length s) ≡ t → Due s
    by true t =
        let h : n ≤ length s = leb-true n (length s) t in
        let again = (reading_is_local (s ++ more) i n e).again (drop n s) in
        readable i n (ap read_part (sym (take-append-drop n s)) ∙ (rw take-append-le at again))
    by false t = refusal code_ends (three (record { more = more; are_bytes = b; instruction = i; size = n; found = e; longer = leb-false n (length s) t }))

-- a ModRM byte that a form allows: registers, shifted right or added to; else memory; else SFENCE's
sample : Form → ℕ
sample form = cond (allows form 3 2 0) 0xd0 (cond (allows form 3 0 0) 0xc0 (cond (allows form 0 0 0) 0x00 0xf8))

allowed : (first second : ℕ)
    → let modrm = sample (form_for first second) in (modrm < 256) × (allows (form_for first second) (upper modrm) (middle modrm) (lower modrm) ≡ true)
unfolding sample allows
allowed first second = (
  ltb-true _ _ (opcode_passes (λ f. ltb (sample f) 256) refl refl refl first second),
  opcode_passes (λ f. allows f (upper (sample f)) (middle (sample f)) (lower (sample f))) refl refl refl first second,
)

-- a form that some immediates are refused by has a suffix
refuses_some : (form : Form) (v : ℕ) → accepts form v ≡ false → has_suffix form ≡ true
refuses_some form v h = by (has_suffix form) refl
  where
    by : (t : Bool) → has_suffix form ≡ t → has_suffix form ≡ true
    by true e = e
    by false e = absurd (false≢true (sym h ∙ list_free form.suffixes v e))

after_3dnow : (s : List ℕ) → Spoilt (accepts (form_for escape three_dnow)) (parts_reader (form_for escape three_dnow) escape three_dnow) 2 s
    → EndsUnlisted (escape ∷ three_dnow ∷ s)
unfolding form_at
after_3dnow s x =
    record {
      operands = x.before;
      suffix = x.value;
      starts = (x.rest, ap (λ (l : List ℕ). escape ∷ three_dnow ∷ l) (x.parts ∙ sym (append_assoc x.before (x.value ∷ []) x.rest)));
      unlisted = x.unlisted;
      instruction = x.instruction;
      found =
          opcode_reads escape three_dnow (x.before ++ listed_suffix ∷ []) refl ∙ x.found
          ∙ ap (good x.instruction) (let z : 2 + length x.before + 1 ≡ length x.before + 3 = omega arith in z);
    }

-- after the opcode bytes of a form that is there
module _ (first second : ℕ) (there : is_absent (form_for first second) ≡ false) where
  abbrev form : Form
  form = form_for first second

  abbrev opcode : List ℕ
  opcode = opcode_bytes first second

  abbrev other : ℕ
  other = second_of first second

  -- what they ask for, and its immediate, ends
  abbrev parts : Reader
  parts = parts_reader form first other

  immediate_ends : (operand : Operand) → Ends (accepts form) (Unit {0}) (immediate_reader form first other operand)
  immediate_ends operand = by (has_suffix form) refl (opcode_passes (λ f. not (has_suffix f) || (eqb (immediate_size f) 1 && accepts f listed_suffix)) refl refl refl first second)
    where
      by : (t : Bool) → has_suffix form ≡ t → (not t || (eqb (immediate_size form) 1 && accepts form listed_suffix)) ≡ true
          → Ends (accepts form) (Unit {0}) (immediate_reader form first other operand)
      by false e h = number_ends form first other e operand
      by true e h =
          let (one, listed) = and_both (eqb (immediate_size form) 1) (accepts form listed_suffix) h in
          suffix_ends form first other (Unit {0}) (eqb-true (immediate_size form) 1 one) listed operand

  -- what follows the opcode bytes can be completed, and is good or ends inside; or it has another byte in the suffix's place
  due_after : (s : List ℕ) → Completed parts (length opcode) s ⊎ Spoilt (accepts form) parts (length opcode) s → Due (opcode ++ s)
  due_after s (inl c) =
      inside (opcode ++ s) c.more c.instruction c.size c.are_bytes
      (ap read_part (append_assoc opcode s c.more) ∙ opcode_reads first second (s ++ c.more) there ∙ c.found)
  due_after s (inr x) =
      let (is_escape, is_3dnow) = only_suffix first second (refuses_some (form_for first second) x.value x.unlisted) in
      refusal not_listed (five (inr (inr (subst₂ Unsuffixed (sym is_escape) (sym is_3dnow) (after_3dnow s) x))))
    where
      Unsuffixed : ℕ → ℕ → Type 0
      Unsuffixed f k =
          Spoilt (accepts (form_for f k)) (parts_reader (form_for f k) f (second_of f k)) (length (opcode_bytes f k)) s → EndsUnlisted (opcode_bytes f k ++ s)

  -- no ModRM byte
  due_bare : (s : List ℕ) → has_operand form ≡ false → Due (opcode ++ s)
  due_bare s bare =
      due_after s (rw bare (ending (accepts form) (Unit {0}) (immediate_reader form first other no_operand) (immediate_ends no_operand) (length opcode) s))

  -- a ModRM byte that is allowed
  module _ (modrm : ℕ) (has : has_operand form ≡ true) (passes : allows form (upper modrm) (middle modrm) (lower modrm) ≡ true) where
    behind_modrm : (s : List ℕ) → reads parts (length opcode) (modrm ∷ s) ≡ reads (sib_reader form first other modrm) (length opcode + 1) s
    unfolding modrm_reader
    behind_modrm s = reads_yes _ _ _ (length opcode) (modrm ∷ s) has ∙ reads_yes _ _ _ (length opcode + 1) s passes

    modrm_completed : (s : List ℕ) → Completed (sib_reader form first other modrm) (length opcode + 1) s → Completed parts (length opcode) (modrm ∷ s)
    modrm_completed s c =
        record { more = c.more; are_bytes = c.are_bytes; instruction = c.instruction; size = c.size; found = behind_modrm (s ++ c.more) ∙ c.found }

    behind_ends : (s : List ℕ) → Completed (sib_reader form first other modrm) (length opcode + 1) s ⊎ Spoilt (accepts form) (sib_reader form first other modrm) (length opcode + 1) s
    behind_ends s = ending (accepts form) (Unit {0}) (sib_reader form first other modrm) (sib_ends form first other (Unit {0}) immediate_ends modrm) (length opcode + 1) s

    modrm_ends : (s : List ℕ) → Completed parts (length opcode) (modrm ∷ s) ⊎ Spoilt (accepts form) parts (length opcode) (modrm ∷ s)
    modrm_ends s = by (behind_ends s)
      where
        by : Completed (sib_reader form first other modrm) (length opcode + 1) s ⊎ Spoilt (accepts form) (sib_reader form first other modrm) (length opcode + 1) s
            → Completed parts (length opcode) (modrm ∷ s) ⊎ Spoilt (accepts form) parts (length opcode) (modrm ∷ s)
        by (inl c) = inl (modrm_completed s c)
        by (inr x) =
            let size : length opcode + 1 + length x.before + 1 ≡ length opcode + length (modrm ∷ x.before) + 1 = omega arith in
            inr (record {
              before = modrm ∷ x.before;
              value = x.value;
              rest = x.rest;
              parts = ap (λ (l : List ℕ). modrm ∷ l) x.parts;
              unlisted = x.unlisted;
              instruction = x.instruction;
              found = behind_modrm (x.before ++ listed_suffix ∷ []) ∙ x.found ∙ ap (good x.instruction) size;
            })

    -- no byte, where it may be the next
    due_none : modrm < 256 → Due (opcode ++ [])
    due_none fits = by (behind_ends [])
      where
        by : Completed (sib_reader form first other modrm) (length opcode + 1) [] ⊎ Spoilt (accepts form) (sib_reader form first other modrm) (length opcode + 1) [] → Due (opcode ++ [])
        by (inl c) =
            let d = modrm_completed [] c in
            due_after [] (inl (record { more = modrm ∷ d.more; are_bytes = all_cons modrm d.more fits d.are_bytes; instruction = d.instruction; size = d.size; found = d.found }))
        by (inr x) = absurd (never_spoilt (accepts form) (sib_reader form first other modrm) (length opcode + 1) x)

  due_form : (s : List ℕ) → Due (opcode ++ s)
  due_form s = by (has_operand form) refl s
    where
      tested : (modrm : ℕ) (s : List ℕ) → has_operand form ≡ true
          → (t : Bool) → allows form (upper modrm) (middle modrm) (lower modrm) ≡ t → Due (opcode ++ modrm ∷ s)
      tested modrm s has true t = due_after (modrm ∷ s) (modrm_ends modrm has t s)
      tested modrm s has false t =
          refusal not_allowed (six (first, second, modrm, (s, sym (append_assoc opcode (modrm ∷ []) s)), there, has, t))

      by : (t : Bool) → has_operand form ≡ t → (s : List ℕ) → Due (opcode ++ s)
      by false bare s = due_bare s bare
      by true has [] =
          let (fits, passes) = allowed first second in
          due_none (sample form) has passes fits
      by true has (modrm ∷ s) = tested modrm s has (allows form (upper modrm) (middle modrm) (lower modrm)) refl

-- by whether the first is 0F
due_listed : (first second : ℕ) (t : Bool) → eqb first escape ≡ t → is_absent (cond t (form_at second) (form_of_first first)) ≡ false
    → (s : List ℕ) → Due (cond t (first ∷ second ∷ []) (first ∷ []) ++ s)
due_listed first second t e there s = rw (← e) (due_form first second (rw (← e) at there) s)

emms_byte : AllBytes (0x77 ∷ [])
emms_byte = all_cons 0x77 [] (omega arith) all_none

due : (s : List ℕ) → Due s
unfolding form_at instruction_reader second_reader form_reader immediate_reader
due [] = inside [] (escape ∷ 0x77 ∷ []) _ 2 (all_cons escape (0x77 ∷ []) (omega arith) emms_byte) refl
due (first ∷ s) = by (eqb first escape) refl s
  where
    prefix : eqb first escape ≡ false → is_absent (form_of_first first) ≡ true → (s : List ℕ) (t : Bool) → is_among first prefixes ≡ t → Due (first ∷ s)
    prefix other apart s true t = refusal prefixed (four (first, (s, refl), t))
    prefix other apart s false t = refusal not_listed (five (inl (first, (s, refl), other, apart, t)))

    single : eqb first escape ≡ false → (s : List ℕ) (t : Bool) → is_absent (form_of_first first) ≡ t → Due (first ∷ s)
    single other s true t = prefix other t s (is_among first prefixes) refl
    single other s false t = due_listed first 0 false other t s

    listed : eqb first escape ≡ true → (second : ℕ) (s : List ℕ) (t : Bool) → is_absent (form_at second) ≡ t → Due (first ∷ second ∷ s)
    listed e second s true t = refusal not_listed (five (inr (inl (second, (s, ap (λ (b : ℕ). b ∷ second ∷ s) (eqb-true first escape e)), t))))
    listed e second s false t = due_listed first second true e t s

    by : (t : Bool) → eqb first escape ≡ t → (s : List ℕ) → Due (first ∷ s)
    by false t s = single t s (is_absent (form_of_first first)) refl
    by true t [] = rw (eqb-true first escape t) (inside (escape ∷ []) (0x77 ∷ []) _ 2 emms_byte refl)
    by true t (second ∷ s) = listed t second s (is_absent (form_at second)) refl

-- A number is given exactly when there is its reason.
pub given_exactly : (s : List ℕ) (n : ℕ) → (read_part s ≡ refused n) ↔ Reason s n
given_exactly s n = (λ e. by (due s) e, is_given s n)
  where
    by : Due s → read_part s ≡ refused n → Reason s n
    by (readable i m r) e = absurd (false≢true (cc))
    by (refusal m r) e =
        let given = is_given s m r in
        let same : m ≡ n = cc in
        subst (Reason s) same r

-- the same at a position of a code
pub reading_exactly : (code : List ℕ) (at n : ℕ) → (read_at code at ≡ refused n) ↔ ReasonAt code at n
unfolding read_at
reading_exactly code at n = (λ e. by (ltb longest_code (length code)) refl e, back code at n)
  where
    by : (t : Bool) → ltb longest_code (length code) ≡ t → cond t (refused code_too_long) (read_part (drop at code)) ≡ refused n → ReasonAt code at n
    by true t e =
        let same : code_too_long ≡ n = cc in
        subst (ReasonAt code at) same (two (ltb-true longest_code (length code) t))
    by false t e = reading (ltb-false longest_code (length code) t) ((given_exactly (drop at code) n).0 e)

    back : (code : List ℕ) (at n : ℕ) → ReasonAt code at n → read_at code at ≡ refused n
    back code at n (two h) = simp (lt-ltb longest_code (length code) h)
    back code at n (reading h r) = simp (le-ltb longest_code (length code) h) (is_given (drop at code) n r)

-- 12 is given exactly when the record has bytes, and the buffer is shorter.
pub twelve_exactly : (i : Instruction) (buffer : List ℕ)
    → (write_to i buffer ≡ refused_with buffer_ends buffer) ↔ ((has_bytes i ≡ true) × (length buffer < length (bytes_of i)))
unfolding write_to
twelve_exactly i buffer = (λ e. by (has_bytes i) (leb (length (bytes_of i)) (length buffer)) refl refl e, back)
  where
    by : (t u : Bool) → has_bytes i ≡ t → leb (length (bytes_of i)) (length buffer) ≡ u
        → cond t (cond u (wrote (length (bytes_of i)) (bytes_of i ++ drop (length (bytes_of i)) buffer)) (refused_with buffer_ends buffer)) (refused_with no_bytes buffer) ≡ refused_with buffer_ends buffer
        → (has_bytes i ≡ true) × (length buffer < length (bytes_of i))
    by true true t u e = absurd (false≢true (cc))
    by true false t u e = (t, leb-false (length (bytes_of i)) (length buffer) u)
    by false u t v e = absurd (false≢true (cc))

    back : (has_bytes i ≡ true) × (length buffer < length (bytes_of i)) → write_to i buffer ≡ refused_with buffer_ends buffer
    back (has, short) = simp (has, lt-leb (length (bytes_of i)) (length buffer) short)
