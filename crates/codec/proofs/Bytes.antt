-- What is found in a list: what every line passes is passed by the line found. So it is said of every second byte, of every first byte, and of every
-- form's number. And what is among the numbers of a list.
use Rattle.std.specs.Prelude.{ℕ, ◌≤◌, ◌≡◌, refl, Bool, true, false, not, cond, ◌&&◌, ◌||◌, List, [], ◌∷◌, map, eqb, ltb, get_or, drop}
use Rattle.basis.proofs.Names.{sym, ap, subst, ◌∙◌, false≢true, arith, ltb-true, le-ltb, eqb-true, not-true}
use Rattle.codec.specs.Forms.{Form, absent, mmreg1·mmreg2/mem64, forms, is_among, has_suffix}
use Rattle.codec.specs.Contents.{Line, lines, three_dnow, maximum, siblings, loops}
use Rattle.codec.specs.Opcodes.{find, suffixed_of, used_form, is_of, form_at, form_of_first, form_for, escape}
use Rattle.codec.specs.Table.{form_of}
use Rattle.codec.specs.inner.Entries.{is_ordinary}
use Rattle.codec.specs.declared.Kind.{Kind}
use Rattle.codec.specs.declared.Kind.TheVariants.{Ordinary, Emms, Silent, Loop}
use Rattle.words.proofs.Laws.{and_both}

abbrev pub all_pass : {A : Type 0} → (A → Bool) → List A → Bool
all_pass test [] = true
all_pass test (x ∷ xs) = test x && all_pass test xs

abbrev Each : {A : Type 0} → (A → Type 0) → List A → Type 0
Each P [] = Unit {0}
Each P (x ∷ xs) = P x × Each P xs

-- what holds of each in the list that may be found, one after the other, and of what there is of none, holds of what is found
pub found_each : {A B : Type 0} (part : A → B) (default : B) (Q : B → Type 0) (passes : A → Bool) → Q default
    → (xs : List A) → Each (λ x. passes x ≡ true → Q (part x)) xs → Q (find passes part default xs)
found_each part default Q passes none [] h = none
found_each part default Q passes none (x ∷ xs) (h, hs) = by (passes x) refl (found_each part default Q passes none xs hs)
  where
    by : (t : Bool) → passes x ≡ t → Q (find passes part default xs) → Q (cond t (part x) (find passes part default xs))
    by true e q = h e
    by false e q = q

-- and so does what holds of all that pass a test, where all of them do
module _ {A B : Type 0} (part : A → B) (default : B) (Q : B → Type 0) (passes test : A → Bool) (none : Q default)
    (one : (x : A) → passes x ≡ true → test x ≡ true → Q (part x)) where
  each_passed : (xs : List A) → all_pass test xs ≡ true → Each (λ x. passes x ≡ true → Q (part x)) xs
  each_passed [] h = tt
  each_passed (x ∷ xs) h = let (a, b) = and_both (test x) (all_pass test xs) h in (λ e. one x e a, each_passed xs b)

  pub found_has : (xs : List A) → all_pass test xs ≡ true → Q (find passes part default xs)
  found_has xs h = found_each part default Q passes none xs (each_passed xs h)

-- And two functions agree on what is found, where they do on each in the list
pub found_same : {A B C : Type 0} (part : A → B) (default : B) (f g : B → C) (passes : A → Bool) → f default ≡ g default
    → (xs : List A) → map (λ x. f (part x)) xs ≡ map (λ x. g (part x)) xs → f (find passes part default xs) ≡ g (find passes part default xs)
found_same {A = A} part default f g passes none xs e = found_each part default (λ y. f y ≡ g y) passes none xs (each xs e)
  where
    each : (xs : List A) → map (λ x. f (part x)) xs ≡ map (λ x. g (part x)) xs → Each (λ x. passes x ≡ true → f (part x) ≡ g (part x)) xs
    each [] e = tt
    each (x ∷ xs) e = (λ p. ap (λ l. get_or l 0 (f default)) e, each xs (ap (drop 1) e))

-- the form of a second byte passes a test of forms
pub form_passes : (test : Form → Bool) → test absent ≡ true → all_pass (λ x. test x.form) lines ≡ true → (second : ℕ) → test (form_at second) ≡ true
unfolding form_at
form_passes test z h second =
    found_has (λ x. x.form) absent (λ f. test f ≡ true) (λ x. eqb second x.second) (λ x. test x.form) z (λ x e q. q) lines h

-- and so does that of a first byte
pub first_passes : (test : Form → Bool) → test absent ≡ true → all_pass (λ x. test x.form) loops ≡ true → (first : ℕ) → test (form_of_first first) ≡ true
unfolding form_of_first
first_passes test z h first =
    found_has (λ x. x.form) absent (λ f. test f ≡ true) (λ x. is_of x first) (λ x. test x.form) z (λ x e q. q) loops h

-- and that of both opcode bytes
pub opcode_passes : (test : Form → Bool) → test absent ≡ true → all_pass (λ x. test x.form) lines ≡ true → all_pass (λ x. test x.form) loops ≡ true
    → (first second : ℕ) → test (form_for first second) ≡ true
opcode_passes test z h g first second = by (eqb first escape)
  where
    by : (t : Bool) → test (cond t (form_at second) (form_of_first first)) ≡ true
    by true = form_passes test z h second
    by false = first_passes test z g first

-- the one opcode with a suffix is 3DNow's
pub only_suffix : (first second : ℕ) → has_suffix (form_for first second) ≡ true → (first ≡ escape) × (second ≡ three_dnow)
unfolding form_at
only_suffix first second = by (eqb first escape) refl
  where
    by : (t : Bool) → eqb first escape ≡ t → has_suffix (cond t (form_at second) (form_of_first first)) ≡ true → (first ≡ escape) × (second ≡ three_dnow)
    by false e h = absurd (false≢true (sym (not-true (has_suffix (form_of_first first)) (first_passes (λ f. not (has_suffix f)) refl refl first)) ∙ h))
    by true e h = (
      eqb-true first escape e,
      found_has (λ x. x.form) absent (λ f. has_suffix f ≡ true → second ≡ three_dnow) (λ x. eqb second x.second) (λ x. not (has_suffix x.form) || eqb x.second three_dnow)
          (λ h. absurd (false≢true h)) listed lines refl h,
    )
      where
        listed : (x : Line) → eqb second x.second ≡ true → (not (has_suffix x.form) || eqb x.second three_dnow) ≡ true → has_suffix x.form ≡ true → second ≡ three_dnow
        listed x f g h =
            eqb-true second x.second f ∙ eqb-true x.second three_dnow (ap (λ (t : Bool). not t || eqb x.second three_dnow) (sym h) ∙ g)

-- a test is passed by the form whose operands are used, where that of the opcode passes it
pub used_passes : (test : Form → Bool) → test maximum.form ≡ true → all_pass (λ x. test x.form) siblings ≡ true → (form : Form) (immediate : ℕ) → test form ≡ true
    → test (used_form form immediate) ≡ true
unfolding suffixed_of
used_passes test last h form immediate own = by (has_suffix form)
  where
    by : (t : Bool) → test (cond t (suffixed_of immediate).form form) ≡ true
    by true = found_has (λ x. x) maximum (λ x. test x.form ≡ true) (λ x. eqb immediate x.suffix) (λ x. test x.form) last (λ x e q. q) siblings h
    by false = own

-- and its kind is that of the opcode, where one with a suffix is ordinary
pub ordinary : (k : Kind) → is_ordinary k ≡ true → k ≡ Ordinary
ordinary Ordinary h = refl
ordinary Emms h = absurd (false≢true h)
ordinary Silent h = absurd (false≢true h)
ordinary Loop h = absurd (false≢true h)

abbrev pub ordinary_suffix : Form → Bool
ordinary_suffix form = not (has_suffix form) || is_ordinary form.kind

pub used_kind : (form : Form) (immediate : ℕ) → ordinary_suffix form ≡ true → (used_form form immediate).kind ≡ form.kind
used_kind form immediate h = by (has_suffix form) refl h
  where
    by : (t : Bool) → has_suffix form ≡ t → (not t || is_ordinary form.kind) ≡ true → (used_form form immediate).kind ≡ form.kind
    by true e g = ordinary _ (used_passes (λ f. is_ordinary f.kind) refl refl form immediate g) ∙ sym (ordinary _ g)
    by false e g = simp e

-- the form of a number from `first` on passes a test
pub number_passes : (test : Form → Bool) (first n : ℕ) → first ≤ n → test mmreg1·mmreg2/mem64 ≡ true
    → all_pass (λ form. ltb form.number first || test form) forms ≡ true → test (form_of n) ≡ true
number_passes test first n p z h =
    found_has (λ form. form) mmreg1·mmreg2/mem64 (λ f. test f ≡ true) (λ form. eqb n form.number) (λ form. ltb form.number first || test form) z one forms h
  where
    one : (form : Form) → eqb n form.number ≡ true → (ltb form.number first || test form) ≡ true → test form ≡ true
    one form e h =
        let past : ltb form.number first ≡ false = le-ltb form.number first (omega (arith, eqb-true n form.number e)) in
        simp past at h

-- no line has a second byte past 255
pub form_beyond : (second : ℕ) → 256 ≤ second → form_at second ≡ absent
unfolding form_at
form_beyond second p =
    found_has (λ x. x.form) absent (λ f. f ≡ absent) (λ x. eqb second x.second) (λ x. ltb x.second 256) refl
    (λ x e h. absurd (omega (arith, eqb-true second x.second e, ltb-true x.second 256 h))) lines refl

-- what holds of each number of a list, said one after the other, holds of one that is among them
abbrev Cases : (ℕ → Type 0) → List ℕ → Type 0 → Type 0
Cases P [] R = R
Cases P (x ∷ xs) R = P x → Cases P xs R

settled : (P : ℕ → Type 0) (xs : List ℕ) {R : Type 0} → R → Cases P xs R
settled P [] r = r
settled P (x ∷ xs) r = λ p. settled P xs r

pub among : (P : ℕ → Type 0) (n : ℕ) (xs : List ℕ) → is_among n xs ≡ true → Cases P xs (P n)
among P n [] e = absurd (false≢true e)
among P n (x ∷ xs) e = by (eqb n x) refl e (among P n xs)
  where
    by : (t : Bool) → eqb n x ≡ t → (t || is_among n xs) ≡ true → (is_among n xs ≡ true → Cases P xs (P n)) → P x → Cases P xs (P n)
    by true q e rest p = settled P xs (subst P (sym (eqb-true n x q)) p)
    by false q e rest p = rest e
