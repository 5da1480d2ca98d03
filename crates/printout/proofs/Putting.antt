-- Texts that are put one after the other are one text: each starts where the one before it ends. And what remains of a text, put, gives the whole.
use Rattle.std.specs.Prelude.{◌≡◌, refl, List, [], ◌∷◌, ◌++◌, ℕ, suc, ◌+◌, ◌-◌, ◌≤◌, length, set, take, drop}
use Rattle.basis.specs.Names.{sets}
use Rattle.basis.proofs.Names.{sym, ap, ◌∙◌, add-zero, add-suc, suc-add, arith, rules, length-append, length-sets, set_comm, sets-eq, add-sub_cancel_left, append_assoc, drop-drop}
use Rattle.words.proofs.Laws.{sets-append}
use borrow.Rule.Slice.PartMut.{put_mid}
use Rattle.printout.specs.declared.put.Writer.{Writer}
use Rattle.printout.specs.inner.Room.{put, Fits, Puts}

put-append : (l xs ys : List ℕ) (at p : ℕ) → p ≡ at + length xs → put l at (xs ++ ys) ≡ put (put l at xs) p ys
unfolding put
put-append l xs ys at p e = sets-append xs ys l at ∙ ap (λ (q : ℕ). sets (sets l at xs) q ys) (sym e)

length-put : (l : List ℕ) (at : ℕ) (xs : List ℕ) → length (put l at xs) ≡ length l
unfolding put
length-put l at xs = length-sets l at xs

-- one character, and a part of the buffer that a word is copied to
pub puts_one : (l : List ℕ) (at x : ℕ) → set l at x ≡ put l at (x ∷ [])
unfolding put
puts_one l at x = refl

pub puts_part : (l word part : List ℕ) (at : ℕ) → at + length word ≤ length l → part ≡ word → put_mid at (at + length word - at) l part ≡ put l at word
unfolding put
puts_part l word part at room same = rw (same, sets-eq word l at room, add-sub_cancel_left at (length word), drop-drop (length word) at l) (sym (append_assoc (take at l) word (drop (at + length word) l)))

-- one text, then another
pub then : {xs ys : List ℕ} {u v w : Writer} → Puts xs u v → Puts ys v w → Puts (xs ++ ys) u w
then {xs} {ys} {u} {v} {w} one two = record {
  same = two.same ∙ one.same;
  ends = omega (arith, one.ends, two.ends, length-append xs ys);
  content =
      two.content ∙ ap (λ (k : List ℕ). put k v.written ys) one.content ∙ sym (put-append u.out.now xs ys u.written v.written one.ends);
}

-- where texts fit, so does the first, after it the second, and after both the third
pub fits_first : {xs : List ℕ} (ys : List ℕ) {u : Writer} → Fits (xs ++ ys) u → Fits xs u
fits_first {xs} ys {u} both = record { room = omega (arith, both.room, length-append xs ys) }

pub fits_next : {xs ys : List ℕ} {u v : Writer} → Puts xs u v → Fits (xs ++ ys) u → Fits ys v
fits_next {xs} {ys} {u} {v} one both = record {
  room = omega (arith, one.ends, both.room, length-append xs ys, simp length-put at (ap length one.content));
}

pub fits_third : {xs ys zs : List ℕ} {u v w : Writer} → Puts ys v w → Puts xs u v → Fits (xs ++ ys ++ zs) u → Fits zs w
fits_third two one all = fits_next (then one two) all

pub ruleset chain = (rules, puts_one, puts_part, fits_first, fits_next, fits_third, then)

-- a text by another name
pub fits_as : {xs ys : List ℕ} {u : Writer} → Fits xs u → xs ≡ ys → Fits ys u
fits_as fits same = rw same at fits

pub puts_as : {xs ys : List ℕ} {u v : Writer} → Puts ys u v → xs ≡ ys → Puts xs u v
puts_as puts same = rw same puts

-- what remains to put, put behind the rest, gives the whole
pub record Remaining (rest : List ℕ) (now : Writer) (whole : List ℕ) (start : Writer) : Type 0 where
  pub same : now.out.ghost_name ≡ start.out.ghost_name
  pub ends : now.written + length rest ≡ start.written + length whole
  pub content : put now.out.now now.written rest ≡ put start.out.now start.written whole

pub all-remaining : (start : Writer) (whole : List ℕ) → Remaining whole start whole start
all-remaining start whole = record { same = refl; ends = refl; content = refl }

pub less_remaining : {rest xs ys whole : List ℕ} {u v w : Writer} → Puts xs v w → Remaining rest v whole u → rest ≡ xs ++ ys → Remaining ys w whole u
less_remaining {rest} {xs} {ys} {whole} {u} {v} {w} one more e = record {
  same = one.same ∙ more.same;
  ends = omega (arith, more.ends, one.ends, simp length-append at (ap length e));
  content =
      ap (λ (k : List ℕ). put k w.written ys) one.content ∙ sym (put-append v.out.now xs ys v.written w.written one.ends)
      ∙ ap (put v.out.now v.written) (sym e) ∙ more.content;
}

pub none_remaining : {rest whole : List ℕ} {u v : Writer} → Remaining rest v whole u → rest ≡ [] → Puts whole u v
unfolding put
none_remaining {rest} {whole} {u} {v} remaining e = record {
  same = remaining.same;
  ends = omega (arith, remaining.ends, ap length e);
  content = ap (put v.out.now v.written) (sym e) ∙ remaining.content;
}

pub same_room : {rest whole : List ℕ} {u v : Writer} → Remaining rest v whole u → length v.out.now ≡ length u.out.now
same_room {rest} {whole} {u} {v} remaining =
    sym (length-put v.out.now v.written rest) ∙ ap length remaining.content ∙ length-put u.out.now u.written whole

pub fits-remaining : {rest xs whole : List ℕ} (ys : List ℕ) {u v : Writer} → Remaining rest v whole u → rest ≡ xs ++ ys → Fits whole u → Fits xs v
fits-remaining {rest} {xs} {whole} ys {u} {v} remaining e fits = record {
  room = omega (arith, remaining.ends, fits.room, simp length-append at (ap length e), same_room remaining);
}

pub ruleset turning = (rules, all-remaining, less_remaining, none_remaining, same_room, fits-remaining)

-- a character after a text, put before it
sets_after : (l xs : List ℕ) (at p x : ℕ) → p ≡ at + length xs → sets (set l p x) at xs ≡ sets l at (xs ++ (x ∷ []))
sets_after l [] at p x e = ap (λ (q : ℕ). set l q x) (e ∙ add-zero at)
sets_after l (y ∷ ys) at p x e =
    ap (λ (k : List ℕ). sets k (suc at) ys) (set_comm l p at x y (λ (same : p ≡ at). omega arith))
    ∙ sets_after (set l at y) ys (suc at) p x (e ∙ add-suc at (length ys) ∙ sym (suc-add at (length ys)))

pub put_after : (l xs : List ℕ) (at p x : ℕ) → p ≡ at + length xs → put (set l p x) at xs ≡ put l at (xs ++ (x ∷ []))
unfolding put
put_after l xs at p x e = sets_after l xs at p x e
