-- When two instructions meet: meeting is symmetric, prefetches and SFENCE meet none, EMMS meets every other, and two others meet exactly where one
-- writes a place that the other reads or writes; so any two of ADD and DEC meet.
use Rattle.std.specs.Prelude.{◌≡◌, refl, ◌⊎◌, Bool, true, false, cond, ◌&&◌, [], ◌∷◌, ℕ, eqb, ◌↔◌}
use Rattle.basis.specs.Names.{Memᴰ as In}
use Rattle.basis.proofs.Names.{sym, ap, ap₂, ◌∙◌, subst, subst₂, inl, inr, false≢true, Memᴰ-head as here, Memᴰ-tail as later, Memᴰ-eq_of_singleton as eq_of_singleton, Memᴰ-not_nil as not-nil, eqb-true}
use Rattle.words.proofs.Laws.{and_both}
use Rattle.reorder.specs.Result.{Result, done, refused}
use Rattle.reorder.specs.Footprint as places
use Rattle.reorder.proofs.Meeting.{meets_symmetric}
use Rattle.codec.specs.Forms.{is_among}
use Rattle.codec.specs.Opcodes.{escape}
use Rattle.codec.specs.declared.Instruction.{Instruction}
use Rattle.codec.specs.declared.Kind.{Kind}
use Rattle.codec.specs.declared.Kind.TheVariants.{Ordinary, Emms, Silent, Loop}
use Rattle.manual.specs.State.{State}
use Rattle.manual.specs.Places.{Place, mmx, integer, byte, zero_mark}
use Rattle.manual.specs.Kinds.{kinds_meet, KindsMeet}
use Rattle.manual.specs.Instructions.{footprint}
use Rattle.manual.specs.Footprints.{Meets}
use Rattle.manual.proofs.Loops.{touching, add_touches, dec_touches, jump_touches}
use Rattle.manual.proofs.ZeroMark.{Counts, add, dec}
use Rattle.manual.proofs.Uses.{is_emms, silent_bytes, is_silent, is_loop_byte, kind_at, footprint_kind, silent_passes}

kinds_turn : (a b : Kind) → KindsMeet a b → KindsMeet b a
kinds_turn Ordinary Ordinary e = e
kinds_turn Ordinary Emms e = refl
kinds_turn Ordinary Silent e = e
kinds_turn Ordinary Loop e = e
kinds_turn Emms Ordinary e = refl
kinds_turn Emms Emms e = refl
kinds_turn Emms Silent e = e
kinds_turn Emms Loop e = refl
kinds_turn Silent b e = absurd (false≢true e)
kinds_turn Loop Ordinary e = e
kinds_turn Loop Emms e = refl
kinds_turn Loop Silent e = e
kinds_turn Loop Loop e = e

pub meeting_symmetric : (f g : Result (places.Footprint Place Kind)) → Meets f g → Meets g f
meeting_symmetric f g m = meets_symmetric KindsMeet kinds_turn f g m

-- the first is EMMS, and the second no prefetch or SFENCE
abbrev pub Empties : Instruction → Instruction → Type 0
Empties i j = (is_emms i.first i.second ≡ true) × (is_silent j.first j.second ≡ false)

-- the kinds of two instructions meet exactly where one of them is EMMS, and the other no prefetch or SFENCE
kinds_exactly : (i j : Instruction) → KindsMeet (kind_at i.first i.second) (kind_at j.first j.second) ↔ (Empties i j ⊎ Empties j i)
kinds_exactly i j = (from (emms i) (silent i) (is_loop_byte i.first) (emms j) (silent j) (is_loop_byte j.first) refl refl refl refl, to)
  where
    emms : Instruction → Bool
    emms k = is_emms k.first k.second

    silent : Instruction → Bool
    silent k = is_silent k.first k.second

    from : (a b l c d m : Bool) → emms i ≡ a → silent i ≡ b → emms j ≡ c → silent j ≡ d
        → KindsMeet (cond a Emms (cond b Silent (cond l Loop Ordinary))) (cond c Emms (cond d Silent (cond m Loop Ordinary))) → Empties i j ⊎ Empties j i
    from true b l c false m ea eb ec ed h = inl (ea, ed)
    from true b l true true m ea eb ec ed h =
        let second : j.second ≡ 0x77 = eqb-true j.second 0x77 (and_both (eqb j.first escape) _ ec).1 in
        absurd (false≢true (sym (ap (λ (n : ℕ). is_among n silent_bytes) second) ∙ (and_both (eqb j.first escape) _ ed).1))
    from true b l false true m ea eb ec ed h = absurd (false≢true h)
    from false true l c d m ea eb ec ed h = absurd (false≢true h)
    from false false l true d m ea eb ec ed h = inr (ec, eb)
    from false false true false true m ea eb ec ed h = absurd (false≢true h)
    from false false true false false true ea eb ec ed h = absurd (false≢true h)
    from false false true false false false ea eb ec ed h = absurd (false≢true h)
    from false false false false true m ea eb ec ed h = absurd (false≢true h)
    from false false false false false true ea eb ec ed h = absurd (false≢true h)
    from false false false false false false ea eb ec ed h = absurd (false≢true h)

    one : (i j : Instruction) → Empties i j → KindsMeet (kind_at i.first i.second) (kind_at j.first j.second)
    one i j (e, n) = simp (e, n) (by (emms j) (is_loop_byte j.first))
      where
        by : (t u : Bool) → kinds_meet Emms (cond t Emms (cond u Loop Ordinary)) ≡ true
        by true u = refl
        by false true = refl
        by false false = refl

    to : Empties i j ⊎ Empties j i → KindsMeet (kind_at i.first i.second) (kind_at j.first j.second)
    to (inl h) = one i j h
    to (inr h) = kinds_turn (kind_at j.first j.second) (kind_at i.first i.second) (one j i h)

-- "Two instructions meet if one writes a place that the other reads or writes, or if either is EMMS", and the other no prefetch or SFENCE; no others
-- do
pub meets_exactly : (floor : ℕ) (i j : Instruction) (s t : State) (f g : places.Footprint Place Kind) → footprint floor i s ≡ done f → footprint floor j t ≡ done g
    → Meets (footprint floor i s) (footprint floor j t) ↔ ((Empties i j ⊎ Empties j i) ⊎ places.Share f g)
meets_exactly floor i j s t f g ef eg =
    subst₂ (λ x y. Meets x y ↔ ((Empties i j ⊎ Empties j i) ⊎ places.Share f g)) (sym ef) (sym eg) (from, to)
  where
    same : KindsMeet f.kind g.kind ≡ KindsMeet (kind_at i.first i.second) (kind_at j.first j.second)
    same = ap₂ KindsMeet (footprint_kind floor i s f ef) (footprint_kind floor j t g eg)

    from : Meets (done f) (done g) → (Empties i j ⊎ Empties j i) ⊎ places.Share f g
    from (inl h) = inl ((kinds_exactly i j).0 (subst (λ X. X) same h))
    from (inr h) = inr h

    to : (Empties i j ⊎ Empties j i) ⊎ places.Share f g → Meets (done f) (done g)
    to (inl h) = inl (subst (λ X. X) (sym same) ((kinds_exactly i j).1 h))
    to (inr h) = inr h

-- a prefetch or SFENCE meets nothing, EMMS included
pub silent_meets_none : (floor : ℕ) (i : Instruction) (s : State) (x : Result (places.Footprint Place Kind)) → is_silent i.first i.second ≡ true
    → ¬ Meets (footprint floor i s) x
silent_meets_none floor i s x h m = by x (subst (λ y. Meets y x) (silent_passes floor i s h).1 m)
  where
    by : (x : Result (places.Footprint Place Kind)) → Meets (done (record { reads = []; writes = []; kind = Silent })) x → ⊥
    by (refused n) m = m
    by (done g) (inl e) = false≢true e
    by (done g) (inr (inl (p, w, r))) = not-nil w
    by (done g) (inr (inr (p, w, inl r))) = not-nil r
    by (done g) (inr (inr (p, w, inr r))) = not-nil r

-- EMMS meets those of loops
pub emms_meets_loops : (floor : ℕ) (i j : Instruction) (s t : State) (f g : places.Footprint Place Kind) → is_emms i.first i.second ≡ true → is_loop_byte j.first ≡ true
    → footprint floor i s ≡ done f → footprint floor j t ≡ done g → Meets (footprint floor i s) (footprint floor j t)
emms_meets_loops floor i j s t f g emms loops ef eg = (meets_exactly floor i j s t f g ef eg).1 (inl (inl (emms, by (eqb j.first escape) refl)))
  where
    by : (t : Bool) → eqb j.first escape ≡ t → (t && is_among j.second silent_bytes) ≡ false
    by true e = absurd (false≢true (sym (ap is_loop_byte (eqb-true j.first escape e)) ∙ loops))
    by false e = refl

-- ADD and DEC, of whatever registers, meet: both write the zero mark, which a jump reads

counting : (floor : ℕ) (i : Instruction) (s : State) (k : ℕ) → Counts i k → footprint floor i s ≡ done (touching (integer k ∷ []) (integer k ∷ zero_mark ∷ []))
counting floor i s k (add first) = add_touches floor i s first
counting floor i s k (dec m register first) = dec_touches floor i s m register first

pub counts_meet : (floor : ℕ) (i j : Instruction) (s t : State) (k m : ℕ) → Counts i k → Counts j m → Meets (footprint floor i s) (footprint floor j t)
counts_meet floor i j s t k m a b =
    subst₂ Meets (sym (counting floor i s k a)) (sym (counting floor j t m b)) (inr (inl (zero_mark, later (here refl), inr (later (here refl)))))

pub jump_meets_counts : (floor : ℕ) (i j : Instruction) (s t : State) (k : ℕ) → i.first ≡ 0x75 → Counts j k → Meets (footprint floor i s) (footprint floor j t)
jump_meets_counts floor i j s t k first b =
    subst₂ Meets (sym (jump_touches floor i s first)) (sym (counting floor j t k b)) (inr (inr (zero_mark, later (here refl), inl (here refl))))

-- two jumps do not meet: neither writes
pub jumps_apart : (floor : ℕ) (i j : Instruction) (s t : State) → i.first ≡ 0x75 → j.first ≡ 0x75 → ¬ Meets (footprint floor i s) (footprint floor j t)
jumps_apart floor i j s t a b m = by (subst₂ Meets (jump_touches floor i s a) (jump_touches floor j t b) m)
  where
    by : Meets (done (touching (zero_mark ∷ []) [])) (done (touching (zero_mark ∷ []) [])) → ⊥
    by (inl e) = false≢true e
    by (inr (inl (p, w, r))) = not-nil w
    by (inr (inr (p, w, r))) = not-nil w

-- two computations on different registers do not meet

-- the footprint of an instruction that computes register k from itself and register j
abbrev pub on_registers : ℕ → ℕ → places.Footprint Place Kind
on_registers k j = record { reads = mmx k ∷ mmx j ∷ []; writes = mmx k ∷ []; kind = Ordinary }

number_of : Place → ℕ
number_of (mmx k) = k
number_of (integer k) = 0
number_of (byte a) = 0
number_of zero_mark = 0

among : (p : Place) (k j n : ℕ) → ¬ (n ≡ k) → ¬ (n ≡ j) → In p (mmx n ∷ []) → In p (mmx k ∷ mmx j ∷ []) → ⊥
unfolding number_of
among p k j n other other' m (later (later h)) = elim h [ ]
among p k j n other other' m (here e) = other (ap number_of (sym (eq_of_singleton m) ∙ e))
among p k j n other other' m (later (here e)) = other' (ap number_of (sym (eq_of_singleton m) ∙ e))

pub apart : (k j m n : ℕ) → ¬ (k ≡ m) → ¬ (k ≡ n) → ¬ (m ≡ j) → ¬ Meets (done (on_registers k j)) (done (on_registers m n))
apart k j m n km kn mj (inl e) = false≢true e
apart k j m n km kn mj (inr (inl (p, w, inl r))) = among p m n k km kn w r
apart k j m n km kn mj (inr (inl (p, w, inr w'))) = among p m m k km km w (later w')
apart k j m n km kn mj (inr (inr (p, w, inl r))) = among p k j m (λ e. km (sym e)) mj w r
apart k j m n km kn mj (inr (inr (p, w, inr w'))) = among p k k m (λ e. km (sym e)) (λ e. km (sym e)) w (later w')
