-- What the contracts of the public functions leave open of an answer, for an input that says what it has: of `read_full` the count alone, and of
-- `read_all` nothing, where no read failed.
use Rattle.std.specs.Prelude.{◌≡◌, refl, ◌+◌, ◌≤◌, ◌<◌, List, ℕ, Bool, true, false, ltb, length, take, Option, None, Some, Ok}
use Rattle.std.specs.Io.KnownBytes.{Consumes, IsAtEnd}
use contract.Lifetimes.{Lfts}
use borrow.Fn.Kinds.{Dens, ended_of}
use denote.RattleType.{RattleType}
use denote.Param.Laws.{Laws}
use denote.Triple.Clauses.{AtExit}
use mir.Syntax.{Dict}
use Rattle.std.specs.declared.io.traits.Read.{Ghosts}
use Rattle.basis.proofs.Names.{ap, ◌∙◌, sym, subst, arith, length-append, length-take-le, take-append-le, take_all, ltb-true, ltb-false}
use Rattle.inputs.proofs.read_all.Reads as all_reads
use Rattle.inputs.proofs.read_all.Kinds as all_kinds
use Rattle.inputs.proofs.read_full.Reads as full_reads
use Rattle.inputs.proofs.read_full.Kinds as full_kinds

-- of two counts of one input, the bytes of the smaller are the first of the other's
first_of : (whole : List ℕ) (l₁ l₂ : Option (List ℕ)) (b₁ b₂ : List ℕ) (n₁ n₂ : ℕ) → n₁ ≤ n₂ → n₁ ≤ length b₁ → n₂ ≤ length b₂
    → Consumes (Some whole) l₁ (take n₁ b₁) → Consumes (Some whole) l₂ (take n₂ b₂) → take n₁ b₁ ≡ take n₁ (take n₂ b₂)
first_of whole None l₂ b₁ b₂ n₁ n₂ order w₁ w₂ e₁ e₂ = absurd e₁
first_of whole (Some left₁) None b₁ b₂ n₁ n₂ order w₁ w₂ e₁ e₂ = absurd e₂
first_of whole (Some left₁) (Some left₂) b₁ b₂ n₁ n₂ order w₁ w₂ e₁ e₂ =
    let c₁ : length (take n₁ b₁) ≡ n₁ = length-take-le n₁ b₁ w₁ in
    let c₂ : length (take n₂ b₂) ≡ n₂ = length-take-le n₂ b₂ w₂ in
    let own : take n₁ (take n₁ b₁) ≡ take n₁ b₁ = take_all n₁ (take n₁ b₁) (omega (arith, c₁)) in
    sym own ∙ sym (take-append-le n₁ (take n₁ b₁) left₁ (omega (arith, c₁))) ∙ ap (λ (l : List ℕ). take n₁ l) (sym e₁ ∙ e₂)
    ∙ take-append-le n₁ (take n₂ b₂) left₂ (omega (arith, c₂, order))

-- of buffers of one length, one that is not full where the input has no more has as many bytes as the other
no_fewer : (whole : List ℕ) (l₁ l₂ : Option (List ℕ)) (b₁ b₂ : List ℕ) (n₁ n₂ : ℕ) → length b₁ ≡ length b₂ → n₁ ≤ length b₁ → n₂ ≤ length b₂
    → Consumes (Some whole) l₁ (take n₁ b₁) → Consumes (Some whole) l₂ (take n₂ b₂) → (n₁ < length b₁ → IsAtEnd l₁) → n₂ ≤ n₁
no_fewer whole None l₂ b₁ b₂ n₁ n₂ room w₁ w₂ e₁ e₂ end = absurd e₁
no_fewer whole (Some left₁) None b₁ b₂ n₁ n₂ room w₁ w₂ e₁ e₂ end = absurd e₂
no_fewer whole (Some left₁) (Some left₂) b₁ b₂ n₁ n₂ room w₁ w₂ e₁ e₂ end = by (ltb n₁ (length b₁)) refl
  where
    c₁ : length (take n₁ b₁) ≡ n₁
    c₁ = length-take-le n₁ b₁ w₁

    c₂ : length (take n₂ b₂) ≡ n₂
    c₂ = length-take-le n₂ b₂ w₂

    all₁ : length whole ≡ length (take n₁ b₁) + length left₁
    all₁ = ap length e₁ ∙ length-append (take n₁ b₁) left₁

    all₂ : length whole ≡ length (take n₂ b₂) + length left₂
    all₂ = ap length e₂ ∙ length-append (take n₂ b₂) left₂

    by : (t : Bool) → ltb n₁ (length b₁) ≡ t → n₂ ≤ n₁
    by true h =
        let none : length left₁ ≡ 0 = ap length (end (ltb-true n₁ (length b₁) h)) in
        omega (arith, c₁, c₂, all₁, all₂)
    by false h = omega (arith, ltb-false n₁ (length b₁) h)

-- Two counts that `read_full` may answer: what the smaller counts are the first bytes of what the other counts.
pub read_full_first : (T : RattleType) (L : Laws T) (G : Ghosts T.Denot) (D : Dict) (κs : Lfts 3) (a : Dens κs (full_kinds.ps T L)) (n₁ n₂ : ℕ)
    (s₁ s₂ : AtExit (ended_of 3 (full_kinds.ps T L) (full_kinds.r T L)) κs) (whole : List ℕ) → G.remaining a.0.now ≡ Some whole → n₁ ≤ n₂
    → full_reads.Post T L G D κs a n₁ s₁ → full_reads.Post T L G D κs a n₂ s₂ → take n₁ s₁.1.0.now ≡ take n₁ (take n₂ s₂.1.0.now)
read_full_first T L G D κs a n₁ n₂ s₁ s₂ whole has order p q =
    let e₁ = subst (λ (o : Option (List ℕ)). Consumes o (G.remaining s₁.0.now) (take n₁ s₁.1.0.now)) has p.1 in
    let e₂ = subst (λ (o : Option (List ℕ)). Consumes o (G.remaining s₂.0.now) (take n₂ s₂.1.0.now)) has q.1 in
    first_of whole _ _ _ _ n₁ n₂ order p.0 q.0 e₁ e₂

-- Two counts that `read_all` may answer, with buffers of one length, are one, and so are the bytes that they count.
pub read_all_one : (T : RattleType) (L : Laws T) (G : Ghosts T.Denot) (D : Dict) (κs : Lfts 3) (a : Dens κs (all_kinds.ps T L)) (n₁ n₂ : ℕ)
    (s₁ s₂ : AtExit (ended_of 3 (all_kinds.ps T L) (all_kinds.r T L)) κs) (whole : List ℕ) → G.remaining a.0.now ≡ Some whole
    → length s₁.1.0.now ≡ length s₂.1.0.now → all_reads.Post T L G D κs a (Ok n₁) s₁ → all_reads.Post T L G D κs a (Ok n₂) s₂
    → (n₁ ≡ n₂) × (take n₁ s₁.1.0.now ≡ take n₂ s₂.1.0.now)
read_all_one T L G D κs a n₁ n₂ s₁ s₂ whole has room p q =
    let e₁ = subst (λ (o : Option (List ℕ)). Consumes o (G.remaining s₁.0.now) (take n₁ s₁.1.0.now)) has p.1.0 in
    let e₂ = subst (λ (o : Option (List ℕ)). Consumes o (G.remaining s₂.0.now) (take n₂ s₂.1.0.now)) has q.1.0 in
    let second : n₂ ≤ n₁ = no_fewer whole _ _ _ _ n₁ n₂ room p.0 q.0 e₁ e₂ p.1.1 in
    let first : n₁ ≤ n₂ = no_fewer whole _ _ _ _ n₂ n₁ (sym room) q.0 p.0 e₂ e₁ q.1.1 in
    let counted : length (take n₂ s₂.1.0.now) ≡ n₂ = length-take-le n₂ s₂.1.0.now q.0 in (
      omega (arith, first, second),
      first_of whole _ _ _ _ n₁ n₂ first p.0 q.0 e₁ e₂ ∙ take_all n₁ (take n₂ s₂.1.0.now) (omega (arith, counted, second)),
    )
