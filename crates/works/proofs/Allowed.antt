-- Any two answers that a contract allows at one input are equal: both are what the definition says; and so is what they leave in what is lent.
use Rattle.std.specs.Prelude.{◌≡◌, Option, Some, None, Result, Ok, Err}
use Rattle.basis.proofs.Names.{sym, ap, ◌∙◌}
use contract.Lifetimes.{Lfts}
use borrow.Fn.Kinds.{Dens, res_t, ended_of}
use denote.Triple.Clauses.{AtExit}
use Rattle.refusals.proofs.Distinct.{distinct}
use Rattle.works.proofs.Numbered.{numbered}
use Rattle.refusals.specs.declared.Refusal.{Refusal}
use Rattle.works.specs.Answers.{paper_of}
use Rattle.works.specs.Bars.{number_in}
use Rattle.works.specs.Works.{Left}
use Rattle.works.proofs.work_of.Reads as work_of_reads
use Rattle.works.proofs.work_of.Kinds as work_of_kinds
use Rattle.works.proofs.refused.Reads as refused_reads
use Rattle.works.proofs.refused.Kinds as refused_kinds
use Rattle.works.proofs.bars.barred.Reads as barred_reads
use Rattle.works.proofs.bars.barred.Kinds as barred_kinds
use Rattle.works.proofs.bars.table.Reads as table_reads
use Rattle.works.proofs.bars.table.Kinds as table_kinds
use Rattle.works.proofs.inside.is_inside.Reads as is_inside_reads
use Rattle.works.proofs.inside.is_inside.Kinds as is_inside_kinds
use Rattle.works.proofs.jumps.target_of.Reads as target_of_reads
use Rattle.works.proofs.jumps.target_of.Kinds as target_of_kinds
use Rattle.works.proofs.misses.miss_of.Reads as miss_of_reads
use Rattle.works.proofs.misses.miss_of.Kinds as miss_of_kinds
use Rattle.works.proofs.performing.perform.Reads as perform_reads
use Rattle.works.proofs.performing.perform.Kinds as perform_kinds
use Rattle.works.proofs.siblings.of_suffix.Reads as of_suffix_reads
use Rattle.works.proofs.siblings.of_suffix.Kinds as of_suffix_kinds
use Rattle.works.proofs.siblings.suffixed.Reads as suffixed_reads
use Rattle.works.proofs.siblings.suffixed.Kinds as suffixed_kinds
use Rattle.works.proofs.signs.extended.Reads as extended_reads
use Rattle.works.proofs.signs.extended.Kinds as extended_kinds

pub work_of_one : (κs : Lfts 0) (a : Dens κs work_of_kinds.ps) (r₁ r₂ : (res_t work_of_kinds.r κs).Denot)
    (s₁ s₂ : AtExit (ended_of 0 work_of_kinds.ps work_of_kinds.r) κs)
    → work_of_reads.Post κs a r₁ s₁ → work_of_reads.Post κs a r₂ s₂ → r₁ ≡ r₂
work_of_one κs a r₁ r₂ s₁ s₂ p q = p ∙ sym q

pub refused_one : (κs : Lfts 0) (a : Dens κs refused_kinds.ps) (r₁ r₂ : (res_t refused_kinds.r κs).Denot)
    (s₁ s₂ : AtExit (ended_of 0 refused_kinds.ps refused_kinds.r) κs)
    → refused_reads.Post κs a r₁ s₁ → refused_reads.Post κs a r₂ s₂ → r₁ ≡ r₂
refused_one κs a r₁ r₂ s₁ s₂ p q = p ∙ sym q

-- no refusal has number 0
bar_one : (x y : Option Refusal) → number_in x ≡ number_in y → x ≡ y
bar_one None None e = cc
bar_one None (Some s) e = absurd (numbered s (sym e))
bar_one (Some r) None e = absurd (numbered r e)
bar_one (Some r) (Some s) e = ap Some (distinct r s e)

pub barred_one : (κs : Lfts 0) (a : Dens κs barred_kinds.ps) (r₁ r₂ : (res_t barred_kinds.r κs).Denot)
    (s₁ s₂ : AtExit (ended_of 0 barred_kinds.ps barred_kinds.r) κs)
    → barred_reads.Post κs a r₁ s₁ → barred_reads.Post κs a r₂ s₂ → r₁ ≡ r₂
barred_one κs a r₁ r₂ s₁ s₂ p q = bar_one r₁ r₂ (p ∙ sym q)

pub table_one : (κs : Lfts 0) (a : Dens κs table_kinds.ps) (r₁ r₂ : (res_t table_kinds.r κs).Denot)
    (s₁ s₂ : AtExit (ended_of 0 table_kinds.ps table_kinds.r) κs)
    → table_reads.Post κs a r₁ s₁ → table_reads.Post κs a r₂ s₂ → r₁ ≡ r₂
table_one κs a r₁ r₂ s₁ s₂ p q = p ∙ sym q

pub is_inside_one : (κs : Lfts 0) (a : Dens κs is_inside_kinds.ps) (r₁ r₂ : (res_t is_inside_kinds.r κs).Denot)
    (s₁ s₂ : AtExit (ended_of 0 is_inside_kinds.ps is_inside_kinds.r) κs)
    → is_inside_reads.Post κs a r₁ s₁ → is_inside_reads.Post κs a r₂ s₂ → r₁ ≡ r₂
is_inside_one κs a r₁ r₂ s₁ s₂ p q = p ∙ sym q

-- the paper's answer gives back the code's
pub answer_one : {A : Type 0} (x y : Result A Refusal) → paper_of x ≡ paper_of y → x ≡ y
answer_one (Ok a) (Ok b) e = cc
answer_one (Ok a) (Err s) e = cc
answer_one (Err r) (Ok b) e = cc
answer_one (Err r) (Err s) e = ap Err (distinct r s (cc))

pub target_of_one : (κs : Lfts 0) (a : Dens κs target_of_kinds.ps) (r₁ r₂ : (res_t target_of_kinds.r κs).Denot)
    (s₁ s₂ : AtExit (ended_of 0 target_of_kinds.ps target_of_kinds.r) κs)
    → target_of_reads.Post κs a r₁ s₁ → target_of_reads.Post κs a r₂ s₂ → r₁ ≡ r₂
target_of_one κs a r₁ r₂ s₁ s₂ p q = answer_one r₁ r₂ (p ∙ sym q)

pub miss_of_one : (κs : Lfts 0) (a : Dens κs miss_of_kinds.ps) (r₁ r₂ : (res_t miss_of_kinds.r κs).Denot)
    (s₁ s₂ : AtExit (ended_of 0 miss_of_kinds.ps miss_of_kinds.r) κs)
    → miss_of_reads.Post κs a r₁ s₁ → miss_of_reads.Post κs a r₂ s₂ → r₁ ≡ r₂
miss_of_one κs a r₁ r₂ s₁ s₂ p q = distinct r₁ r₂ (p ∙ sym q)

pub perform_one : (κs : Lfts 3) (a : Dens κs perform_kinds.ps) (r₁ r₂ : (res_t perform_kinds.r κs).Denot)
    (s₁ s₂ : AtExit (ended_of 3 perform_kinds.ps perform_kinds.r) κs)
    → perform_reads.Post κs a r₁ s₁ → perform_reads.Post κs a r₂ s₂
    → (r₁ ≡ r₂) × ((s₁.1.0.now ≡ s₂.1.0.now) × ((s₁.1.1.0.now ≡ s₂.1.1.0.now) × (s₁.1.1.1.1.1.0.now ≡ s₂.1.1.1.1.1.0.now)))
perform_one κs a r₁ r₂ s₁ s₂ p q =
    let same = p ∙ sym q in
    (ap (λ (x : Left). x.answer) same, (ap (λ (x : Left). x.mmx) same, (ap (λ (x : Left). x.integers) same, ap (λ (x : Left). x.memory) same)))

pub of_suffix_one : (κs : Lfts 0) (a : Dens κs of_suffix_kinds.ps) (r₁ r₂ : (res_t of_suffix_kinds.r κs).Denot)
    (s₁ s₂ : AtExit (ended_of 0 of_suffix_kinds.ps of_suffix_kinds.r) κs)
    → of_suffix_reads.Post κs a r₁ s₁ → of_suffix_reads.Post κs a r₂ s₂ → r₁ ≡ r₂
of_suffix_one κs a r₁ r₂ s₁ s₂ p q = p ∙ sym q

pub suffixed_one : (κs : Lfts 0) (a : Dens κs suffixed_kinds.ps) (r₁ r₂ : (res_t suffixed_kinds.r κs).Denot)
    (s₁ s₂ : AtExit (ended_of 0 suffixed_kinds.ps suffixed_kinds.r) κs)
    → suffixed_reads.Post κs a r₁ s₁ → suffixed_reads.Post κs a r₂ s₂ → r₁ ≡ r₂
suffixed_one κs a r₁ r₂ s₁ s₂ p q = answer_one r₁ r₂ (p ∙ sym q)

pub extended_one : (κs : Lfts 0) (a : Dens κs extended_kinds.ps) (r₁ r₂ : (res_t extended_kinds.r κs).Denot)
    (s₁ s₂ : AtExit (ended_of 0 extended_kinds.ps extended_kinds.r) κs)
    → extended_reads.Post κs a r₁ s₁ → extended_reads.Post κs a r₂ s₂ → r₁ ≡ r₂
extended_one κs a r₁ r₂ s₁ s₂ p q = p ∙ sym q
