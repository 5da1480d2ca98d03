-- Any two answers that the contract of a public function allows at one input are equal: both are what the definition says.
use Rattle.std.specs.Prelude.{◌≡◌, Float}
use Rattle.basis.proofs.Names.{sym, ap₂, ◌∙◌}
use contract.Lifetimes.{Lfts}
use borrow.Fn.Kinds.{Dens, res_t, ended_of}
use denote.Triple.Clauses.{AtExit}
use Rattle.singles.proofs.maximum.Reads as maximum_reads
use Rattle.singles.proofs.maximum.Kinds as maximum_kinds
use Rattle.singles.proofs.greater.Reads as greater_reads
use Rattle.singles.proofs.greater.Kinds as greater_kinds
use Rattle.singles.proofs.to_words.Reads as to_words_reads
use Rattle.singles.proofs.to_words.Kinds as to_words_kinds
use Rattle.singles.proofs.from_words.Reads as from_words_reads
use Rattle.singles.proofs.from_words.Kinds as from_words_kinds
use Rattle.singles.proofs.swapped.Reads as swapped_reads
use Rattle.singles.proofs.swapped.Kinds as swapped_kinds
use Rattle.singles.proofs.halves.Singles.of.Reads as of_reads
use Rattle.singles.proofs.halves.Singles.of.Kinds as of_kinds

pub maximum_one : (κs : Lfts 0) (a : Dens κs maximum_kinds.ps) (r₁ r₂ : (res_t maximum_kinds.r κs).Denot)
    (s₁ s₂ : AtExit (ended_of 0 maximum_kinds.ps maximum_kinds.r) κs)
    → maximum_reads.Post κs a r₁ s₁ → maximum_reads.Post κs a r₂ s₂ → r₁ ≡ r₂
maximum_one κs a r₁ r₂ s₁ s₂ p q = p ∙ sym q

pub greater_one : (κs : Lfts 0) (a : Dens κs greater_kinds.ps) (r₁ r₂ : (res_t greater_kinds.r κs).Denot)
    (s₁ s₂ : AtExit (ended_of 0 greater_kinds.ps greater_kinds.r) κs)
    → greater_reads.Post κs a r₁ s₁ → greater_reads.Post κs a r₂ s₂ → r₁ ≡ r₂
greater_one κs a r₁ r₂ s₁ s₂ p q = p ∙ sym q

pub to_words_one : (κs : Lfts 0) (a : Dens κs to_words_kinds.ps) (r₁ r₂ : (res_t to_words_kinds.r κs).Denot)
    (s₁ s₂ : AtExit (ended_of 0 to_words_kinds.ps to_words_kinds.r) κs)
    → to_words_reads.Post κs a r₁ s₁ → to_words_reads.Post κs a r₂ s₂ → r₁ ≡ r₂
to_words_one κs a r₁ r₂ s₁ s₂ p q = p ∙ sym q

pub from_words_one : (κs : Lfts 0) (a : Dens κs from_words_kinds.ps) (r₁ r₂ : (res_t from_words_kinds.r κs).Denot)
    (s₁ s₂ : AtExit (ended_of 0 from_words_kinds.ps from_words_kinds.r) κs)
    → from_words_reads.Post κs a r₁ s₁ → from_words_reads.Post κs a r₂ s₂ → r₁ ≡ r₂
from_words_one κs a r₁ r₂ s₁ s₂ p q = p ∙ sym q

pub swapped_one : (κs : Lfts 0) (a : Dens κs swapped_kinds.ps) (r₁ r₂ : (res_t swapped_kinds.r κs).Denot)
    (s₁ s₂ : AtExit (ended_of 0 swapped_kinds.ps swapped_kinds.r) κs)
    → swapped_reads.Post κs a r₁ s₁ → swapped_reads.Post κs a r₂ s₂ → r₁ ≡ r₂
swapped_one κs a r₁ r₂ s₁ s₂ p q = p ∙ sym q

pub of_one : (κs : Lfts 0) (a : Dens κs of_kinds.ps) (r₁ r₂ : (res_t of_kinds.r κs).Denot)
    (s₁ s₂ : AtExit (ended_of 0 of_kinds.ps of_kinds.r) κs)
    → of_reads.Post κs a r₁ s₁ → of_reads.Post κs a r₂ s₂ → r₁ ≡ r₂
of_one κs a r₁ r₂ s₁ s₂ p q = ap₂ (λ (x y : Float). record { low = x; high = y }) (p.0 ∙ sym q.0) (p.1 ∙ sym q.1)
