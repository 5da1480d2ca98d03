-- Any two answers that the contract of the public function allows at one input are equal: both are the number.
use Rattle.std.specs.Prelude.{◌≡◌}
use Rattle.basis.proofs.Names.{sym, ◌∙◌}
use contract.Lifetimes.{Lfts}
use borrow.Fn.Kinds.{Dens, res_t, ended_of}
use denote.Triple.Clauses.{AtExit}
use Rattle.refusals.proofs.Refusal.number.Reads as number_reads
use Rattle.refusals.proofs.Refusal.number.Kinds as number_kinds

pub number_one : (κs : Lfts 0) (a : Dens κs number_kinds.ps) (r₁ r₂ : (res_t number_kinds.r κs).Denot)
    (s₁ s₂ : AtExit (ended_of 0 number_kinds.ps number_kinds.r) κs)
    → number_reads.Post κs a r₁ s₁ → number_reads.Post κs a r₂ s₂ → r₁ ≡ r₂
number_one κs a r₁ r₂ s₁ s₂ p q = p ∙ sym q
