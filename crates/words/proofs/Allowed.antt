-- Any two answers that the contract of a public function allows at one input are equal, and so is what they leave in the lent buffer:
-- both are what the definition says.
use Rattle.std.specs.Prelude.{◌≡◌, refl}
use Rattle.basis.proofs.Names.{sym, ◌∙◌}
use contract.Lifetimes.{Lfts}
use borrow.Fn.Kinds.{Dens, res_t, ended_of}
use denote.Triple.Clauses.{AtExit}
use Rattle.words.proofs.load.Reads as load_reads
use Rattle.words.proofs.load.Kinds as load_kinds
use Rattle.words.proofs.store.Reads as store_reads
use Rattle.words.proofs.store.Kinds as store_kinds

pub load_one : (κs : Lfts 1) (a : Dens κs load_kinds.ps) (r₁ r₂ : (res_t load_kinds.r κs).Denot) (s₁ s₂ : AtExit (ended_of 1 load_kinds.ps load_kinds.r) κs)
    → load_reads.Post κs a r₁ s₁ → load_reads.Post κs a r₂ s₂ → r₁ ≡ r₂
load_one κs a r₁ r₂ s₁ s₂ p q = p ∙ sym q

pub store_one : (κs : Lfts 1) (a : Dens κs store_kinds.ps) (r₁ r₂ : (res_t store_kinds.r κs).Denot) (s₁ s₂ : AtExit (ended_of 1 store_kinds.ps store_kinds.r) κs)
    → store_reads.Post κs a r₁ s₁ → store_reads.Post κs a r₂ s₂ → (r₁ ≡ r₂) × (s₁.0.now ≡ s₂.0.now)
store_one κs a r₁ r₂ s₁ s₂ p q = (refl, p ∙ sym q)
