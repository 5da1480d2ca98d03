-- Any two answers that the contract of a public function allows at one input are equal: both are what the definition says. Of a part of the
-- file it is the part's bytes that are equal.
use Rattle.std.specs.Prelude.{◌≡◌, ℕ, Result, Ok, Err}
use Rattle.basis.proofs.Names.{sym, ap, ◌∙◌}
use contract.Lifetimes.{Lfts}
use borrow.Fn.Kinds.{Dens, res_t, ended_of}
use denote.Triple.Clauses.{AtExit}
use Rattle.refusals.specs.declared.Refusal.{Refusal}
use Rattle.refusals.specs.Numbers.{number_of}
use Rattle.refusals.proofs.Distinct.{distinct}
use Rattle.pagefile.specs.Parsing.{paper_of_page}
use Rattle.pagefile.proofs.read.Reads as read_reads
use Rattle.pagefile.proofs.read.Kinds as read_kinds
use Rattle.pagefile.proofs.code.Reads as code_Reads
use Rattle.pagefile.proofs.code.Kinds as code_kinds
use Rattle.pagefile.proofs.memory.Reads as memory_reads
use Rattle.pagefile.proofs.memory.Kinds as memory_kinds
use Rattle.pagefile.proofs.mmx_registers.Reads as mmx_reads
use Rattle.pagefile.proofs.mmx_registers.Kinds as mmx_kinds
use Rattle.pagefile.proofs.integer_registers.Reads as integers_reads
use Rattle.pagefile.proofs.integer_registers.Kinds as integers_kinds

-- the paper's answers of two cases are equal only where the cases are
same : (p q : Result ℕ Refusal) → paper_of_page p ≡ paper_of_page q → p ≡ q
same (Ok m) (Ok n) e = cc
same (Ok m) (Err r) e = cc
same (Err r) (Ok n) e = cc
same (Err r) (Err s) e = let numbers : number_of r ≡ number_of s = cc in ap (λ (x : Refusal). Err x) (distinct r s numbers)

pub read_one : (κs : Lfts 1) (a : Dens κs read_kinds.ps) (r₁ r₂ : (res_t read_kinds.r κs).Denot)
    (s₁ s₂ : AtExit (ended_of 1 read_kinds.ps read_kinds.r) κs)
    → read_reads.Post κs a r₁ s₁ → read_reads.Post κs a r₂ s₂ → r₁ ≡ r₂
read_one κs a r₁ r₂ s₁ s₂ p q = same r₁ r₂ (p ∙ sym q)

pub code_one : (κs : Lfts 1) (a : Dens κs code_kinds.ps) (r₁ r₂ : (res_t code_kinds.r κs).Denot)
    (s₁ s₂ : AtExit (ended_of 1 code_kinds.ps code_kinds.r) κs)
    → code_Reads.Post κs a r₁ s₁ → code_Reads.Post κs a r₂ s₂ → r₁.now ≡ r₂.now
code_one κs a r₁ r₂ s₁ s₂ p q = p ∙ sym q

pub memory_one : (κs : Lfts 1) (a : Dens κs memory_kinds.ps) (r₁ r₂ : (res_t memory_kinds.r κs).Denot)
    (s₁ s₂ : AtExit (ended_of 1 memory_kinds.ps memory_kinds.r) κs)
    → memory_reads.Post κs a r₁ s₁ → memory_reads.Post κs a r₂ s₂ → r₁.now ≡ r₂.now
memory_one κs a r₁ r₂ s₁ s₂ p q = p ∙ sym q

pub mmx_registers_one : (κs : Lfts 1) (a : Dens κs mmx_kinds.ps) (r₁ r₂ : (res_t mmx_kinds.r κs).Denot)
    (s₁ s₂ : AtExit (ended_of 1 mmx_kinds.ps mmx_kinds.r) κs)
    → mmx_reads.Post κs a r₁ s₁ → mmx_reads.Post κs a r₂ s₂ → r₁.now ≡ r₂.now
mmx_registers_one κs a r₁ r₂ s₁ s₂ p q = p ∙ sym q

pub integer_registers_one : (κs : Lfts 1) (a : Dens κs integers_kinds.ps) (r₁ r₂ : (res_t integers_kinds.r κs).Denot)
    (s₁ s₂ : AtExit (ended_of 1 integers_kinds.ps integers_kinds.r) κs)
    → integers_reads.Post κs a r₁ s₁ → integers_reads.Post κs a r₂ s₂ → r₁.now ≡ r₂.now
integer_registers_one κs a r₁ r₂ s₁ s₂ p q = p ∙ sym q
