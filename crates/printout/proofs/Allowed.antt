-- Any two answers that the contract of a public function allows at one input are equal, and so is what they leave in the lent buffer: both are
-- what the definition says.
use Rattle.std.specs.Prelude.{◌≡◌, List, ℕ}
use Rattle.basis.proofs.Names.{sym, ap, ◌∙◌}
use contract.Lifetimes.{Lfts}
use borrow.Fn.Kinds.{Dens, res_t, ended_of}
use denote.Triple.Clauses.{AtExit}
use Rattle.printout.specs.Printing.{Printed, printing}
use Rattle.printout.proofs.buffer.Reads as buffer_reads
use Rattle.printout.proofs.buffer.Kinds as buffer_kinds
use Rattle.printout.proofs.report.Reads as report_reads
use Rattle.printout.proofs.report.Kinds as report_kinds
use Rattle.printout.proofs.refusal.Reads as refusal_reads
use Rattle.printout.proofs.refusal.Kinds as refusal_kinds

-- a printing says how many bytes were written, and what the buffer is
pub one_printing : (r₁ r₂ : ℕ) (b₁ b₂ : List ℕ) (said : Printed) → printing r₁ b₁ ≡ said → printing r₂ b₂ ≡ said → (r₁ ≡ r₂) × (b₁ ≡ b₂)
one_printing r₁ r₂ b₁ b₂ said p q = (ap (λ (o : Printed). o.written) (p ∙ sym q), ap (λ (o : Printed). o.buffer) (p ∙ sym q))

pub buffer_one : (κs : Lfts 0) (a : Dens κs buffer_kinds.ps) (r₁ r₂ : (res_t buffer_kinds.r κs).Denot)
    (s₁ s₂ : AtExit (ended_of 0 buffer_kinds.ps buffer_kinds.r) κs)
    → buffer_reads.Post κs a r₁ s₁ → buffer_reads.Post κs a r₂ s₂ → r₁ ≡ r₂
buffer_one κs a r₁ r₂ s₁ s₂ p q = p ∙ sym q

pub report_one : (κs : Lfts 2) (a : Dens κs report_kinds.ps) (r₁ r₂ : (res_t report_kinds.r κs).Denot)
    (s₁ s₂ : AtExit (ended_of 2 report_kinds.ps report_kinds.r) κs)
    → report_reads.Post κs a r₁ s₁ → report_reads.Post κs a r₂ s₂ → (r₁ ≡ r₂) × (s₁.0.now ≡ s₂.0.now)
report_one κs a r₁ r₂ s₁ s₂ p q = one_printing _ _ _ _ _ p q

pub refusal_one : (κs : Lfts 1) (a : Dens κs refusal_kinds.ps) (r₁ r₂ : (res_t refusal_kinds.r κs).Denot)
    (s₁ s₂ : AtExit (ended_of 1 refusal_kinds.ps refusal_kinds.r) κs)
    → refusal_reads.Post κs a r₁ s₁ → refusal_reads.Post κs a r₂ s₂ → (r₁ ≡ r₂) × (s₁.0.now ≡ s₂.0.now)
refusal_one κs a r₁ r₂ s₁ s₂ p q = one_printing _ _ _ _ _ p q
