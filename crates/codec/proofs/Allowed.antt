-- Any two answers that a public contract allows at one input are equal, and so is what they leave in a lent buffer: each contract is one equation,
-- and the paper's answers of different cases differ.
use Rattle.std.specs.Prelude.{◌≡◌, List, ℕ, Result, Ok, Err}
use Rattle.basis.proofs.Names.{sym, ap, ◌∙◌}
use contract.Lifetimes.{Lfts}
use borrow.Fn.Kinds.{Dens, res_t, ended_of}
use denote.Triple.Clauses.{AtExit}
use Rattle.refusals.specs.declared.Refusal.{Refusal}
use Rattle.refusals.specs.Numbers.{number_of}
use Rattle.refusals.proofs.Distinct.{distinct}
use Rattle.codec.specs.Answers.{paper_of_reading, paper_of_writing}
use Rattle.codec.specs.Finding.{paper_of_found}
use Rattle.codec.specs.declared.Instruction.{Instruction}
use Rattle.codec.specs.declared.Found.{Found}
use Rattle.codec.proofs.fields.allowed.Reads as allowed_reads
use Rattle.codec.proofs.fields.allowed.Kinds as allowed_kinds
use Rattle.codec.proofs.fields.is_suffix.Reads as is_suffix_reads
use Rattle.codec.proofs.fields.is_suffix.Kinds as is_suffix_kinds
use Rattle.codec.proofs.table.Reads as table_reads
use Rattle.codec.proofs.table.Kinds as table_kinds
use Rattle.codec.proofs.read_from.Reads as read_from_reads
use Rattle.codec.proofs.read_from.Kinds as read_from_kinds
use Rattle.codec.proofs.read.Reads as read_reads
use Rattle.codec.proofs.read.Kinds as read_kinds
use Rattle.codec.proofs.write.Reads as write_reads
use Rattle.codec.proofs.write.Kinds as write_kinds

-- one number is one refusal's
refusal_one : {A : Type 0} (r s : Refusal) → number_of r ≡ number_of s → ◌≡◌ {A = Result A Refusal} (Err r) (Err s)
refusal_one r s e = ap Err (distinct r s e)

reading_one : (x y : Result (Instruction × ℕ) Refusal) → paper_of_reading x ≡ paper_of_reading y → x ≡ y
reading_one (Ok (i, m)) (Ok (j, n)) e = cc
reading_one (Ok (i, m)) (Err s) e = cc
reading_one (Err r) (Ok (j, n)) e = cc
reading_one (Err r) (Err s) e = refusal_one r s (cc)

found_one : (x y : Result Found Refusal) → paper_of_found x ≡ paper_of_found y → x ≡ y
found_one (Ok f) (Ok g) e = let is : f ≡ g = cc in ap Ok is
found_one (Ok f) (Err s) e = cc
found_one (Err r) (Ok g) e = cc
found_one (Err r) (Err s) e = refusal_one r s (cc)

written_one : (x y : Result ℕ Refusal) (a b : List ℕ) → paper_of_writing x a ≡ paper_of_writing y b → (x ≡ y) × (a ≡ b)
written_one (Ok m) (Ok n) a b e = (cc, cc)
written_one (Ok m) (Err s) a b e = (cc, cc)
written_one (Err r) (Ok n) a b e = (cc, cc)
written_one (Err r) (Err s) a b e = (refusal_one r s (cc), cc)

pub allowed_one : (κs : Lfts 0) (a : Dens κs allowed_kinds.ps) (r₁ r₂ : (res_t allowed_kinds.r κs).Denot)
    (s₁ s₂ : AtExit (ended_of 0 allowed_kinds.ps allowed_kinds.r) κs)
    → allowed_reads.Post κs a r₁ s₁ → allowed_reads.Post κs a r₂ s₂ → r₁ ≡ r₂
allowed_one κs a r₁ r₂ s₁ s₂ p q = p ∙ sym q

pub is_suffix_one : (κs : Lfts 0) (a : Dens κs is_suffix_kinds.ps) (r₁ r₂ : (res_t is_suffix_kinds.r κs).Denot)
    (s₁ s₂ : AtExit (ended_of 0 is_suffix_kinds.ps is_suffix_kinds.r) κs)
    → is_suffix_reads.Post κs a r₁ s₁ → is_suffix_reads.Post κs a r₂ s₂ → r₁ ≡ r₂
is_suffix_one κs a r₁ r₂ s₁ s₂ p q = p ∙ sym q

pub table_one : (κs : Lfts 0) (a : Dens κs table_kinds.ps) (r₁ r₂ : (res_t table_kinds.r κs).Denot)
    (s₁ s₂ : AtExit (ended_of 0 table_kinds.ps table_kinds.r) κs)
    → table_reads.Post κs a r₁ s₁ → table_reads.Post κs a r₂ s₂ → r₁ ≡ r₂
table_one κs a r₁ r₂ s₁ s₂ p q = p ∙ sym q

pub read_from_one : (κs : Lfts 2) (a : Dens κs read_from_kinds.ps) (r₁ r₂ : (res_t read_from_kinds.r κs).Denot)
    (s₁ s₂ : AtExit (ended_of 2 read_from_kinds.ps read_from_kinds.r) κs)
    → read_from_reads.Post κs a r₁ s₁ → read_from_reads.Post κs a r₂ s₂ → r₁ ≡ r₂
read_from_one κs a r₁ r₂ s₁ s₂ p q = found_one r₁ r₂ (p ∙ sym q)

pub read_one : (κs : Lfts 1) (a : Dens κs read_kinds.ps) (r₁ r₂ : (res_t read_kinds.r κs).Denot)
    (s₁ s₂ : AtExit (ended_of 1 read_kinds.ps read_kinds.r) κs)
    → read_reads.Post κs a r₁ s₁ → read_reads.Post κs a r₂ s₂ → r₁ ≡ r₂
read_one κs a r₁ r₂ s₁ s₂ p q = reading_one r₁ r₂ (p ∙ sym q)

pub write_one : (κs : Lfts 1) (a : Dens κs write_kinds.ps) (r₁ r₂ : (res_t write_kinds.r κs).Denot)
    (s₁ s₂ : AtExit (ended_of 1 write_kinds.ps write_kinds.r) κs)
    → write_reads.Post κs a r₁ s₁ → write_reads.Post κs a r₂ s₂ → (r₁ ≡ r₂) × (s₁.1.0.now ≡ s₂.1.0.now)
write_one κs a r₁ r₂ s₁ s₂ p q = written_one r₁ r₂ s₁.1.0.now s₂.1.0.now (p ∙ sym q)
