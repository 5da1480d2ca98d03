-- Any two answers that the contract of `operate`, or of a pick, allows at one input are equal: both are what the definition says.
use Rattle.std.specs.Prelude.{◌≡◌}
use Rattle.basis.proofs.Names.{sym, ◌∙◌}
use contract.Lifetimes.{Lfts}
use borrow.Fn.Kinds.{Dens, res_t, ended_of}
use denote.Triple.Clauses.{AtExit}
use Rattle.lanes.proofs.operate.Reads as operate_reads
use Rattle.lanes.proofs.operate.Kinds as operate_kinds
use Rattle.lanes.proofs.picks.blend.Reads as blend_reads
use Rattle.lanes.proofs.picks.blend.Kinds as blend_kinds
use Rattle.lanes.proofs.picks.extract.Reads as extract_reads
use Rattle.lanes.proofs.picks.extract.Kinds as extract_kinds
use Rattle.lanes.proofs.picks.insert.Reads as insert_reads
use Rattle.lanes.proofs.picks.insert.Kinds as insert_kinds
use Rattle.lanes.proofs.picks.shuffle.Reads as shuffle_reads
use Rattle.lanes.proofs.picks.shuffle.Kinds as shuffle_kinds
use Rattle.lanes.proofs.picks.top_bits.Reads as top_bits_reads
use Rattle.lanes.proofs.picks.top_bits.Kinds as top_bits_kinds

pub operate_one : (κs : Lfts 0) (a : Dens κs operate_kinds.ps) (r₁ r₂ : (res_t operate_kinds.r κs).Denot)
    (s₁ s₂ : AtExit (ended_of 0 operate_kinds.ps operate_kinds.r) κs)
    → operate_reads.Post κs a r₁ s₁ → operate_reads.Post κs a r₂ s₂ → r₁ ≡ r₂
operate_one κs a r₁ r₂ s₁ s₂ p q = p ∙ sym q

pub blend_one : (κs : Lfts 0) (a : Dens κs blend_kinds.ps) (r₁ r₂ : (res_t blend_kinds.r κs).Denot)
    (s₁ s₂ : AtExit (ended_of 0 blend_kinds.ps blend_kinds.r) κs)
    → blend_reads.Post κs a r₁ s₁ → blend_reads.Post κs a r₂ s₂ → r₁ ≡ r₂
blend_one κs a r₁ r₂ s₁ s₂ p q = p ∙ sym q

pub extract_one : (κs : Lfts 0) (a : Dens κs extract_kinds.ps) (r₁ r₂ : (res_t extract_kinds.r κs).Denot)
    (s₁ s₂ : AtExit (ended_of 0 extract_kinds.ps extract_kinds.r) κs)
    → extract_reads.Post κs a r₁ s₁ → extract_reads.Post κs a r₂ s₂ → r₁ ≡ r₂
extract_one κs a r₁ r₂ s₁ s₂ p q = p ∙ sym q

pub insert_one : (κs : Lfts 0) (a : Dens κs insert_kinds.ps) (r₁ r₂ : (res_t insert_kinds.r κs).Denot)
    (s₁ s₂ : AtExit (ended_of 0 insert_kinds.ps insert_kinds.r) κs)
    → insert_reads.Post κs a r₁ s₁ → insert_reads.Post κs a r₂ s₂ → r₁ ≡ r₂
insert_one κs a r₁ r₂ s₁ s₂ p q = p ∙ sym q

pub shuffle_one : (κs : Lfts 0) (a : Dens κs shuffle_kinds.ps) (r₁ r₂ : (res_t shuffle_kinds.r κs).Denot)
    (s₁ s₂ : AtExit (ended_of 0 shuffle_kinds.ps shuffle_kinds.r) κs)
    → shuffle_reads.Post κs a r₁ s₁ → shuffle_reads.Post κs a r₂ s₂ → r₁ ≡ r₂
shuffle_one κs a r₁ r₂ s₁ s₂ p q = p ∙ sym q

pub top_bits_one : (κs : Lfts 0) (a : Dens κs top_bits_kinds.ps) (r₁ r₂ : (res_t top_bits_kinds.r κs).Denot)
    (s₁ s₂ : AtExit (ended_of 0 top_bits_kinds.ps top_bits_kinds.r) κs)
    → top_bits_reads.Post κs a r₁ s₁ → top_bits_reads.Post κs a r₂ s₂ → r₁ ≡ r₂
top_bits_one κs a r₁ r₂ s₁ s₂ p q = p ∙ sym q
