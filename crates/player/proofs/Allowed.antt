-- Any two answers that the contract of `play` allows at one input are equal, and so is what they leave in the lent buffer: both are what the
-- definition says.
use Rattle.std.specs.Prelude.{◌≡◌}
use Rattle.basis.proofs.Names.{sym, ap, ◌∙◌}
use contract.Lifetimes.{Lfts}
use borrow.Fn.Kinds.{Dens, res_t, ended_of}
use denote.Triple.Clauses.{AtExit}
use Rattle.printout.specs.Printing.{Printed, printing}
use Rattle.player.proofs.play.Reads as play_reads
use Rattle.player.proofs.play.Kinds as play_kinds

pub play_one : (κs : Lfts 2) (a : Dens κs play_kinds.ps) (r₁ r₂ : (res_t play_kinds.r κs).Denot)
    (s₁ s₂ : AtExit (ended_of 2 play_kinds.ps play_kinds.r) κs)
    → play_reads.Post κs a r₁ s₁ → play_reads.Post κs a r₂ s₂ → (r₁ ≡ r₂) × (s₁.1.0.now ≡ s₂.1.0.now)
play_one κs a r₁ r₂ s₁ s₂ p q =
    let e : printing r₁ s₁.1.0.now ≡ printing r₂ s₂.1.0.now = p ∙ sym q in
    (ap (λ (o : Printed). o.written) e, ap (λ (o : Printed). o.buffer) e)
