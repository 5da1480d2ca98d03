-- Any two answers that a public contract allows at one input are equal, and so is what they leave in the lent memory: each contract is one
-- equation, and the paper's answer gives back the code's, with the memory.
use Rattle.std.specs.Prelude.{◌≡◌, refl, List, ℕ, Result, Ok, Err}
use Rattle.basis.proofs.Names.{sym, ap, ◌∙◌}
use contract.Lifetimes.{Lfts}
use borrow.Fn.Kinds.{Dens, res_t, ended_of}
use denote.Triple.Clauses.{AtExit}
use Rattle.reorder.specs.Run.{Answer, finished, spent, stopped}
use Rattle.manual.specs.State.{State}
use Rattle.manual.specs.Steps.{Outcome, completed, refused_with}
use Rattle.machine.specs.declared.Machine.{Machine}
use Rattle.machine.specs.declared.Stepped.{Stepped}
use Rattle.machine.specs.declared.End.{End}
use Rattle.machine.specs.declared.End.TheVariants as end
use Rattle.machine.specs.declared.Ran.{Ran}
use Rattle.machine.specs.State.{state_of}
use Rattle.machine.specs.Steps.{paper_of_taken, paper_of_step}
use Rattle.machine.specs.Runs.{paper_of_end, paper_of_run}
use Rattle.machine.proofs.Machine.step.Reads as step_reads
use Rattle.machine.proofs.Machine.step.Kinds as step_kinds
use Rattle.machine.proofs.Machine.run.Reads as run_reads
use Rattle.machine.proofs.Machine.run.Kinds as run_kinds
use Rattle.works.proofs.Allowed.{answer_one}
use Rattle.machine.proofs.Machine.footprint.Reads as footprint_reads
use Rattle.machine.proofs.Machine.footprint.Kinds as footprint_kinds
use Rattle.machine.proofs.meetings.meets.Reads as meets_reads
use Rattle.machine.proofs.meetings.meets.Kinds as meets_kinds
use Rattle.machine.proofs.meetings.kinds_meet.Reads as kinds_meet_reads
use Rattle.machine.proofs.meetings.kinds_meet.Kinds as kinds_meet_kinds
use Rattle.machine.proofs.Machine.from_page.Reads as from_page_reads
use Rattle.machine.proofs.Machine.from_page.Kinds as from_page_kinds

-- an answer and the memory, from the paper's answer
pub record After (A : Type 0) : Type 0 where
  pub answer : A
  pub memory : List ℕ

abbrev pub machine_in : State → Machine
machine_in s = record { mmx = s.mmx; integers = s.integers; marks = s.marks }

step_back : Outcome → After Stepped
step_back (completed at s) = record { answer = record { answer = Ok tt; machine = machine_in s; at = at }; memory = s.memory }
step_back (refused_with n at s) = record { answer = record { answer = Err n; machine = machine_in s; at = at }; memory = s.memory }

step_back_lem : (a : Result (Unit {0}) ℕ) (at : ℕ) (k : Machine) (m : List ℕ)
    → step_back (paper_of_taken a at (state_of k m)) ≡ record { answer = record { answer = a; machine = k; at = at }; memory = m }
unfolding step_back
step_back_lem (Ok u) at k m = refl
step_back_lem (Err n) at k m = refl

pub step_one : (κs : Lfts 2) (a : Dens κs step_kinds.ps) (r₁ r₂ : (res_t step_kinds.r κs).Denot) (s₁ s₂ : AtExit (ended_of 2 step_kinds.ps step_kinds.r) κs)
    → step_reads.Post κs a r₁ s₁ → step_reads.Post κs a r₂ s₂ → (r₁ ≡ r₂) × (s₁.1.1.1.0.now ≡ s₂.1.1.1.0.now)
step_one κs a r₁ r₂ s₁ s₂ p q =
    let m₁ = s₁.1.1.1.0.now in
    let m₂ = s₂.1.1.1.0.now in
    let e : paper_of_step r₁ m₁ ≡ paper_of_step r₂ m₂ = p ∙ sym q in
    let b = sym (step_back_lem r₁.answer r₁.at r₁.machine m₁) ∙ ap step_back e ∙ step_back_lem r₂.answer r₂.at r₂.machine m₂ in
    (ap (λ (x : After Stepped). x.answer) b, ap (λ (x : After Stepped). x.memory) b)

pub run_back : Answer State → After Ran
run_back (finished at count s) = record { answer = record { end = end.Done; at = at; count = count; machine = machine_in s }; memory = s.memory }
run_back (spent at count s) = record { answer = record { end = end.Spent; at = at; count = count; machine = machine_in s }; memory = s.memory }
run_back (stopped n at count s) = record { answer = record { end = end.Refused n; at = at; count = count; machine = machine_in s }; memory = s.memory }

pub run_back_lem : (e : End) (at count : ℕ) (k : Machine) (m : List ℕ)
    → run_back (paper_of_end e at count (state_of k m)) ≡ record { answer = record { end = e; at = at; count = count; machine = k }; memory = m }
unfolding run_back
run_back_lem end.Done at count k m = refl
run_back_lem end.Spent at count k m = refl
run_back_lem (end.Refused n) at count k m = refl

-- every answer of the paper is that of what a run may hand back
pub run_handed : (a : Answer State) → paper_of_run (run_back a).answer (run_back a).memory ≡ a
unfolding run_back
run_handed (finished at count s) = refl
run_handed (spent at count s) = refl
run_handed (stopped n at count s) = refl

-- the paper's answer of a run gives back what the run handed back, and the memory
pub run_given : (r₁ r₂ : Ran) (m₁ m₂ : List ℕ) → paper_of_run r₁ m₁ ≡ paper_of_run r₂ m₂ → (r₁ ≡ r₂) × (m₁ ≡ m₂)
run_given r₁ r₂ m₁ m₂ e =
    let b = sym (run_back_lem r₁.end r₁.at r₁.count r₁.machine m₁) ∙ ap run_back e ∙ run_back_lem r₂.end r₂.at r₂.count r₂.machine m₂ in
    (ap (λ (x : After Ran). x.answer) b, ap (λ (x : After Ran). x.memory) b)

pub run_one : (κs : Lfts 2) (a : Dens κs run_kinds.ps) (r₁ r₂ : (res_t run_kinds.r κs).Denot) (s₁ s₂ : AtExit (ended_of 2 run_kinds.ps run_kinds.r) κs)
    → run_reads.Post κs a r₁ s₁ → run_reads.Post κs a r₂ s₂ → (r₁ ≡ r₂) × (s₁.1.1.0.now ≡ s₂.1.1.0.now)
run_one κs a r₁ r₂ s₁ s₂ p q = run_given r₁ r₂ s₁.1.1.0.now s₂.1.1.0.now (p ∙ sym q)

pub footprint_one : (κs : Lfts 2) (a : Dens κs footprint_kinds.ps) (r₁ r₂ : (res_t footprint_kinds.r κs).Denot)
    (s₁ s₂ : AtExit (ended_of 2 footprint_kinds.ps footprint_kinds.r) κs)
    → footprint_reads.Post κs a r₁ s₁ → footprint_reads.Post κs a r₂ s₂ → r₁ ≡ r₂
footprint_one κs a r₁ r₂ s₁ s₂ p q = answer_one r₁ r₂ (p ∙ sym q)

pub meets_one : (κs : Lfts 0) (a : Dens κs meets_kinds.ps) (r₁ r₂ : (res_t meets_kinds.r κs).Denot)
    (s₁ s₂ : AtExit (ended_of 0 meets_kinds.ps meets_kinds.r) κs)
    → meets_reads.Post κs a r₁ s₁ → meets_reads.Post κs a r₂ s₂ → r₁ ≡ r₂
meets_one κs a r₁ r₂ s₁ s₂ p q = p ∙ sym q

pub kinds_meet_one : (κs : Lfts 0) (a : Dens κs kinds_meet_kinds.ps) (r₁ r₂ : (res_t kinds_meet_kinds.r κs).Denot)
    (s₁ s₂ : AtExit (ended_of 0 kinds_meet_kinds.ps kinds_meet_kinds.r) κs)
    → kinds_meet_reads.Post κs a r₁ s₁ → kinds_meet_reads.Post κs a r₂ s₂ → r₁ ≡ r₂
kinds_meet_one κs a r₁ r₂ s₁ s₂ p q = p ∙ sym q

pub from_page_one : (κs : Lfts 2) (a : Dens κs from_page_kinds.ps) (r₁ r₂ : (res_t from_page_kinds.r κs).Denot)
    (s₁ s₂ : AtExit (ended_of 2 from_page_kinds.ps from_page_kinds.r) κs)
    → from_page_reads.Post κs a r₁ s₁ → from_page_reads.Post κs a r₂ s₂ → r₁ ≡ r₂
from_page_one κs a r₁ r₂ s₁ s₂ p q = p ∙ sym q
