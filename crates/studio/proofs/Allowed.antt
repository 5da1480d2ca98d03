-- Any two answers that the public contract allows at one input are equal, and so is what they leave in the lent memory: the contract is one equation,
-- and the paper's answer gives back the code's, with the memory.
use Rattle.std.specs.Prelude.{◌≡◌, refl, Option, Some, None, Result, Ok, Err, List, ℕ}
use Rattle.basis.proofs.Names.{sym, ap, ◌∙◌}
use contract.Lifetimes.{Lfts}
use borrow.Fn.Kinds.{Dens, res_t, ended_of}
use denote.Triple.Clauses.{AtExit}
use Rattle.refusals.specs.declared.Refusal.{Refusal}
use Rattle.refusals.proofs.Distinct.{named, named_number}
use Rattle.manual.specs.Places.{Place, mmx, integer, byte, zero_mark}
use Rattle.machine.specs.declared.Machine.{Machine}
use Rattle.machine.specs.declared.Ran.{Ran}
use Rattle.machine.specs.State.{state_of}
use Rattle.machine.proofs.Allowed.{After, machine_in, run_back, run_back_lem}
use Rattle.studio.specs.declared.Place as declared
use Rattle.studio.specs.declared.Place.TheVariants.{Mmx, Integer, Byte, ZeroMark}
use Rattle.studio.specs.declared.Meeting as handed
use Rattle.studio.specs.declared.Meeting.TheVariants.{Emms, At}
use Rattle.studio.specs.declared.Unanswered.{Unanswered}
use Rattle.studio.specs.declared.Unanswered.TheVariants.{Refused, NotDone}
use Rattle.studio.specs.declared.Asked.{Asked}
use Rattle.studio.specs.Meetings.{Meeting, apart, emms, met_at, paper_of_place, paper_of_meeting}
use Rattle.studio.specs.Whys.{Reply, refusal, instead, told, paper_of_why, paper_of_asked}
use Rattle.studio.proofs.whys.why_not.Reads as why_not_reads
use Rattle.studio.proofs.whys.why_not.Kinds as why_not_kinds

place_back : Place → declared.Place
place_back (mmx k) = Mmx k
place_back (integer k) = Integer k
place_back (byte a) = Byte a
place_back zero_mark = ZeroMark

place_back_lem : (p : declared.Place) → place_back (paper_of_place p) ≡ p
unfolding place_back
place_back_lem (Mmx k) = refl
place_back_lem (Integer k) = refl
place_back_lem (Byte a) = refl
place_back_lem ZeroMark = refl

meeting_back : Meeting → Option handed.Meeting
meeting_back apart = None
meeting_back emms = Some Emms
meeting_back (met_at p manner) = Some (At (place_back p) manner)

meeting_back_lem : (m : Option handed.Meeting) → meeting_back (paper_of_meeting m) ≡ m
unfolding meeting_back
meeting_back_lem None = refl
meeting_back_lem (Some Emms) = refl
meeting_back_lem (Some (At p manner)) = ap (λ (q : declared.Place). Some (At q manner)) (place_back_lem p)

-- what was handed back, with the memory
asked_back : Reply → After Asked
asked_back (refusal n s) = record { answer = record { why = Err (Refused (named n)); machine = machine_in s }; memory = s.memory }
asked_back (instead a) =
    let run = run_back a in
    let ran = run.answer in
    record { answer = record { why = Err (NotDone ran.end ran.at ran.count); machine = ran.machine }; memory = run.memory }
asked_back (told meeting s) = record { answer = record { why = Ok (meeting_back meeting); machine = machine_in s }; memory = s.memory }

asked_back_lem : (why : Result (Option handed.Meeting) Unanswered) (k : Machine) (m : List ℕ)
    → asked_back (paper_of_why why (state_of k m)) ≡ record { answer = record { why = why; machine = k }; memory = m }
unfolding asked_back
asked_back_lem (Ok meeting) k m =
    ap (λ (x : Option handed.Meeting). record { answer = record { why = Ok x; machine = k }; memory = m }) (meeting_back_lem meeting)
asked_back_lem (Err (Refused r)) k m =
    ap (λ (x : Refusal). record { answer = record { why = Err (Refused x); machine = k }; memory = m }) (named_number r)
asked_back_lem (Err (NotDone end at count)) k m =
    ap (λ (x : After Ran). record { answer = record { why = Err (NotDone x.answer.end x.answer.at x.answer.count); machine = x.answer.machine }; memory = x.memory })
    (run_back_lem end at count k m)

pub why_not_one : (κs : Lfts 2) (a : Dens κs why_not_kinds.ps) (r₁ r₂ : (res_t why_not_kinds.r κs).Denot) (s₁ s₂ : AtExit (ended_of 2 why_not_kinds.ps why_not_kinds.r) κs)
    → why_not_reads.Post κs a r₁ s₁ → why_not_reads.Post κs a r₂ s₂ → (r₁ ≡ r₂) × (s₁.1.1.0.now ≡ s₂.1.1.0.now)
why_not_one κs a r₁ r₂ s₁ s₂ p q =
    let m₁ = s₁.1.1.0.now in
    let m₂ = s₂.1.1.0.now in
    let e : paper_of_asked r₁ m₁ ≡ paper_of_asked r₂ m₂ = p ∙ sym q in
    let b = sym (asked_back_lem r₁.why r₁.machine m₁) ∙ ap asked_back e ∙ asked_back_lem r₂.why r₂.machine m₂ in
    (ap (λ (x : After Asked). x.answer) b, ap (λ (x : After Asked). x.memory) b)
