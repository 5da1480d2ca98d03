-- What was read and gathered at once is what the reader finds, and so it is the step. Rules for the functions that read from the start.
use Rattle.std.specs.Prelude.{◌≡◌, refl, Bool, true, false, List, ℕ, zero, suc, ◌+◌, ◌/◌, ◌^◌, ◌≤◌, eqb, length, get_or, drop, replicate, Option, IfSome, Result, Ok}
use Rattle.std.proofs.lemmas.Option.{IfSome_then}
use Rattle.basis.proofs.Names.{sym, ap, subst, ◌∙◌, arith, eq-eqb, eqb-true}
use Rattle.codec.specs.Opcodes.{escape}
use Rattle.codec.specs.Table.{form_of, form_in, opcode_table}
use Rattle.codec.specs.Reader.{reads}
use Rattle.codec.specs.Reads.{longest_code, form_reader, instruction_reader}
use Rattle.codec.specs.Finding.{found, entry_for, found_in, find_with}
use Rattle.codec.specs.declared.Found.{Found}
use Rattle.codec.specs.Answers.{Decoded, good, refused}
use Rattle.codec.proofs.Steps.{first_on, second_found}
use Rattle.manual.specs.State.{longest_memory}
use Rattle.works.specs.declared.Work.{Work}
use Rattle.works.specs.Bars.{open_table}
use Rattle.machine.specs.inner.Quick.{Quick, after_opcode, QuickAfter}
use Rattle.machine.specs.inner.Works.{Gathered}
use Rattle.machine.proofs.laws.gathering.Fetching.{is_listed_lem, gathered_sorted}
use Rattle.machine.proofs.laws.gathering.Testing.{none_stops}

-- ---- the opcode

module _ (table code : List ℕ) (at entry : ℕ) (room : at + 3 ≤ length code) (escaped : get_or code at 0 ≡ escape)
    (looked_up : entry ≡ get_or table (get_or code (at + 1) 0) 0) where
  past_opcode : after_opcode entry (get_or code (at + 1) 0) code (at + 2) ≡ find_with table code at
  past_opcode =
      let second = get_or code (at + 1) 0 in
      let x = after_opcode entry second code (at + 2) in
      let same : x ≡ found entry (reads (form_reader (form_of (entry / 2 ^ 24)) escape second) (at + 1 + 1) (drop (at + 1 + 1) code)) =
      ap (λ (k : ℕ). found entry (reads (form_reader (form_of (entry / 2 ^ 24)) escape second) k (drop k code))) (omega arith) in
      first_on code at table x (omega arith) escaped (second_found code (at + 1) table x (omega arith) entry looked_up same)

  module _ (r : Option Work) (registers integers m : List ℕ) where
    pub found_after : IfSome r (λ work. QuickAfter work registers integers m entry code (at + 2)) → IfSome r (λ work. Quick work registers integers m (find_with table code at))
    found_after given =
        IfSome_then r given (λ work q. subst (λ (x : Result Found ℕ). Quick work registers integers m x) past_opcode (q.quick (get_or code (at + 1) 0)))

-- ---- the table

zeros : (n k : ℕ) → get_or {A = ℕ} (replicate n 0) k 0 ≡ 0
zeros zero k = refl
zeros (suc n) zero = refl
zeros (suc n) (suc k) = zeros n k

-- nothing is found in a table without an entry
none_found : (code : List ℕ) (at : ℕ) (x : Found) → Ok x ≡ find_with (replicate 256 0) code at → x.instruction.first ≡ escape → x.entry ≡ 0
unfolding find_with
none_found code at x r = by (reads (instruction_reader (form_in (replicate 256 0))) at (drop at code)) r
  where
    by : (z : Decoded) → Ok x ≡ found_in (replicate 256 0) z → x.instruction.first ≡ escape → x.entry ≡ 0
    by (good i n) r e =
        let is : x ≡ record { entry = entry_for (replicate 256 0) i; instruction = i; next = n } = cc in
        let first : i.first ≡ escape = ap (λ (y : Found). y.instruction.first) (sym is) ∙ e in
        ap (λ (y : Found). y.entry) is ∙ simp (eq-eqb i.first escape first) (zeros 256 i.second)
    by (refused n) r e = absurd (cc)

-- ---- the step

module _ (quick code : List ℕ) (at : ℕ) (registers integers m : List ℕ) (bar : ℕ) (zero : Bool) (work : Work) (o : quick ≡ open_table bar)
    (q : Quick work registers integers m (find_with quick code at)) where
  abbrev x : Found
  x = q.x

  shut : eqb bar 0 ≡ false → open_table bar ≡ replicate 256 0
  unfolding open_table
  shut h = simp h

  unbarred : bar ≡ 0
  unbarred = by (eqb bar 0) refl
    where
      by : (t : Bool) → eqb bar 0 ≡ t → bar ≡ 0
      by true t = eqb-true bar 0 t
      by false t =
          let none : x.entry ≡ 0 = none_found code at x (q.passed ∙ ap (λ (l : List ℕ). find_with l code at) (o ∙ shut t)) q.escaped in
          absurd (q.present (ap (λ (n : ℕ). n / 2 ^ 24) none))

  ours : quick ≡ opcode_table
  unfolding open_table
  ours = o ∙ simp unbarred

  pub gathered_quick : length code ≤ longest_code → length m ≤ longest_memory → Gathered work registers integers bar zero code at m
  gathered_quick code_fits memory_fits =
      gathered_sorted quick code at x ours q.passed registers integers m bar zero code_fits memory_fits work q.escaped _ refl (none_stops bar (x.entry / 2 ^ 24) unbarred)
      (q.does (is_listed_lem quick code at x ours q.passed q.escaped))
