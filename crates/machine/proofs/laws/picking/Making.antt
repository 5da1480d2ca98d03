-- The works of the instructions that pick lanes, as the code makes them. Rules for the functions that make them.
use Rattle.std.specs.Prelude.{◌≡◌, Bool, true, false, List, ℕ, ◌+◌, leb, length}
use Rattle.basis.proofs.Names.{ap, ◌∙◌, rules, eq-eqb, ne_eqb}
use Rattle.lanes.specs.Rules.{packed, blend, extract, insert, top_bits, shuffle}
use Rattle.lanes.specs.Operations.{operate, operate_three, described, MOVE}
use Rattle.words.specs.Buffer.{loaded}
use Rattle.manual.specs.Refusals.{outside_memory}
use Rattle.manual.specs.Addresses.{address, displacement_of, base_of, address_of}
use Rattle.codec.specs.Operands.{has_sib}
use Rattle.manual.specs.Locations.{at_edi}
use Rattle.works.specs.declared.Work.{Work}
use Rattle.machine.specs.inner.Picks.{picked_of, picked_work, extracted_of, extract_work, mask_work}
use Rattle.machine.specs.inner.Reaches.{edi_operand}
use Rattle.works.specs.Works.{to_operate, to_store, to_integer, work_of, refused_work}

-- what the lanes leave
module _ (form : ℕ) where
  module _ (old value immediate v : ℕ) where
    pub picked_insert : form ≡ 4 → v ≡ packed (insert immediate) 16 old value → v ≡ picked_of form old value immediate
    unfolding operate_three
    picked_insert e h = simp e h

    pub picked_shuffle : (form ≡ 4 → ⊥) → v ≡ packed shuffle 16 value immediate → v ≡ picked_of form old value immediate
    unfolding operate
    picked_shuffle e h = simp (ne_eqb form 4 e) h

  module _ (value immediate v : ℕ) where
    pub extracted_word : form ≡ 6 → v ≡ extract 16 value immediate → v ≡ extracted_of form value immediate
    unfolding operate
    extracted_word e h = simp e h

    pub extracted_bits : (form ≡ 6 → ⊥) → v ≡ top_bits 8 value → v ≡ extracted_of form value immediate
    unfolding operate
    extracted_bits e h = simp (ne_eqb form 6 e) h

-- the works
module _ (form : ℕ) (r : Work) where
  module _ (old immediate : ℕ) (work : Work) where
    pub picked_refused : (work.what ≡ to_operate → ⊥) → work ≡ picked_work form old immediate work
    picked_refused e = simp (ne_eqb work.what to_operate e)

    pub picked_made : (v : ℕ) → work.what ≡ to_operate → v ≡ picked_of form old work.value immediate
        → r ≡ work_of to_operate (described MOVE).number work.place v work.next → r ≡ picked_work form old immediate work
    picked_made v e h made = simp (eq-eqb work.what to_operate e, ← h) made

  -- from a work that is known
  pub picked_from : (old immediate : ℕ) (work made : Work) → work ≡ made → r ≡ picked_work form old immediate work → r ≡ picked_work form old immediate made
  picked_from old immediate work made e h = h ∙ ap (picked_work form old immediate) e

  pub extract_made : (value immediate register next v : ℕ) → v ≡ extracted_of form value immediate → r ≡ work_of to_integer 0 register v next
      → r ≡ extract_work form value immediate register next
  extract_made value immediate register next v h made = rw (← h) made

-- eight bytes at EDI
module _ (integers m : List ℕ) (source mask next a : ℕ) (there : a ≡ address integers (address_of edi_operand)) (t : Bool) (test : t ≡ leb (a + 8) (length m)) (r : Work) where
  at_edi_lem : a ≡ address integers at_edi
  unfolding address_of has_sib base_of displacement_of
  at_edi_lem = there

  pub mask-inside : (old v : ℕ) → t ≡ true → old ≡ loaded m a 8 → v ≡ packed (blend mask) 8 old source → r ≡ work_of to_store 8 a v next
      → r ≡ mask_work integers m source mask next
  unfolding operate_three
  mask-inside old v e o h made = simp (← at_edi_lem, ← test, e, ← o, ← h) made

  pub mask_outside : t ≡ false → r ≡ refused_work outside_memory → r ≡ mask_work integers m source mask next
  mask_outside e made = simp (← at_edi_lem, ← test, e) made

pub ruleset picking = (rules, picked_insert, picked_shuffle, extracted_word, extracted_bits, picked_refused, picked_made, picked_from, extract_made, mask-inside, mask_outside)
