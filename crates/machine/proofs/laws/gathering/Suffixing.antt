-- The work that the code makes of an instruction with a suffix does what its effect does.
use Rattle.std.specs.Prelude.{◌≡◌, refl, Bool, true, false, cond, IfOk, Ok, Err, List, map, ℕ, ◌/◌, ◌%◌, ◌^◌, eqb, length, get_or, Option, Some, None}
use Rattle.std.specs.Prelude as code
use Rattle.basis.proofs.Names.{sym, ap, subst, ◌∙◌, false≢true}
use Rattle.refusals.specs.declared.Refusal.{Refusal}
use Rattle.lanes.specs.Operations.{operate, described, MOVE}
use Rattle.singles.specs.Siblings.{Sibling, PF2IW, PI2FW, PSWAPD, PAVGUSB, PFCMPGT, PFMAX, leave}
use Rattle.words.proofs.Laws.{loaded_bytewise}
use Rattle.reorder.specs.Result.{Result, done, refused, and_then, map_result}
use Rattle.codec.specs.Forms.{mmx_file, Form, mmreg1·mmreg2/mem64+suffix, memory_size}
use Rattle.codec.specs.Contents.{Suffixed, maximum, siblings}
use Rattle.codec.specs.Opcodes.{suffixed_of}
use Rattle.codec.specs.Table.{form_of}
use Rattle.codec.specs.inner.Entries.{operation_in}
use Rattle.codec.specs.inner.Fields.{Registers}
use Rattle.codec.specs.declared.Operand.{Operand}
use Rattle.codec.specs.declared.Instruction.{Instruction}
use Rattle.codec.proofs.Bytes.{found_each}
use Rattle.manual.specs.State.{State}
use Rattle.manual.specs.declared.Marks.{Marks}
use Rattle.manual.specs.Addresses.{address, address_of}
use Rattle.manual.specs.Locations.{Location, mmx_register, memory, rm_of, locate, lies_inside}
use Rattle.manual.specs.Effects.{Effect}
use Rattle.manual.specs.inner.Unmarked.{directly}
use Rattle.manual.specs.Instructions.{sources, targets, kept_by, supported, left_by_suffix, effect_by}
use Rattle.manual.specs.Steps.{concluded}
use Rattle.manual.proofs.Shapes.{both_or, move_or}
use Rattle.manual.proofs.Direct.{value_at, put_at, move_or_direct, both_or_direct}
use Rattle.works.specs.declared.Work.{Work}
use Rattle.works.specs.Answers.{paper_of, work_in}
use Rattle.works.specs.Works.{to_operate, work_of, refused_work}
use Rattle.works.specs.Siblings.{value_left, operation_left, answered_work, sibling_work, suffixed_work, answered, suffixed_answer}
use Rattle.machine.specs.declared.ways.Way.{Way}
use Rattle.machine.specs.declared.ways.Way.TheVariants.{Suffixes}
use Rattle.machine.specs.State.{state_of}
use Rattle.machine.specs.inner.Spots.{file_in, other_of, spot_of}
use Rattle.machine.specs.inner.Ways.{way_of}
use Rattle.machine.specs.inner.Works.{machine_of, effect_in, Listed, take_work, performed, Does}
use Rattle.machine.proofs.laws.gathering.Soundness.{sound_suffixed}
use Rattle.machine.proofs.laws.gathering.Sorting.{of_work, ways}
use Rattle.machine.proofs.laws.operands.Locating.{by_place, spot_named}
use Rattle.machine.proofs.laws.ways.Numbering.{HasWay, suffixes, goes}

-- the effect of an instruction by its suffix
abbrev pub effect_of_suffix : Instruction → Suffixed → Effect
effect_of_suffix i x =
    record {
      takes = map (locate i) (sources x.form.operands);
      gives = map (locate i) (targets x.form.operands);
      value = λ values. map_result (λ left. map (λ y. kept_by y left) (targets x.form.operands)) (left_by_suffix x values);
      kind = x.form.kind;
    }

-- what it leaves
module _ (floor : ℕ) (s : State) (i : Instruction) where
  abbrev own : Operand
  own = i.operand

  abbrev pub suffixed_as : Sibling → Result State
  suffixed_as x = and_then (value_at s (rm_of mmx_file 8 own)) (λ v. and_then (supported (leave x (get_or s.mmx own.reg 0) v)) (λ left. put_at s floor (mmx_register own.reg) left))

  suffix_leaves : (suffix : ℕ) → directly floor (effect_of_suffix i (suffixed_of suffix)) s ≡ suffixed_as (suffixed_of suffix).sibling
  unfolding suffixed_of leave
  suffix_leaves suffix =
      found_each (λ x. x) maximum (λ x. directly floor (effect_of_suffix i x) s ≡ suffixed_as x.sibling) (λ x. eqb suffix x.suffix)
      (from_both PFMAX) siblings
      (λ h. from_source PF2IW, (λ h. from_source PI2FW, (λ h. from_source PSWAPD, (λ h. from_both PAVGUSB, (λ h. from_both PFCMPGT, (λ h. from_both PFMAX, tt))))))
    where
      from_source : (x : Sibling) → directly floor (move_or (λ v. supported (leave x v v)) (mmx_register own.reg) (rm_of mmx_file 8 own)) s
          ≡ and_then (value_at s (rm_of mmx_file 8 own)) (λ v. and_then (supported (leave x v v)) (λ left. put_at s floor (mmx_register own.reg) left))
      from_source x = move_or_direct floor s (λ v. supported (leave x v v)) own.reg (rm_of mmx_file 8 own)

      from_both : (x : Sibling) → directly floor (both_or (λ a b. supported (leave x a b)) (mmx_register own.reg) (rm_of mmx_file 8 own)) s ≡ suffixed_as x
      from_both x = both_or_direct floor s (λ a b. supported (leave x a b)) own.reg (rm_of mmx_file 8 own)

-- works over lent registers and memory
module _ (registers integers m : List ℕ) (next : ℕ) where
  abbrev state : Marks → State
  state marks = state_of (machine_of registers integers marks) m

  -- a work that has the operand's number v, and what it leaves of that
  abbrev Makes : Work → (ℕ → State → Result State) → Type 0
  Makes work after = (floor : ℕ) (marks : Marks) (at : ℕ) → performed floor work at (state marks) ≡ concluded at (done next) (state marks) (after floor (state marks))

  answer_makes : (answer : Option ℕ) (place : ℕ)
      → Makes (answered_work (described MOVE).number answer place next) (λ floor s. and_then (supported answer) (λ left. put_at s floor (mmx_register place) left))
  unfolding performed operate
  answer_makes (Some value) place floor marks at = refl
  answer_makes None place floor marks at = refl

  sibling_makes : (x : Sibling) (place v : ℕ) → let old = get_or registers place 0 in
      Makes (sibling_work x old v place next) (λ floor s. and_then (supported (leave x old v)) (λ left. put_at s floor (mmx_register place) left))
  unfolding performed leave
  sibling_makes PF2IW place v = answer_makes (leave PF2IW (get_or registers place 0) v) place
  sibling_makes PI2FW place v = answer_makes (leave PI2FW (get_or registers place 0) v) place
  sibling_makes PSWAPD place v = answer_makes (leave PSWAPD (get_or registers place 0) v) place
  sibling_makes PAVGUSB place v = λ floor marks at. refl
  sibling_makes PFCMPGT place v = answer_makes (leave PFCMPGT (get_or registers place 0) v) place
  sibling_makes PFMAX place v = answer_makes (leave PFMAX (get_or registers place 0) v) place

  -- wherever the operand is
  module _ (w : Operand) (suffix number place : ℕ) where
    abbrev x : Sibling
    x = (suffixed_of suffix).sibling

    abbrev At : Location → Type 0
    At y =
        Makes (suffixed_work suffix (get_or registers place 0) (take_work registers integers m number place (spot_of integers (length m) y) next))
        (λ floor s. and_then (value_at s y) (λ v. and_then (supported (leave x (get_or registers place 0) v)) (λ left. put_at s floor (mmx_register place) left)))

    suffix_makes : At (rm_of mmx_file 8 w)
    unfolding performed
    suffix_makes = by_place (λ f y. At y) mmx_file 8 w (sibling_makes x place _) (sibling_makes x place _) (λ f. inside (lies_inside (length m) 8 (address integers (address_of w))) refl)
      where
        inside : (u : Bool) → lies_inside (length m) 8 (address integers (address_of w)) ≡ u → At (memory (address_of w) 8)
        inside true h floor marks at = simp (h, loaded_bytewise) (sibling_makes x place _ floor marks at)
        inside false h floor marks at = simp h

-- an instruction by the table's number for it
module _ (registers integers m : List ℕ) (entry : ℕ) (i : Instruction) (next : ℕ) where
  abbrev form_in : ℕ
  form_in = entry / 2 ^ 24

  -- its form is that of a suffix
  module _ (l : Listed entry) (way : Suffixes ≡ way_of form_in) where
    suffix_form : form_of form_in ≡ mmreg1·mmreg2/mem64+suffix
    suffix_form = by (form_of form_in) (goes entry l Suffixes Suffixes way refl)
      where
        by : (f : Form) → HasWay form_in Suffixes f → f ≡ mmreg1·mmreg2/mem64+suffix
        by f (suffixes e x) = refl

    pub suffix_effect : effect_in entry i ≡ effect_of_suffix i (suffixed_of i.immediate)
    suffix_effect = ap (λ (f : Form). effect_by f (operation_in entry i.operand.reg) i) suffix_form

    pub suffix_operand : other_of form_in i.operand ≡ rm_of mmx_file 8 i.operand
    suffix_operand = ap (λ (f : Form). rm_of (file_in f.operands) (memory_size f) i.operand) suffix_form

  -- the code's work
  abbrev pub work_by_suffix : Work
  work_by_suffix =
      suffixed_work i.immediate (get_or registers i.operand.reg 0)
      (take_work registers integers m (entry % 256) i.operand.reg (spot_of integers (length m) (other_of form_in i.operand)) next)

  module _ (r : Registers i.operand) (l : Listed entry) (y : Way) (way : y ≡ way_of form_in) (work : Work) where
    pub does_suffix : y ≡ Suffixes → work ≡ work_by_suffix → Does work registers integers m (effect_in entry i) (done next)
    does_suffix e made =
        let w = i.operand in
        let is : Suffixes ≡ way_of form_in = sym e ∙ way in
        let x = (suffixed_of i.immediate).sibling in
        let spot = spot_of integers (length m) (other_of form_in w) in
        rw made
        (of_work registers integers m entry i next work_by_suffix (λ floor s. suffixed_as floor s i x)
        (sound_suffixed i.immediate (get_or registers w.reg 0) registers integers m (entry % 256) w.reg spot next r.reg (spot_named integers (length m) entry w spot refl r))
        (λ floor s. ap (λ (z : Effect). directly floor z s) (suffix_effect l is) ∙ suffix_leaves floor s i i.immediate)
        (subst
        (λ (z : Location). Makes registers integers m next
        (suffixed_work i.immediate (get_or registers w.reg 0) (take_work registers integers m (entry % 256) w.reg (spot_of integers (length m) z) next))
        (λ floor s. suffixed_as floor s i x))
        (sym (suffix_operand l is)) (suffix_makes registers integers m next w i.immediate (entry % 256) w.reg)))

-- an answer as one work
abbrev work_by : Result Work → Work
work_by (done work) = work
work_by (refused n) = refused_work n

as_one : (r : code.Result Work Refusal) → work_in r ≡ work_by (paper_of r)
as_one (Ok work) = refl
as_one (Err refusal) = refl

answered_is : (number : ℕ) (answer : Option ℕ) (place next : ℕ) → work_by (answered number answer place next) ≡ answered_work number answer place next
answered_is number (Some value) place next = refl
answered_is number None place next = refl

suffixed_is : (suffix old : ℕ) (work : Work) → work_by (suffixed_answer suffix old work) ≡ suffixed_work suffix old work
suffixed_is suffix old work = by (eqb work.what to_operate)
  where
    y : Sibling
    y = (suffixed_of suffix).sibling

    by : (t : Bool) → work_by (cond t (answered (operation_left y) (value_left y old work.value) work.place work.next) (done work))
        ≡ cond t (sibling_work y old work.value work.place work.next) work
    by true = answered_is (operation_left y) (value_left y old work.value) work.place work.next
    by false = refl

-- from the work that has the operand's number
module _ (suffix old : ℕ) (work : Work) (r : code.Result Work Refusal) (h : paper_of r ≡ suffixed_answer suffix old work) where
  pub suffixed_from : (made : Work) → work ≡ made → work_in r ≡ suffixed_work suffix old made
  suffixed_from made e = as_one r ∙ ap work_by h ∙ suffixed_is suffix old work ∙ ap (suffixed_work suffix old) e

  pub suffixed_operates : work.what ≡ to_operate → IfOk r (λ left. left.what ≡ to_operate)
  suffixed_operates e = by r (value_left y old work.value) (h ∙ simp e)
    where
      y : Sibling
      y = (suffixed_of suffix).sibling

      by : (q : code.Result Work Refusal) (answer : Option ℕ) → paper_of q ≡ answered (operation_left y) answer work.place work.next → IfOk q (λ left. left.what ≡ to_operate)
      by (Ok left) (Some value) g = let is : left ≡ work_of to_operate (operation_left y) work.place value work.next = cc in ap (λ (w : Work). w.what) is
      by (Ok left) None g = absurd (false≢true (cc))
      by (Err refusal) answer g = tt

pub ruleset sorting = (ways, does_suffix)
