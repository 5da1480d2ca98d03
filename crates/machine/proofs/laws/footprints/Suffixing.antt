-- The footprint of an instruction with a suffix: it is refused as its step is, and else that of a load or of a computation. Rules for what the code
-- makes of one.
use Rattle.std.specs.Prelude.{◌≡◌, refl, ◌⊎◌, true, List, [], ℕ, ◌/◌, ◌%◌, ◌^◌, eqb, length, get_or, Option, Some, None}
use Rattle.basis.proofs.Names.{sym, ap, subst, ◌∙◌, inl, inr, false≢true, rules}
use Rattle.singles.specs.Siblings.{Sibling, PF2IW, PI2FW, PSWAPD, PAVGUSB, PFCMPGT, PFMAX, leave}
use Rattle.words.specs.Buffer.{loaded}
use Rattle.reorder.specs.Result.{Result, done, refused, and_then, map_result}
use Rattle.reorder.specs.Plan.{Plan, looks, leaves, perform}
use Rattle.reorder.specs.Footprint.{footprint_of, footprint_in}
use Rattle.codec.specs.Contents.{maximum, siblings}
use Rattle.codec.specs.Opcodes.{suffixed_of}
use Rattle.codec.specs.Forms.{mmx_file}
use Rattle.codec.specs.inner.Fields.{Registers}
use Rattle.codec.specs.declared.Kind.{Kind}
use Rattle.codec.specs.declared.Operand.{Operand}
use Rattle.codec.specs.declared.Instruction.{Instruction}
use Rattle.codec.proofs.Bytes.{found_each}
use Rattle.manual.specs.State.{State}
use Rattle.manual.specs.Places.{Place, look, put}
use Rattle.manual.specs.Kinds.{marked}
use Rattle.manual.specs.Locations.{Location, mmx_register, rm_of, places_of}
use Rattle.manual.specs.Effects.{Effect, places_of_all, values_in, contents_of_all, plan_on, placed, via}
use Rattle.manual.specs.inner.Unmarked.{directly}
use Rattle.manual.specs.Instructions.{supported}
use Rattle.manual.specs.Steps.{refused_with, concluded}
use Rattle.manual.proofs.Floors.{placed_zero}
use Rattle.manual.proofs.Shapes.{both, both_or, move, move_or}
use Rattle.works.specs.declared.Work.{Work}
use Rattle.works.specs.Works.{to_operate, to_refuse}
use Rattle.works.specs.Siblings.{value_left, operation_left, answered_work, sibling_work, suffixed_work}
use Rattle.machine.specs.declared.Footprint.{Footprint}
use Rattle.machine.specs.declared.Machine.{Machine}
use Rattle.machine.specs.declared.operands.Spot.{Spot}
use Rattle.machine.specs.declared.operands.Spot.TheVariants.{Mmx, Integer, Bytes}
use Rattle.machine.specs.declared.reaches.Reach.{Reach}
use Rattle.machine.specs.declared.ways.Way.{Way}
use Rattle.machine.specs.declared.ways.Way.TheVariants.{Suffixes, Loads, Computes}
use Rattle.machine.specs.State.{state_of}
use Rattle.machine.specs.Footprints.{masked}
use Rattle.machine.specs.inner.Reaches.{reach_of, footprint_of_way, unmarked_footprint, Completes}
use Rattle.machine.specs.inner.Spots.{other_of, spot_of}
use Rattle.machine.specs.inner.Ways.{way_of, suffix_way, has_other}
use Rattle.machine.specs.inner.Works.{effect_in, Listed, take_work, performed}
use Rattle.machine.proofs.laws.gathering.Suffixing.{effect_of_suffix, suffix_effect, suffix_operand, work_by_suffix, does_suffix}
use Rattle.machine.proofs.laws.ways.Numbering.{way_suffixes}
use Rattle.machine.proofs.laws.footprints.ByWay.{traced_as, load_footprint, compute_footprint}

-- A step that is refused has no footprint, and one that completes has that of any other with the same operands

module _ (s : State) where
  as_planned : (e : Effect) → directly 0 e s ≡ perform look put marked s (placed e s)
  as_planned e = ap (perform look put marked s) (placed_zero e s)

  refused_print : (e : Effect) (n : ℕ) → directly 0 e s ≡ refused n → unmarked_footprint e s ≡ refused n
  unfolding unmarked_footprint
  refused_print e n h = planned (placed e s) (sym (as_planned e) ∙ h)
    where
      made : (pl : Plan Place Kind) (o : Result (List ℕ)) → map_result (leaves put marked pl s) o ≡ refused n
          → map_result masked (map_result (λ values. footprint_of (via e) pl) o) ≡ refused n
      made pl (done values) h = absurd (false≢true (cc))
      made pl (refused m) h = let same : m ≡ n = cc in ap refused same

      planned : (o : Result (Plan Place Kind)) → perform look put marked s o ≡ refused n → map_result masked (footprint_in look (via e) s o) ≡ refused n
      planned (refused m) h = let same : m ≡ n = cc in ap refused same
      planned (done pl) h = made pl (pl.make (looks look s pl.source)) h

  module _ (takes gives : List Location) (kind : Kind) (value other : List ℕ → Result (List ℕ)) (always : (l : List ℕ) → (x : List ℕ) × (other l ≡ done x)) where
    abbrev effect : (List ℕ → Result (List ℕ)) → Effect
    effect v = record { takes = takes; gives = gives; value = v; kind = kind }

    same_print : Completes (effect value) s → unmarked_footprint (effect value) s ≡ unmarked_footprint (effect other) s
    unfolding unmarked_footprint
    same_print c = by (places_of_all s takes) (places_of_all s gives) (sym (as_planned (effect value)) ∙ c.is)
      where
        made : (ps qs : List Place) (o p : Result (List ℕ)) → (x : List ℕ) × (p ≡ done x) → map_result (leaves put marked (plan_on (effect value) ps qs) s) (map_result (contents_of_all gives) o) ≡ done c.leaves
            → map_result masked (map_result (λ values. footprint_of (via (effect value)) (plan_on (effect value) ps qs)) (map_result (contents_of_all gives) o))
            ≡ map_result masked (map_result (λ values. footprint_of (via (effect value)) (plan_on (effect value) ps qs)) (map_result (contents_of_all gives) p))
        made ps qs (done y) p (x, e) h = rw e refl
        made ps qs (refused n) p (x, e) h = absurd (false≢true (cc))

        by : (a b : Result (List Place)) → perform look put marked s (and_then a (λ source. map_result (plan_on (effect value) source) b)) ≡ done c.leaves
            → map_result masked (footprint_in look (via (effect value)) s (and_then a (λ source. map_result (plan_on (effect value) source) b)))
            ≡ map_result masked (footprint_in look (via (effect other)) s (and_then a (λ source. map_result (plan_on (effect other) source) b)))
        by (refused n) b h = refl
        by (done ps) (refused n) h = refl
        by (done ps) (done qs) h = made ps qs (value (values_in takes (looks look s ps))) (other (values_in takes (looks look s ps))) (always _) h

  -- a destination made of the source, or of both
  module _ (w : Operand) (y : Location) where
    abbrev traced : Way → Result Footprint
    traced way = traced_as (footprint_of_way way w) (reach_of y (places_of s y))

    load_or : (f : ℕ → Result ℕ) → Completes (move_or f (mmx_register w.reg) y) s → unmarked_footprint (move_or f (mmx_register w.reg) y) s ≡ traced Loads
    unfolding unmarked_footprint
    load_or f c = same_print _ _ _ _ (move (λ x. x) (mmx_register w.reg) y).value (λ l. (_, refl)) c ∙ load_footprint s w y (λ x. x) (places_of s y)

    compute_or : (f : ℕ → ℕ → Result ℕ) → Completes (both_or f (mmx_register w.reg) y) s → unmarked_footprint (both_or f (mmx_register w.reg) y) s ≡ traced Computes
    unfolding unmarked_footprint
    compute_or f c = same_print _ _ _ _ (both (λ a b. a) (mmx_register w.reg) y).value (λ l. (_, refl)) c ∙ compute_footprint s w y (λ a b. a) (places_of s y)

  suffix_print : (i : Instruction) (suffix : ℕ) → Completes (effect_of_suffix i (suffixed_of suffix)) s
      → unmarked_footprint (effect_of_suffix i (suffixed_of suffix)) s ≡ traced i.operand (rm_of mmx_file 8 i.operand) (suffix_way suffix)
  unfolding suffixed_of way_of
  suffix_print i suffix =
      found_each (λ x. x) maximum
      (λ x. Completes (effect_of_suffix i x) s → unmarked_footprint (effect_of_suffix i x) s ≡ traced i.operand (rm_of mmx_file 8 i.operand) (way_of x.form.number))
      (λ x. eqb suffix x.suffix) (computes PFMAX) siblings
      (λ h. loads PF2IW, (λ h. loads PI2FW, (λ h. loads PSWAPD, (λ h. computes PAVGUSB, (λ h. computes PFCMPGT, (λ h. computes PFMAX, tt))))))
    where
      loads : (x : Sibling) → let e = move_or (λ v. supported (leave x v v)) (mmx_register i.operand.reg) (rm_of mmx_file 8 i.operand) in
          Completes e s → unmarked_footprint e s ≡ traced i.operand (rm_of mmx_file 8 i.operand) Loads
      loads x = load_or i.operand (rm_of mmx_file 8 i.operand) (λ v. supported (leave x v v))

      computes : (x : Sibling) → let e = both_or (λ a b. supported (leave x a b)) (mmx_register i.operand.reg) (rm_of mmx_file 8 i.operand) in
          Completes e s → unmarked_footprint e s ≡ traced i.operand (rm_of mmx_file 8 i.operand) Computes
      computes x = compute_or i.operand (rm_of mmx_file 8 i.operand) (λ a b. supported (leave x a b))

-- A work of a suffix is refused, or operates

abbrev Ended : Work → Type 0
Ended work = (work.what ≡ to_refuse) ⊎ (work.what ≡ to_operate)

answer_ends : (number : ℕ) (answer : Option ℕ) (place next : ℕ) → Ended (answered_work number answer place next)
answer_ends number (Some value) place next = inr refl
answer_ends number None place next = inl refl

sibling_ends : (x : Sibling) (old source place next : ℕ) → Ended (sibling_work x old source place next)
sibling_ends x old source place next = answer_ends (operation_left x) (value_left x old source) place next

suffix_ends : (suffix old : ℕ) (registers integers m : List ℕ) (number place : ℕ) (spot : Result Spot) (next : ℕ)
    → Ended (suffixed_work suffix old (take_work registers integers m number place spot next))
suffix_ends suffix old registers integers m number place (done (Mmx k)) next = sibling_ends (suffixed_of suffix).sibling old (get_or registers k 0) place next
suffix_ends suffix old registers integers m number place (done (Integer k)) next = sibling_ends (suffixed_of suffix).sibling old (get_or integers k 0) place next
suffix_ends suffix old registers integers m number place (done (Bytes a size)) next = sibling_ends (suffixed_of suffix).sibling old (loaded m a size) place next
suffix_ends suffix old registers integers m number place (refused n) next = inl refl

-- what the code makes of an instruction
module _ (machine : Machine) (m : List ℕ) (entry : ℕ) (i : Instruction) (r : Registers i.operand) (l : Listed entry) (is : entry / 2 ^ 24 ≡ 16) where
  abbrev here : State
  here = state_of machine m

  abbrev e : Effect
  e = effect_in entry i

  way : Suffixes ≡ way_of (entry / 2 ^ 24)
  way = way_suffixes (entry / 2 ^ 24) is

  pub two_operands_suffix : has_other (way_of (entry / 2 ^ 24)) ≡ true
  two_operands_suffix = ap has_other (sym way)

  module _ (work : Work) (next : ℕ) (made : work ≡ work_by_suffix machine.mmx machine.integers m entry i next) where
    stepped : performed 0 work 0 here ≡ concluded 0 (done next) here (directly 0 e here)
    stepped = (does_suffix machine.mmx machine.integers m entry i next r l Suffixes way work refl made).does 0 machine.marks 0

    pub suffix_refused : work.what ≡ to_refuse → refused work.number ≡ unmarked_footprint e here
    unfolding performed
    suffix_refused h = sym (refused_print here e work.number (by (directly 0 e here) ((simp h) ∙ stepped)))
      where
        by : (o : Result State) → refused_with work.number 0 here ≡ concluded 0 (done next) here o → o ≡ refused work.number
        by (done t) g = absurd (false≢true (cc))
        by (refused n) g = cc

    pub suffix_completes : (work.what ≡ to_refuse → ⊥) → Completes e here
    unfolding performed
    suffix_completes h =
        let old = get_or machine.mmx i.operand.reg 0 in
        let spot = spot_of machine.integers (length m) (other_of (entry / 2 ^ 24) i.operand) in
        on (subst Ended (sym made) (suffix_ends i.immediate old machine.mmx machine.integers m (entry % 256) i.operand.reg spot next))
      where
        by : (o : Result State) → directly 0 e here ≡ o → work.what ≡ to_operate → performed 0 work 0 here ≡ concluded 0 (done next) here o → Completes e here
        by (done t) g f p = record { leaves = t; is = g }
        by (refused n) g f p = let clash = simp f at p in absurd (false≢true (cc))

        on : Ended work → Completes e here
        on (inl f) = absurd (h f)
        on (inr f) = by (directly 0 e here) refl f stepped

  -- it completes
  module _ (c : Completes e here) (o : Result Reach) (reached : o ≡ reach_of (other_of (entry / 2 ^ 24) i.operand) (places_of here (other_of (entry / 2 ^ 24) i.operand))) where
    suffix_traced : unmarked_footprint e here ≡ traced_as (footprint_of_way (suffix_way i.immediate) i.operand) o
    suffix_traced =
        let same = suffix_effect [] [] [] entry i 0 l way in
        let there = suffix_operand [] [] [] entry i 0 l way in
        ap (λ (z : Effect). unmarked_footprint z here) same
        ∙ suffix_print here i i.immediate (subst (λ (z : Effect). Completes z here) same c)
        ∙ ap (λ (x : Location). traced_as (footprint_of_way (suffix_way i.immediate) i.operand) (reach_of x (places_of here x))) (sym there)
        ∙ ap (traced_as (footprint_of_way (suffix_way i.immediate) i.operand)) (sym reached)

    pub suffix_inside : (f : Footprint) (x : Reach) (y : Way) → o ≡ done x → y ≡ suffix_way i.immediate
        → f ≡ footprint_of_way y i.operand x.registers x.places → done f ≡ unmarked_footprint e here
    suffix_inside f x y inside w h =
        ap done (h ∙ ap (λ (z : Way). footprint_of_way z i.operand x.registers x.places) w)
        ∙ sym (suffix_traced ∙ ap (traced_as (footprint_of_way (suffix_way i.immediate) i.operand)) inside)

    pub suffix_outside : (n : ℕ) → o ≡ refused n → refused n ≡ unmarked_footprint e here
    suffix_outside n outside = sym (suffix_traced ∙ ap (traced_as (footprint_of_way (suffix_way i.immediate) i.operand)) outside)

pub ruleset suffix_rules = (rules, two_operands_suffix, suffix_refused, suffix_completes, suffix_inside, suffix_outside)
