-- Where a jump leads, what remains of an instruction of loops, and its footprint: by the number of its form. Rules for the functions of loops.
use Rattle.std.specs.Prelude.{◌≡◌, refl, Bool, true, false, not, cond, ◌&&◌, List, ℕ, ◌+◌, ◌-◌, ◌/◌, ◌%◌, ◌^◌, eqb, leb, get_or}
use Rattle.basis.proofs.Names.{sym, ap, subst, ◌∙◌, or_zero_r, arith, rules, eqb-true, eqb-false, eq-eqb, ne_eqb, zero-add, add-mod-mod, mod-mod}
use Rattle.reorder.specs.Result.{Result, done, refused, map_result}
use Rattle.reorder.specs.Footprint.{footprint_in}
use Rattle.codec.specs.Table.{form_of}
use Rattle.codec.specs.inner.Entries.{operation_in}
use Rattle.codec.specs.inner.Fields.{Registers}
use Rattle.codec.specs.declared.Instruction.{Instruction}
use Rattle.codec.specs.declared.Kind.TheVariants.{Loop}
use Rattle.manual.specs.Refusals.{jumps_outside}
use Rattle.manual.specs.State.{State}
use Rattle.manual.specs.Places.{look}
use Rattle.manual.specs.Effects.{placed, via}
use Rattle.manual.specs.Addresses.{signed_byte}
use Rattle.manual.specs.Jumps.{ahead, jumped, onward_by}
use Rattle.manual.specs.Instructions.{effect_by}
use Rattle.machine.specs.declared.Places.{Places}
use Rattle.machine.specs.declared.Footprint.{Footprint}
use Rattle.works.specs.declared.Work.{Work}
use Rattle.works.specs.Works.{to_pass, to_set, to_count, work_of}
use Rattle.machine.specs.inner.Works.{effect_in, performed}
use Rattle.machine.specs.inner.Reaches.{nowhere, integer_alone, unmarked_footprint}
use Rattle.machine.specs.Footprints.{masked}
use Rattle.machine.specs.inner.Loops.{Looping, landing, Loops, counting_footprint, loop_footprint}
use Rattle.machine.proofs.laws.gathering.Soundness.{sound_passes, sound_set, sound_count, sound_refusal}

-- a jump, with the position behind it
module _ (zero : Bool) (length behind displacement : ℕ) where
  -- where it leads
  abbrev leads : Result ℕ
  leads = cond (not zero) (jumped length behind displacement) (done behind)

-- one of loops, with the position behind it
module _ (zero : Bool) (entry : ℕ) (i : Instruction) (length next : ℕ) (l : Looping entry i) where
  abbrev form : ℕ
  form = entry / 2 ^ 24

  -- what is no jump goes on behind itself
  onward_behind : (form ≡ 13 → ⊥) → onward_by length i zero next ≡ done next
  unfolding onward_by
  onward_behind h = simp (l.jumps, ne_eqb form 13 h)

  onward_leads : form ≡ 13 → onward_by length i zero next ≡ leads zero length next i.immediate
  unfolding onward_by
  onward_leads h = simp (l.jumps, eq-eqb form 13 h)

  -- by the number of the form
  module _ (integers : List ℕ) (work : Work) where
    abbrev Ends : Type 0
    Ends = Loops work integers (effect_in entry i) (onward_by length i zero next)

    pub loops_down : form ≡ 12 → work ≡ work_of to_count 0 (i.first % 8) ((get_or integers (i.first % 8) 0 + 0xffffffff) % 2 ^ 32) next → Ends
    unfolding performed
    loops_down e w =
        simp (onward_behind (λ z. omega arith), w)
        (record {
          does = λ registers memory. record { sound = sound_count (i.first % 8) _ next (omega arith); does = λ floor marks at. simp (e, mod-mod) };
        })

    pub loops-set : (v : ℕ) → v ≡ i.immediate → form ≡ 10 → work ≡ work_of to_set 0 (i.first % 8) v next → Ends
    unfolding performed
    loops-set v h e w =
        simp (onward_behind (λ z. omega arith), w, h)
        (record {
          does = λ registers memory. record { sound = sound_set (i.first % 8) _ next (omega arith); does = λ floor marks at. simp (e, zero-add) };
        })

    pub loops-add : Registers i.operand → (addend : ℕ) → addend ≡ signed_byte i.immediate % 2 ^ 32 → form ≡ 11
        → work ≡ work_of to_count 0 i.operand.rm ((get_or integers i.operand.rm 0 + addend) % 2 ^ 32) next → Ends
    unfolding performed
    loops-add r addend a e w =
        simp (onward_behind (λ z. omega arith), w, a)
        (record {
          does = λ registers memory.
              record { sound = sound_count i.operand.rm _ next r.rm; does = λ floor marks at. simp (e, mod-mod, add-mod-mod (get_or integers i.operand.rm 0) (signed_byte i.immediate) (2 ^ 32)) };
        })

    going : (position : ℕ) → form ≡ 13 → onward_by length i zero next ≡ done position → work ≡ work_of to_pass 0 0 0 position → Ends
    unfolding performed
    going position e f g =
        simp (f, g) (record { does = λ registers memory. record { sound = sound_passes position; does = λ floor marks at. simp e } })

    pub loops_jump : (form ≡ 12 → ⊥) → (form ≡ 11 → ⊥) → (form ≡ 10 → ⊥) → work ≡ landing (leads zero length next i.immediate) → Ends
    unfolding performed jumped
    loops_jump d a m w = by zero (leb 256 (ahead next i.immediate) && leb (ahead next i.immediate) (length + 256)) (onward_leads last) w
      where
        last : form ≡ 13
        last = omega (arith, l.least, l.most, d, a, m)

        by : (z t : Bool) → let o = cond (not z) (cond t (done (ahead next i.immediate - 256)) (refused jumps_outside)) (done next) in
            onward_by length i zero next ≡ o → work ≡ landing o → Ends
        by true t f g = going next last f g
        by false true f g = going (ahead next i.immediate - 256) last f g
        by false false f g =
            simp (f, g)
            (record { does = λ registers memory. record { sound = sound_refusal jumps_outside; does = λ floor marks at. simp last } })

-- footprints

-- the zero mark beside an integer register
pub made_counting : (register : ℕ) (p q : Places) → p ≡ integer_alone register
    → q ≡ record { mmx = p.mmx; integers = p.integers; start = p.start; length = p.length; zero = true }
    → record { reads = p; writes = q; kind = Loop } ≡ counting_footprint register
made_counting register p q e f = simp (f, e)

module _ (zero : Bool) (entry : ℕ) (i : Instruction) (length next : ℕ) (l : Looping entry i) where
  -- the answer, by where the run goes on
  abbrev answered : Result Footprint
  answered = map_result (λ position. loop_footprint (entry / 2 ^ 24) i) (onward_by length i zero next)

  behind : (f : Footprint) → (entry / 2 ^ 24 ≡ 13 → ⊥) → f ≡ loop_footprint (entry / 2 ^ 24) i → done f ≡ answered
  behind f h e = ap done e ∙ ap (map_result (λ position. loop_footprint (entry / 2 ^ 24) i)) (sym (onward_behind zero entry i length next l h))

  pub traced_set : (q : Places) → entry / 2 ^ 24 ≡ 10 → q ≡ integer_alone (i.first % 8) → done (record { reads = nowhere; writes = q; kind = Loop }) ≡ answered
  traced_set q e h = behind _ (λ z. omega arith) (simp (e, h))

  pub traced_add : (f : Footprint) → entry / 2 ^ 24 ≡ 11 → f ≡ counting_footprint i.operand.rm → done f ≡ answered
  traced_add f e h = behind f (λ z. omega arith) (simp (e, h))

  pub traced_down : (f : Footprint) → entry / 2 ^ 24 ≡ 12 → f ≡ counting_footprint (i.first % 8) → done f ≡ answered
  traced_down f e h = behind f (λ z. omega arith) (simp (e, h))

  module _ (no_set : entry / 2 ^ 24 ≡ 10 → ⊥) (no_add : entry / 2 ^ 24 ≡ 11 → ⊥) (no_down : entry / 2 ^ 24 ≡ 12 → ⊥) where
    last : entry / 2 ^ 24 ≡ 13
    last = omega (arith, l.least, l.most, no_set, no_add, no_down)

    landed : (t : Result ℕ) → t ≡ leads zero length next i.immediate → map_result (λ position. loop_footprint (entry / 2 ^ 24) i) t ≡ answered
    landed t target = ap (map_result (λ position. loop_footprint (entry / 2 ^ 24) i)) (target ∙ sym (onward_leads zero entry i length next l last))

    pub traced_jump : (position : ℕ) → done position ≡ leads zero length next i.immediate
        → done (record { reads = record { mmx = 0; integers = 0; start = 0; length = 0; zero = true }; writes = nowhere; kind = Loop }) ≡ answered
    traced_jump position e = simp last (simp last at (landed (done position) e))

    pub traced_outside : (n : ℕ) → refused n ≡ leads zero length next i.immediate → refused n ≡ answered
    traced_outside n e = landed (refused n) e

pub ruleset tracing = (rules, made_counting)

-- the footprint of its effect, in any state
pub loop_footprint_lem : (entry : ℕ) (i : Instruction) → Looping entry i → (s : State) → unmarked_footprint (effect_in entry i) s ≡ done (loop_footprint (entry / 2 ^ 24) i)
unfolding unmarked_footprint
loop_footprint_lem entry i l s = by (eqb form 10) (eqb form 11) (eqb form 12) refl refl refl
  where
    form : ℕ
    form = entry / 2 ^ 24

    Shows : ℕ → Type 0
    Shows n = map_result masked (footprint_in look (via (effect_by (form_of n) (operation_in entry i.operand.reg) i)) s (placed (effect_by (form_of n) (operation_in entry i.operand.reg) i) s)) ≡ done (loop_footprint n i)

    by : (a b c : Bool) → eqb form 10 ≡ a → eqb form 11 ≡ b → eqb form 12 ≡ c → Shows form
    by true b c ea eb ec = subst Shows (sym (eqb-true form 10 ea)) (simp or_zero_r)
    by false true c ea eb ec = subst Shows (sym (eqb-true form 11 eb)) (simp or_zero_r)
    by false false true ea eb ec = subst Shows (sym (eqb-true form 12 ec)) (simp or_zero_r)
    by false false false ea eb ec =
        let last : form ≡ 13 = omega (arith, l.least, l.most, eqb-false form 10 ea, eqb-false form 11 eb, eqb-false form 12 ec) in
        subst Shows (sym last) refl
