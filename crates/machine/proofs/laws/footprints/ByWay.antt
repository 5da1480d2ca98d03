-- What each way reads and writes, for any operand: the masks of places one after the other are the masks of both. Rules for what the code makes of a
-- way.
use Rattle.std.specs.Prelude.{◌≡◌, refl, Bool, true, false, cond, List, [], ◌∷◌, ◌++◌, map, ℕ, ◌^◌}
use Rattle.basis.proofs.Names.{ap, ◌∙◌, append-nil, or_zero_l}
use Rattle.reorder.specs.Result.{Result, done, refused, and_then, map_result}
use Rattle.reorder.specs.Footprint.{footprint_in}
use Rattle.codec.specs.declared.Operand.{Operand}
use Rattle.manual.specs.State.{State}
use Rattle.manual.specs.Places.{Place, mmx, integer, look}
use Rattle.manual.specs.Refusals.{outside_memory}
use Rattle.manual.specs.Locations.{Location, mmx_register, memory, at_edi, bytes_from}
use Rattle.manual.specs.Effects.{Effect, plan_on, via}
use Rattle.manual.proofs.Shapes.{both, move, three}
use Rattle.manual.proofs.Direct.{one}
use Rattle.machine.specs.declared.Places.{Places}
use Rattle.machine.specs.declared.Footprint.{Footprint}
use Rattle.machine.specs.declared.reaches.Reach.{Reach}
use Rattle.machine.specs.declared.ways.Way.TheVariants.{Stores, Loads, Computes, Masks}
use Rattle.machine.specs.Footprints.{mask, set_of, masked}
use Rattle.machine.specs.inner.Reaches.{through, reach_of, footprint_of_way}
use Rattle.machine.proofs.laws.meetings.Masks.{or_assoc}

-- address registers beside other places
set-through : (ks : List ℕ) (ps : List Place) → set_of (map integer ks ++ ps) ≡ through (mask ks) (set_of ps)
set-through [] ps = simp or_zero_l
set-through (k ∷ ks) ps = ap (through (2 ^ k)) (set-through ks ps) ∙ simp or_assoc

-- a footprint by where the operand of r/m is
abbrev pub traced_as : (ℕ → Places → Footprint) → Result Reach → Result Footprint
traced_as made reach = map_result (λ r. made r.registers r.places) reach

module _ (s : State) (w : Operand) (x : Location) where
  -- from these places, with this plan
  abbrev shown : Effect → Result (List Place) → Result (List Place) → Result Footprint
  shown e sources targets =
      map_result masked (footprint_in look (via e) s (and_then sources (λ source. map_result (plan_on e source) targets)))

  pub store_footprint : (f : ℕ → ℕ) (o : Result (List Place)) → shown (move f x (mmx_register w.reg)) (done (mmx w.reg ∷ [])) (one o) ≡ traced_as (footprint_of_way Stores w) (reach_of x o)
  store_footprint f (done ps) = simp (append-nil, set-through)
  store_footprint f (refused n) = refl

  pub load_footprint : (f : ℕ → ℕ) (o : Result (List Place)) → shown (move f (mmx_register w.reg) x) (one o) (done (mmx w.reg ∷ [])) ≡ traced_as (footprint_of_way Loads w) (reach_of x o)
  load_footprint f (done ps) = simp (append-nil, set-through)
  load_footprint f (refused n) = refl

  pub compute_footprint : (f : ℕ → ℕ → ℕ) (o : Result (List Place))
      → shown (both f (mmx_register w.reg) x) (map_result (λ qs. mmx w.reg ∷ qs) (one o)) (done (mmx w.reg ∷ [])) ≡ traced_as (footprint_of_way Computes w) (reach_of x o)
  compute_footprint f (done ps) = simp (append-nil, set-through)
  compute_footprint f (refused n) = refl

-- eight bytes at EDI, and two registers
pub mask-footprint : (s : State) (w : Operand) (f : ℕ → ℕ → ℕ → ℕ) (t : Bool) (a : ℕ) → let x = memory at_edi 8 in
    let o = cond t (done (bytes_from a 8)) (refused outside_memory) in
    shown s w x (three f x (mmx_register w.reg) (mmx_register w.rm)) (and_then o (λ ps. map_result (λ qs. ps ++ qs) (done (mmx w.reg ∷ mmx w.rm ∷ [])))) (one o)
    ≡ traced_as (footprint_of_way Masks w) (reach_of x o)
mask-footprint s w f true a = refl
mask-footprint s w f false a = refl
