-- What a step reads and writes, and when two steps meet.
use Rattle.std.specs.Prelude.{◌⊎◌, List, ◌++◌, ℕ}
use Rattle.basis.specs.Names.{Memᴰ as In}
use Rattle.reorder.specs.Result.{Result, done, refused, and_then, map_result}
use Rattle.reorder.specs.Plan.{Plan, looks}

pub record Footprint (P K : Type 0) : Type 0 where
  pub reads : List P
  pub writes : List P
  pub kind : K

-- `via` are the places that decide where the operands are (address registers): they are read too
abbrev pub footprint_of : {P K : Type 0} → List P → Plan P K → Footprint P K
footprint_of via plan = record { reads = via ++ plan.source; writes = plan.target; kind = plan.kind }

-- the footprint of a plan's step, or the step's refusal
abbrev pub footprint_in : {S P K : Type 0} → (S → P → ℕ) → List P → S → Result (Plan P K) → Result (Footprint P K)
footprint_in look via s planned =
    and_then planned (λ plan. map_result (λ values. footprint_of via plan) (plan.make (looks look s plan.source)))

-- the footprint of an instruction, by the plan that it has in the state
abbrev pub footprint_by : {S P K I : Type 0} → (S → P → ℕ) → (I → List P) → (I → S → Result (Plan P K)) → I → S → Result (Footprint P K)
footprint_by look via plan i s = footprint_in look (via i) s (plan i s)

-- the places whose contents a step goes by, whether it is refused or not
abbrev pub asked : {P K : Type 0} → List P → Result (Plan P K) → List P
asked via (refused n) = via
asked via (done plan) = via ++ plan.source

-- the first writes a place that the second reads or writes
abbrev pub Disturbs : {P K : Type 0} → Footprint P K → Footprint P K → Type 0
Disturbs {P} f g = (p : P) × In p f.writes × (In p g.reads ⊎ In p g.writes)

-- one writes a place that the other reads or writes
abbrev pub Share : {P K : Type 0} → Footprint P K → Footprint P K → Type 0
Share f g = Disturbs f g ⊎ Disturbs g f

-- two steps meet by their kinds, or in a place. A refused step has no footprint, and meets none.
abbrev pub Meets : {P K : Type 0} → (K → K → Type 0) → Result (Footprint P K) → Result (Footprint P K) → Type 0
Meets KindsMeet (done f) (done g) = KindsMeet f.kind g.kind ⊎ Share f g
Meets KindsMeet (done f) (refused n) = ⊥
Meets KindsMeet (refused n) g = ⊥
