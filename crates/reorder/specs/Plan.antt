-- A plan: from which places a step takes its operands, what it makes of them, and where the result goes; and the step that a plan gives.
use Rattle.std.specs.Prelude.{List, [], ◌∷◌, ℕ, get_or, drop}
use Rattle.reorder.specs.Result.{Result, and_then, map_result}

-- over places P and kinds of instruction K
pub record Plan (P K : Type 0) : Type 0 where
  -- the places whose contents the result is made of
  pub source : List P
  -- the places that the result goes to
  pub target : List P
  -- the result, from the sources' contents in their order; or a refusal
  pub make : List ℕ → Result (List ℕ)
  -- what the step does to the marks, and which kinds it meets
  pub kind : K

-- what stands in the places
abbrev pub looks : {S P : Type 0} → (S → P → ℕ) → S → List P → List ℕ
looks look s [] = []
looks look s (p ∷ ps) = look s p ∷ looks look s ps

-- the state with the values put into the places, one by one; a place that no value is left for gets 0
abbrev pub puts : {S P : Type 0} → (S → P → ℕ → S) → S → List P → List ℕ → S
puts put s [] values = s
puts put s (p ∷ ps) values = puts put (put s p (get_or values 0 0)) ps (drop 1 values)

-- the state that a plan leaves: the values in its targets, and the marks of its kind
abbrev pub leaves : {S P K : Type 0} → (S → P → ℕ → S) → (K → S → S) → Plan P K → S → List ℕ → S
leaves put marked plan s values = marked plan.kind (puts put s plan.target values)

-- the step of a plan, refused where there is no plan and where the plan makes no result
abbrev pub perform : {S P K : Type 0} → (S → P → ℕ) → (S → P → ℕ → S) → (K → S → S) → S → Result (Plan P K) → Result S
perform look put marked s planned =
    and_then planned (λ plan. map_result (leaves put marked plan s) (plan.make (looks look s plan.source)))

-- the step of an instruction, by the plan that it has in the state
abbrev pub exec_by : {S P K I : Type 0} → (S → P → ℕ) → (S → P → ℕ → S) → (K → S → S) → (I → S → Result (Plan P K)) → I → S → Result S
exec_by look put marked plan i s = perform look put marked s (plan i s)
